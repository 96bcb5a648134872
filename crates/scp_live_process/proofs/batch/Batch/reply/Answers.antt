use Rattle.std.proofs.Common.{ap, sym, refl}
use Rattle.scp_live_process.specs.Adding.{BatchView}
use Rattle.scp_live_process.proofs.Acts.{says_again, tells, reply_as, reply_if, stands}
use Rattle.scp_live_process.proofs.batch.Batch.reply.Goals as goal

pub returns-in-Again-clause-told : goal.returns-in-Again-clause-told
returns-in-Again-clause-told c =
    reply_if c.again.result c.args.asked.now _ c.args.live.now c.args.self.now _ c.in-Again.is
    (says_again c.again.result _ _ _ _ c.args.self.now _ (c.again.ensures.said c.requires.live.runs) (sym (ap (λ (b : BatchView). b.text) c.self.view_is)) refl (ap (λ (b : BatchView). b.entries) c.self.view_is))

pub returns-in_ok-state-in-State-clause-told : goal.returns-in_ok-state-in-State-clause-told
returns-in_ok-state-in-State-clause-told c =
    reply_as c.args.asked.now _ c.args.live.now c.args.self.now _ c.in-State.is
    (tells _ _ _ c.args.self.now _ (c.in_ok-state-in-State.ensures c.requires.live.runs) (sym (ap (λ (b : BatchView). b.text) c.self.view_is)) refl (ap (λ (b : BatchView). b.entries) c.self.view_is))

pub returns-in_ok-report-in-Report-clause-told : goal.returns-in_ok-report-in-Report-clause-told
returns-in_ok-report-in-Report-clause-told c =
    reply_as c.args.asked.now _ c.args.live.now c.args.self.now _ c.in-Report.is
    (tells _ _ _ c.args.self.now _ c.in_ok-report-in-Report.ensures (sym (ap (λ (b : BatchView). b.text) c.self.view_is)) refl (ap (λ (b : BatchView). b.entries) c.self.view_is))

pub returns-in_ok-applied-in-Applied-clause-told : goal.returns-in_ok-applied-in-Applied-clause-told
returns-in_ok-applied-in-Applied-clause-told c =
    reply_as c.args.asked.now _ c.args.live.now c.args.self.now _ c.in-Applied.is
    (tells _ _ _ c.args.self.now _ c.in_ok-applied-in-Applied.ensures (sym (ap (λ (b : BatchView). b.text) c.self.view_is)) refl (ap (λ (b : BatchView). b.entries) c.self.view_is))

pub returns-in-Stand-clause-told : goal.returns-in-Stand-clause-told
returns-in-Stand-clause-told c =
    reply_if c.tell_stand.result c.args.asked.now _ c.args.live.now c.args.self.now _ c.in-Stand.is
    (stands c.tell_stand.result c.args.live.now _ _ c.args.self.now _ c.tell_stand.ensures.told (sym (ap (λ (b : BatchView). b.text) c.self.view_is)) refl (ap (λ (b : BatchView). b.entries) c.self.view_is))
