use Rattle.std.proofs.Common.{◌≡◌, ℕ, List, [], sym, ap, ◌∙◌, subst}
use Rattle.scp_workers.specs.scp_wire.specs.declared.link.Inbound.{Inbound}
use Rattle.scp_workers.specs.scp_pending.specs.Messages.{AreParked}
use Rattle.scp_workers.specs.scp_pending.specs.Pends.{Pends}
use Rattle.scp_workers.specs.scp_pending.specs.Rules.{PendingView}
use Rattle.scp_workers.specs.scp_apply.specs.Applied.{made_of}
use Rattle.scp_workers.specs.scp_apply.specs.Applier.{ApplierView}
use Rattle.scp_workers.specs.scp_ends.specs.Order.{values}
use Rattle.scp_workers.specs.scp_ledger.specs.declared.journal.Decision.{Decision}
use Rattle.scp_workers.specs.scp_ledger.specs.declared.took.CommandFate.{CommandFate}
use Rattle.scp_workers.specs.scp_ledger.specs.Seen.{LedgerView}
use Rattle.scp_gather.specs.Report.{AreFatesOf}
use Rattle.scp_gather.proofs.Putting.{put_out, fates_of_node}
use Rattle.scp_gather.proofs.Joining.{node_pends}
use Rattle.scp_gather.proofs.Keeping.{came_are, kept_are}
use Rattle.scp_gather.proofs.gathering.gather.Goals as goal

pub returns-clause-theorem : goal.returns-clause-theorem
returns-clause-theorem g c = λ me set peers n.
    let w = c.in_ok-pending.ensures.ended in
    let parts = c.in_ok-pending.ensures.parts in
    let all = c.what_ends_well_is_gathered.ensures me set peers c.args.ends n w in
    let came : List Inbound = values c.args.ends.pend.input.got in
    let pends : Pends me peers came w.given.sent c.in_ok-pending.field-0.pending = subst (λ (v : PendingView). Pends me peers came w.given.sent v) (sym parts.0) (node_pends g.A.Driver.says me set peers c.args.ends n w) in
    let told = c.in_ok-report.ensures in
    let parked = c.in_ok-report.report.parked.items in
    let here : AreParked c.args.ends.pend.stage parked = subst (λ (v : PendingView). AreParked v parked) parts.0 (told.parked me peers came w.given.sent pends) in
    record {
      gathered = all;
      journal_is = told.journal ∙ ap (λ (v : LedgerView _). v.journal) parts.1;
      parked_is = here;
      left = all.parked parked here;
      ascending = told.ascending me peers came w.given.sent pends all.shape;
      applied_is = told.applied.0 ∙ ap (λ (v : ApplierView). v.applied) parts.2;
    }

pub returns-clause-state : goal.returns-clause-state
returns-clause-state g c =
    let told = c.in_ok-report.ensures in
    let none : c.in_ok-pending.field-0.applier.base ≡ [] = ap (λ (v : ApplierView). v.base) c.in_ok-pending.ensures.parts.2 ∙ c.in_ok-pending.ensures.ended.applies.all.no_base in
    told.applied.1 ∙ ap (λ (ds : List Decision). made_of (g.A.Application.begins c.in_ok-pending.field-0.applier.base) g.A.Application.after ds) (sym told.applied.0)
    ∙ ap (λ (base : List ℕ). made_of (g.A.Application.begins base) g.A.Application.after c.in_ok-report.report.applied.items) none
    ∙ ap (λ (state : _). made_of state g.A.Application.after c.in_ok-report.report.applied.items) g.met.A.Application.begins_first

pub returns-clause-headline : goal.returns-clause-headline
returns-clause-headline g c = λ me set peers n.
    let r = c.in_ok-report.report in
    record {
      headline = c.what_is_reported_keeps_the_headline.ensures.headline me set peers c.args.ends r.journal.items r.parked.items r.applied.items (returns-clause-theorem g c me set peers n);
      state_is = returns-clause-state g c;
    }

pub returns-clause-commands : goal.returns-clause-commands
returns-clause-commands g c = λ me set peers n.
    let w = c.in_ok-pending.ensures.ended in
    let all = c.what_ends_well_is_gathered.ensures me set peers c.args.ends n w in
    let fates = fates_of_node g.A.Driver.says c.each_command_passes_once.ensures.commands me set peers c.args.ends n w all in
    subst (λ (xs : List CommandFate). AreFatesOf g.A.Driver.says me set peers c.args.ends xs) (sym (c.in_ok-report.ensures.commands ∙ c.in_ok-pending.ensures.parts.3)) fates

pub returns-clause-put : goal.returns-clause-put
returns-clause-put g c = λ me set peers n.
    let w = c.in_ok-pending.ensures.ended in
    put_out g.A.Driver.says c.each_command_passes_once.ensures.commands me set peers c.args.ends n w (c.what_ends_well_is_gathered.ensures me set peers c.args.ends n w)

pub returns-clause-came : goal.returns-clause-came
returns-clause-came g c = λ me set peers n. came_are g.A.Driver.says me set peers c.args.ends n c.in_ok-pending.ensures.ended c.in_ok-report.report.came.items (λ same. c.in_ok-report.ensures.came ∙ c.in_ok-pending.ensures.kept same)

pub returns-clause-kept : goal.returns-clause-kept
returns-clause-kept g c = λ me set peers n. kept_are g.A.Driver.says me set peers c.args.ends n c.in_ok-pending.ensures.ended c.in_ok-report.report.came.items (λ same. c.in_ok-report.ensures.came ∙ c.in_ok-pending.ensures.kept same)
