use Rattle.std.proofs.Common.{◌≡◌, sym, ◌∙◌, false}
use Rattle.scp_fetch.specs.declared.want.Miss.TheVariants.{One}
use Rattle.scp_fetch.specs.Wants.{gives_up}
use Rattle.scp_pending.specs.Rules.{PendingView}
use Rattle.scp_pending.proofs.Hearing.{missed_once}
use Rattle.scp_pending.proofs.Keeping.{last_alike}
use Rattle.scp_pending.proofs.pending.Parking.hear_no_set.Goals as goal

pub returns : goal.returns
returns c =
    let v : PendingView = record { failed = false; settled = record { me = c.self.inside.me; peers = c.self.inside.peers.items; store = c.self.inside.store; wanted = c.self.inside.fetcher; queues = c.self.inside.queues.items }; leaving = c.self.inside.leaving.items } in
    let more : gives_up (One c.args.hash.now) v.settled.wanted c.args.hash.now ≡ false = sym (last_alike c.args.hash.now v.settled.wanted) ∙ sym c.is_at_last_miss.ensures ∙ c.if-is_at_last_miss.false in
    rw (← c.self.view_is) (missed_once v c.args.hash.now c.miss.new.self more c.miss.ensures.counted)
