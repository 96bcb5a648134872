use Rattle.std.proofs.Common.{◌≡◌, List, sym, subst, false}
use Rattle.std.specs.List.{AllByRecursion}
use Rattle.scp_wire.specs.scp_types.specs.declared.names.ConnId.{ConnId}
use Rattle.scp_fetch.specs.Wants.{has_conn}
use Rattle.scp_pending.specs.Queues.{QueueView, is_hash}
use Rattle.scp_pending.specs.Rules.{PendingView}
use Rattle.scp_pending.specs.inside.Outcome.{outcome_of}
use Rattle.scp_pending.specs.inside.Kept.{IsKept, IsQuiet}
use Rattle.scp_pending.proofs.Hearing.{answered_by}
use Rattle.scp_pending.proofs.Keeping.{quiet_but}
use Rattle.scp_pending.proofs.pending.Parking.resolve.Goals as goal

pub resolve_all-requires-clause-quiet : goal.resolve_all-requires-clause-quiet
resolve_all-requires-clause-quiet c =
    let kept : IsKept c.self.inside.queues.items c.self.inside.fetcher = subst (λ (w : PendingView). IsKept w.settled.queues w.settled.wanted) (sym c.self.view_is) c.requires.kept in
    subst (λ (conns : List ConnId). AllByRecursion (λ (q : QueueView). has_conn q.conn conns ≡ false → IsQuiet (is_hash c.args.hash.now) q) c.self.inside.queues.items) (sym c.waiting.ensures) (quiet_but c.args.hash.now c.self.inside.queues.items c.self.inside.fetcher kept)

pub returns : goal.returns
returns c =
    let v : PendingView = record { failed = false; settled = record { me = c.self.inside.me; peers = c.self.inside.peers.items; store = c.self.inside.store; wanted = c.self.inside.fetcher; queues = c.self.inside.queues.items }; leaving = c.self.inside.leaving.items } in
    rw (← c.self.view_is) (answered_by v c.args.hash.now (outcome_of c.args.outcome) c.answer.new.self c.resolve_all.new.queues.items c.resolve_all.new.leaving.items c.answer.ensures.ended c.in_ok-resolve_all.ensures.stays c.in_ok-resolve_all.ensures.leaves)
