use Rattle.std.proofs.Common.{rules, false}
use Rattle.scp_wire.specs.scp_quorum.specs.QuorumKind.{set_kind, set_value}
use Rattle.scp_wire.specs.scp_xdr.specs.Kind.{Fits}
use Rattle.scp_pending.specs.Rules.{PendingView}
use Rattle.scp_pending.proofs.Hearing.{answer_insane, not_sane, fits_unless}
use Rattle.scp_pending.proofs.pending.Parking.hear_insane.Goals as goal

pub returns-in_ok-resolve : goal.returns-in_ok-resolve
returns-in_ok-resolve c =
    let fits : Fits set_kind (set_value c.args.set.now) = fits_unless c.args.set.now (λ none. search rules) in
    let v : PendingView = record { failed = false; settled = record { me = c.self.inside.me; peers = c.self.inside.peers.items; store = c.self.inside.store; wanted = c.self.inside.fetcher; queues = c.self.inside.queues.items }; leaving = c.self.inside.leaving.items } in
    rw (c.in_ok-resolve.ensures, ← c.self.view_is) (answer_insane v c.args.set.now c.in-Ok.hash (search rules) (not_sane c.args.set.now c.requires.insane) fits (search rules))
