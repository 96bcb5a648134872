use Rattle.std.proofs.Common.{rules}
use Rattle.scp_wire.specs.scp_quorum.specs.QuorumKind.{set_kind, set_value}
use Rattle.scp_wire.specs.scp_xdr.specs.Kind.{Fits}
use Rattle.scp_pending.specs.Rules.{Settled}
use Rattle.scp_pending.proofs.Hearing.{fits_unless}
use Rattle.scp_pending.proofs.SetComing.{unspelt_is, stored_is, bad_is}
use Rattle.scp_pending.proofs.pending.Parking.set_becomes.Goals as goal

pub returns-in-Err-TooLong-clause-is : goal.returns-in-Err-TooLong-clause-is
returns-in-Err-TooLong-clause-is c = unspelt_is c.args.self.now.settled c.args.set.now (search rules)

pub returns-then-is_sane-clause-is : goal.returns-then-is_sane-clause-is
returns-then-is_sane-clause-is c =
    let s : Settled = record { me = c.self.inside.me; peers = c.self.inside.peers.items; store = c.self.inside.store; wanted = c.self.inside.fetcher; queues = c.self.inside.queues.items } in
    rw (← c.self.view_is) (stored_is s c.args.set.now c.in-Ok.hash (search rules) (search rules) (search rules))

pub returns-else-is_sane-clause-is : goal.returns-else-is_sane-clause-is
returns-else-is_sane-clause-is c =
    let fits : Fits set_kind (set_value c.args.set.now) = fits_unless c.args.set.now (λ none. search rules) in
    let s : Settled = record { me = c.self.inside.me; peers = c.self.inside.peers.items; store = c.self.inside.store; wanted = c.self.inside.fetcher; queues = c.self.inside.queues.items } in
    rw (← c.self.view_is) (bad_is s c.args.set.now c.in-Ok.hash (search rules) (search rules) fits (search rules))
