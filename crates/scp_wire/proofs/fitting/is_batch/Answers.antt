use Rattle.std.proofs.Common.{ℕ, List, subst}
use Rattle.std.proofs.lemmas.List.{map-id}
use Rattle.scp_quorum.specs.scp_xdr.specs.Kind.{Fits, numbered}
use Rattle.scp_quorum.specs.scp_xdr.specs.Shared.{value_kind}
use Rattle.scp_wire.proofs.Room.{within_room}
use Rattle.scp_wire.proofs.fitting.is_batch.Goals as goal

pub returns-then-numbered_fits : goal.returns-then-numbered_fits
returns-then-numbered_fits c =
    let fits : Fits (numbered 32 value_kind) (c.args.first, c.args.values.now) = subst (λ (vs : List (List ℕ)). Fits (numbered 32 value_kind) (c.args.first, vs)) (map-id c.args.values.now) (c.numbered_fits.ensures.0 c.if-numbered_fits.true) in
    rw c.is_some.ensures (within_room (numbered 32 value_kind) (c.args.first, c.args.values.now) 65532 c.spend_batch.result fits c.spend_batch.ensures)
