-- The first of what is parked that waits.
use Rattle.std.proofs.Common.{◌≡◌, [], List, ◌∷◌, length, Some, None, refl, arith}
use Rattle.scp_wire.specs.scp_types.specs.declared.names.Hash.{Hash}
use Rattle.scp_pending.specs.declared.parked.Parked.{Parked}
use Rattle.scp_pending.specs.Queues.{first_waiting, waited_by, seq_of}

pub first_passes : (p : Parked) (ps all : List Parked) → all ≡ p ∷ ps → waited_by p ≡ None → first_waiting all ≡ first_waiting ps
first_passes p ps all e none = rw (e, none) refl

pub first_stands : (p : Parked) (ps all : List Parked) (hash : Hash) → all ≡ p ∷ ps → waited_by p ≡ Some hash → first_waiting all ≡ Some (seq_of p, hash)
first_stands p ps all hash e some = rw (e, some) refl

pub first_of_none : (all : List Parked) → length all ≡ 0 → first_waiting all ≡ None
first_of_none [] e = refl
first_of_none (p ∷ ps) e = absurd (omega (arith, e))
