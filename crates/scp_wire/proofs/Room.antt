-- What is left of the room after an encoding shows whether it is within a limit.
use Rattle.std.proofs.Common.{ℕ, ◌≤◌, length, Option, Some, None, refl, arith}
use Rattle.std.specs.Prelude.{◌↔◌, IsTrue}
use Rattle.std.specs.Option.{is_some}
use Rattle.scp_quorum.specs.scp_xdr.specs.Kind.{Kind, Values, Fits, spelling}
use Rattle.scp_quorum.specs.scp_xdr.specs.Length.{spelled_len}
use Rattle.scp_quorum.specs.scp_xdr.specs.Words.{Leaves}
use Rattle.scp_quorum.specs.scp_xdr.proofs.Lengths.{length_is}

pub within_room : (k : Kind) (v : Values k) (limit : ℕ) (left : Option ℕ) → Fits k v → Leaves limit left (spelled_len k v) → IsTrue (is_some left) ↔ (Fits k v × (length (spelling k v) ≤ limit))
within_room k v limit (Some n) fits is = (λ _. (fits, omega (arith, length_is k v, is)), λ _. refl)
within_room k v limit None fits longer = (λ f. absurd (cc), λ h. absurd (omega (arith, length_is k v, longer, h.1)))
