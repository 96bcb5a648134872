-- What a limit on an encoding's length means for the call that writes it.
use Rattle.std.proofs.Common.{◌≡◌, ℕ, ◌+◌, ◌<◌, ◌≤◌, ◌⊎◌, List, length, Result, Ok, Err, refl, inl, inr, ap, arith}
use Rattle.std.specs.Prelude.{IfOk, IsErrOf, IsOkUnless, ◌↔◌}
use Rattle.scp_types.specs.declared.fault.Fault.{Fault}
use Rattle.scp_types.specs.declared.fault.Fault.TheVariants.{NoMemory, TooLong}
use Rattle.scp_xdr.specs.Kind.{Kind, Values, Fits, Spells, spelling}
use Rattle.scp_xdr.specs.Length.{spelled_len}
use Rattle.scp_xdr.proofs.Lengths.{length_is}

abbrev refused : {X : Type 0} → Result X Fault
refused = Err TooLong

pub refused_where_long : {X : Type 0} (k : Kind) (v : Values k) (limit : ℕ) → limit < spelled_len k v → IsErrOf (refused {X = X}) TooLong ↔ ((¬ (Fits k v)) ⊎ (limit < length (spelling k v)))
refused_where_long k v limit lt = (λ _. inr (omega (arith, length_is k v, lt)), λ _. refl)

pub is_within : {X : Type 0} (k : Kind) (v : Values k) (items : X → List ℕ) (limit left : ℕ) (r : Result X Fault) → limit ≡ left + spelled_len k v → IfOk r (λ x. Spells k (items x) v) → IfOk r (λ x. length (items x) ≤ limit)
is_within k v items limit left (Ok x) e s = omega (arith, ap length s.spelt, length_is k v, e)
is_within k v items limit left (Err f) e s = tt

pub written_where_short : {X : Type 0} (k : Kind) (v : Values k) (limit left : ℕ) (r : Result X Fault) → Fits k v → limit ≡ left + spelled_len k v → IsOkUnless r NoMemory → IsErrOf r TooLong ↔ ((¬ (Fits k v)) ⊎ (limit < length (spelling k v)))
written_where_short {X} k v limit left (Ok x) fits e only = (λ t. absurd (given x t), λ p. elim p [ inl n ↦ absurd (n fits) | inr lt ↦ absurd (omega (arith, length_is k v, lt, e)) ])
  where
    given : (y : X) → IsErrOf {T = X} {E = Fault} (Ok y) TooLong → ⊥
    given y t = cc
written_where_short {X} k v limit left (Err f) fits e only = (λ t. absurd (apart f only t), λ p. elim p [ inl n ↦ absurd (n fits) | inr lt ↦ absurd (omega (arith, length_is k v, lt, e)) ])
  where
    apart : (d : Fault) → d ≡ NoMemory → IsErrOf {T = X} {E = Fault} (Err d) TooLong → ⊥
    apart d p q = cc
