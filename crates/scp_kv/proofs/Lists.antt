-- The laws of the kinds, at operation lists.
use Rattle.std.proofs.Common.{◌≡◌, ℕ, ◌<◌, ◌≤◌, Bool, true, false, List, length, Option, Some, None, Result, Ok, Err, refl, sym, ap, ◌∙◌, is_some, inl, inr, arith}
use Rattle.std.proofs.lemmas.List.{get_or_past}
use Rattle.std.proofs.lemmas.Bool.{le-leb, lt-leb, cases_lt}
use Rattle.std.specs.Prelude.{IsTrue, All, ◌↔◌, nat_le}
use Rattle.std.specs.Result.{result_ok}
use Rattle.scp_xdr.specs.scp_types.specs.declared.fault.Fault.{Fault}
use Rattle.scp_xdr.specs.Kind.{Values, Spells}
use Rattle.scp_xdr.specs.Reading.{reading_whole}
use Rattle.scp_xdr.proofs.Parts.{IsBytes}
use Rattle.scp_xdr.proofs.Laws.{whole_found, whole_again}
use Rattle.scp_kv.specs.Op.{ops_kind, ops_in, IsOps}

-- ---- ops_in, by the length of the bytes

pub ops_in-short : (bytes : List ℕ) → length bytes ≤ 4096 → ops_in bytes ≡ result_ok (reading_whole ops_kind bytes)
unfolding ops_in
ops_in-short bytes le = let t : nat_le (length bytes) 4096 ≡ true = le-leb (length bytes) 4096 le in rw t refl

pub ops_in-long : (bytes : List ℕ) → 4096 < length bytes → ops_in bytes ≡ None
unfolding ops_in
ops_in-long bytes lt = let t : nat_le (length bytes) 4096 ≡ false = lt-leb (length bytes) 4096 lt in rw t refl

-- ---- ops_in finds exactly the list

ok_of : {X : Type 0} (r : Result X Fault) (x : X) → result_ok r ≡ Some x → r ≡ Ok x
ok_of (Ok y) x e = cc
ok_of (Err f) x e = absurd cc

not_some : {X : Type 0} (o : Option X) (x : X) → o ≡ None → o ≡ Some x → ⊥
not_some o x p q = let e : None ≡ Some x = sym p ∙ q in cc

pub ops_in_found : (bytes : List ℕ) (ops : Values ops_kind) → IsBytes bytes → ops_in bytes ≡ Some ops → IsOps bytes ops
ops_in_found bytes ops fits e =
    elim (cases_lt 4096 (length bytes)) [
      | inl lt ↦ absurd (not_some (ops_in bytes) ops (ops_in-long bytes lt) e)
      | inr le ↦ record { within = le; spells = whole_found ops_kind bytes ops fits (ok_of (reading_whole ops_kind bytes) ops (sym (ops_in-short bytes le) ∙ e)) }
    ]

pub ops_in_only : (bytes : List ℕ) (ops : Values ops_kind) → IsOps bytes ops → ops_in bytes ≡ Some ops
ops_in_only bytes ops is = ops_in-short bytes is.within ∙ ap result_ok (whole_again ops_kind bytes ops is.spells)

pub bytes_from_all : (bytes : List ℕ) → All (λ b. b < 256) bytes → IsBytes bytes
bytes_from_all bytes all i =
    elim (cases_lt i (length bytes)) [
      | inl lt ↦ all i 0 lt
      | inr le ↦ rw (get_or_past bytes i 0 le) (omega arith)
    ]

-- ---- the calls

some_list : (bytes : List ℕ) (o : Option (Values ops_kind)) → IsBytes bytes → ops_in bytes ≡ o → IsTrue (is_some o) ↔ ((ops : Values ops_kind) × IsOps bytes ops)
some_list bytes (Some ops) fits e = (λ t. (ops, ops_in_found bytes ops fits e), λ o. refl)
some_list bytes None fits e = (λ t. absurd cc, λ o. absurd (not_some (ops_in bytes) o.0 e (ops_in_only bytes o.0 o.1)))

pub lists_decided : (bytes : List ℕ) (b : Bool) → IsBytes bytes → b ≡ is_some (ops_in bytes) → IsTrue b ↔ ((ops : Values ops_kind) × IsOps bytes ops)
lists_decided bytes b fits e = rw e (some_list bytes (ops_in bytes) fits refl)

-- the test for an encoding, within the limit on the length
pub spells_same : (bytes : List ℕ) (b : Bool) → IsBytes bytes → length bytes ≤ 4096 → IsTrue b ↔ ((ops : Values ops_kind) × Spells ops_kind bytes ops) → b ≡ is_some (ops_in bytes)
spells_same bytes b fits le decided = at b (ops_in bytes) refl decided
  where
    at : (b : Bool) (o : Option (Values ops_kind)) → ops_in bytes ≡ o → IsTrue b ↔ ((ops : Values ops_kind) × Spells ops_kind bytes ops) → b ≡ is_some o
    at true (Some ops) e d = refl
    at true None e d = let s = d.0 refl in absurd (not_some (ops_in bytes) s.0 e (ops_in_only bytes s.0 (record { within = le; spells = s.1 })))
    at false (Some ops) e d = d.1 (ops, (ops_in_found bytes ops fits e).spells)
    at false None e d = refl

pub none_of : (bytes : List ℕ) → ops_in bytes ≡ None → ¬ ((ops : Values ops_kind) × IsOps bytes ops)
none_of bytes e o = not_some (ops_in bytes) o.0 e (ops_in_only bytes o.0 o.1)
