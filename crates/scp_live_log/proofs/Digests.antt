-- The digits of a digest tell it.
use Rattle.std.proofs.Common.{◌≡◌, ℕ, List, Result, Ok, Err, MatchResult, sym, ◌∙◌, ap, subst, arith}
use Rattle.hex.specs.Hex.{encode_lower, decode_sized}
use Rattle.hex.specs.declared.error.FromHexError.{FromHexError}
use Rattle.hex.proofs.HexLemmas.{decode_sized-encode_lower, decode_sized-ok, decode_sized-twice, decode_of-ok}
use Rattle.scp_live_log.specs.Log.{IsDigest}

abbrev Tells : Result (List ℕ) FromHexError → Result (Unit {0}) FromHexError → List ℕ → Type 0
Tells x r out = MatchResult x (λ bytes. (r ≡ Ok tt) × (out ≡ bytes)) (λ e. r ≡ Err e)

by_result : (x : Result (List ℕ) FromHexError) (r : Result (Unit {0}) FromHexError) (out : List ℕ) → r ≡ Ok tt → Tells x r out → x ≡ Ok out
by_result (Ok b) r out is m = ap (λ (l : List ℕ). Ok l) (sym m.1)
by_result (Err e) r out is m = absurd (let k : Ok tt ≡ Err e = sym is ∙ m in cc)

-- what was read of digits is a digest
pub read_digest : (digits out : List ℕ) (r : Result (Unit {0}) FromHexError) → r ≡ Ok tt → Tells (decode_sized digits 32) r out → IsDigest out
read_digest digits out r is m =
    let sized : decode_sized digits 32 ≡ Ok out = by_result (decode_sized digits 32) r out is m in
    let long = decode_sized-ok digits 32 out sized in
    let parts = decode_of-ok digits out (sym (decode_sized-twice digits 32 long) ∙ sized) in
    record { size = omega (arith, long, parts.2); bytes = parts.3 }

pub told_by_digits : (digits hash out : List ℕ) (r : Result (Unit {0}) FromHexError) → IsDigest hash → digits ≡ encode_lower hash → Tells (decode_sized digits 32) r out → (r ≡ Ok tt) × (out ≡ hash)
told_by_digits digits hash out r d is m =
    let e : decode_sized digits 32 ≡ Ok hash = ap (λ (l : List ℕ). decode_sized l 32) is ∙ decode_sized-encode_lower hash 32 d.size d.bytes in
    subst (λ (x : Result (List ℕ) FromHexError). Tells x r out) e m

pub never_refused : (digits hash out : List ℕ) (r : Result (Unit {0}) FromHexError) (e : FromHexError) → IsDigest hash → digits ≡ encode_lower hash → Tells (decode_sized digits 32) r out → r ≡ Err e → ⊥
never_refused digits hash out r e d is m refused =
    let k : Ok tt ≡ Err e = sym (told_by_digits digits hash out r d is m).0 ∙ refused in cc
