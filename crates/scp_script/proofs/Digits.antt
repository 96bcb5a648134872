-- Words of digits.
use Rattle.std.proofs.Common.{◌≡◌, ◌%◌, nat_eq, ℕ, Bool, true, false, List, [], ◌∷◌, length, Ok, Err, is_some, refl, sym, ◌∙◌}
use Rattle.std.specs.Prelude.{Result, codes}
use Rattle.std.specs.Result.{result_ok}
use Rattle.std.specs.List.{list_all}
use Rattle.std.proofs.lemmas.List.Sums.{AllPass-from_list_all, list_all-from_AllPass}
use Rattle.hex.specs.declared.error.FromHexError.{FromHexError}
use Rattle.hex.specs.Hex.{decode_of, is_hex_digit}
use Rattle.hex.proofs.HexLemmas.{decode_of-ok, decode_of-digits}
use Rattle.scp_script.specs.Words.{same, hex_bytes}

decoded : (s : List ℕ) → length s % 2 ≡ 0 → list_all is_hex_digit s ≡ is_some (result_ok (decode_of s))
decoded s even = by (list_all is_hex_digit s) refl (decode_of s) refl
  where
    by : (b : Bool) → list_all is_hex_digit s ≡ b → (r : Result (List ℕ) FromHexError) → decode_of s ≡ r → b ≡ is_some (result_ok r)
    by true p (Ok bytes) q = refl
    by true p (Err e) q = let d = decode_of-digits s even (AllPass-from_list_all is_hex_digit s p) in absurd (cc (sym d.1 ∙ q))
    by false p (Ok bytes) q = absurd (cc (sym (list_all-from_AllPass is_hex_digit s (decode_of-ok s bytes q).1) ∙ p))
    by false p (Err e) q = refl

-- an even number of bytes, not none and not a dash
pub digits_told : (word : List ℕ) → same word (codes "-") ≡ false → false ≡ nat_eq (length word) 0 → length word % 2 ≡ 0 → list_all is_hex_digit word ≡ is_some (hex_bytes word)
digits_told [] dash some even = cc some
digits_told (d ∷ ds) dash some even = decoded (d ∷ ds) even ∙ rw dash refl
