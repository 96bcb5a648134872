-- The line that reports a torn end.
use Rattle.std.proofs.Common.{◌≡◌, ℕ, zero, suc, List, [], ◌++◌, refl, sym, ◌∙◌, ap, append_assoc, append-nil, codes}
use Rattle.std.specs.Prelude.{◌≢◌, Result, Ok, Err, OnOk}
use Rattle.std.specs.Fmt.{decimal}
use Rattle.scp_live_process.specs.Starting.{torn_line}

pub none_torn : (text : List ℕ) (bytes events : ℕ) → bytes ≡ 0 → text ≡ text ++ torn_line bytes events
none_torn text zero events is = sym (append-nil text)
none_torn text (suc n) events is = absurd (let no : suc n ≡ 0 = is in cc)

some_torn : (bytes events : ℕ) → bytes ≢ 0 → torn_line bytes events ≡ codes "torn " ++ decimal bytes ++ codes " " ++ decimal events ++ codes "\n"
some_torn zero events is = absurd (is refl)
some_torn (suc n) events is = refl

five_parts : (a b c d e : List ℕ) → a ++ (b ++ (c ++ (d ++ e))) ≡ a ++ b ++ c ++ d ++ e
five_parts a b c d e = sym (append_assoc (a ++ b ++ c) d e ∙ append_assoc (a ++ b) c (d ++ e) ∙ append_assoc a b (c ++ (d ++ e)))

pub torn_told : {E : Type 0} (r : Result (Unit {0}) E) (text more : List ℕ) (bytes events : ℕ) → bytes ≢ 0 → OnOk r (more ≡ text ++ (codes "torn " ++ (decimal bytes ++ (codes " " ++ (decimal events ++ codes "\n"))))) → OnOk r (more ≡ text ++ torn_line bytes events)
torn_told (Ok x) text more bytes events some told = told ∙ ap (λ (l : List ℕ). text ++ l) (five_parts (codes "torn ") (decimal bytes) (codes " ") (decimal events) (codes "\n") ∙ sym (some_torn bytes events some))
torn_told (Err e) text more bytes events some told = tt
