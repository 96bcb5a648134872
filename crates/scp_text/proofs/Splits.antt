-- What is put in a row with a mark between is split there again.
use Rattle.std.proofs.Common.{◌≡◌, ℕ, ◌<◌, ◌≤◌, Bool, true, false, ◌&&◌, List, [], ◌∷◌, ◌++◌, refl, sym, ◌∙◌, ap, arith, append-nil}
use Rattle.std.specs.Prelude.{◌==◌, nat_lt}
use Rattle.std.specs.List.{slice_split, list_all, AllByRecursion, All}
use Rattle.std.proofs.lemmas.List.Splits.{slice_split_none, slice_split_at}
use Rattle.std.proofs.lemmas.List.Elements.{All-from_recursion}
use Rattle.std.proofs.lemmas.Bool.Decides.{nat_tests}
use Rattle.scp_text.specs.Pieces.{listed}
use Rattle.scp_text.proofs.Items.{is_visible, and_both}

-- the mark isn't in the text
abbrev pub IsClear : ℕ → List ℕ → Type 0
IsClear mark text = AllByRecursion (λ b. (b == mark) ≡ false) text

pub clear_visible : (mark : ℕ) (text : List ℕ) → mark < 33 → list_all is_visible text ≡ true → IsClear mark text
clear_visible mark [] low h = tt
clear_visible mark (x ∷ xs) low h =
    let both = and_both (is_visible x) (list_all is_visible xs) h in
    let above = and_both (nat_lt 32 x) (nat_lt x 127) both.0 in
    let one : nat_lt 32 x ≡ true = above.0 in
    let lt : 32 < x = grind (arith, nat_tests) in
    let no : (x == mark) ≡ false = grind (arith, nat_tests) in
    (no, clear_visible mark xs low both.1)

here : (mark : ℕ) → (mark == mark) ≡ true
here mark = grind (arith, nat_tests)

pub split_again : (mark : ℕ) (w : List ℕ) (ws : List (List ℕ)) → AllByRecursion (IsClear mark) (w ∷ ws) → slice_split (λ b. b == mark) (listed mark true (w ∷ ws)) ≡ w ∷ ws
split_again mark w [] h =
    let p : ℕ → Bool = λ b. b == mark in
    ap (slice_split p) (append-nil w) ∙ slice_split_none p w (All-from_recursion (λ b. p b ≡ false) w h.0)
split_again mark w (v ∷ vs) h =
    let p : ℕ → Bool = λ b. b == mark in
    slice_split_at p w mark (listed mark true (v ∷ vs)) (All-from_recursion (λ b. p b ≡ false) w h.0) (here mark) ∙ ap (λ l. w ∷ l) (split_again mark v vs h.1)
