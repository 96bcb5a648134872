-- Lines that are given their places, one after another.
use Rattle.std.proofs.Common.{◌≡◌, ℕ, suc, ◌+◌, ◌<◌, ◌≤◌, List, [], ◌∷◌, ◌++◌, append_assoc, append-nil, ap, ◌∙◌, sym, arith, map, drop, drop-cons, get_or, length}
use Rattle.std.proofs.lemmas.List.{drop_all}

-- one line more has its place
pub lines_more : (f : ℕ → ℕ) (out mid all lines : List ℕ) (i d : ℕ) → i < length lines → mid ≡ out ++ f (get_or lines i d) ∷ [] → out ++ map f (drop i lines) ≡ all → mid ++ map f (drop (i + 1) lines) ≡ all
lines_more f out mid all lines i d lt m e =
    let s : i + 1 ≡ suc i = omega arith in
    ap (λ (k : ℕ). mid ++ map f (drop k lines)) s
    ∙ ap (λ (l : List ℕ). l ++ map f (drop (suc i) lines)) m
    ∙ append_assoc out (f (get_or lines i d) ∷ []) (map f (drop (suc i) lines))
    ∙ ap (λ (l : List ℕ). out ++ map f l) (sym (drop-cons lines i d lt))
    ∙ e

-- no line is left
pub lines_end : (f : ℕ → ℕ) (out all lines : List ℕ) (i : ℕ) → length lines ≤ i → out ++ map f (drop i lines) ≡ all → out ≡ all
lines_end f out all lines i long e = sym (ap (λ (l : List ℕ). out ++ map f l) (drop_all i lines long) ∙ append-nil out) ∙ e
