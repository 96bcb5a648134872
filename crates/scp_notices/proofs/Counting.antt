-- One number more.
use Rattle.std.proofs.Common.{◌≡◌, ◌+◌, ◌∙◌, ℕ, suc, List, [], ◌∷◌, ◌++◌, flat_map, ap, sym, append-nil, append_assoc, arith}
use Rattle.std.proofs.lemmas.Grind.{flat_map-append}
use Rattle.scp_line.specs.scp_script.specs.Nodes.{numbers}

one_more : {X : Type 0} (f : ℕ → List X) (n : ℕ) → flat_map f (numbers (n + 1)) ≡ flat_map f (numbers n) ++ f (n + 1)
one_more f n =
    let e : n + 1 ≡ suc n = omega arith in
    rw e (flat_map-append f (numbers n) (suc n ∷ []) ∙ ap (λ l. flat_map f (numbers n) ++ l) (append-nil (f (suc n))))

-- what is added of one number more
pub added_more : {X : Type 0} (f : ℕ → List X) (n : ℕ) (first old new : List X) → old ≡ first ++ flat_map f (numbers n) → new ≡ old ++ f (n + 1) → new ≡ first ++ flat_map f (numbers (n + 1))
added_more {X} f n first old new so added =
    added
    ∙ ap (λ (l : List X). l ++ f (n + 1)) so
    ∙ append_assoc first (flat_map f (numbers n)) (f (n + 1))
    ∙ ap (λ (l : List X). first ++ l) (sym (one_more f n))
