-- One number more.
use Rattle.std.proofs.Common.{◌≡◌, ◌+◌, ℕ, suc, List, [], ◌∷◌, ◌++◌, flat_map, ap, ◌∙◌, append-nil, arith}
use Rattle.std.proofs.lemmas.Grind.{flat_map-append}
use Rattle.scp_script.specs.Nodes.{numbers}

pub one_more : {X : Type 0} (f : ℕ → List X) (n : ℕ) → flat_map f (numbers (n + 1)) ≡ flat_map f (numbers n) ++ f (n + 1)
one_more f n =
    let e : n + 1 ≡ suc n = omega arith in
    rw e (flat_map-append f (numbers n) (suc n ∷ []) ∙ ap (λ l. flat_map f (numbers n) ++ l) (append-nil (f (suc n))))
