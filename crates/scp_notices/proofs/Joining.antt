-- A text to which two pieces were added.
use Rattle.std.proofs.Common.{◌≡◌, ◌++◌, ◌∙◌, ℕ, List, ap, append_assoc}
use Rattle.std.specs.Prelude.{Result, Ok, Err, OnOk}
use Rattle.std.specs.declared.alloc.AllocError.{AllocError}

pub joined : (r : Result (Unit {0}) AllocError) (old mid new first rest : List ℕ) → mid ≡ old ++ first → OnOk r (new ≡ mid ++ rest) → OnOk r (new ≡ old ++ (first ++ rest))
joined (Ok done) old mid new first rest e h = h ∙ ap (λ (l : List ℕ). l ++ rest) e ∙ append_assoc old first rest
joined (Err error) old mid new first rest e h = tt
