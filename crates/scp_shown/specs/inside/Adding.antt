-- Things are added where they are asked for.
use Rattle.std.specs.Prelude.{◌≡◌, ◌++◌, Bool, cond, List, [], ◌∷◌}

module _ {X : Type 0} where
  -- the thing is added if it is asked for
  abbrev pub AddsIf : Bool → X → List X → List X → Type 0
  AddsIf asked x old new = new ≡ old ++ cond asked (x ∷ []) []

  -- the thing is added to the first list or else to the second
  abbrev pub Places : Bool → X → List X → List X → List X → List X → Type 0
  Places holds x ys zs ys' zs' = (ys' ≡ ys ++ cond holds (x ∷ []) []) × (zs' ≡ zs ++ cond holds [] (x ∷ []))
