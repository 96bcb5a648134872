-- Items that do their part one after the other.
use Rattle.std.specs.Prelude.{◌≡◌, List, [], ◌∷◌}

-- each item of the list, in its order, does its part
abbrev pub InTurn : {A S : Type 0} → (A → S → S → Type 0) → List A → S → S → Type 0
InTurn {A} {S} does [] s t = t ≡ s
InTurn {A} {S} does (x ∷ xs) s t = (mid : S) × does x s mid × InTurn does xs mid t
