-- Some of the lines of a script.
use Rattle.std.specs.Prelude.{ℕ, ◌≡◌, ◌⊎◌, Bool, ◌||◌, List, [], ◌∷◌, ◌++◌, codes, filter, flat_map, nat_eq}
use Rattle.std.specs.List.{starts_with}

-- The first list has some of the lines of the second, in their order, and nothing else.
abbrev pub IsPart : List (List ℕ) → List (List ℕ) → Type 0
IsPart [] [] = Unit {0}
IsPart (line ∷ some) [] = ⊥
IsPart [] (other ∷ all) = IsPart [] all
IsPart (line ∷ some) (other ∷ all) = ((line ≡ other) × IsPart some all) ⊎ IsPart (line ∷ some) all

-- The line says who the nodes are, how they are linked or which of them are reported, or it is a comment. Such lines are never left out.
abbrev pub is_kept : List ℕ → Bool
is_kept line =
    starts_with nat_eq line (codes "#")
    || (starts_with nat_eq line (codes "caps ")
    || (starts_with nat_eq line (codes "nodes ")
    || (starts_with nat_eq line (codes "set ")
    || (starts_with nat_eq line (codes "open ")
    || (starts_with nat_eq line (codes "close ")
    || starts_with nat_eq line (codes "report "))))))

-- The first list has some of the lines of the second, in their order, and nothing else. All lines that are never left out are among them.
pub record IsSmaller (some all : List (List ℕ)) : Type 0 where
  pub part : IsPart some all
  pub kept : filter is_kept some ≡ filter is_kept all

-- Lines as a text, each with its line end.
abbrev pub text_of : List (List ℕ) → List ℕ
text_of lines = flat_map (λ line. line ++ codes "\n") lines

-- The text has some of these lines, in their order, and nothing else, and all that are never left out.
pub record IsPartOf (all : List (List ℕ)) (text : List ℕ) : Type 0 where
  pub lines : List (List ℕ)
  pub smaller : IsSmaller lines all
  pub is : text ≡ text_of lines
