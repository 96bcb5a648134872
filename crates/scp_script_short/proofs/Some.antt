-- An expanded script has a line.
use Rattle.std.proofs.Common.{◌≡◌, ℕ, suc, Bool, true, false, List, [], ◌∷◌, ◌++◌, map, Option, Some, None, Ok, refl, sym, subst}
use Rattle.std.specs.Prelude.{◌==◌, cond, if◌then◌else◌, codes}
use Rattle.std.specs.List.{onto_first}
use Rattle.std.specs.Cmp.Lexicographic.{bytes_decides}
use Rattle.scp_script_text.specs.scp_types.specs.declared.limits.TheConstants.{NODE_LIMIT}
use Rattle.scp_script_text.specs.scp_text.specs.Pieces.{same}
use Rattle.scp_script_text.specs.scp_text.specs.Messages.{words_of}
use Rattle.scp_script_text.specs.Scripts.{lines_of}
use Rattle.scp_script_short.specs.declared.placed.PlacedLine.{PlacedLine}
use Rattle.scp_script_short.specs.Reading.{number_to, shorthand_by, shorthand_in}
use Rattle.scp_script_short.specs.Scripts.{nodes_said, or_next, nodes_of, said, said_in, expansion, placed_at, placed_from}

abbrev pub IsSome : {X : Type 0} → List X → Type 0
IsSome [] = ⊥
IsSome (x ∷ xs) = Unit {0}

some_first : (x : ℕ) (parts : List (List ℕ)) → IsSome (onto_first x parts)
some_first x [] = tt
some_first x (p ∷ ps) = tt

some_line : (text : List ℕ) → IsSome (lines_of text)
some_line [] = tt
some_line (x ∷ xs) = by (x == 10)
  where
    by : (b : Bool) → IsSome (cond b ([] ∷ lines_of xs) (onto_first x (lines_of xs)))
    by true = tt
    by false = some_first x (lines_of xs)

some_after : (xs ys : List PlacedLine) → IsSome ys → IsSome (xs ++ ys)
some_after [] ys h = h
some_after (x ∷ xs) ys h = tt

-- words that say how many nodes there are say no shorthand
no_shorthand : (m n : ℕ) (words : List (List ℕ)) → nodes_said words ≡ Some n → shorthand_in m words ≡ Ok None
no_shorthand m n [] h = absurd cc
no_shorthand m n (v ∷ []) h = absurd cc
no_shorthand m n (v ∷ w ∷ ws) h = by (same v (codes "nodes")) refl h
  where
    by : (b : Bool) → same v (codes "nodes") ≡ b → (if b then number_to NODE_LIMIT w else None) ≡ Some n → shorthand_in m (v ∷ w ∷ ws) ≡ Ok None
    by true e h =
        let is : v ≡ codes "nodes" = (bytes_decides v (codes "nodes")).0 e in
        subst (λ (x : List ℕ). shorthand_by m x (x ∷ w ∷ ws) ≡ Ok None) (sym is) refl
    by false e h = absurd cc

-- the line that says it says itself
found : (m n place : ℕ) (lines : List (List ℕ)) → nodes_of lines ≡ Some n → IsSome (placed_from place (map (said (Some m)) lines))
found m n place [] h = absurd cc
found m n place (l ∷ ls) h = by (nodes_said (words_of l)) refl h (found m n (suc place) ls)
  where
    by : (o : Option ℕ) → nodes_said (words_of l) ≡ o → or_next o (nodes_of ls) ≡ Some n → (nodes_of ls ≡ Some n → IsSome (placed_from (suc place) (map (said (Some m)) ls)))
        → IsSome (placed_from place (map (said (Some m)) (l ∷ ls)))
    by (Some k) e h more = let plain : shorthand_in m (words_of l) ≡ Ok None = no_shorthand m k (words_of l) e in rw plain tt
    by None e h more = some_after (placed_at place (expansion (said (Some m) l))) (placed_from (suc place) (map (said (Some m)) ls)) (more h)

whole : (o : Option ℕ) (lines : List (List ℕ)) → nodes_of lines ≡ o → IsSome lines → IsSome (placed_from 1 (map (said o) lines))
whole None [] e s = absurd s
whole None (l ∷ ls) e s = tt
whole (Some n) lines e s = found n n 1 lines e

pub some_placed : (script : List ℕ) → IsSome (placed_from 1 (said_in script))
some_placed script = whole (nodes_of (lines_of script)) (lines_of script) refl (some_line script)
