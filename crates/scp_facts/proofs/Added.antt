-- Lists that were added one behind the other.
use Rattle.std.proofs.Common.{◌≡◌, ◌∙◌, List, [], ◌∷◌, ◌++◌, map, ap, append_assoc}

-- four, behind nothing
pub four_added : {X : Type 0} (a b c d one two three all : List X) → one ≡ a → two ≡ one ++ b → three ≡ two ++ c → all ≡ three ++ d → all ≡ a ++ (b ++ (c ++ d))
four_added {X} a b c d one two three all first second third fourth =
    fourth
    ∙ ap (λ l. l ++ d) (third ∙ ap (λ l. l ++ c) (second ∙ ap (λ l. l ++ b) first))
    ∙ append_assoc (a ++ b) c d
    ∙ append_assoc a b (c ++ d)

-- what was made of a list, with one more
pub mapped_more : {X Y : Type 0} (f : X → Y) (first old new : List Y) (xs : List X) (x : X) → old ≡ first ++ map f xs → new ≡ old ++ f x ∷ [] → new ≡ first ++ map f (xs ++ x ∷ [])
mapped_more {X} {Y} f first old new xs x so adds =
    adds ∙ ap (λ l. l ++ f x ∷ []) so ∙ append_assoc first (map f xs) (f x ∷ []) ∙ ap (λ l. first ++ l) (let e : map f xs ++ map f (x ∷ []) ≡ map f (xs ++ x ∷ []) = mapped f xs (x ∷ []) in e)
  where
    mapped : (f : X → Y) (xs ys : List X) → map f xs ++ map f ys ≡ map f (xs ++ ys)
    mapped f [] ys = cc
    mapped f (z ∷ zs) ys = ap (λ l. f z ∷ l) (mapped f zs ys)
