-- What is told, part by part.
use Rattle.std.proofs.Common.{◌≡◌, ◌∙◌, ◌++◌, List, [], ◌∷◌, map, refl, ap, append_assoc}

-- of three parts, each added to those before it
pub three_more : {X : Type 0} (a b c none first second all : List X) → first ≡ none ++ a → second ≡ first ++ b → all ≡ second ++ c → all ≡ none ++ (a ++ (b ++ c))
three_more {X} a b c none first second all f s t =
    let two : second ≡ (none ++ a) ++ b = s ∙ ap (λ (l : List X). l ++ b) f in
    t ∙ ap (λ (l : List X). l ++ c) two ∙ append_assoc (none ++ a) b c ∙ append_assoc none a (b ++ c)

pub maps : {A B C : Type 0} (f : B → C) (g : A → B) (xs : List A) → map (λ x. f (g x)) xs ≡ map f (map g xs)
maps f g [] = refl
maps f g (x ∷ xs) = ap (λ l. f (g x) ∷ l) (maps f g xs)
