-- Messages that are added to a list, one behind the other.
use Rattle.std.proofs.Common.{◌≡◌, ℕ, ◌+◌, ◌<◌, List, [], ◌∷◌, ◌++◌, length, get_or, take, sym, ◌∙◌, ap, append_assoc, append-nil}
use Rattle.std.proofs.Math.Seq.{take-length}
use Rattle.std.proofs.lemmas.List.{take_more}
use Rattle.std.specs.Prelude.{flat_map}
use Rattle.std.proofs.lemmas.Grind.{flat_map-append}
use Rattle.scp_core.specs.scp_wire.specs.declared.message.Message.{Message}

-- what is added behind what was added
pub added_on : (a b c ms ns : List Message) → b ≡ a ++ ms → c ≡ b ++ ns → c ≡ a ++ (ms ++ ns)
added_on a b c ms ns p q = q ∙ ap (λ (l : List Message). l ++ ns) p ∙ append_assoc a ms ns

-- what is added of the next of a list
pub added_more : {X : Type 0} (f : X → List Message) (a b c : List Message) (xs : List X) (i : ℕ) (x : X) → i < length xs → x ≡ get_or xs i x → b ≡ a ++ flat_map f (take i xs) → c ≡ b ++ f x → c ≡ a ++ flat_map f (take (i + 1) xs)
added_more f a b c xs i x lt is p q =
    let more : take (i + 1) xs ≡ take i xs ++ x ∷ [] = take_more xs i x lt ∙ ap (λ y. take i xs ++ y ∷ []) (sym is) in
    let all : flat_map f (take i xs) ++ f x ≡ flat_map f (take (i + 1) xs) =
    ap (λ (l : List Message). flat_map f (take i xs) ++ l) (sym (append-nil (f x))) ∙ sym (flat_map-append f (take i xs) (x ∷ [])) ∙ ap (λ l. flat_map f l) (sym more) in
    added_on a b c (flat_map f (take i xs)) (f x) p q ∙ ap (λ (l : List Message). a ++ l) all

-- what is added of all of a list
pub added_all : {X : Type 0} (f : X → List Message) (a b : List Message) (xs : List X) (i : ℕ) → i ≡ length xs → b ≡ a ++ flat_map f (take i xs) → b ≡ a ++ flat_map f xs
added_all f a b xs i is p = p ∙ ap (λ l. a ++ flat_map f l) (ap (λ k. take k xs) is ∙ take-length xs)
