-- Events with their replies.
use Rattle.std.proofs.Common.{◌≡◌, ℕ, ◌+◌, ◌<◌, List, [], ◌∷◌, ◌++◌, length, take, get_or, refl, sym, ◌∙◌, ap, arith}
use Rattle.std.specs.Prelude.{zip}
use Rattle.std.proofs.lemmas.List.{take_more, length-take-le}
use Rattle.scp_core.specs.declared.event.Event.{Event}
use Rattle.scp_core.specs.declared.event.Reply.{Reply}

zip-push : {X Y : Type 0} (xs : List X) (ys : List Y) (x : X) (y : Y) → length xs ≡ length ys → zip (xs ++ x ∷ []) (ys ++ y ∷ []) ≡ zip xs ys ++ (x, y) ∷ []
zip-push [] [] x y e = refl
zip-push [] (b ∷ bs) x y e = absurd (omega arith)
zip-push (a ∷ more) [] x y e = absurd (omega arith)
zip-push (a ∷ more) (b ∷ bs) x y e = ap (λ ps. (a, b) ∷ ps) (zip-push more bs x y (omega arith))

pub zip-more : (events : List Event) (replies : List Reply) (i : ℕ) (event : Event) (reply : Reply) → i < length events → event ≡ get_or events i event → length replies ≡ i → zip (take (i + 1) events) (replies ++ reply ∷ []) ≡ zip (take i events) replies ++ (event, reply) ∷ []
zip-more events replies i event reply below is count =
    let more : take (i + 1) events ≡ take i events ++ event ∷ [] = take_more events i event below ∙ ap (λ x. take i events ++ x ∷ []) (sym is) in
    rw more (zip-push (take i events) replies event reply (length-take-le i events (omega arith) ∙ sym count))
