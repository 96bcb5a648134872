-- Where a producer's end was received, all that it sent was received.
use Rattle.std.proofs.Common.{◌≡◌, ℕ, ◌<◌, ◌≤◌, arith, ◌==◌, ◌||◌, cond, length, true, false, true≢false, List, [], ◌∷◌, ◌++◌, sym, refl, ap, ◌∙◌, subst}
use Rattle.std.proofs.lemmas.List.Elements.{filter-append}
use Rattle.scp_ends.specs.declared.item.Item.{Item}
use Rattle.scp_ends.specs.declared.item.Item.TheVariants.{One, Stop}
use Rattle.scp_ends.specs.Order.{of, number_of, values}
use Rattle.crossbeam_channel.specs.Claims.{Pass, view}
use Rattle.scp_ends.specs.declared.item.View.{View}
use Rattle.scp_ends.specs.Ends.{Sender, Receiver, ones, ended, stopped, heard, IsQueued, HeardAll}
use Rattle.scp_ends.specs.inside.Passes.{sender_of, receiver_of, IsEnded}
use Rattle.scp_ends.proofs.Steps.{values_stop}
use Rattle.scp_ends.proofs.Alone.{none_heard, heard_all}

module _ {T : Type 0} where
  values_ones : (n : ℕ) (xs : List T) → values (ones n xs) ≡ xs
  values_ones n [] = refl
  values_ones n (x ∷ xs) = ap (λ l. x ∷ l) (values_ones n xs)

  values_ended : (n : ℕ) (xs : List T) → values (ended n xs) ≡ xs
  values_ended n xs = values_stop (ones n xs) n ∙ values_ones n xs

  -- the end is among the items of its producer
  pub stopped_of : (p : ℕ) (got : List (Item T)) → stopped p got ≡ true → stopped p (of p got) ≡ true
  stopped_of p [] h = absurd (true≢false (sym h))
  stopped_of p (One n x ∷ xs) h = elim (n == p) as (λ b. stopped p (cond b (One n x ∷ of p xs) (of p xs)) ≡ true) [ true ↦ stopped_of p xs h | false ↦ stopped_of p xs h ]
  stopped_of p (Stop n ∷ xs) h =
      elim (n == p) as (λ b. (n == p) ≡ b → (b || stopped p xs) ≡ true → stopped p (cond b (Stop n ∷ of p xs) (of p xs)) ≡ true) [
        | true ↦ λ e _. ap (λ b. b || stopped p (of p xs)) e
        | false ↦ λ _ k. stopped_of p xs k
      ] refl h

  -- of two lists that together are what an ended producer sent, the first has all where it has the end
  pub all_of : (n : ℕ) (xs : List T) (first rest : List (Item T)) → ended n xs ≡ first ++ rest → stopped n first ≡ true → first ≡ ended n xs
  all_of n xs [] rest e h = absurd (true≢false (sym h))
  all_of n [] (a ∷ []) rest e h = cc
  all_of n [] (a ∷ b ∷ l) rest e h = cc
  all_of n (x ∷ xs) (a ∷ l) rest e h =
      let same : a ≡ One n x = cc in let tail : ended n xs ≡ l ++ rest = cc in
      let more : l ≡ ended n xs = all_of n xs l rest tail (ap (λ y. stopped n (y ∷ l)) (sym same) ∙ h) in (λ i. same i ∷ more i)

  pub whole : (n : ℕ) (xs : List T) (got queue : List (Item T)) → ended n xs ≡ of n (got ++ queue) → stopped n got ≡ true → heard n got ≡ xs
  whole n xs got queue e h = let parts : ended n xs ≡ of n got ++ of n queue = e ∙ filter-append (λ x. number_of x == n) got queue in
      ap values (all_of n xs (of n got) (of n queue) parts (stopped_of n got h)) ∙ values_ended n xs

  -- and all that it learns then
  pub queued_told : (n : ℕ) (p d q : Pass (Item T) (View T)) (r : Receiver T) (s : Sender T) (queue : List (Item T))
      → IsEnded n d → receiver_of p ≡ r → sender_of n d ≡ s
      → view q ≡ record (view p) { knows = true; number = (view d).number; put = (view d).put }
      → (view q).put ≡ of (view q).number ((view q).got ++ queue)
      → ((k : ℕ) → (view q).made ≤ k → of k ((view q).got ++ queue) ≡ [])
      → length queue ≤ (view q).room → (view q).number < (view q).made
      → IsQueued r s
  queued_told n p d q r s queue is a b e h none short below =
      let made : (view q).made ≡ r.producers = ap (λ (v : View T). v.made) e ∙ ap (λ (y : Receiver T). y.producers) a in
      let got : (view q).got ≡ r.got = ap (λ (v : View T). v.got) e ∙ ap (λ (y : Receiver T). y.got) a in
      let room : (view q).room ≡ r.room = ap (λ (v : View T). v.room) e ∙ ap (λ (y : Receiver T). y.room) a in
      let sent : ended n (values (view d).put) ≡ of n ((view q).got ++ queue) =
      sym is.2 ∙ sym (ap (λ (v : View T). v.put) e) ∙ h ∙ (λ i. of ((ap (λ (v : View T). v.number) e ∙ is.1) i) ((view q).got ++ queue)) in
      let its : (view q).number ≡ s.number = ap (λ (v : View T). v.number) e ∙ is.1 ∙ ap (λ (y : Sender T). y.number) b in
      let P : Sender T → Type 0 = λ y. ended y.number y.sent ≡ of y.number ((view q).got ++ queue) in record {
        number = omega arith;
        queue = queue;
        room = omega arith;
        order = subst P b sent ∙ ap (λ l. of s.number (l ++ queue)) got;
        others = λ k le. ap (λ l. of k (l ++ queue)) (sym got) ∙ none k (omega arith);
      }

  -- and of numbers that no producer has
  pub no_others : (r : Receiver T) (s : Sender T) → IsQueued r s → (p : ℕ) → r.producers ≤ p → of p r.got ≡ []
  no_others r s q p le = none_heard p r.got q.queue (q.others p le)

  pub whole_of : (r : Receiver T) (s : Sender T) → IsQueued r s → stopped s.number r.got ≡ true → heard s.number r.got ≡ s.sent
  whole_of r s q h = whole s.number s.sent r.got q.queue q.order h

  -- where there is one producer
  pub alone_of : (r : Receiver T) (s : Sender T) → IsQueued r s → r.producers ≡ 1 → HeardAll r → values r.got ≡ s.sent
  alone_of r s q one h =
      let below = q.number in
      let zero : s.number ≡ 0 = omega arith in
      sym (heard_all r.got (λ p le. no_others r s q p (omega arith))) ∙ ap (λ n. heard n r.got) (sym zero) ∙ whole_of r s q (h s.number below)
