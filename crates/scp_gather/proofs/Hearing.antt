-- What was received, by its producers.
use Rattle.std.proofs.Common.{◌≡◌, ℕ, ◌==◌, Bool, true, false, cond, List, [], ◌∷◌, ◌++◌, filter, refl, sym, ◌∙◌, subst, eq-eqb}
use Rattle.std.specs.List.{AllByRecursion}
use Rattle.std.proofs.lemmas.List.Elements.{filter-append}
use Rattle.scp_workers.specs.scp_ends.specs.declared.item.Item.{Item}
use Rattle.scp_workers.specs.scp_ends.specs.declared.item.Item.TheVariants.{One, Stop}
use Rattle.scp_workers.specs.scp_ends.specs.Order.{number_of, of, values}
use Rattle.scp_workers.specs.scp_ends.specs.Ends.{Sender, Receiver, ended, stopped, heard, HeardAll, IsQueued}
use Rattle.scp_workers.specs.scp_ends.proofs.Whole.{all_of, alone_of, stopped_of, whole_of}
use Rattle.scp_gather.specs.Gathered.{IsEmptied}

module _ {T : Type 0} where
  -- ---- a producer that has ended

  nil_of : (xs ys : List (Item T)) → xs ≡ xs ++ ys → ys ≡ []
  nil_of [] ys e = sym e
  nil_of (x ∷ xs) ys e = nil_of xs ys (let tail : xs ≡ xs ++ ys = cc in tail)

  none_left : (n : ℕ) (xs : List T) (got queue : List (Item T)) → ended n xs ≡ of n (got ++ queue) → stopped n got ≡ true → of n queue ≡ []
  none_left n xs got queue e h =
      let parts : ended n xs ≡ of n got ++ of n queue = e ∙ filter-append (λ x. number_of x == n) got queue in
      nil_of (of n got) (of n queue) (all_of n xs (of n got) (of n queue) parts (stopped_of n got h) ∙ parts)

  pub emptied : (r : Receiver T) (s : Sender T) → HeardAll r → IsQueued r s → IsEmptied r s
  emptied r s heard_all q = record {
    queued = q;
    all = whole_of r s q (heard_all s.number q.number);
    left = λ k. none_left s.number s.sent r.got k.queue k.order (heard_all s.number q.number);
  }

  -- what was received of one producer alone is what it sent
  pub sole_is : (r : Receiver T) (s : Sender T) → r.producers ≡ 1 → HeardAll r → IsQueued r s → values r.got ≡ s.sent
  sole_is r s one heard_all q = alone_of r s q one heard_all

  -- ---- a test that tells a producer's things from all others picks what was heard of it

  abbrev pub Tells : (T → Bool) → ℕ → ℕ → T → Type 0
  Tells f place n x = f x ≡ (n == place)

  head_of : (P : T → Type 0) (m : ℕ) (x : T) (xs : List (Item T)) → AllByRecursion P (heard m (One m x ∷ xs)) → P x
  head_of P m x xs a = (subst (λ (b : Bool). AllByRecursion P (values (cond b (One m x ∷ of m xs) (of m xs)))) (eq-eqb m m refl) a).0

  tail_of : (P : T → Type 0) (n m : ℕ) (x : T) (xs : List (Item T)) → AllByRecursion P (heard n (One m x ∷ xs)) → AllByRecursion P (heard n xs)
  tail_of P n m x xs = elim (m == n) as (λ b. AllByRecursion P (values (cond b (One m x ∷ of n xs) (of n xs))) → AllByRecursion P (heard n xs)) [ true ↦ λ a. a.1 | false ↦ λ a. a ]

  stop_of : (P : T → Type 0) (n m : ℕ) (xs : List (Item T)) → AllByRecursion P (heard n (Stop m ∷ xs)) → AllByRecursion P (heard n xs)
  stop_of P n m xs = elim (m == n) as (λ b. AllByRecursion P (values (cond b (Stop m ∷ of n xs) (of n xs))) → AllByRecursion P (heard n xs)) [ true ↦ λ a. a | false ↦ λ a. a ]

  picked_one : (f : T → Bool) (place m : ℕ) (x : T) (xs : List (Item T)) (b : Bool) → (m == place) ≡ b → f x ≡ b → filter f (values xs) ≡ heard place xs → filter f (values (One m x ∷ xs)) ≡ heard place (One m x ∷ xs)
  picked_one f place m x xs true e g k = rw (e, g, k) refl
  picked_one f place m x xs false e g k = rw (e, g, k) refl

  picked_stop : (f : T → Bool) (place m : ℕ) (xs : List (Item T)) → filter f (values xs) ≡ heard place xs → filter f (values xs) ≡ heard place (Stop m ∷ xs)
  picked_stop f place m xs k = elim (m == place) as (λ b. filter f (values xs) ≡ values (cond b (Stop m ∷ of place xs) (of place xs))) [ true ↦ k | false ↦ k ]

  pub picked : (f : T → Bool) (place : ℕ) (got : List (Item T)) → ((n : ℕ) → AllByRecursion (Tells f place n) (heard n got)) → filter f (values got) ≡ heard place got
  picked f place [] all = refl
  picked f place (One m x ∷ xs) all = picked_one f place m x xs (m == place) refl (head_of (Tells f place m) m x xs (all m)) (picked f place xs (λ n. tail_of (Tells f place n) n m x xs (all n)))
  picked f place (Stop m ∷ xs) all = picked_stop f place m xs (picked f place xs (λ n. stop_of (Tells f place n) n m xs (all n)))

  -- what holds of all that was heard of each producer holds of all that was received
  pub of_each : (P : T → Type 0) (got : List (Item T)) → ((n : ℕ) → AllByRecursion P (heard n got)) → AllByRecursion P (values got)
  of_each P [] all = tt
  of_each P (One m x ∷ xs) all = (head_of P m x xs (all m), of_each P xs (λ n. tail_of P n m x xs (all n)))
  of_each P (Stop m ∷ xs) all = of_each P xs (λ n. stop_of P n m xs (all n))
