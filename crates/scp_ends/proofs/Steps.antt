-- What a send leaves of an end, over plain variables.
use Rattle.std.proofs.Common.{◌≡◌, ℕ, true, List, [], ◌∷◌, ◌++◌, sym, refl, ap, ◌∙◌, subst}
use Rattle.atomic_table.specs.Seated.{TableId}
use Rattle.atomic_table.specs.declared.badge.Badge.{Badge}
use Rattle.crossbeam_channel.specs.declared.flavors.array.Key.{Key}
use Rattle.crossbeam_channel.specs.Claims.{Pass, view}
use Rattle.scp_ends.specs.declared.item.Item.{Item}
use Rattle.scp_ends.specs.declared.item.Item.TheVariants.{One, Stop}
use Rattle.scp_ends.specs.declared.item.View.{View}
use Rattle.scp_ends.specs.Order.{values}
use Rattle.scp_ends.specs.Ends.{Sender, ones, ended}
use Rattle.scp_ends.specs.inside.Passes.{line_of, IsSending, IsEnded, sender_of}

module _ {T : Type 0} where
  pub values_append : (xs ys : List (Item T)) → values (xs ++ ys) ≡ values xs ++ values ys
  values_append [] ys = refl
  values_append (One n x ∷ xs) ys = ap (λ l. x ∷ l) (values_append xs ys)
  values_append (Stop n ∷ xs) ys = values_append xs ys

  pub values_stop : (xs : List (Item T)) (n : ℕ) → values (xs ++ Stop n ∷ []) ≡ values xs
  values_stop [] n = refl
  values_stop (One m x ∷ xs) n = ap (λ l. x ∷ l) (values_stop xs n)
  values_stop (Stop m ∷ xs) n = values_stop xs n

  pub ones_append : (n : ℕ) (xs ys : List T) → ones n (xs ++ ys) ≡ ones n xs ++ ones n ys
  ones_append n [] ys = refl
  ones_append n (x ∷ xs) ys = ap (λ l. One n x ∷ l) (ones_append n xs ys)

  -- the list of what was put has this form also after one thing more
  ones_more : (n : ℕ) (x : T) (put : List (Item T)) → put ≡ ones n (values put) → put ++ One n x ∷ [] ≡ ones n (values (put ++ One n x ∷ []))
  ones_more n x put is = ap (λ l. l ++ One n x ∷ []) is ∙ sym (ap (ones n) (values_append put (One n x ∷ [])) ∙ ones_append n (values put) (x ∷ []))

  ended_now : (n : ℕ) (put : List (Item T)) → put ≡ ones n (values put) → put ++ Stop n ∷ [] ≡ ended n (values (put ++ Stop n ∷ []))
  ended_now n put is = ap (λ l. l ++ Stop n ∷ []) is ∙ sym (ap (ended n) (values_stop put n))

  abbrev with_item : View T → Item T → View T
  with_item v x = record v { put = v.put ++ x ∷ [] }

  pub sending_more : (n : ℕ) (x : T) (p q : Pass (Item T) (View T)) → IsSending n p → view q ≡ with_item (view p) (One n x) → IsSending n q
  sending_more n x p q is e = let P : View T → Type 0 = λ v. (v.sends ≡ true) × (v.number ≡ n) × (v.put ≡ ones n (values v.put)) in
      subst P (sym e) (is.0, is.1, ones_more n x (view p).put is.2)

  pub sending_same : (n : ℕ) (p q : Pass (Item T) (View T)) → IsSending n p → view q ≡ view p → IsSending n q
  sending_same n p q is e = let P : View T → Type 0 = λ v. (v.sends ≡ true) × (v.number ≡ n) × (v.put ≡ ones n (values v.put)) in subst P (sym e) is

  pub sending_ended : (n : ℕ) (p q : Pass (Item T) (View T)) → IsSending n p → view q ≡ with_item (view p) (Stop n) → IsEnded n q
  sending_ended n p q is e = let P : View T → Type 0 = λ v. (v.sends ≡ true) × (v.number ≡ n) × (v.put ≡ ended n (values v.put)) in
      subst P (sym e) (is.0, is.1, ended_now n (view p).put is.2)

  pub one_line : (t : TableId) (k : Badge (Key (Item T))) (p q : Pass (Item T) (View T)) → p.table_id ≡ t → p.me.0.of ≡ k → q.table_id ≡ t → q.me.0.of ≡ k → line_of q ≡ line_of p
  one_line t k p q a b c d = λ i. record { table = (c ∙ sym a) i; key = (d ∙ sym b) i }

  pub seen_more : (n : ℕ) (p q : Pass (Item T) (View T)) (s : Sender T) (x : T) → sender_of n p ≡ s → line_of q ≡ line_of p → view q ≡ with_item (view p) (One n x)
      → sender_of n q ≡ record s { sent = s.sent ++ x ∷ [] }
  seen_more n p q s x is line e = let sent : values (view q).put ≡ values (view p).put ++ x ∷ [] = ap (λ (v : View T). values v.put) e ∙ values_append (view p).put (One n x ∷ []) in
      let here : sender_of n q ≡ record { line = line_of p; number = n; sent = values (view p).put ++ x ∷ [] } = (λ i. record { line = line i; number = n; sent = sent i }) in
      here ∙ ap (λ (y : Sender T). record y { sent = y.sent ++ x ∷ [] }) is

  pub seen_same : (n : ℕ) (p q : Pass (Item T) (View T)) (s : Sender T) → sender_of n p ≡ s → line_of q ≡ line_of p → view q ≡ view p → sender_of n q ≡ s
  seen_same n p q s is line e = let here : sender_of n q ≡ sender_of n p = (λ i. record { line = line i; number = n; sent = ap (λ (v : View T). values v.put) e i }) in here ∙ is

  pub seen_ended : (n : ℕ) (p q : Pass (Item T) (View T)) (s : Sender T) → sender_of n p ≡ s → line_of q ≡ line_of p → view q ≡ with_item (view p) (Stop n) → sender_of n q ≡ s
  seen_ended n p q s is line e =
      let sent : values (view q).put ≡ values (view p).put = ap (λ (v : View T). values v.put) e ∙ values_stop (view p).put n in
      let here : sender_of n q ≡ sender_of n p = (λ i. record { line = line i; number = n; sent = sent i }) in here ∙ is
