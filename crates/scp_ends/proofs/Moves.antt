-- Each move keeps the rule of a channel.
use Rattle.std.proofs.Common.{◌≡◌, ◌≢◌, ℕ, ◌+◌, ◌≤◌, ◌==◌, cond, true, false, true≢false, List, [], ◌∷◌, ◌++◌, length, length-append, set, sym, refl, ap, ◌∙◌, subst, append_assoc, eq-eqb, ne_eqb, arith, ⊎_elim, ◌<◌, lt_of_not-le}
use mathlib.Core.Option.{some, some-ne-none}
use lib.ListN.{get_elem?}
use Rattle.std.proofs.lemmas.List.{append-nil}
use Rattle.std.proofs.lemmas.List.Elements.{filter-append}
use Rattle.atomic_table.proofs.Lists.{at_set}
use Rattle.crossbeam_channel.specs.Fifo.{Pushes, Pops, Forks, Merges, Learns}
use Rattle.scp_ends.specs.declared.item.Item.{Item}
use Rattle.scp_ends.specs.declared.item.Item.TheVariants.{One, Stop}
use Rattle.scp_ends.specs.declared.item.View.{View}
use Rattle.scp_ends.specs.Order.{number_of, of, values, receiver, FitsSender, FitsReceiver, Ordered}
use Rattle.scp_ends.specs.inside.Passes.{sender, spent}
use native.Mathlib.Decide.{ℕ_discrete}
use Rattle.scp_ends.proofs.Steps.{values_append, values_stop}
use Rattle.scp_ends.proofs.Alone.{of_one, none_heard, heard_all}
use Rattle.scp_ends.proofs.Views.{All, all_set, all_snoc, at_end, update, update_here, update_else, update_same}

module _ {T : Type 0} where
  of_here : (p : ℕ) (all : List (Item T)) (x : Item T) → number_of x ≡ p → of p (all ++ x ∷ []) ≡ of p all ++ x ∷ []
  of_here p all x e = filter-append (λ y. number_of y == p) all (x ∷ []) ∙ ap (λ b. of p all ++ cond b (x ∷ []) []) (eq-eqb (number_of x) p e)

  of_else : (p : ℕ) (all : List (Item T)) (x : Item T) → number_of x ≢ p → of p all ≡ of p (all ++ x ∷ [])
  of_else p all x n = sym (filter-append (λ y. number_of y == p) all (x ∷ []) ∙ ap (λ b. of p all ++ cond b (x ∷ []) []) (ne_eqb (number_of x) p n) ∙ append-nil (of p all))

  abbrev Fits : ℕ → ℕ → (ℕ → ℕ) → List (Item T) → List (Item T) → ℕ → View T → Type 0
  Fits room reader seat got all pass v = FitsSender room seat all pass v × FitsReceiver room reader seat got all pass v

  pub begins : (fits : List T → Type 0) → fits [] → Ordered {T = T} fits [] (receiver 0 0 [] ∷ [])
  begins fits none = (
    0,
    (λ _. 0),
    [],
    [],
    0,
    refl,
    omega arith,
    (λ p. none),
    all_set (Fits 0 0 (λ _. 0) [] []) (receiver 0 0 [] ∷ []) 0 (receiver 0 0 []) ((λ p. absurd (true≢false (sym p))), λ _. (refl, refl, refl, (λ p _. (refl, refl)), (λ p. absurd (true≢false (sym p))), refl))
        (λ j u other e. ⊎_elim (λ x. absurd (some-ne-none u (sym x))) (λ x. absurd (other x.0)) (at_end [] (receiver 0 0 []) u j e)),
  )

  fits_more : (fits : List T → Type 0) (all put : List (Item T)) (x : Item T) (k p : ℕ) → number_of x ≡ k → put ≡ of k all → ((q : ℕ) → fits (values (of q all))) → fits (values (put ++ x ∷ []))
      → Dec (number_of x ≡ p) → fits (values (of p (all ++ x ∷ [])))
  fits_more fits all put x k p is mine old new (yes d) = let P : List (Item T) → Type 0 = λ l. fits (values l) in
      subst P (ap (λ l. l ++ x ∷ []) (mine ∙ ap (λ m. of m all) (sym is ∙ d)) ∙ sym (of_here p all x d)) new
  fits_more fits all put x k p is mine old new (no d) = let P : List (Item T) → Type 0 = λ l. fits (values l) in subst P (of_else p all x d) (old p)

  fits_less : (fits : List T → Type 0) → ((xs ys : List T) → fits (xs ++ ys) → fits xs) → (got items : List (Item T)) (p : ℕ) → fits (values (of p (got ++ items))) → fits (values (of p got))
  fits_less fits before got items p h =
      before (values (of p got)) (values (of p items)) (subst fits (ap values (filter-append (λ y. number_of y == p) got items) ∙ values_append (of p got) (of p items)) h)

  pub sends : (fits : List T → Type 0) (n pass : ℕ) (v : View T) (x : Item T) → v.sends ≡ true → number_of x ≡ v.number → v.room ≡ n → (fits (values v.put) → fits (values (v.put ++ x ∷ []))) → Pushes (Ordered fits) n pass v x (λ w. w ≡ record v { put = v.put ++ x ∷ [] })
  sends fits n pass v x may is full new items views short h at = let w : View T = record v { put = v.put ++ x ∷ [] } in let mine = (h.8 pass v at).0 may in let all : List (Item T) = h.3 ++ x ∷ [] in (
    w,
    (
      h.0,
      h.1,
      h.2,
      all,
      h.4,
      ap (λ l. l ++ x ∷ []) h.5 ∙ append_assoc h.2 items (x ∷ []),
      (let same = mine.3 in omega (arith, length-append items (x ∷ []))),
      (λ p. fits_more fits h.3 v.put x v.number p is mine.2 h.7 (new (let P : List (Item T) → Type 0 = λ l. fits (values l) in subst P (sym mine.2) (h.7 v.number))) (ℕ_discrete (number_of x) p)),
      all_set (Fits h.4 h.0 h.1 h.2 all) views pass w
          ((λ _. (mine.0, mine.1, ap (λ l. l ++ x ∷ []) mine.2 ∙ sym (of_here v.number h.3 x is), mine.3)), λ p. absurd (true≢false (sym p ∙ mine.0)))
          (λ j u other e. let old = h.8 j u e in let away = λ (p : ℕ) (s : h.1 p ≡ j) (q : number_of x ≡ p). other (sym s ∙ ap h.1 (sym q ∙ is) ∙ mine.1) in (
            (λ p. let o = old.0 p in (o.0, o.1, o.2 ∙ of_else u.number h.3 x (away u.number o.1), o.3)),
            λ p. let o = old.1 p in (
              o.0,
              o.1,
              o.2,
              (λ k le. let l = o.3 k le in (l.0, sym (of_else k h.3 x (away k (l.0 ∙ sym o.1))) ∙ l.1)),
              (λ t. let l = o.4 t in (l.0, l.1 ∙ of_else u.number h.3 x (away u.number (l.0 ∙ sym o.1)), l.2)),
              o.5,
            ),
          )),
    ),
    refl,
  )

  pub gets : (fits : List T → Type 0) → ((xs ys : List T) → fits (xs ++ ys) → fits xs) → (pass : ℕ) (v : View T) → v.gets ≡ true
      → Pops (Ordered fits) pass v (λ x w. (w ≡ record v { got = v.got ++ x ∷ [] }) × (number_of x < v.made) × ((p : ℕ) → fits (values (of p (v.got ++ x ∷ [])))) × (v.made ≡ 1 → fits (values (v.got ++ x ∷ []))))
  gets fits before pass v may x items views h at =
      let w : View T = record v { got = v.got ++ x ∷ [] } in let old = h.8 pass v at in let mine = old.1 may in let got : List (Item T) = h.2 ++ x ∷ [] in
      let same : got ≡ v.got ++ x ∷ [] = ap (λ l. l ++ x ∷ []) (sym mine.2) in
      let whole : h.3 ≡ got ++ items = h.5 ∙ sym (append_assoc h.2 (x ∷ []) items) in
      let each : (p : ℕ) → fits (values (of p got)) = λ p. fits_less fits before got items p (subst (λ l. fits (values (of p l))) whole (h.7 p)) in (
        w,
        (
          h.0,
          h.1,
          got,
          h.3,
          h.4,
          whole,
          (let short = h.6 in omega arith),
          h.7,
          all_set (Fits h.4 h.0 h.1 got h.3) views pass w (old.0, λ _. (mine.0, mine.1, ap (λ l. l ++ x ∷ []) mine.2, mine.3, mine.4, mine.5))
              (λ j u other e. ((h.8 j u e).0, λ p. absurd (other (((h.8 j u e).1 p).1 ∙ sym mine.1)))),
        ),
        (
          refl,
          lt_of_not-le (λ le. of_one h.2 items x (ap (of (number_of x)) (sym h.5) ∙ (mine.3 (number_of x) le).1)),
          (λ p. subst (λ l. fits (values (of p l))) same (each p)),
          λ one. subst (λ l. fits (values l)) same (subst fits (heard_all got (λ p le. none_heard p got items (ap (of p) (sym whole) ∙ (mine.3 p (omega arith)).1))) (each 0)),
        ),
      )

  -- where no producer sent anything, nothing was sent
  nothing_sent : (all : List (Item T)) → ((p : ℕ) → of p all ≡ []) → all ≡ []
  nothing_sent [] none = refl
  nothing_sent (x ∷ xs) none = absurd (of_one [] xs x (none (number_of x)))

  none_left : (got items : List (Item T)) → got ++ items ≡ [] → items ≡ []
  none_left [] items e = e
  none_left (x ∷ got) items e = absurd cc

  -- while no producer has a pass, the room of the channel may be said
  pub sizes : (fits : List T → Type 0) (room pass : ℕ) (v : View T) → v.gets ≡ true → v.made ≡ 0 → v.knows ≡ false → Forks (Ordered fits) pass v (record v { room = room }) spent
  sizes fits room pass v may new un items views h at =
      let left : View T = record v { room = room } in let mine = (h.8 pass v at).1 may in
      let none : h.3 ≡ [] = nothing_sent h.3 (λ p. (mine.3 p (omega arith)).1) in
      let left_none : items ≡ [] = none_left h.2 items (sym h.5 ∙ none) in
      let vs : List (View T) = set views pass left in (
        h.0,
        h.1,
        h.2,
        h.3,
        room,
        h.5,
        (let short : length items ≡ 0 = ap length left_none in omega arith),
        h.7,
        all_snoc (Fits room h.0 h.1 h.2 h.3) vs spent
            (all_set (Fits room h.0 h.1 h.2 h.3) views pass left
            ((λ p. absurd (true≢false (sym p ∙ mine.0))), λ _. (mine.0, mine.1, mine.2, mine.3, (λ p. absurd (true≢false (sym p ∙ un))), refl))
            (λ j u other e. let old = h.8 j u e in (
              (λ p. let o = old.0 p in absurd (other (sym o.1 ∙ (mine.3 u.number (omega arith)).0 ∙ sym mine.1))),
              λ p. absurd (other ((old.1 p).1 ∙ sym mine.1)),
            )))
            ((λ p. absurd (true≢false (sym p))), λ p. absurd (true≢false (sym p))),
      )

  pub forks : (fits : List T → Type 0) (pass : ℕ) (v : View T) → v.gets ≡ true → Forks (Ordered fits) pass v (record v { made = v.made + 1; knows = false }) (sender v.room v.made [])
  forks fits pass v may items views h at =
      let left : View T = record v { made = v.made + 1; knows = false } in let right : View T = sender v.room v.made [] in let mine = (h.8 pass v at).1 may in
      let vs : List (View T) = set views pass left in let seat : ℕ → ℕ = update h.1 v.made (length vs) in let late = mine.3 v.made (omega arith) in (
        h.0,
        seat,
        h.2,
        h.3,
        h.4,
        h.5,
        h.6,
        h.7,
        all_snoc (Fits h.4 h.0 seat h.2 h.3) vs right
            (all_set (Fits h.4 h.0 seat h.2 h.3) views pass left (
              (λ p. absurd (true≢false (sym p ∙ mine.0))),
              λ _. (
                mine.0,
                mine.1,
                mine.2,
                (λ k le. let l = mine.3 k (omega arith) in (update_else h.1 v.made (length vs) k (λ (q : k ≡ v.made). omega arith) ∙ l.0, l.1)),
                (λ p. absurd (true≢false (sym p))),
                mine.5,
              ),
            )
            (λ j u other e. let old = h.8 j u e in (
              (λ p. let o = old.0 p in (o.0, update_else h.1 v.made (length vs) u.number (λ q. other (sym o.1 ∙ ap h.1 q ∙ late.0 ∙ sym mine.1)) ∙ o.1, o.2, o.3)),
              λ p. absurd (other ((old.1 p).1 ∙ sym mine.1)),
            )))
            ((λ _. (refl, update_here h.1 v.made (length vs) v.made refl, sym late.1, mine.5)), λ p. absurd (true≢false (sym p))),
      )

  pub merges : (fits : List T → Type 0) (pass : ℕ) (v : View T) (other : ℕ) (w : View T) → v.gets ≡ true → w.sends ≡ true → Merges (Ordered fits) pass v other w (record v { knows = true; number = w.number; put = w.put }) spent
  merges fits pass v other w may theirs items views h at two at' =
      let both : View T = record v { knows = true; number = w.number; put = w.put } in let mine = (h.8 pass v at).1 may in let vs : List (View T) = set views pass both in
      let was : get_elem? views other ≡ some w = ⊎_elim (λ x. absurd (two x.0)) (λ x. x.1) (at_set views pass other both w at') in let gone = (h.8 other w was).0 theirs in
      let seat : ℕ → ℕ = update h.1 w.number h.0 in
      let Now : ℕ → View T → Type 0 = λ j u. j ≢ other → Fits h.4 h.0 seat h.2 h.3 j u in
      let now : All Now vs = all_set Now views pass both
      (λ _. (
        (λ p. absurd (true≢false (sym p ∙ mine.0))),
        λ _. (
          mine.0,
          mine.1,
          mine.2,
          (λ k le. let l = mine.3 k le in (update_same h.1 w.number h.0 k l.0, l.1)),
          (λ _. (update_here h.1 w.number h.0 w.number refl, gone.2, lt_of_not-le (λ le. two (sym gone.1 ∙ (mine.3 w.number le).0 ∙ sym mine.1)))),
          mine.5,
        ),
      ))
      (λ j u apart e away. let old = h.8 j u e in (
        (λ p. let o = old.0 p in (o.0, update_else h.1 w.number h.0 u.number (λ q. away (sym o.1 ∙ ap h.1 q ∙ gone.1)) ∙ o.1, o.2, o.3)),
        λ p. absurd (apart ((old.1 p).1 ∙ sym mine.1)),
      )) in (
        h.0,
        seat,
        h.2,
        h.3,
        h.4,
        h.5,
        h.6,
        h.7,
        all_set (Fits h.4 h.0 seat h.2 h.3) vs other spent ((λ p. absurd (true≢false (sym p))), λ p. absurd (true≢false (sym p))) (λ j u apart e. now j u e apart),
      )

  pub told : (fits : List T → Type 0) (pass : ℕ) (v : View T) → v.gets ≡ true → v.knows ≡ true → Learns (Ordered fits) pass v (λ items. (v.put ≡ of v.number (v.got ++ items)) × ((p : ℕ) → v.made ≤ p → of p (v.got ++ items) ≡ []) × (length items ≤ v.room) × (v.number < v.made))
  told fits pass v may knows items views h at = let mine = (h.8 pass v at).1 may in let all : h.3 ≡ v.got ++ items = h.5 ∙ ap (λ l. l ++ items) (sym mine.2) in (
    (mine.4 knows).1 ∙ ap (of v.number) all,
    (λ p le. ap (of p) (sym all) ∙ (mine.3 p le).1),
    (let short = h.6 in let same = mine.5 in omega arith),
    (mine.4 knows).2,
  )

  pub one_fits : (fits : List T → Type 0) (put : List (Item T)) (sent : List T) (n : ℕ) (x : T) → values put ≡ sent → fits (sent ++ x ∷ []) → fits (values put) → fits (values (put ++ One n x ∷ []))
  one_fits fits put sent n x is new _ = subst fits (ap (λ l. l ++ x ∷ []) (sym is) ∙ sym (values_append put (One n x ∷ []))) new

  pub end_fits : (fits : List T → Type 0) (put : List (Item T)) (n : ℕ) → fits (values put) → fits (values (put ++ Stop n ∷ []))
  end_fits fits put n h = subst fits (sym (values_stop put n)) h
