-- The ends of the links to a node, as they are taken in.
use Rattle.std.proofs.Common.{◌≡◌, ◌≢◌, ◌∙◌, ⊎_elim, ℕ, zero, suc, ◌+◌, ◌-◌, ◌≤◌, ◌<◌, ap, sym, refl, subst, List, [], ◌∷◌, ◌++◌, length, Option, Some, get_or, arith}
use Rattle.std.specs.Prelude.{slice_get, slice_set}
use Rattle.std.proofs.lemmas.Bool.{cases_eq}
use Rattle.std.proofs.lemmas.Option.{slice_get_within, slice_get-get_or}
use Rattle.scp_outbox.specs.declared.mark.Mark.{Mark}
use Rattle.scp_outbox.specs.declared.mark.Out.{Out}
use Rattle.scp_outbox.specs.Outbox.{OutboxView}
use Rattle.scp_shared_outbox.specs.Ends.{PutterView, MarkerView, TakerView, puts_of}
use Rattle.scp_shared_outbox.specs.Turns.{IsOutOf}
use Rattle.scp_shared_outbox.specs.declared.outlets.Outlets.{Outlets}
use Rattle.scp_shared_outbox.specs.Places.{link_of, peer_at}
use Rattle.scp_shared_outbox.specs.Table.{CameOut, by_three}
use Rattle.scp_shared_outbox.specs.inside.Links.{AllEndIn, ArePairs, IsAnyOf, StandLast, TookFrom, TookIn}
use Rattle.scp_shared_outbox.proofs.Each.{get_before, each_last}
use Rattle.scp_shared_outbox.proofs.ListsOfAll.{some_is, push_cases, get_left, more_length, last_is, set_here, set_other, set_length}
use Rattle.scp_shared_outbox.proofs.Peers.{peer_of_place, place_of_peer, place_apart, peer_apart, peer_some}

-- ---- one link

same_puts : (a b c : PutterView) (n : ℕ) → puts_of (a ∷ b ∷ c ∷ []) n ≡ by_three a.put b.put c.put n
same_puts a b c zero = refl
same_puts a b c (suc zero) = refl
same_puts a b c (suc (suc zero)) = refl
same_puts a b c (suc (suc (suc n))) = refl

pub came_of : (a b c : PutterView) (putters : List PutterView) (marks : List Mark) (gave : List Out) (left : OutboxView) → putters ≡ a ∷ b ∷ c ∷ [] → IsOutOf (puts_of putters) marks gave left → CameOut a.put b.put c.put gave
came_of a b c putters marks gave left is out = record {
  marks = marks;
  left = left;
  out_of = record {
    turns = out.turns;
    stands = out.stands;
    each = λ n. out.each n ∙ ap (λ (l : List PutterView). puts_of l n) is ∙ same_puts a b c n;
    marked_is = out.marked_is;
    gave_is = out.gave_is;
  };
}

-- ---- all links to one node

module _ (to : ℕ) (outlets : List Outlets) (takers front : List (Option TakerView)) (t : Option TakerView) (ts : takers ≡ front ++ t ∷ []) where
  -- where the peer at the last place is
  abbrev last_place : ℕ
  last_place = peer_at (length front) to - 1

  apart_from : (place : ℕ) → place ≢ length front → peer_at place to - 1 ≢ last_place
  apart_from place other e = other (place_apart to place (length front) (omega (arith, e, peer_some place to, peer_some (length front) to)))

  -- the last of the links was taken in, and then the others
  pub took_more : (o o2 : Outlets) → 1 ≤ to → slice_get outlets last_place ≡ Some o → TookIn o o2 t → (final : List Outlets) → ArePairs (TookFrom to front) (slice_set outlets last_place o2) final → ArePairs (TookFrom to takers) outlets final
  took_more o o2 one here took final rest = record { many = rest.many ∙ set_length outlets last_place o2; each = each }
    where
      many : length takers ≡ suc (length front)
      many = more_length front takers t ts

      each : (i : ℕ) (old new : Outlets) → slice_get outlets i ≡ Some old → slice_get final i ≡ Some new → TookFrom to takers i old new
      each i old new a b = ⊎_elim at_last before (cases_eq i last_place)
        where
          at_last : i ≡ last_place → TookFrom to takers i old new
          at_last e =
              let within = slice_get_within outlets last_place o here in
              let h = rest.each i o2 new (ap (slice_get (slice_set outlets last_place o2)) e ∙ set_here outlets last_place o2 within) b in
              let peer : i + 1 ≡ peer_at (length front) to = omega (arith, e, peer_some (length front) to) in
              let place : link_of (i + 1) to ≡ length front = ap (λ n. link_of n to) peer ∙ place_of_peer (length front) to in
              let apart : i + 1 ≢ to = λ f. peer_apart (length front) to (sym peer ∙ f) in
              let is : new ≡ o2 = h.later apart (omega (arith, place)) in
              let was : o ≡ old = some_is o old (sym here ∙ sym (ap (slice_get outlets) e) ∙ a) in
              record {
                itself = λ f. absurd (apart f);
                later = λ x le. absurd (omega (arith, le, place, many));
                link = λ x t2 f.
                    let same : t ≡ t2 = last_is front takers t t2 ts (ap (slice_get takers) (sym place) ∙ f) in
                    subst (λ (y : Option TakerView). TookIn old new y) same (subst (λ (y : Outlets). TookIn old y t) (sym is) (subst (λ (y : Outlets). TookIn y o2 t) was took));
              }

          before : i ≢ last_place → TookFrom to takers i old new
          before other =
              let h = rest.each i old new (set_other outlets last_place i o2 other ∙ a) b in
              record {
                itself = h.itself;
                later = λ apart le. h.later apart (omega (arith, le, many));
                link = λ apart t2 f. ⊎_elim
                    (λ g. h.link apart t2 g)
                    (λ g. absurd (other (by_place apart g.0)))
                    (push_cases front t t2 (link_of (i + 1) to) (ap (λ (l : List (Option TakerView)). slice_get l (link_of (i + 1) to)) (sym ts) ∙ f));
              }
            where
              by_place : i + 1 ≢ to → link_of (i + 1) to ≡ length front → i ≡ last_place
              by_place apart g = omega (arith, peer_of_place (i + 1) to (omega arith) one apart, ap (λ n. peer_at n to) g)

  module _ (markers front2 : List MarkerView) (m : MarkerView) (ms : markers ≡ front2 ++ m ∷ []) (stand : StandLast to outlets markers takers) where
    as_many : length front ≡ length front2
    as_many = omega (arith, more_length front takers t ts, more_length front2 markers m ms, stand.many)

    -- the ends of the last link are there
    pub last_within : last_place < length outlets
    last_within =
        let h = each_last (λ place x. (y : Outlets) × (slice_get outlets (peer_at place to - 1) ≡ Some y) × AllEndIn x.desk y) front2 markers m ms stand.ends in
        slice_get_within outlets last_place h.0 (ap (λ n. slice_get outlets (peer_at n to - 1)) as_many ∙ h.1)

    -- and they are those of its outbox
    pub last_stands : (o : Outlets) → slice_get outlets last_place ≡ Some o → AllEndIn m.desk o × IsAnyOf m.desk t
    last_stands o here = (ends, taker)
      where
        ends : AllEndIn m.desk o
        ends =
            let h = each_last (λ place x. (y : Outlets) × (slice_get outlets (peer_at place to - 1) ≡ Some y) × AllEndIn x.desk y) front2 markers m ms stand.ends in
            let same : h.0 ≡ o = some_is h.0 o (sym h.1 ∙ ap (λ n. slice_get outlets (peer_at n to - 1)) (sym as_many) ∙ here) in
            subst (AllEndIn m.desk) same h.2

        taker : IsAnyOf m.desk t
        taker =
            let h = each_last (λ place x. (y : MarkerView) × (slice_get markers place ≡ Some y) × IsAnyOf y.desk x) front takers t ts stand.takers_are in
            let same : h.0 ≡ m = sym (last_is front2 markers m h.0 ms (ap (slice_get markers) (sym as_many) ∙ h.1)) in
            subst (λ (y : MarkerView). IsAnyOf y.desk t) same h.2

    -- the place that the code takes for the last link's
    pub place_is : (many place : ℕ) → many ≡ length front2 → place ≡ peer_at many to - 1 → place ≡ last_place
    place_is many place is at = at ∙ ap (λ n. peer_at n to - 1) (is ∙ sym as_many)

    -- and what it finds there
    pub found_last : (o : Outlets) (place : ℕ) → place ≡ last_place → o ≡ get_or outlets place o → slice_get outlets last_place ≡ Some o
    found_last o place same found = ap (slice_get outlets) (sym same) ∙ slice_get-get_or outlets place o (omega (arith, same, last_within)) ∙ ap (λ (x : Outlets). Some x) (sym found)

    -- those of the others are as they were
    pub stand_less : (o2 : Outlets) → StandLast to (slice_set outlets last_place o2) front2 front
    stand_less o2 = record {
      many = as_many;
      ends = λ place x e.
          let h = stand.ends place x (ap (λ (l : List MarkerView). slice_get l place) ms ∙ get_before front2 m x place e) in
          let other : place ≢ length front = λ f. absurd (omega (arith, f, slice_get_within front2 place x e, as_many)) in
          (h.0, set_other outlets last_place (peer_at place to - 1) o2 (apart_from place other) ∙ h.1, h.2);
      takers_are = λ place x e.
          let h = stand.takers_are place x (ap (λ (l : List (Option TakerView)). slice_get l place) ts ∙ get_before front t x place e) in
          (h.0, sym (get_left front2 m place (omega (arith, slice_get_within front place x e, as_many))) ∙ sym (ap (λ (l : List MarkerView). slice_get l place) ms) ∙ h.1, h.2);
    }
