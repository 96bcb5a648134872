-- The ends of the links to all nodes, as they are taken in, row by row.
use Rattle.std.proofs.Common.{◌≡◌, ◌≢◌, ◌∙◌, ⊎_elim, ℕ, ◌+◌, ◌-◌, ◌≤◌, ◌<◌, ap, sym, refl, subst, List, [], ◌∷◌, ◌++◌, length, Option, Some, None, arith}
use Rattle.std.specs.Prelude.{slice_get, option_map}
use Rattle.std.specs.Global.{Vec}
use Rattle.std.proofs.lemmas.Bool.{cases_eq}
use Rattle.std.proofs.lemmas.Option.{slice_get_within}
use Rattle.scp_outbox.specs.scp_wire.specs.declared.message.Message.{Message}
use Rattle.scp_shared_outbox.specs.Ends.{PutterView, MarkerView, TakerView}
use Rattle.scp_shared_outbox.specs.declared.outlets.Outlets.{Outlets}
use Rattle.scp_shared_outbox.specs.Places.{Each, link_of, peer_at, AreTwoOf}
use Rattle.scp_shared_outbox.specs.Table.{AllCameOut, AreAllBack, ArePuttersOf, CameOut, IsAnyTakerOf, PutAt, at_link, desk_at, desk_of}
use Rattle.scp_shared_outbox.specs.inside.Links.{AllEndIn, ArePairs, EndsIn, IsAnyOf, StandLast, TookFrom, desk_in}
use Rattle.scp_shared_outbox.proofs.Each.{get_before, each_front, each_last}
use Rattle.scp_shared_outbox.proofs.ListsOfAll.{some_is, get_left, last_of, last_is, more_length, there_is}
use Rattle.scp_shared_outbox.proofs.Peers.{ArePeers, places_before, places_of_all, peers_less, peers_still, peer_among, peer_within, peer_apart, peer_some, place_among, place_of_peer, place_next, next_place}
use Rattle.scp_shared_outbox.proofs.Desks.{desk_at_front, desk_at_last, at_link_front, at_link_last}

-- a producer's end of the outbox of the link to a node
abbrev pub IsEndTo : List (Vec MarkerView) → ℕ → ℕ → ℕ → PutterView → Type 0
IsEndTo markers node number to p = (desk_at markers node to ≡ Some p.desk) × (p.number ≡ number)

-- the ends of a node's stages for its links to the first nodes
pub record AreEndsTo (markers : List (Vec MarkerView)) (node index : ℕ) (o : Outlets) : Type 0 where
  pub pend : ArePeers (IsEndTo markers node 0) node index o.pend.items
  pub slot : ArePeers (IsEndTo markers node 1) node index o.slot.items
  pub apply : ArePeers (IsEndTo markers node 2) node index o.apply.items

-- the ends of the links to the first nodes
pub record AreLeft (count index : ℕ) (outlets : List Outlets) (markers : List (Vec MarkerView)) (takers : List (Vec (Option TakerView))) : Type 0 where
  pub few : index ≤ count
  pub markers_many : length markers ≡ index
  pub markers_are : Each (λ i row. length row.items + 1 ≡ count) markers
  pub outlets_many : length outlets ≡ count
  pub outlets_are : Each (λ i o. AreEndsTo markers (i + 1) index o) outlets
  pub takers_many : length takers ≡ index
  pub takers_fit : Each (λ i row. length row.items + 1 ≡ count) takers
  pub takers_are : Each (λ i row. Each (IsAnyTakerOf markers (i + 1)) row.items) takers

-- what was given over the links to the first nodes came out of their outboxes
abbrev pub FirstCameOut : ℕ → ℕ → List Outlets → List (Vec (Option TakerView)) → Type 0
FirstCameOut count index outlets takers = (from to : ℕ) → AreTwoOf count from to → to ≤ index → (o : Outlets) → slice_get outlets (from - 1) ≡ Some o
    → (t : TakerView) → at_link takers from to ≡ Some (Some t) → (replies said answers : List Message)
    → PutAt o.pend.items (link_of to from) replies → PutAt o.slot.items (link_of to from) said → PutAt o.apply.items (link_of to from) answers
    → CameOut replies said answers t.gave

-- ---- all of them

pub all_left : (count : ℕ) (outlets : List Outlets) (markers : List (Vec MarkerView)) (takers : List (Vec (Option TakerView))) → AreAllBack count outlets markers takers → AreLeft count (length markers) outlets markers takers
all_left count outlets markers takers back = record {
  few = omega (arith, back.markers_are.nodes);
  markers_many = refl;
  markers_are = back.markers_are.each;
  outlets_many = back.outlets_many;
  outlets_are = λ i o e.
      let within = slice_get_within outlets i o e in
      let h = back.outlets_are i o e in
      record {
        pend = ends i 0 o.pend.items (omega (arith, within, back.outlets_many)) h.pend;
        slot = ends i 1 o.slot.items (omega (arith, within, back.outlets_many)) h.slot;
        apply = ends i 2 o.apply.items (omega (arith, within, back.outlets_many)) h.apply;
      };
  takers_many = back.takers_many.nodes ∙ sym back.markers_are.nodes;
  takers_fit = back.takers_many.each;
  takers_are = back.takers_are;
}
  where
    ends : (i number : ℕ) (xs : List PutterView) → i + 1 ≤ count → ArePuttersOf count markers (i + 1) number xs → ArePeers (IsEndTo markers (i + 1) number) (i + 1) (length markers) xs
    ends i number xs most all = subst (λ n. ArePeers (IsEndTo markers (i + 1) number) (i + 1) n xs) (sym back.markers_are.nodes) (record {
      count = omega (arith, all.many, places_of_all count (i + 1) most (omega arith));
      each = all.each;
    })

pub all_came : (count index : ℕ) (outlets : List Outlets) (takers : List (Vec (Option TakerView))) → count ≤ index → FirstCameOut count index outlets takers → AllCameOut count outlets takers
all_came count index outlets takers le came from to two = came from to two (omega (arith, two.1.1, le))

-- ---- one row

module _ (count : ℕ) (outlets news : List Outlets) (markers front : List (Vec MarkerView)) (row : Vec MarkerView) (ms : markers ≡ front ++ row ∷ []) (takers front2 : List (Vec (Option TakerView))) (ends : Vec (Option TakerView)) (ts : takers ≡ front2 ++ ends ∷ [])
    (left : AreLeft count (length markers) outlets markers takers) where
  -- to which node the links of the last row lead
  abbrev to : ℕ
  to = length front + 1

  pub row_many : length row.items + 1 ≡ count
  row_many = each_last (λ i x. length x.items + 1 ≡ count) front markers row ms left.markers_are

  ends_many : length ends.items + 1 ≡ count
  ends_many = each_last (λ i x. length x.items + 1 ≡ count) front2 takers ends ts left.takers_fit

  pub as_many : length front2 ≡ length front
  as_many = omega (arith, more_length front markers row ms, more_length front2 takers ends ts, left.takers_many)

  last_row : length markers ≡ to
  last_row = omega (arith, more_length front markers row ms)

  desk_here : (place : ℕ) → desk_at markers (peer_at place to) to ≡ desk_in row.items place
  desk_here place = desk_at_last front markers row ms (peer_at place to) to refl ∙ ap (desk_in row.items) (place_of_peer place to)

  -- the ends of its links come after those of the other links
  pub row_stands : StandLast to outlets row.items ends.items
  row_stands = record { many = omega (arith, row_many, ends_many); ends = stage_ends; takers_are = row_takers }
    where
      last_ends : (place number : ℕ) (m : MarkerView) → slice_get row.items place ≡ Some m → (xs : List PutterView) → ArePeers (IsEndTo markers (peer_at place to) number) (peer_at place to) to xs → EndsIn m.desk number xs
      last_ends place number m e xs all =
          let node = peer_at place to in
          let apart : to ≢ node = λ f. peer_apart place to (sym f) in
          let next = place_next (length front) node (peer_some place to) apart in
          let split = last_of xs (omega (arith, all.count, next.0)) in
          let last = (peers_less (IsEndTo markers node number) node (length front) split.0 xs split.1 (peer_some place to) apart split.2 all).1 in
          record {
            front = split.0;
            last = split.1;
            is = split.2;
            desk_is = some_is split.1.desk m.desk (sym last.0 ∙ desk_here place ∙ ap (option_map desk_of) e);
            number_is = last.1;
          }

      stage_ends : Each (λ place m. (o : Outlets) × (slice_get outlets (peer_at place to - 1) ≡ Some o) × AllEndIn m.desk o) row.items
      stage_ends place m e =
          let node = peer_at place to in
          let within = peer_within place to count (omega (arith, slice_get_within row.items place m e, row_many)) (omega (arith, last_row, left.few)) in
          let o = there_is outlets (node - 1) (omega (arith, within.0, within.1, left.outlets_many)) in
          let one : node - 1 + 1 ≡ node = omega (arith, within.0) in
          let all = subst (λ (n : ℕ). AreEndsTo markers n to o.0) one (subst (λ (n : ℕ). AreEndsTo markers (node - 1 + 1) n o.0) last_row (left.outlets_are (node - 1) o.0 o.1)) in
          (o.0, o.1, record { pend = last_ends place 0 m e o.0.pend.items all.pend; slot = last_ends place 1 m e o.0.slot.items all.slot; apply = last_ends place 2 m e o.0.apply.items all.apply })

      any : (place : ℕ) (m : MarkerView) → slice_get row.items place ≡ Some m → (t : Option TakerView) → IsAnyTakerOf markers to place t → IsAnyOf m.desk t
      any place m e None h = tt
      any place m e (Some t) h = (some_is t.desk m.desk (sym h.0 ∙ desk_here place ∙ ap (option_map desk_of) e), h.1)

      row_takers : Each (λ place t. (m : MarkerView) × (slice_get row.items place ≡ Some m) × IsAnyOf m.desk t) ends.items
      row_takers place t e =
          let m = there_is row.items place (omega (arith, slice_get_within ends.items place t e, row_many, ends_many)) in
          let h = subst (λ (n : ℕ). Each (IsAnyTakerOf markers (n + 1)) ends.items) as_many (each_last (λ i x. Each (IsAnyTakerOf markers (i + 1)) x.items) front2 takers ends ts left.takers_are) in
          (m.0, m.1, any place m.0 m.1 t (h place t e))

  module _ (pairs : ArePairs (TookFrom to ends.items) outlets news) where
    -- and the ends of the other links are left
    pub left_less : AreLeft count (length front) news front front2
    left_less = record {
      few = omega (arith, last_row, left.few);
      markers_many = refl;
      markers_are = each_front (λ i x. length x.items + 1 ≡ count) front markers row ms left.markers_are;
      outlets_many = pairs.many ∙ left.outlets_many;
      outlets_are = outlets_are;
      takers_many = as_many;
      takers_fit = each_front (λ i x. length x.items + 1 ≡ count) front2 takers ends ts left.takers_fit;
      takers_are = λ i x e place t f.
          taker i place t (omega (arith, slice_get_within front2 i x e, as_many)) (left.takers_are i x (ap (λ (l : List (Vec (Option TakerView))). slice_get l i) ts ∙ get_before front2 ends x i e) place t f);
    }
      where
        taker : (i place : ℕ) (t : Option TakerView) → i < length front → IsAnyTakerOf markers (i + 1) place t → IsAnyTakerOf front (i + 1) place t
        taker i place None lt h = tt
        taker i place (Some t) lt h = (sym (desk_at_front front markers row ms (peer_at place (i + 1)) (i + 1) (omega arith) (omega (arith, lt))) ∙ h.0, h.1)

        -- a node's ends for the first nodes, by their markers only
        still : (node number : ℕ) (xs : List PutterView) → ArePeers (IsEndTo markers node number) node (length front) xs → ArePeers (IsEndTo front node number) node (length front) xs
        still node number xs all = record {
          count = all.count;
          each = λ place p e.
              let h = all.each place p e in
              let among = peer_among place node (length front) (omega (arith, slice_get_within xs place p e, all.count)) in
              (sym (desk_at_front front markers row ms node (peer_at place node) among.0 among.1) ∙ h.0, h.1);
        }

        itself : (node number : ℕ) (old new : List PutterView) → new ≡ old → to ≡ node → ArePeers (IsEndTo markers node number) node (length markers) old → ArePeers (IsEndTo front node number) node (length front) new
        itself node number old new e same all = still node number new
            (subst (ArePeers (IsEndTo markers node number) node (length front)) (sym e)
            (peers_still (IsEndTo markers node number) node (length front) old same (subst (λ (n : ℕ). ArePeers (IsEndTo markers node number) node n old) last_row all)))

        less : (node number : ℕ) (old new : List PutterView) (p : PutterView) → 1 ≤ node → old ≡ new ++ p ∷ [] → to ≢ node → ArePeers (IsEndTo markers node number) node (length markers) old → ArePeers (IsEndTo front node number) node (length front) new
        less node number old new p one e apart all = still node number new
            (peers_less (IsEndTo markers node number) node (length front) new old p one apart e (subst (λ (n : ℕ). ArePeers (IsEndTo markers node number) node n old) last_row all)).0

        outlets_are : Each (λ i o. AreEndsTo front (i + 1) (length front) o) news
        outlets_are i new f =
            let within = slice_get_within news i new f in
            let old = there_is outlets i (omega (arith, within, pairs.many)) in
            let took = pairs.each i old.0 new old.1 f in
            let was = left.outlets_are i old.0 old.1 in
            ⊎_elim
            (λ e. let same = took.itself e in record {
              pend = itself (i + 1) 0 old.0.pend.items new.pend.items (ap (λ (x : Outlets). x.pend.items) same) (sym e) was.pend;
              slot = itself (i + 1) 1 old.0.slot.items new.slot.items (ap (λ (x : Outlets). x.slot.items) same) (sym e) was.slot;
              apply = itself (i + 1) 2 old.0.apply.items new.apply.items (ap (λ (x : Outlets). x.apply.items) same) (sym e) was.apply;
            })
            (λ apart.
            let t = there_is ends.items (link_of (i + 1) to) (omega (arith, place_among (i + 1) to count (omega arith) (omega (arith, within, pairs.many, left.outlets_many)) (omega arith) apart, places_of_all count to (omega (arith, last_row, left.few)) (omega arith), ends_many)) in
            let one = took.link apart t.0 t.1 in
            let other : to ≢ i + 1 = λ e. apart (sym e) in
            record {
              pend = less (i + 1) 0 old.0.pend.items new.pend.items one.first (omega arith) one.shorter.pend other was.pend;
              slot = less (i + 1) 1 old.0.slot.items new.slot.items one.second (omega arith) one.shorter.slot other was.slot;
              apply = less (i + 1) 2 old.0.apply.items new.apply.items one.third (omega arith) one.shorter.apply other was.apply;
            })
            (cases_eq (i + 1) to)

    -- what was given over its links came out, if it did over the others
    pub came_more : FirstCameOut count (length front) news front2 → FirstCameOut count (length markers) outlets takers
    came_more came from to2 two le o at t there replies said answers put1 put2 put3 = ⊎_elim at_last before (cases_eq to2 to)
      where
        one : from - 1 + 1 ≡ from
        one = omega (arith, two.0.0)

        new : (x : Outlets) × (slice_get news (from - 1) ≡ Some x)
        new = there_is news (from - 1) (omega (arith, two.0, pairs.many, left.outlets_many))

        ends_are : AreEndsTo front from (length front) new.0
        ends_are = subst (λ (n : ℕ). AreEndsTo front n (length front) new.0) one (left_less.outlets_are (from - 1) new.0 new.1)

        took : TookFrom to ends.items (from - 1) o new.0
        took = pairs.each (from - 1) o new.0 at new.1

        put_last : (xs whole : List PutterView) (p : PutterView) (messages : List Message) → whole ≡ xs ++ p ∷ [] → length xs ≡ places_before (length front) from → to2 ≡ to → PutAt whole (link_of to2 from) messages → p.put ≡ messages
        put_last xs whole p messages is many e put =
            let place : link_of to2 from ≡ length xs = ap (λ n. link_of n from) e ∙ next_place (length front) from two.0.0 (λ f. two.2 (sym f ∙ sym e)) ∙ sym many in
            let same : p ≡ put.0 = last_is xs whole p put.0 is (ap (slice_get whole) (sym place) ∙ put.1) in
            ap (λ (x : PutterView). x.put) same ∙ put.2

        at_last : to2 ≡ to → CameOut replies said answers t.gave
        at_last e =
            let here : slice_get ends.items (link_of (from - 1 + 1) to) ≡ Some (Some t) =
            ap (λ n. slice_get ends.items (link_of n to)) one ∙ ap (λ n. slice_get ends.items (link_of from n)) (sym e) ∙ sym (at_link_last front2 takers ends ts from to2 (omega (arith, e, as_many))) ∙ there in
            let h = took.link (λ f. two.2 (sym one ∙ f ∙ sym e)) (Some t) here in
            subst (λ (l : List Message). CameOut l said answers t.gave) (put_last new.0.pend.items o.pend.items h.first replies h.shorter.pend ends_are.pend.count e put1)
            (subst (λ (l : List Message). CameOut h.first.put l answers t.gave) (put_last new.0.slot.items o.slot.items h.second said h.shorter.slot ends_are.slot.count e put2)
            (subst (λ (l : List Message). CameOut h.first.put h.second.put l t.gave) (put_last new.0.apply.items o.apply.items h.third answers h.shorter.apply ends_are.apply.count e put3) h.came))

        before : to2 ≢ to → CameOut replies said answers t.gave
        before other = came from to2 two less new.0 new.1 t (sym (at_link_front front2 takers ends ts from to2 two.1.0 (omega (arith, less, as_many))) ∙ there) replies said answers puts.0 puts.1 puts.2
          where
            less : to2 ≤ length front
            less = omega (arith, le, last_row, other)

            put_front : (xs whole : List PutterView) (p : PutterView) (messages : List Message) → whole ≡ xs ++ p ∷ [] → length xs ≡ places_before (length front) from → PutAt whole (link_of to2 from) messages → PutAt xs (link_of to2 from) messages
            put_front xs whole p messages is many put =
                let place = place_among to2 from (length front) two.1.0 less two.0.0 (λ f. two.2 (sym f)) in
                (put.0, sym (get_left xs p (link_of to2 from) (omega (arith, place, many))) ∙ sym (ap (λ (l : List PutterView). slice_get l (link_of to2 from)) is) ∙ put.1, put.2)

            puts : PutAt new.0.pend.items (link_of to2 from) replies × PutAt new.0.slot.items (link_of to2 from) said × PutAt new.0.apply.items (link_of to2 from) answers
            puts = ⊎_elim
                (λ e. let same = sym (took.itself (one ∙ e)) in (
                  subst (λ (x : Outlets). PutAt x.pend.items (link_of to2 from) replies) same put1,
                  subst (λ (x : Outlets). PutAt x.slot.items (link_of to2 from) said) same put2,
                  subst (λ (x : Outlets). PutAt x.apply.items (link_of to2 from) answers) same put3,
                ))
                (λ apart.
                let within = place_among from to count two.0.0 two.0.1 (omega arith) apart in
                let x = there_is ends.items (link_of (from - 1 + 1) to) (omega (arith, within, ap (λ n. link_of n to) one, places_of_all count to (omega (arith, last_row, left.few)) (omega arith), ends_many)) in
                let h = took.link (λ f. apart (sym one ∙ f)) x.0 x.1 in (
                  put_front new.0.pend.items o.pend.items h.first replies h.shorter.pend ends_are.pend.count put1,
                  put_front new.0.slot.items o.slot.items h.second said h.shorter.slot ends_are.slot.count put2,
                  put_front new.0.apply.items o.apply.items h.third answers h.shorter.apply ends_are.apply.count put3,
                ))
                (cases_eq from to)
