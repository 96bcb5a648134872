-- The ends of the links to a node, as they are handed out.
use Rattle.std.proofs.Common.{◌≡◌, ◌≢◌, ◌∙◌, ⊎_elim, ℕ, ◌+◌, ◌≤◌, ap, sym, refl, subst, List, [], ◌∷◌, ◌++◌, length, Some, arith}
use Rattle.std.specs.Prelude.{slice_get, slice_set}
use Rattle.std.proofs.lemmas.Bool.{cases_eq}
use Rattle.std.proofs.lemmas.Option.{slice_get_within}
use Rattle.std.proofs.lemmas.List.{length-append}
use Rattle.std.specs.Global.{Vec}
use Rattle.atomic_table.specs.Seated.{TableId}
use Rattle.scp_shared_outbox.specs.Ends.{PutterView, MarkerView, TakerView, AreFresh}
use Rattle.scp_shared_outbox.specs.declared.outlets.Outlets.{Outlets}
use Rattle.scp_shared_outbox.specs.Places.{Each, link_of, peer_at}
use Rattle.scp_shared_outbox.specs.Table.{AreMade, ArePuttersOf, HavePutNothing, IsTakerOf, desk_at}
use Rattle.scp_shared_outbox.specs.inside.Links.{ArePairs, HandedOut, HasFresh, HasNone, IsNewTaker, desk_in, fresh}
use Rattle.scp_shared_outbox.proofs.Each.{each_nil, each_push}
use Rattle.scp_shared_outbox.proofs.ListsOfAll.{some_is, set_here, set_other, set_length, more_length, there_is}
use Rattle.scp_shared_outbox.proofs.Peers.{ArePeers, places_before, peers_none, peers_more, peers_same, peers_all, place_next, next_place, place_same, place_of_peer}
use Rattle.scp_shared_outbox.proofs.Desks.{desk_more, desk_last, desk_at_more, desk_at_last}

-- ---- the ends of one outbox

-- three of them, each as it is made
pub three_fresh : (d : TableId) (xs : List PutterView) → length xs ≡ 3 → AreFresh d xs → xs ≡ fresh d 0 ∷ fresh d 1 ∷ fresh d 2 ∷ []
three_fresh d [] e all = absurd (omega (arith, e))
three_fresh d (a ∷ []) e all = absurd (omega (arith, e))
three_fresh d (a ∷ b ∷ []) e all = absurd (omega (arith, e))
three_fresh d (a ∷ b ∷ c ∷ []) e all =
    let x = some_is a (fresh d 0) (all 0 (omega arith)) in
    let y = some_is b (fresh d 1) (all 1 (omega arith)) in
    let z = some_is c (fresh d 2) (all 2 (omega arith)) in
    cc
three_fresh d (a ∷ b ∷ c ∷ x ∷ xs) e all = absurd (omega (arith, e))

-- ---- the links to one node

-- for one node more nothing
pub none_more : (olds news : List Outlets) (o : Outlets) (count : ℕ) → news ≡ olds ++ o ∷ [] → HasNone 0 o → length olds ≡ count → Each HasNone olds → (length news ≡ count + 1) × Each HasNone news
none_more olds news o count is here many none = (omega (arith, more_length olds news o is, many), each_push HasNone olds news o is none here)

-- what was made for the links from the first nodes
pub record IsRowSoFar (to index : ℕ) (olds news : List Outlets) (markers : List MarkerView) (takers : List TakerView) : Type 0 where
  pub markers_many : length markers ≡ places_before index to
  pub unmarked : Each (λ i m. m.marked ≡ []) markers
  pub takers_many : length takers ≡ places_before index to
  pub takers_are : Each (IsNewTaker markers) takers
  pub outlets : ArePairs (HandedOut markers to index) olds news

-- the node itself is passed over
pub row_same : (to index : ℕ) (olds news : List Outlets) (markers : List MarkerView) (takers : List TakerView) → index + 1 ≡ to → IsRowSoFar to index olds news markers takers → IsRowSoFar to (index + 1) olds news markers takers
row_same to index olds news markers takers e row = record {
  markers_many = row.markers_many ∙ sym (place_same index to e);
  unmarked = row.unmarked;
  takers_many = row.takers_many ∙ sym (place_same index to e);
  takers_are = row.takers_are;
  outlets = record {
    many = row.outlets.many;
    each = λ i old new a b. let was = row.outlets.each i old new a b in record {
      itself = was.itself;
      later = λ le. was.later (omega (arith, le));
      link = λ lt apart. was.link (omega (arith, lt, apart, e)) apart;
    };
  };
}

-- a peer's link is made
pub row_more : (to index : ℕ) (olds mids : List Outlets) (markers markers2 : List MarkerView) (takers takers2 : List TakerView) (o o2 : Outlets) (m : MarkerView) (t : TakerView)
    → 1 ≤ to → index + 1 ≢ to → slice_get mids index ≡ Some o → HasFresh t.desk o o2 → markers2 ≡ markers ++ m ∷ [] → takers2 ≡ takers ++ t ∷ [] → m.desk ≡ t.desk → m.marked ≡ [] → t.producers ≡ 3 → t.gave ≡ []
    → IsRowSoFar to index olds mids markers takers → IsRowSoFar to (index + 1) olds (slice_set mids index o2) markers2 takers2
row_more to index olds mids markers markers2 takers takers2 o o2 m t one apart here more ms ts marker unmarked three none row = record {
  markers_many = count_of MarkerView markers markers2 m ms row.markers_many;
  unmarked = each_push (λ i x. x.marked ≡ []) markers markers2 m ms row.unmarked unmarked;
  takers_many = count_of TakerView takers takers2 t ts row.takers_many;
  takers_are = each_push (IsNewTaker markers2) takers takers2 t ts (λ i x e. still i x (row.takers_are i x e)) (desk_last markers markers2 m ms (length takers) (row.takers_many ∙ sym row.markers_many) ∙ ap (λ (d : TableId). Some d) marker, three, none);
  outlets = record { many = set_length mids index o2 ∙ row.outlets.many; each = each };
}
  where
    next : places_before (index + 1) to ≡ places_before index to + 1
    next = (place_next index to one apart).0

    count_of : (T : Type 0) (xs new : List T) (x : T) → new ≡ xs ++ x ∷ [] → length xs ≡ places_before index to → length new ≡ places_before (index + 1) to
    count_of T xs new x is was = omega (arith, ap length is, length-append xs (x ∷ []), was, next)

    still : (place : ℕ) (x : TakerView) → IsNewTaker markers place x → IsNewTaker markers2 place x
    still place x h = (desk_more markers markers2 m ms place x.desk h.0, h.1, h.2)

    each : (i : ℕ) (old new : Outlets) → slice_get olds i ≡ Some old → slice_get (slice_set mids index o2) i ≡ Some new → HandedOut markers2 to (index + 1) i old new
    each i old new a b = ⊎_elim at_last before (cases_eq i index)
      where
        at_last : i ≡ index → HandedOut markers2 to (index + 1) i old new
        at_last e =
            let was = row.outlets.each i old o a (ap (slice_get mids) e ∙ here) in
            let same : o ≡ old = was.later (omega (arith, e)) in
            let is : new ≡ o2 = some_is new o2 (sym b ∙ ap (slice_get (slice_set mids index o2)) e ∙ set_here mids index o2 (slice_get_within mids index o here)) in
            let place : link_of (i + 1) to ≡ length markers = ap (λ n. link_of (n + 1) to) e ∙ next_place index to one apart ∙ sym row.markers_many in
            record {
              itself = λ self. absurd (apart (ap (λ n. n + 1) (sym e) ∙ self));
              later = λ le. absurd (omega (arith, le, e));
              link = λ lt other. (t.desk, desk_last markers markers2 m ms (link_of (i + 1) to) place ∙ ap (λ (d : TableId). Some d) marker, subst (HasFresh t.desk old) (sym is) (subst (λ (x : Outlets). HasFresh t.desk x o2) same more));
            }

        before : i ≢ index → HandedOut markers2 to (index + 1) i old new
        before other =
            let was = row.outlets.each i old new a (sym (set_other mids index i o2 other) ∙ b) in
            record {
              itself = was.itself;
              later = λ le. was.later (omega (arith, le));
              link = λ lt peer. let h = was.link (omega (arith, lt, other)) peer in (h.0, desk_more markers markers2 m ms (link_of (i + 1) to) h.0 h.1, h.2);
            }

-- ---- the links to all nodes

-- a producer's end of the outbox of the link to a node: nothing was put
abbrev pub IsNewEnd : List (Vec MarkerView) → ℕ → ℕ → ℕ → PutterView → Type 0
IsNewEnd markers node number to p = (desk_at markers node to ≡ Some p.desk) × (p.number ≡ number) × (p.put ≡ [])

-- the ends of a node's stages for its links to the first nodes
pub record AreNewEnds (markers : List (Vec MarkerView)) (node index : ℕ) (o : Outlets) : Type 0 where
  pub pend : ArePeers (IsNewEnd markers node 0) node index o.pend.items
  pub slot : ArePeers (IsNewEnd markers node 1) node index o.slot.items
  pub apply : ArePeers (IsNewEnd markers node 2) node index o.apply.items

-- what was made for the links to the first nodes
pub record AreMadeSoFar (count index : ℕ) (outlets : List Outlets) (markers : List (Vec MarkerView)) (takers : List (Vec TakerView)) : Type 0 where
  pub markers_many : length markers ≡ index
  pub markers_are : Each (λ i row. length row.items + 1 ≡ count) markers
  pub unmarked : Each (λ i row. Each (λ place m. m.marked ≡ []) row.items) markers
  pub outlets_many : length outlets ≡ count
  pub outlets_are : Each (λ i o. AreNewEnds markers (i + 1) index o) outlets
  pub takers_many : length takers ≡ index
  pub takers_fit : Each (λ i row. length row.items + 1 ≡ count) takers
  pub takers_are : Each (λ i row. Each (λ place t. IsTakerOf markers (i + 1) place t × (t.gave ≡ [])) row.items) takers

pub none_made : (count : ℕ) (outlets : List Outlets) (markers : List (Vec MarkerView)) (takers : List (Vec TakerView)) → markers ≡ [] → takers ≡ [] → length outlets ≡ count → Each HasNone outlets → AreMadeSoFar count 0 outlets markers takers
none_made count outlets markers takers is is2 many none = record {
  markers_many = ap length is;
  markers_are = subst (Each (λ i row. length row.items + 1 ≡ count)) (sym is) (each_nil (λ i row. length row.items + 1 ≡ count));
  unmarked = subst (Each (λ i row. Each (λ place m. m.marked ≡ []) row.items)) (sym is) (each_nil (λ i row. Each (λ place m. m.marked ≡ []) row.items));
  outlets_many = many;
  outlets_are = λ i o e. record { pend = start i 0 o.pend.items (none i o e).0; slot = start i 1 o.slot.items (none i o e).1; apply = start i 2 o.apply.items (none i o e).2 };
  takers_many = ap length is2;
  takers_fit = subst (Each (λ i row. length row.items + 1 ≡ count)) (sym is2) (each_nil (λ i row. length row.items + 1 ≡ count));
  takers_are = subst (Each (λ i row. Each (λ place t. IsTakerOf markers (i + 1) place t × (t.gave ≡ [])) row.items)) (sym is2) (each_nil (λ i row. Each (λ place t. IsTakerOf markers (i + 1) place t × (t.gave ≡ [])) row.items));
}
  where
    start : (i number : ℕ) (xs : List PutterView) → xs ≡ [] → ArePeers (IsNewEnd markers (i + 1) number) (i + 1) 0 xs
    start i number xs e = subst (ArePeers (IsNewEnd markers (i + 1) number) (i + 1) 0) (sym e) (peers_none (IsNewEnd markers (i + 1) number) (i + 1) (omega arith))

-- one node's row more
pub made_more : (count index : ℕ) (olds news : List Outlets) (markers markers2 : List (Vec MarkerView)) (takers takers2 : List (Vec TakerView)) (ms : Vec MarkerView) (ts : Vec TakerView)
    → markers2 ≡ markers ++ ms ∷ [] → takers2 ≡ takers ++ ts ∷ [] → length ms.items + 1 ≡ count → length ts.items + 1 ≡ count → Each (λ place m. m.marked ≡ []) ms.items → Each (IsNewTaker ms.items) ts.items → ArePairs (HandedOut ms.items (index + 1) count) olds news
    → AreMadeSoFar count index olds markers takers → AreMadeSoFar count (index + 1) news markers2 takers2
made_more count index olds news markers markers2 takers takers2 ms ts is is2 many many2 unmarked new pairs made = record {
  markers_many = omega (arith, more_length markers markers2 ms is, made.markers_many);
  markers_are = each_push (λ i row. length row.items + 1 ≡ count) markers markers2 ms is made.markers_are many;
  unmarked = each_push (λ i row. Each (λ place m. m.marked ≡ []) row.items) markers markers2 ms is made.unmarked unmarked;
  outlets_many = pairs.many ∙ made.outlets_many;
  outlets_are = outlets_are;
  takers_many = omega (arith, more_length takers takers2 ts is2, made.takers_many);
  takers_fit = each_push (λ i row. length row.items + 1 ≡ count) takers takers2 ts is2 made.takers_fit many2;
  takers_are = each_push (λ i row. Each (λ place t. IsTakerOf markers2 (i + 1) place t × (t.gave ≡ [])) row.items) takers takers2 ts is2
      (λ i row e place t f. let h = made.takers_are i row e place t f in ((desk_at_more markers markers2 ms is (peer_at place (i + 1)) (i + 1) t.desk h.0.0, h.0.1), h.1))
      last_row;
}
  where
    last_row : Each (λ place t. IsTakerOf markers2 (length takers + 1) place t × (t.gave ≡ [])) ts.items
    last_row place t f =
        let h = new place t f in
        let to = length takers + 1 in
        let at = desk_at_last markers markers2 ms is (peer_at place to) to (ap (λ n. n + 1) (made.takers_many ∙ sym made.markers_many)) in
        ((at ∙ ap (desk_in ms.items) (place_of_peer place to) ∙ h.0, h.1), h.2)

    still : (i number : ℕ) (xs : List PutterView) → ArePeers (IsNewEnd markers (i + 1) number) (i + 1) index xs → ArePeers (IsNewEnd markers2 (i + 1) number) (i + 1) index xs
    still i number xs all = record { count = all.count; each = λ place p f. let h = all.each place p f in (desk_at_more markers markers2 ms is (i + 1) (peer_at place (i + 1)) p.desk h.0, h.1, h.2) }

    more : (i number : ℕ) (d : TableId) → desk_in ms.items (link_of (i + 1) (index + 1)) ≡ Some d → (old new : List PutterView) → new ≡ old ++ fresh d number ∷ [] → index + 1 ≢ i + 1 → ArePeers (IsNewEnd markers (i + 1) number) (i + 1) index old → ArePeers (IsNewEnd markers2 (i + 1) number) (i + 1) (index + 1) new
    more i number d desk old new e apart all =
        let at = desk_at_last markers markers2 ms is (i + 1) (index + 1) (ap (λ n. n + 1) (sym made.markers_many)) in
        peers_more (IsNewEnd markers2 (i + 1) number) (i + 1) index old new (fresh d number) (omega arith) apart e (at ∙ desk, refl, refl) (still i number old all)

    itself : (i number : ℕ) (old new : List PutterView) → new ≡ old → index + 1 ≡ i + 1 → ArePeers (IsNewEnd markers (i + 1) number) (i + 1) index old → ArePeers (IsNewEnd markers2 (i + 1) number) (i + 1) (index + 1) new
    itself i number old new e self all = subst (ArePeers (IsNewEnd markers2 (i + 1) number) (i + 1) (index + 1)) (sym e) (peers_same (IsNewEnd markers2 (i + 1) number) (i + 1) index old self (still i number old all))

    outlets_are : Each (λ i o. AreNewEnds markers2 (i + 1) (index + 1) o) news
    outlets_are i o f =
        let within = slice_get_within news i o f in
        let old = there_is olds i (omega (arith, within, pairs.many)) in
        let handed = pairs.each i old.0 o old.1 f in
        let was = made.outlets_are i old.0 old.1 in
        ⊎_elim
        (λ e. let same = handed.itself e in record {
          pend = itself i 0 old.0.pend.items o.pend.items (ap (λ (x : Outlets). x.pend.items) same) (sym e) was.pend;
          slot = itself i 1 old.0.slot.items o.slot.items (ap (λ (x : Outlets). x.slot.items) same) (sym e) was.slot;
          apply = itself i 2 old.0.apply.items o.apply.items (ap (λ (x : Outlets). x.apply.items) same) (sym e) was.apply;
        })
        (λ apart. let link = handed.link (omega (arith, within, pairs.many, made.outlets_many)) apart in record {
          pend = more i 0 link.0 link.1 old.0.pend.items o.pend.items link.2.pend (λ e. apart (sym e)) was.pend;
          slot = more i 1 link.0 link.1 old.0.slot.items o.slot.items link.2.slot (λ e. apart (sym e)) was.slot;
          apply = more i 2 link.0 link.1 old.0.apply.items o.apply.items link.2.apply (λ e. apart (sym e)) was.apply;
        })
        (cases_eq (i + 1) (index + 1))

pub made_all : (count : ℕ) (outlets : List Outlets) (markers : List (Vec MarkerView)) (takers : List (Vec TakerView)) → AreMadeSoFar count count outlets markers takers → AreMade count outlets markers takers
made_all count outlets markers takers made = record {
  markers_are = record { nodes = made.markers_many; each = made.markers_are };
  unmarked = made.unmarked;
  outlets_many = made.outlets_many;
  outlets_are = λ i o e.
      let within = slice_get_within outlets i o e in
      let one : 1 ≤ i + 1 = omega arith in
      let most : i + 1 ≤ count = omega (arith, within, made.outlets_many) in
      let all = made.outlets_are i o e in (
        record { pend = ends i 0 o.pend.items one most all.pend; slot = ends i 1 o.slot.items one most all.slot; apply = ends i 2 o.apply.items one most all.apply },
        nothing i 0 o.pend.items all.pend,
        nothing i 1 o.slot.items all.slot,
        nothing i 2 o.apply.items all.apply,
      );
  takers_many = record { nodes = made.takers_many; each = made.takers_fit };
  takers_are = made.takers_are;
}
  where
    ends : (i number : ℕ) (xs : List PutterView) → 1 ≤ i + 1 → i + 1 ≤ count → ArePeers (IsNewEnd markers (i + 1) number) (i + 1) count xs → ArePuttersOf count markers (i + 1) number xs
    ends i number xs one most all = record { many = peers_all (IsNewEnd markers (i + 1) number) (i + 1) count xs one most all; each = λ place p f. let h = all.each place p f in (h.0, h.1) }

    nothing : (i number : ℕ) (xs : List PutterView) → ArePeers (IsNewEnd markers (i + 1) number) (i + 1) count xs → HavePutNothing xs
    nothing i number xs all place p f = (all.each place p f).2
