-- If all nodes share one set, the marked nodes that satisfy it are the greatest quorum inside them.
use Rattle.std.proofs.Common.{◌≡◌, ◌<◌, ℕ, zero, suc, Bool, true, false, cond, List, [], ◌∷◌, length, slice_get, Option, Some, None, IsSomeAnd, refl, sym, subst, ap, arith, ◌∙◌}
use Rattle.std.specs.Option.{option_map}
use Rattle.std.specs.BTreeMap as node_map
use Rattle.scp_quorum.specs.scp_types.specs.declared.names.NodeId.{NodeId}
use Rattle.scp_quorum.specs.declared.quorum.places.Seat.{Seat}
use Rattle.scp_quorum.specs.NodeSet.{node_cmp}
use Rattle.scp_quorum.specs.QuorumTree.{QuorumTree}
use Rattle.scp_quorum.specs.Satisfies.{Satisfies}
use Rattle.scp_quorum.specs.Quorum.{IsQuorum, IsWithin, IsGreatestQuorum}
use Rattle.scp_quorum.specs.Places.{set_of_group, set_of_seat, set_at, marked, is_marked_at, only}
use Rattle.scp_vote.specs.declared.statements.Entry.{Entry}
use Rattle.scp_vote.specs.declared.statements.Side.{Side}
use Rattle.scp_vote.specs.Board.{KeepsOwn}
use Rattle.scp_vote.specs.inside.Side.{side}
use Rattle.scp_vote.specs.inside.Seats.{Shared, place_in}
use Rattle.scp_vote.proofs.Picked.{own_counted}
use Rattle.scp_vote.proofs.Seating.{shared_counted}

some_and : {A : Type 0} (P : A → Type 0) (o : Option A) (x : A) → o ≡ Some x → P x → IsSomeAnd o P
some_and P None x e h = let k : None ≡ Some x = e in cc
some_and P (Some y) x e h = let k : y ≡ x = cc in subst P (sym k) h

-- of at most one set
one_set : (sets : List Shared) (g h : ℕ) (p q : QuorumTree) → length sets < 2 → set_of_group sets g ≡ Some p → set_of_group sets h ≡ Some q → p ≡ q
one_set [] g h p q few e f = let k : None ≡ Some p = e in cc
one_set (s ∷ []) zero zero p q few e f = let k : Some s.value ≡ Some p = e in let l : Some s.value ≡ Some q = f in cc
one_set (s ∷ []) zero (suc h) p q few e f = let k : None ≡ Some q = f in cc
one_set (s ∷ []) (suc g) h p q few e f = let k : None ≡ Some p = e in cc
one_set (s ∷ t ∷ sets) g h p q few e f = absurd (omega (arith, few))

-- the group of a seat
group_at : (seats : List Seat) (sets : List Shared) (o : Option ℕ) (q : QuorumTree) → set_at seats sets o ≡ Some q → (g : ℕ) × (set_of_group sets g ≡ Some q)
group_at seats sets None q e = let k : None ≡ Some q = e in cc
group_at seats sets (Some place) q e = by (slice_get seats place) e
  where
    by : (o : Option Seat) → set_of_seat sets o ≡ Some q → (g : ℕ) × (set_of_group sets g ≡ Some q)
    by None e = let k : None ≡ Some q = e in cc
    by (Some s) e = (s.group, e)

module _ (b : Side) (marks : List Bool) where
  abbrev first : NodeId → Bool
  first = marked (place_in b.table.now.entries) marks

  group_of : (v : NodeId) (q : QuorumTree) → (side b).counted v ≡ Some q → (g : ℕ) × (set_of_group b.table.now.sets.items g ≡ Some q)
  group_of v q e =
      group_at b.table.now.seats.items b.table.now.sets.items (place_in b.table.now.entries v) q
      (shared_counted b.table.now.entries b.table.now.seats.items b.table.now.sets.items b.table.now.seated v ∙ e)

  -- a marked node has a counted set
  counted_of : (v : NodeId) → first v ≡ true → (q : QuorumTree) × ((side b).counted v ≡ Some q)
  counted_of v has = by (node_map.get node_cmp b.table.now.entries v) has
    where
      by : (o : Option Entry) → is_marked_at marks (option_map (λ (e : Entry). e.place) o) ≡ true → (q : QuorumTree) × (option_map (λ (e : Entry). e.counted.value) o ≡ Some q)
      by None h = let k : false ≡ true = h in cc
      by (Some e) h = (e.counted.value, refl)

  inside : (us : NodeId → Bool) → IsQuorum (only first (side b).counted) b.me us → IsWithin us first
  inside us quorum v has = by (first v) (quorum.satisfied v has)
    where
      by : (t : Bool) → IsSomeAnd (cond t ((side b).counted v) None) (Satisfies us) → t ≡ true
      by true h = refl
      by false h = absurd h

  pub one_set_greatest : KeepsOwn (side b) → length b.table.now.sets.items < 2 → first b.me ≡ true → Satisfies first (side b).local → IsGreatestQuorum (only first (side b).counted) b.me first
  one_set_greatest keeps few has satisfied = record {
    quorum = record { has = has; satisfied = λ v its. each v its (counted_of v its) };
    others = λ us quorum. inside us quorum;
  }
    where
      each : (v : NodeId) → first v ≡ true → (q : QuorumTree) × ((side b).counted v ≡ Some q) → IsSomeAnd (only first (side b).counted v) (Satisfies first)
      each v its counted =
          let mine = counted_of b.me has in
          let local : mine.0 ≡ (side b).local = own_counted (side b) keeps mine.0 mine.1 in
          let one = group_of v counted.0 counted.1 in
          let other = group_of b.me mine.0 mine.1 in
          let same : counted.0 ≡ mine.0 = one_set b.table.now.sets.items one.0 other.0 counted.0 mine.0 few one.1 other.1 in
          let S : QuorumTree → Type 0 = λ q. Satisfies first q in
          some_and (Satisfies first) (only first (side b).counted v) counted.0 (ap (λ t. cond t ((side b).counted v) None) its ∙ counted.1) (subst S (sym (same ∙ local)) satisfied)
