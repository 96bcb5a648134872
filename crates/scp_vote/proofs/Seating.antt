-- Seats, groups and marks of a table of statements.
use Rattle.std.proofs.Common.{◌≡◌, ◌≢◌, ◌≤◌, ◌<◌, ◌+◌, ℕ, zero, suc, Bool, true, false, cond, List, [], ◌∷◌, ◌++◌, length, get_or, set, take, drop, replicate, slice_get, Option, Some, None, Result, Ok, Err, IfOk, IsSomeAnd, IsSome, IsTrue, ◌↔◌, refl, sym, subst, ap, arith, ◌∙◌, ◌⊎◌, inl, inr}
use Rattle.std.specs.Option.{option_map, ForSome}
use Rattle.std.specs.Map.{lookup}
use Rattle.std.specs.BTreeMap as node_map
use Rattle.std.specs.BTreeMap.{BTreeMap, is_at}
use Rattle.std.specs.Bool.{OnTrue, OnFalse}
use Rattle.std.proofs.lemmas.Bool.{OnTrue_at, OnFalse_at, OnTrue_from, OnFalse_from}
use Rattle.std.proofs.lemmas.List.{get_or-set_same, get_or-set_other}
use Rattle.std.proofs.lemmas.Grind.{common_steps}
use Rattle.scp_quorum.specs.scp_types.specs.declared.names.NodeId.{NodeId}
use Rattle.scp_quorum.specs.declared.quorum.places.Seat.{Seat}
use Rattle.scp_quorum.specs.NodeSet.{node_cmp}
use Rattle.scp_quorum.specs.QuorumTree.{QuorumTree}
use Rattle.scp_quorum.specs.Places.{set_of_group, set_of_seat, set_at, shared_set, marked, is_marked_at, only}
use Rattle.scp_vote.specs.declared.statements.Entry.{Entry}
use Rattle.scp_quorum.specs.Satisfies.{Satisfies, Blocks}
use Rattle.scp_quorum.specs.Quorum.{IsQuorum, IsWithin, IsGreatestQuorum, HasNoQuorum}
use Rattle.scp_quorum.proofs.Blocking.{Satisfies-within}
use Rattle.scp_quorum.specs.scp_types.specs.declared.fault.Fault.{Fault}
use Rattle.scp_envelope.specs.declared.statement.Pledges.{Pledges}
use Rattle.scp_vote.specs.declared.claim.Claim.{Claim}
use Rattle.scp_vote.specs.declared.claim.Support.TheVariants.{VotesOrAccepts, Accepts}
use Rattle.scp_vote.specs.Claims.{Stands}
use Rattle.scp_vote.specs.declared.statements.Side.{Side}
use Rattle.scp_vote.specs.inside.Side.{side}
use Rattle.scp_vote.specs.Board.{Seen, Has, HasQuorumOf, IsBlockedBy, Accepted, IsGreatestWhere}
use Rattle.scp_vote.specs.inside.Statements.{Enters, PicksNodes, PicksSets}
use Rattle.scp_vote.specs.inside.Seats.{Shared, IsSeated, AreSeated, place_in, KeepsSets, IsUnused, IsPlaceFor, IsPutAt}
use Rattle.scp_vote.proofs.Chain.{same_at, at_itself}
use Rattle.scp_vote.proofs.Picked.{greatest_picked, none_picked, blocked_iff}
use Rattle.scp_vote.proofs.Picking.{Entries, IsPicking, picking_takes, picking_by, has_at, at_has}

-- lists and places

pub get_set_same : {X : Type 0} (xs : List X) (i : ℕ) (y : X) → i < length xs → slice_get (set xs i y) i ≡ Some y
get_set_same [] i y h = absurd (omega (arith, h))
get_set_same (x ∷ xs) zero y h = refl
get_set_same (x ∷ xs) (suc i) y h = get_set_same xs i y (omega (arith, h))

pub get_set_other : {X : Type 0} (xs : List X) (i j : ℕ) (y : X) → j ≢ i → slice_get (set xs i y) j ≡ slice_get xs j
get_set_other [] i j y h = refl
get_set_other (x ∷ xs) zero zero y h = absurd (h refl)
get_set_other (x ∷ xs) zero (suc j) y h = refl
get_set_other (x ∷ xs) (suc i) zero y h = refl
get_set_other (x ∷ xs) (suc i) (suc j) y h = get_set_other xs i j y (λ e. h (omega (arith, e)))

pub get_behind : {X : Type 0} (xs : List X) (y : X) → slice_get (xs ++ y ∷ []) (length xs) ≡ Some y
get_behind [] y = refl
get_behind (x ∷ xs) y = get_behind xs y

pub get_before : {X : Type 0} (xs : List X) (y x : X) (j : ℕ) → slice_get xs j ≡ Some x → slice_get (xs ++ y ∷ []) j ≡ Some x
get_before [] y x j h = let k : None ≡ Some x = h in cc
get_before (z ∷ xs) y x zero h = h
get_before (z ∷ xs) y x (suc j) h = get_before xs y x j h

pub get_inside : {X : Type 0} (xs : List X) (x : X) (j : ℕ) → slice_get xs j ≡ Some x → j < length xs
get_inside [] x j h = let k : None ≡ Some x = h in cc
get_inside (z ∷ xs) x zero h = omega arith
get_inside (z ∷ xs) x (suc j) h = let k = get_inside xs x j h in omega (arith, k)

pub get_taken : {X : Type 0} (xs : List X) (x : X) (j n : ℕ) → j < n → slice_get xs j ≡ Some x → slice_get (take n xs) j ≡ Some x
get_taken [] x j n h e = let k : None ≡ Some x = e in cc
get_taken (z ∷ xs) x j zero h e = absurd (omega (arith, h))
get_taken (z ∷ xs) x zero (suc n) h e = e
get_taken (z ∷ xs) x (suc j) (suc n) h e = get_taken xs x j n (omega (arith, h)) e

same_or_other : (p i : ℕ) → (p ≡ i) ⊎ (p ≢ i)
same_or_other p i = search (arith)

pub put_behind : {X : Type 0} (xs new : List X) (place : ℕ) (x : X) → new ≡ xs ++ x ∷ [] → place ≤ length xs → length xs ≤ place → IsPutAt xs new place x
put_behind xs new place x pushed h k =
    let at : place ≡ length xs = omega (arith, h, k) in
    record {
      there = ap (λ n. slice_get n place) pushed ∙ ap (slice_get (xs ++ x ∷ [])) at ∙ get_behind xs x;
      others = λ p apart y e. ap (λ n. slice_get n p) pushed ∙ get_before xs x y p e;
    }

pub put_over : {X : Type 0} (xs new : List X) (place : ℕ) (x : X) → new ≡ set xs place x → place < length xs → IsPutAt xs new place x
put_over xs new place x is h = record {
  there = ap (λ n. slice_get n place) is ∙ get_set_same xs place x h;
  others = λ p apart y e. ap (λ n. slice_get n p) is ∙ get_set_other xs place p x apart ∙ e;
}

some_of : {A : Type 0} (P : A → Type 0) (o : Option A) → IsSomeAnd o P → (x : A) × (o ≡ Some x) × P x
some_of P None h = absurd h
some_of P (Some x) h = (x, refl, h)

some_and : {A : Type 0} (P : A → Type 0) (o : Option A) (x : A) → o ≡ Some x → P x → IsSomeAnd o P
some_and P None x e h = let k : None ≡ Some x = e in cc
some_and P (Some y) x e h = let k : y ≡ x = cc in subst P (sym k) h

group_at : (sets : List Shared) (g : ℕ) (q : QuorumTree) → set_of_group sets g ≡ Some q → (s : Shared) × (slice_get sets g ≡ Some s) × (s.value ≡ q)
group_at sets g q e = by (slice_get sets g) e
  where
    by : (o : Option Shared) → option_map (λ (shared : Shared). shared.value) o ≡ Some q → (s : Shared) × (o ≡ Some s) × (s.value ≡ q)
    by None e = let k : None ≡ Some q = e in cc
    by (Some s) e = (s, refl, let k : s.value ≡ q = cc in k)

-- putting a set where no seat's group is keeps the sets of the seats
pub sets_kept : (seats : List Seat) (old new : List Shared) (g : ℕ) (s : Shared) → IsUnused seats (length old) g → IsPutAt old new g s → KeepsSets seats old new
sets_kept seats old new g s unused put p seat at q e =
    let had = group_at old seat.group q e in
    ap (option_map (λ (shared : Shared). shared.value)) (put.others seat.group (unused p seat at (get_inside old had.0 seat.group had.1)) had.0 had.1) ∙ ap Some had.2

pub set_put : (old new : List Shared) (g : ℕ) (s : Shared) (q : QuorumTree) → IsPutAt old new g s → s.value ≡ q → set_of_group new g ≡ Some q
set_put old new g s q put e = ap (option_map (λ (shared : Shared). shared.value)) put.there ∙ ap Some e

pub same_sets : (seats : List Seat) (old new : List Shared) → new ≡ old → KeepsSets seats old new
same_sets seats old new same p seat at q e = ap (λ sets. set_of_group sets seat.group) same ∙ e

-- marking the groups of the seats
abbrev pub IsMarkingGroups : List Seat → List Bool → ℕ → ℕ → Type 0
IsMarkingGroups seats used groups i = (length used ≡ groups) × ((p : ℕ) (s : Seat) → p < i → slice_get seats p ≡ Some s → s.group < groups → get_or used s.group false ≡ true)

pub unused_by : (seats : List Seat) (used : List Bool) (groups g i : ℕ) → IsMarkingGroups seats used groups i → length seats ≤ i → get_or used g false ≡ false → IsUnused seats groups g
unused_by seats used groups g i marking end free p s at within same =
    let e = marking.1 p s (let k = get_inside seats s p at in omega (arith, k, end)) at within in
    let f : true ≡ false = sym e ∙ ap (λ n. get_or used n false) same ∙ free in cc

pub marking_group : (seats : List Seat) (used new : List Bool) (groups i : ℕ) (seat : Seat) → slice_get seats i ≡ Some seat → new ≡ set used seat.group true → length new ≡ length used → IsMarkingGroups seats used groups i → IsMarkingGroups seats new groups (i + 1)
marking_group seats used new groups i seat at is len marking = (
  len ∙ marking.0,
  λ p s before there within. elim (same_or_other s.group seat.group) [
    | inl here ↦ ap (λ (m : List Bool). get_or m s.group false) is ∙ ap (λ n. get_or (set used seat.group true) n false) here ∙ get_or-set_same used seat.group true false (omega (arith, within, here, marking.0))
    | inr apart ↦ ap (λ (m : List Bool). get_or m s.group false) is ∙ get_or-set_other used seat.group s.group true false apart ∙ marking.1 p s (earlier p s there apart before) there within
  ],
)
  where
    earlier : (p : ℕ) (s : Seat) → slice_get seats p ≡ Some s → s.group ≢ seat.group → p < i + 1 → p < i
    earlier p s there apart before = elim (same_or_other p i) [
      | inl here ↦ absurd (apart (let k : Some s ≡ Some seat = sym there ∙ ap (slice_get seats) here ∙ at in let l : s ≡ seat = cc in ap (λ (x : Seat). x.group) l))
      | inr other ↦ omega (arith, before, other)
    ]

-- the seats of a table

module _ (entries : BTreeMap NodeId Entry) (seats : List Seat) (sets : List Shared) (seated : AreSeated entries seats sets) where
  seat_of : (v : NodeId) (e : Entry) → node_map.get node_cmp entries v ≡ Some e → (s : Seat) × (slice_get seats e.place ≡ Some s) × ((s.node ≡ v) × (set_of_group sets s.group ≡ Some e.counted.value))
  seat_of v e at = some_of (λ (s : Seat). (s.node ≡ v) × (set_of_group sets s.group ≡ Some e.counted.value)) (slice_get seats e.place) (seated v e at)

  pub place_inside : (v : NodeId) (e : Entry) → node_map.get node_cmp entries v ≡ Some e → e.place < length seats
  place_inside v e at = let s = seat_of v e at in get_inside seats s.0 e.place s.1

  -- no two nodes have one seat
  pub places_apart : (v w : NodeId) (e f : Entry) → node_map.get node_cmp entries v ≡ Some e → node_map.get node_cmp entries w ≡ Some f → e.place ≡ f.place → v ≡ w
  places_apart v w e f at too same =
      let s = seat_of v e at in
      let t = seat_of w f too in
      let k : Some s.0 ≡ Some t.0 = sym s.1 ∙ ap (slice_get seats) same ∙ t.1 in
      let l : s.0 ≡ t.0 = cc in
      sym s.2.0 ∙ ap (λ (x : Seat). x.node) l ∙ t.2.0

  -- the set of the group of a node's seat is the counted one
  pub shared_counted : (v : NodeId) → shared_set (place_in entries) seats sets v ≡ option_map (λ (e : Entry). e.counted.value) (node_map.get node_cmp entries v)
  shared_counted v = by (node_map.get node_cmp entries v) refl
    where
      at_seat : (o : Option Seat) (s : Seat) (q : QuorumTree) → o ≡ Some s → set_of_group sets s.group ≡ Some q → set_of_seat sets o ≡ Some q
      at_seat None s q e h = let k : None ≡ Some s = e in cc
      at_seat (Some t) s q e h = let k : t ≡ s = cc in ap (λ (x : Seat). set_of_group sets x.group) k ∙ h

      by : (o : Option Entry) → node_map.get node_cmp entries v ≡ o → set_at seats sets (option_map (λ (e : Entry). e.place) o) ≡ option_map (λ (e : Entry). e.counted.value) o
      by None at = refl
      by (Some e) at = let s = seat_of v e at in at_seat (slice_get seats e.place) s.0 e.counted.value s.1 s.2.1

  -- other sets, with those of the seats kept
  pub seated_kept : (new : List Shared) → KeepsSets seats sets new → AreSeated entries seats new
  seated_kept new keeps v e at =
      let s = seat_of v e at in
      some_and (λ (s : Seat). (s.node ≡ v) × (set_of_group new s.group ≡ Some e.counted.value)) (slice_get seats e.place) s.0 s.1 (s.2.0, keeps e.place s.0 s.1 e.counted.value s.2.1)

  -- a seat was put after all, and taken away again
  pub seated_again : (new : List Seat) (place : ℕ) (x : Seat) → place ≡ length seats → IsPutAt seats new place x → AreSeated entries (take place new) sets
  seated_again new place x behind put v e at =
      let s = seat_of v e at in
      let inside = get_inside seats s.0 e.place s.1 in
      some_and (λ (s : Seat). (s.node ≡ v) × (set_of_group sets s.group ≡ Some e.counted.value)) (slice_get (take place new) e.place) s.0
      (get_taken new s.0 e.place place (omega (arith, inside, behind)) (put.others e.place (λ k. let l : e.place ≡ place = k in omega (arith, inside, behind, l)) s.0 s.1)) s.2

  -- an entry was put in, with its seat
  pub seated_more : (new : BTreeMap NodeId Entry) (after : List Seat) (x : Entry) (node : NodeId) (g : ℕ) → Enters entries new x → x.envelope.statement.node ≡ node → IsPlaceFor entries (length seats) node x.place
      → IsPutAt seats after x.place (record { node = node; group = g }) → set_of_group sets g ≡ Some x.counted.value → AreSeated new after sets
  seated_more new after x node g enters own for put has v e at = elim (decided (is_at (node_cmp x.envelope.statement.node) v)) [
    | inl here ↦
        let k : Some x ≡ Some e = sym (enters v ∙ ap (λ t. cond t (Some x) (node_map.get node_cmp entries v)) here) ∙ at in
        let l : x ≡ e = cc in
        let mine : node ≡ v = sym own ∙ same_at x.envelope.statement.node v here in
        let P : Entry → Type 0 = λ (y : Entry). IsSeated after sets v y in
        subst P l (some_and (λ (s : Seat). (s.node ≡ v) × (set_of_group sets s.group ≡ Some x.counted.value)) (slice_get after x.place) (record { node = node; group = g }) put.there (mine, has))
    | inr apart ↦
        let was : node_map.get node_cmp entries v ≡ Some e = sym (enters v ∙ ap (λ t. cond t (Some x) (node_map.get node_cmp entries v)) apart) ∙ at in
        let s = seat_of v e was in
        some_and (λ (s : Seat). (s.node ≡ v) × (set_of_group sets s.group ≡ Some e.counted.value)) (slice_get after e.place) s.0 (put.others e.place (other v e was apart) s.0 s.1) s.2
  ]
    where
      decided : (b : Bool) → (b ≡ true) ⊎ (b ≡ false)
      decided true = inl refl
      decided false = inr refl

      there_or_not : (o : Option Entry) → ((f : Entry) × (o ≡ Some f)) ⊎ (o ≡ None)
      there_or_not None = inr refl
      there_or_not (Some f) = inl (f, refl)

      other : (v : NodeId) (e : Entry) → node_map.get node_cmp entries v ≡ Some e → is_at (node_cmp x.envelope.statement.node) v ≡ false → e.place ≢ x.place
      other v e was apart same = elim (there_or_not (node_map.get node_cmp entries node)) [
        | inl there ↦
            let one : v ≡ node = places_apart v node e there.0 was there.1 (same ∙ for.own there.0 there.1) in
            let t : is_at (node_cmp x.envelope.statement.node) v ≡ true = ap (is_at (node_cmp x.envelope.statement.node)) (one ∙ sym own) ∙ at_itself x.envelope.statement.node in
            let f : true ≡ false = sym t ∙ apart in cc
        | inr none ↦ let inside = place_inside v e was in let behind = for.behind none in omega (arith, inside, same, behind)
      ]

-- the same entries are seated the same
pub seated_same : (old new : BTreeMap NodeId Entry) (seats : List Seat) (sets : List Shared) → new.entries ≡ old.entries → AreSeated old seats sets → AreSeated new seats sets
seated_same old new seats sets same seated v e at = seated v e (ap (λ es. lookup (is_at (node_cmp v)) es) (sym same) ∙ at)

pub place_within : (entries : BTreeMap NodeId Entry) (seats : List Seat) (sets : List Shared) (count : ℕ) (v : NodeId) (place : ℕ) → AreSeated entries seats sets → count ≡ length seats → IsPlaceFor entries count v place → place ≤ length seats
place_within entries seats sets count v place seated counted for = by (node_map.get node_cmp entries v) refl
  where
    by : (o : Option Entry) → node_map.get node_cmp entries v ≡ o → place ≤ length seats
    by None at = let e = for.behind at in omega (arith, e, counted)
    by (Some e) at = let k = place_inside entries seats sets seated v e at in let f = for.own e at in omega (arith, k, f)

-- marks of seats

pub none_marked : (n : ℕ) (o : Option ℕ) → is_marked_at (replicate n false) o ≡ false
none_marked n None = refl
none_marked n (Some p) = all n p
  where
    all : (n p : ℕ) → get_or (replicate n false) p false ≡ false
    all zero p = refl
    all (suc n) zero = refl
    all (suc n) (suc p) = all n p

module _ (entries : BTreeMap NodeId Entry) (seats : List Seat) (sets : List Shared) (seated : AreSeated entries seats sets) where
  -- of a walk over the statements, with a mark for each that holds
  pub walks : (H : NodeId → Type 0) (marks new : List Bool) (v : NodeId) (e : Entry) (rest : Entries) (holds : Bool) → node_map.get node_cmp entries v ≡ Some e → (IsTrue holds ↔ H v) → new ≡ cond holds (set marks e.place true) marks → length marks ≡ length seats
      → IsPicking H (marked (place_in entries) marks) ((v, e) ∷ rest) → IsPicking H (marked (place_in entries) new) rest
  walks H marks new v e rest true at is same len picking =
      picking_takes H (marked (place_in entries) marks) (v, e) rest (marked (place_in entries) new) (is.0 refl) (λ w. ap (λ m. marked (place_in entries) m w) same ∙ marked_at w) picking
    where
      here : (w : NodeId) → is_at (node_cmp v) w ≡ true → marked (place_in entries) (set marks e.place true) w ≡ true
      here w t =
          ap (λ x. marked (place_in entries) (set marks e.place true) x) (sym (same_at v w t)) ∙ ap (λ o. is_marked_at (set marks e.place true) (option_map (λ (x : Entry). x.place) o)) at
          ∙ get_or-set_same marks e.place true false (let inside = place_inside entries seats sets seated v e at in omega (arith, inside, len))

      apart : (w : NodeId) (o : Option Entry) → node_map.get node_cmp entries w ≡ o → is_at (node_cmp v) w ≡ false → is_marked_at (set marks e.place true) (option_map (λ (x : Entry). x.place) o) ≡ is_marked_at marks (option_map (λ (x : Entry). x.place) o)
      apart w None k f = refl
      apart w (Some x) k f = get_or-set_other marks e.place x.place true false (λ p. let one : w ≡ v = places_apart entries seats sets seated w v x e k at p in let t : is_at (node_cmp v) w ≡ true = ap (is_at (node_cmp v)) one ∙ at_itself v in let g : true ≡ false = sym t ∙ f in cc)

      marked_at : (w : NodeId) → marked (place_in entries) (set marks e.place true) w ≡ cond (is_at (node_cmp v) w) true (marked (place_in entries) marks w)
      marked_at w = by (is_at (node_cmp v) w) (here w) (apart w (node_map.get node_cmp entries w) refl)
        where
          by : (t : Bool) → (t ≡ true → marked (place_in entries) (set marks e.place true) w ≡ true) → (t ≡ false → marked (place_in entries) (set marks e.place true) w ≡ marked (place_in entries) marks w)
              → marked (place_in entries) (set marks e.place true) w ≡ cond t true (marked (place_in entries) marks w)
          by true h k = h refl
          by false h k = k refl
  walks H marks new v e rest false at is same len picking =
      let P : List Bool → Type 0 = λ m. IsPicking H (marked (place_in entries) m) rest in
      subst P (sym same) (picking_by H (marked (place_in entries) marks) (v, e) rest (λ h. let f : false ≡ true = is.1 h in cc) picking)

-- what is written through a slice of a whole list
pub written : (len : ℕ) (items slice new : List Bool) → slice ≡ items → length new ≡ length slice → len ≡ length items → take len (new ++ drop (length new) items) ≡ new
written len items slice new same e f =
    let k : length new ≡ length items = e ∙ ap length same in
    grind (arith, common_steps, k, f)

pub marked_len : (marks new : List Bool) (place : ℕ) (holds : Bool) → new ≡ cond holds (set marks place true) marks → length new ≡ length marks
marked_len marks new place true e = grind (arith, common_steps, e)
marked_len marks new place false e = ap length e

-- a step of a walk over the statements
module _ (b : Side) (P : Pledges → Type 0) where
  pub walk_step : (marks new : List Bool) (v : NodeId) (e : Entry) (rest : Entries) (holds : Bool) → node_map.get node_cmp b.table.now.entries v ≡ Some e → (IsTrue holds ↔ P e.envelope.statement.pledges)
      → new ≡ cond holds (set marks e.place true) marks → length marks ≡ length b.table.now.seats.items
      → IsPicking (Has (side b) P) (marked (place_in b.table.now.entries) marks) ((v, e) ∷ rest) → IsPicking (Has (side b) P) (marked (place_in b.table.now.entries) new) rest
  walk_step marks new v e rest holds item tests same len picking =
      walks b.table.now.entries b.table.now.seats.items b.table.now.sets.items b.table.now.seated (Has (side b) P) marks new v e rest holds item
      (λ t. has_at b P (v, e) item (tests.0 t), λ h. tests.1 (at_has b P (v, e) item h)) same len picking

-- the sets of the marked nodes are the counted ones of those that are picked
module _ (b : Seen) (first : NodeId → Bool) (sets : NodeId → Option QuorumTree) (same : (v : NodeId) → sets v ≡ b.counted v) where
  pub picks_only : PicksSets b first (only first sets)
  picks_only = record {
    sound = λ v h. sound v (first v) h;
    same = λ v h. let e : first v ≡ true = sound v (first v) h in ap (λ t. cond t (sets v) None) e ∙ same v;
    complete = λ v e. ap (λ t. cond t (sets v) None) e ∙ same v;
  }
    where
      sound : (v : NodeId) (t : Bool) → IsSome (cond t (sets v) None) → t ≡ true
      sound v true h = refl
      sound v false h = let k : false ≡ true = h in cc

-- the same nodes are the same quorum
module _ (b : Seen) (P : Pledges → Type 0) (us ws : NodeId → Bool) (same : PicksNodes (λ v. us v ≡ true) ws) where
  pub same_greatest : IsGreatestWhere b P us → IsGreatestWhere b P ws
  same_greatest greatest = record {
    quorum = record {
      has = (same b.me).1 greatest.quorum.has;
      satisfied = λ v has. wider (b.counted v) (greatest.quorum.satisfied v ((same v).0 has));
    };
    all_have = λ v has. greatest.all_have v ((same v).0 has);
    others = λ others quorum all v has. (same v).1 (greatest.others others quorum all v has);
  }
    where
      wider : (o : Option QuorumTree) → IsSomeAnd o (Satisfies us) → IsSomeAnd o (Satisfies ws)
      wider None h = absurd h
      wider (Some q) h = Satisfies-within us ws (λ v has. (same v).1 has) q h

-- quorums inside the marked nodes
module _ (first : NodeId → Bool) (sets : NodeId → Option QuorumTree) (me : NodeId) where
  inside : (us : NodeId → Bool) → IsQuorum (only first sets) me us → IsWithin us first
  inside us quorum v has = by (first v) (quorum.satisfied v has)
    where
      by : (t : Bool) → IsSomeAnd (cond t (sets v) None) (Satisfies us) → t ≡ true
      by true h = refl
      by false h = absurd h

  pub none_without_me : first me ≡ false → HasNoQuorum (only first sets) me
  none_without_me absent us quorum = let e : true ≡ false = sym (inside us quorum me quorum.has) ∙ absent in cc

  pub none_without_local : (local : QuorumTree) → ForSome (sets me) (λ q. q ≡ local) → (Satisfies first local → ⊥) → HasNoQuorum (only first sets) me
  none_without_local local own fails us quorum =
      let within = inside us quorum in
      let at : only first sets me ≡ sets me = ap (λ t. cond t (sets me) None) (within me quorum.has) in
      let Q : Option QuorumTree → Type 0 = λ o. IsSomeAnd o (Satisfies us) in
      let mine = some_of (Satisfies us) (sets me) (subst Q at (quorum.satisfied me quorum.has)) in
      let R : QuorumTree → Type 0 = λ q. Satisfies us q in
      fails (Satisfies-within us first within local (subst R (own mine.0 mine.1) mine.2))

  module _ (others : NodeId → Option QuorumTree) (same : (v : NodeId) → sets v ≡ others v) where
    to_others : (us : NodeId → Bool) → IsQuorum (only first sets) me us → IsQuorum (only first others) me us
    to_others us quorum = record {
      has = quorum.has;
      satisfied = λ v has. let Q : Option QuorumTree → Type 0 = λ o. IsSomeAnd (cond (first v) o None) (Satisfies us) in subst Q (same v) (quorum.satisfied v has);
    }

    of_others : (us : NodeId → Bool) → IsQuorum (only first others) me us → IsQuorum (only first sets) me us
    of_others us quorum = record {
      has = quorum.has;
      satisfied = λ v has. let Q : Option QuorumTree → Type 0 = λ o. IsSomeAnd (cond (first v) o None) (Satisfies us) in subst Q (sym (same v)) (quorum.satisfied v has);
    }

    pub greatest_of_same : (us : NodeId → Bool) → IsGreatestQuorum (only first sets) me us → IsGreatestQuorum (only first others) me us
    greatest_of_same us greatest = record { quorum = to_others us greatest.quorum; others = λ ws quorum. greatest.others ws (of_others ws quorum) }

    pub none_of_same : HasNoQuorum (only first sets) me → HasNoQuorum (only first others) me
    none_of_same none us quorum = none us (of_others us quorum)

-- a quorum inside the marked nodes is one of the nodes that are picked
module _ (b : Seen) (P : Pledges → Type 0) (first : NodeId → Bool) (picked : PicksNodes (Has b P) first) where
  pub greatest_where : (us : NodeId → Bool) → IsGreatestQuorum (only first b.counted) b.me us → IsGreatestWhere b P us
  greatest_where us greatest = greatest_picked b P first picked (only first b.counted) (picks_only b first b.counted (λ v. refl)) us greatest

  pub none_where : HasNoQuorum (only first b.counted) b.me → HasQuorumOf b P → ⊥
  none_where none h = none_picked b P first picked (only first b.counted) (picks_only b first b.counted (λ v. refl)) none h

  pub quorum_where : (us : NodeId → Bool) → IsGreatestQuorum (only first b.counted) b.me us → HasQuorumOf b P
  quorum_where us greatest = let g = greatest_where us greatest in (us, g.quorum, g.all_have)

  -- what the tests of marks say of the nodes that are picked
  pub found_exactly : (r : Result Bool Fault) (us : NodeId → Bool) → IfOk r (λ yes. OnTrue yes (IsGreatestQuorum (only first b.counted) b.me us)) → IfOk r (λ yes. OnFalse yes (HasNoQuorum (only first b.counted) b.me)) → IfOk r (λ yes. IsTrue yes ↔ HasQuorumOf b P)
  found_exactly (Err e) us found none = tt
  found_exactly (Ok true) us found none = (λ t. quorum_where us (OnTrue_at refl found), λ h. refl)
  found_exactly (Ok false) us found none = (λ t. let f : false ≡ true = t in cc, λ h. absurd (none_where (OnFalse_at refl none) h))

-- what the test of marks says, by the lists that it is given
module _ (b : Side) where
  pub found_counted : (ss : List Seat) (xs : List Shared) (first us : NodeId → Bool) (r : Result Bool Fault) → ss ≡ b.table.now.seats.items → xs ≡ b.table.now.sets.items
      → IfOk r (λ yes. OnTrue yes (IsGreatestQuorum (only first (shared_set (place_in b.table.now.entries) ss xs)) b.me us)) → IfOk r (λ yes. OnTrue yes (IsGreatestQuorum (only first (side b).counted) b.me us))
  found_counted ss xs first us (Err e) same too h = tt
  found_counted ss xs first us (Ok t) same too h =
      let S : List Seat → Type 0 = λ l. OnTrue t (IsGreatestQuorum (only first (shared_set (place_in b.table.now.entries) l xs)) b.me us) in
      let X : List Shared → Type 0 = λ l. OnTrue t (IsGreatestQuorum (only first (shared_set (place_in b.table.now.entries) b.table.now.seats.items l)) b.me us) in
      let k = subst X too (subst S same h) in
      OnTrue_from t _ (λ e. greatest_of_same first (shared_set (place_in b.table.now.entries) b.table.now.seats.items b.table.now.sets.items) b.me (side b).counted
      (shared_counted b.table.now.entries b.table.now.seats.items b.table.now.sets.items b.table.now.seated) us (OnTrue_at e k))

  pub none_counted : (ss : List Seat) (xs : List Shared) (first : NodeId → Bool) (r : Result Bool Fault) → ss ≡ b.table.now.seats.items → xs ≡ b.table.now.sets.items
      → IfOk r (λ yes. OnFalse yes (HasNoQuorum (only first (shared_set (place_in b.table.now.entries) ss xs)) b.me)) → IfOk r (λ yes. OnFalse yes (HasNoQuorum (only first (side b).counted) b.me))
  none_counted ss xs first (Err e) same too h = tt
  none_counted ss xs first (Ok t) same too h =
      let S : List Seat → Type 0 = λ l. OnFalse t (HasNoQuorum (only first (shared_set (place_in b.table.now.entries) l xs)) b.me) in
      let X : List Shared → Type 0 = λ l. OnFalse t (HasNoQuorum (only first (shared_set (place_in b.table.now.entries) b.table.now.seats.items l)) b.me) in
      let k = subst X too (subst S same h) in
      OnFalse_from t _ (λ e. none_of_same first (shared_set (place_in b.table.now.entries) b.table.now.seats.items b.table.now.sets.items) b.me (side b).counted
      (shared_counted b.table.now.entries b.table.now.seats.items b.table.now.sets.items b.table.now.seated) (OnFalse_at e k))

  module _ (P : Pledges → Type 0) (items slice : List Bool) (same : slice ≡ items) (picked : PicksNodes (Has (side b) P) (marked (place_in b.table.now.entries) items)) where
    pub marks_exactly : (us : NodeId → Bool) (r : Result Bool Fault) → IfOk r (λ yes. OnTrue yes (IsGreatestQuorum (only (marked (place_in b.table.now.entries) slice) (side b).counted) b.me us))
        → IfOk r (λ yes. OnFalse yes (HasNoQuorum (only (marked (place_in b.table.now.entries) slice) (side b).counted) b.me)) → IfOk r (λ yes. IsTrue yes ↔ HasQuorumOf (side b) P)
    marks_exactly us r found none =
        let F : List Bool → Type 0 = λ m. IfOk r (λ yes. OnTrue yes (IsGreatestQuorum (only (marked (place_in b.table.now.entries) m) (side b).counted) b.me us)) in
        let N : List Bool → Type 0 = λ m. IfOk r (λ yes. OnFalse yes (HasNoQuorum (only (marked (place_in b.table.now.entries) m) (side b).counted) b.me)) in
        found_exactly (side b) P (marked (place_in b.table.now.entries) items) picked r us (subst F same found) (subst N same none)

    pub marks_none : HasNoQuorum (only (marked (place_in b.table.now.entries) slice) (side b).counted) b.me → HasQuorumOf (side b) P → ⊥
    marks_none none =
        let N : List Bool → Type 0 = λ m. HasNoQuorum (only (marked (place_in b.table.now.entries) m) (side b).counted) b.me in
        none_where (side b) P (marked (place_in b.table.now.entries) items) picked (subst N same none)

    pub marks_greatest : (us : NodeId → Bool) → IsGreatestQuorum (only (marked (place_in b.table.now.entries) slice) (side b).counted) b.me us → IsGreatestWhere (side b) P us
    marks_greatest us greatest =
        let F : List Bool → Type 0 = λ m. IsGreatestQuorum (only (marked (place_in b.table.now.entries) m) (side b).counted) b.me us in
        greatest_where (side b) P (marked (place_in b.table.now.entries) items) picked us (subst F same greatest)

    pub marks_block : (t : Bool) → (IsTrue t ↔ Blocks (marked (place_in b.table.now.entries) slice) (side b).local) → IsTrue t ↔ IsBlockedBy (side b) P
    marks_block t tests =
        let B : List Bool → Type 0 = λ m. IsTrue t ↔ Blocks (marked (place_in b.table.now.entries) m) (side b).local in
        blocked_iff (side b) P (marked (place_in b.table.now.entries) items) picked t (subst B same tests)

-- where no acceptors block the local set, a claim is accepted by a quorum
pub accepted_exactly : (b : Seen) (c : Claim) (r : Result Bool Fault) → (IsBlockedBy b (Stands Accepts c) → ⊥) → IfOk r (λ yes. IsTrue yes ↔ HasQuorumOf b (Stands VotesOrAccepts c)) → IfOk r (λ yes. IsTrue yes ↔ Accepted b c)
accepted_exactly b c (Err e) fails h = tt
accepted_exactly b c (Ok t) fails h = (λ e. inl (h.0 e), λ k. elim k [ inl quorum ↦ h.1 quorum | inr blocks ↦ absurd (fails blocks) ])
