-- One pass over marked places.
use Rattle.std.proofs.Common.{◌≡◌, ◌≢◌, ◌≤◌, ◌<◌, ◌+◌, ℕ, zero, suc, Bool, true, false, cond, List, [], ◌∷◌, ◌++◌, length, get_or, set, take, slice_get, count_by, Option, Some, None, IsSomeAnd, IsTrue, ◌↔◌, refl, sym, subst, ap, arith, ◌∙◌, ◌⊎◌, inl, inr}
use Rattle.std.specs.Option.{option_map}
use Rattle.std.specs.declared.sync.Arc.{Arc}
use Rattle.std.specs.Global.{Global}
use Rattle.std.proofs.lemmas.List.Sums.{sum_by-set}
use Rattle.std.proofs.lemmas.List.{get_or-set_same, get_or-set_other, take_more}
use Rattle.std.proofs.lemmas.Grind.{common_steps}
use Rattle.scp_xdr.specs.scp_types.specs.declared.names.NodeId.{NodeId}
use Rattle.scp_quorum.specs.declared.sane_set.SaneSet.{SaneSet}
use Rattle.scp_quorum.specs.declared.quorum.places.Seat.{Seat}
use Rattle.scp_quorum.specs.QuorumTree.{QuorumTree}
use Rattle.scp_quorum.specs.Satisfies.{Satisfies}
use Rattle.scp_quorum.specs.Quorum.{IsWithin, SatisfyThemselves, IsQuorum, IsGreatestQuorum, HasNoQuorum}
use Rattle.scp_quorum.specs.inside.Quorum.{KeepsQuorums}
use Rattle.scp_quorum.specs.Places.{marked, is_marked_at, set_of_group, set_of_seat, set_at, shared_set, only}
use Rattle.scp_quorum.specs.inside.Marks.{AreVerdicts, verdict_on, kept_at}
use Rattle.scp_quorum.proofs.Blocking.{Satisfies-within}
use Rattle.scp_quorum.proofs.Parts.{part_quorum, quorum_part}

abbrev pub Shared : Type 0
Shared = Arc SaneSet Global

-- one more verdict
pub verdicts_more : (nodes : NodeId → Bool) (ss : List Shared) (bs : List Bool) (s : Shared) (b : Bool) → (IsTrue b ↔ Satisfies nodes s.value) → AreVerdicts nodes ss bs → AreVerdicts nodes (ss ++ s ∷ []) (bs ++ b ∷ [])
verdicts_more nodes [] [] s b is h = (is, tt)
verdicts_more nodes [] (c ∷ bs) s b is h = absurd h
verdicts_more nodes (r ∷ ss) [] s b is h = absurd h
verdicts_more nodes (r ∷ ss) (c ∷ bs) s b is h = (h.0, verdicts_more nodes ss bs s b is h.1)

-- the verdict on the next set is pushed
pub verdicts_push : (nodes : NodeId → Bool) (ss : List Shared) (i : ℕ) (s : Shared) (bs new : List Bool) (b : Bool) (q : QuorumTree) → i < length ss → s ≡ get_or ss i s → (IsTrue b ↔ Satisfies nodes q) → q ≡ s.value → new ≡ bs ++ b ∷ [] → AreVerdicts nodes (take i ss) bs → AreVerdicts nodes (take (i + 1) ss) new
verdicts_push nodes ss i s bs new b q inside is tests same pushed h =
    let P : QuorumTree → Type 0 = λ q. IsTrue b ↔ Satisfies nodes q in
    let one = verdicts_more nodes (take i ss) bs s b (subst P same tests) h in
    let Q : List Shared → Type 0 = λ xs. AreVerdicts nodes xs new in
    let R : List Bool → Type 0 = λ xs. AreVerdicts nodes (take i ss ++ s ∷ []) xs in
    let front : take (i + 1) ss ≡ take i ss ++ s ∷ [] = take_more ss i s inside ∙ ap (λ x. take i ss ++ x ∷ []) (sym is) in
    subst Q (sym front) (subst R (sym pushed) one)

-- a good verdict is on a set that the nodes satisfy
good : (nodes : NodeId → Bool) (ss : List Shared) (bs : List Bool) (g : ℕ) → AreVerdicts nodes ss bs → get_or bs g false ≡ true → IsSomeAnd (set_of_group ss g) (Satisfies nodes)
good nodes [] [] g h e = let f : false ≡ true = e in cc
good nodes [] (b ∷ bs) g h e = absurd h
good nodes (s ∷ ss) [] g h e = absurd h
good nodes (s ∷ ss) (b ∷ bs) zero h e = h.0.0 e
good nodes (s ∷ ss) (b ∷ bs) (suc g) h e = good nodes ss bs g h.1 e

pub bad : (nodes : NodeId → Bool) (ss : List Shared) (bs : List Bool) (g : ℕ) → AreVerdicts nodes ss bs → IsSomeAnd (set_of_group ss g) (Satisfies nodes) → get_or bs g false ≡ true
bad nodes [] [] g h e = absurd e
bad nodes [] (b ∷ bs) g h e = absurd h
bad nodes (s ∷ ss) [] g h e = absurd h
bad nodes (s ∷ ss) (b ∷ bs) zero h e = h.0.1 e
bad nodes (s ∷ ss) (b ∷ bs) (suc g) h e = bad nodes ss bs g h.1 e

module _ (nodes : NodeId → Bool) (sets : List Shared) (verdicts : List Bool) (are : AreVerdicts nodes sets verdicts) where
  good_seat : (o : Option Seat) → verdict_on verdicts o ≡ true → IsSomeAnd (set_of_seat sets o) (Satisfies nodes)
  good_seat None e = let f : false ≡ true = e in cc
  good_seat (Some seat) e = good nodes sets verdicts seat.group are e

  seat_good : (o : Option Seat) → IsSomeAnd (set_of_seat sets o) (Satisfies nodes) → verdict_on verdicts o ≡ true
  seat_good None h = absurd h
  seat_good (Some seat) h = bad nodes sets verdicts seat.group are h

-- the place of a marked node
place_of : (marks : List Bool) (o : Option ℕ) → is_marked_at marks o ≡ true → (p : ℕ) × (o ≡ Some p) × (get_or marks p false ≡ true)
place_of marks None e = let f : false ≡ true = e in cc
place_of marks (Some p) e = (p, refl, e)

module _ (place : NodeId → Option ℕ) (seats : List Seat) (sets : List Shared) (verdicts old new : List Bool) (are : AreVerdicts (marked place old) sets verdicts)
    (within : (p : ℕ) → get_or new p false ≡ true → get_or old p false ≡ true) where
  pub marks_within : IsWithin (marked place new) (marked place old)
  marks_within v has =
      let at = place_of new (place v) has in
      ap (is_marked_at old) at.1 ∙ within at.0 at.2

  module _ (others : (p : ℕ) → get_or old p false ≡ true → kept_at seats verdicts p ≡ true → get_or new p false ≡ true) where
    pub marks_keep : KeepsQuorums (shared_set place seats sets) (marked place old) (marked place new)
    marks_keep us closed inside v has =
        let at = place_of old (place v) (inside v has) in
        let Q : Option ℕ → Type 0 = λ o. IsSomeAnd (set_at seats sets o) (Satisfies us) in
        let theirs : IsSomeAnd (set_of_seat sets (slice_get seats at.0)) (Satisfies us) = subst Q at.1 (closed v has) in
        let kept = seat_good (marked place old) sets verdicts are (slice_get seats at.0) (wider us (marked place old) inside (set_of_seat sets (slice_get seats at.0)) theirs) in
        ap (is_marked_at new) at.1 ∙ others at.0 at.2 kept
      where
        wider : (us ws : NodeId → Bool) → IsWithin us ws → (o : Option QuorumTree) → IsSomeAnd o (Satisfies us) → IsSomeAnd o (Satisfies ws)
        wider us ws inside None h = absurd h
        wider us ws inside (Some q) h = Satisfies-within us ws inside q h

  pub marks_settled : ((p : ℕ) → get_or old p false ≡ true → kept_at seats verdicts p ≡ true) → new ≡ old → SatisfyThemselves (shared_set place seats sets) (marked place new)
  marks_settled all same =
      let R : List Bool → Type 0 = λ marks. SatisfyThemselves (shared_set place seats sets) (marked place marks) in
      subst R (sym same) (λ v has.
      let at = place_of old (place v) has in
      let Q : Option ℕ → Type 0 = λ o. IsSomeAnd (set_at seats sets o) (Satisfies (marked place old)) in
      subst Q (sym at.1) (good_seat (marked place old) sets verdicts are (slice_get seats at.0) (all at.0 at.2)))

-- what holds once the places below i are tested
pub record IsUnmarking (seats : List Seat) (verdicts old now : List Bool) (removed : Bool) (i : ℕ) : Type 0 where
  pub len : length now ≡ length old
  pub within : (p : ℕ) → get_or now p false ≡ true → get_or old p false ≡ true
  pub others : (p : ℕ) → get_or old p false ≡ true → kept_at seats verdicts p ≡ true → get_or now p false ≡ true
  pub none : removed ≡ false → (p : ℕ) → p < i → get_or old p false ≡ true → kept_at seats verdicts p ≡ true
  pub same : removed ≡ false → now ≡ old
  pub no_more : count_by (λ b. b) now ≤ count_by (λ b. b) old
  pub fewer : removed ≡ true → count_by (λ b. b) now < count_by (λ b. b) old

pub unmarking_none : (seats : List Seat) (verdicts old : List Bool) → IsUnmarking seats verdicts old old false 0
unmarking_none seats verdicts old = record {
  len = refl;
  within = λ p h. h;
  others = λ p h k. h;
  none = λ e p below. absurd (omega arith);
  same = λ e. refl;
  no_more = omega arith;
  fewer = λ e. absurd (let f : false ≡ true = e in cc);
}

same_or_other : (p i : ℕ) → (p ≡ i) ⊎ (p ≢ i)
same_or_other p i = search (arith)

not_both : (b : Bool) → b ≡ true → b ≡ false → ⊥
not_both b e f = let k : true ≡ false = sym e ∙ f in cc

past_end : (xs : List Bool) (p : ℕ) → length xs ≤ p → get_or xs p false ≡ false
past_end [] p h = refl
past_end (x ∷ xs) zero h = absurd (omega arith)
past_end (x ∷ xs) (suc p) h = past_end xs p (omega (arith, h))

module _ (seats : List Seat) (verdicts old now : List Bool) (removed : Bool) (i : ℕ) (so_far : IsUnmarking seats verdicts old now removed i) where
  pub unmarking_by : (get_or now i false ≡ true → kept_at seats verdicts i ≡ true) → IsUnmarking seats verdicts old now removed (i + 1)
  unmarking_by kept = record {
    len = so_far.len;
    within = so_far.within;
    others = so_far.others;
    none = λ e p below h. elim (same_or_other p i) [
      | inl here ↦ subst (λ q. kept_at seats verdicts q ≡ true) (sym here) (kept (ap (λ q. get_or now q false) (sym here) ∙ ap (λ (m : List Bool). get_or m p false) (so_far.same e) ∙ h))
      | inr apart ↦ so_far.none e p (omega (arith, below, apart)) h
    ];
    same = so_far.same;
    no_more = so_far.no_more;
    fewer = so_far.fewer;
  }

  pub unmarking_one : i < length now → get_or now i false ≡ true → kept_at seats verdicts i ≡ false → IsUnmarking seats verdicts old (set now i false) true (i + 1)
  unmarking_one inside has fails =
      let less : count_by (λ b. b) (set now i false) + 1 ≡ count_by (λ b. b) now =
      (let e = sum_by-set (λ (b : Bool). let n : ℕ = cond b 1 0 in n) now i false false inside in
      let f : ◌≡◌ {A = ℕ} (cond (get_or now i false) 1 0) 1 = ap (λ b. cond b 1 0) has in
      omega (arith, e, f)) in
      record {
        len = grind (arith, common_steps, so_far.len);
        within = λ p h. elim (same_or_other p i) [
          | inl here ↦ absurd (not_both (get_or (set now i false) p false) h (ap (λ q. get_or (set now i false) q false) here ∙ get_or-set_same now i false false inside))
          | inr apart ↦ so_far.within p (sym (get_or-set_other now i p false false apart) ∙ h)
        ];
        others = λ p h kept. elim (same_or_other p i) [
          | inl here ↦ absurd (not_both (kept_at seats verdicts p) kept (ap (λ q. kept_at seats verdicts q) here ∙ fails))
          | inr apart ↦ get_or-set_other now i p false false apart ∙ so_far.others p h kept
        ];
        none = λ e. absurd (let f : true ≡ false = e in cc);
        same = λ e. absurd (let f : true ≡ false = e in cc);
        no_more = omega (arith, less, so_far.no_more);
        fewer = λ _. omega (arith, less, so_far.no_more);
      }

pub all_unmarked : (seats : List Seat) (verdicts old now : List Bool) (removed : Bool) (i : ℕ) → IsUnmarking seats verdicts old now removed i → length old ≤ i → removed ≡ false → (p : ℕ) → get_or old p false ≡ true → kept_at seats verdicts p ≡ true
all_unmarked seats verdicts old now removed i done end e p h = elim (below_or_not p (length old)) [
  | inl below ↦ done.none e p (omega (arith, below, end)) h
  | inr over ↦ absurd (not_both (get_or old p false) h (past_end old p over))
]
  where
    below_or_not : (p n : ℕ) → (p < n) ⊎ (n ≤ p)
    below_or_not p n = search (arith)

-- the quorums inside the first marks, once nothing more is unmarked
module _ (sets : NodeId → Option QuorumTree) (first now : NodeId → Bool) (me : NodeId) (within : IsWithin now first) (kept : KeepsQuorums sets first now) where
  pub greatest_among : SatisfyThemselves sets now → now me ≡ true → IsGreatestQuorum (only first sets) me now
  greatest_among settled has = record {
    quorum = quorum_part sets first me now (record { has = has; satisfied = settled }) within;
    others = λ others quorum. let h = part_quorum sets first me others quorum in kept others h.0.satisfied h.1;
  }

  pub none_among : now me ≡ false → HasNoQuorum (only first sets) me
  none_among absent nodes quorum = let h = part_quorum sets first me nodes quorum in not_both (now me) (kept nodes h.0.satisfied h.1 me quorum.has) absent
