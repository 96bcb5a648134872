-- Going over the board, the nodes that are ahead are picked.
use Rattle.std.proofs.Common.{◌≡◌, ◌≢◌, ◌<◌, ◌≤◌, ◌+◌, ◌-◌, ◌↔◌, Bool, true, false, cond, ℕ, zero, suc, [], ◌∷◌, Option, Some, None, IsTrue, IsSomeAnd, IfSome, refl, sym, ◌∙◌, ap, subst, ◌⊎◌, inl, inr, arith}
use Rattle.std.specs.Option.{ForSome}
use Rattle.std.proofs.lemmas.Bool.{cases_order}
use Rattle.std.specs.Map.{lookup}
use Rattle.std.specs.BTreeMap.{is_at}
use Rattle.scp_ballot_rules.specs.scp_types.specs.declared.names.NodeId.{NodeId}
use Rattle.scp_ballot_rules.specs.scp_quorum.specs.NodeSet.{node_cmp}
use Rattle.scp_ballot_rules.specs.scp_quorum.specs.Satisfies.{Blocks}
use Rattle.scp_ballot_rules.specs.scp_quorum.specs.Sane.{IsInRange}
use Rattle.scp_ballot_rules.specs.scp_envelope.specs.declared.statement.Pledges.{Pledges}
use Rattle.scp_ballot_rules.specs.scp_vote.specs.declared.statements.Entry.{Entry}
use Rattle.scp_ballot_rules.specs.scp_vote.specs.Board.{Seen}
use Rattle.scp_ballot_rules.specs.scp_vote.proofs.Chain.{same_at, at_itself}
use Rattle.scp_ballot_rules.specs.Owed.{AreAheadOf, counter_in}
use Rattle.scp_ballot_rules.proofs.Ahead.{none_block_nothing}
use Rattle.scp_ballot_rules.proofs.Options.{some_of, some_and, at_some, some_same, none_some}
use Rattle.scp_ballot_rules.specs.RaiseCounter.{IsLeastFree}
use Rattle.scp_ballot.specs.inside.Ahead.{IsAhead, PicksAhead, or_floor, Lessens, IsLeastOfStatement}
use Rattle.scp_ballot_rules.proofs.Gathering.{Entries}

decided : (b : Bool) → (b ≡ true) ⊎ (b ≡ false)
decided true = inl refl
decided false = inr refl

not_both : (t : Bool) → t ≡ true → t ≡ false → ⊥
not_both t e f = let k : true ≡ false = sym e ∙ f in cc

-- P holds of each node that was visited; these entries are left
abbrev pub HoldsVisited : (NodeId → Type 0) → Entries → Type 0
HoldsVisited P rest = (v : NodeId) → lookup (is_at (node_cmp v)) rest ≡ None → P v

pub visited_more : (P Q : NodeId → Type 0) (v : NodeId) (entry : Entry) (rest : Entries) → ((w : NodeId) → P w → Q w) → Q v → HoldsVisited P ((v, entry) ∷ rest) → HoldsVisited Q rest
visited_more P Q v entry rest keeps here visited w none = elim (decided (is_at (node_cmp w) v)) [
  | inl same ↦ subst Q (sym (same_at w v same)) here
  | inr apart ↦ keeps w (visited w (ap (λ t. cond t (Some entry) (lookup (is_at (node_cmp w)) rest)) apart ∙ none))
]

-- the nodes picked so far
pub record IsPickingAhead (b : Seen) (n : ℕ) (nodes : NodeId → Bool) (rest : Entries) : Type 0 where
  pub sound : (v : NodeId) → nodes v ≡ true → IsAhead b n v
  pub complete : HoldsVisited (λ v. IsAhead b n v → nodes v ≡ true) rest

module _ (b : Seen) (n : ℕ) where
  ahead_at : (v : NodeId) (p : Pledges) → b.statement v ≡ Some p → (v ≢ b.me) × (n < counter_in p) → IsAhead b n v
  ahead_at v p is h = (h.0, some_and (λ p. n < counter_in p) (b.statement v) p is h.1)

  at_ahead : (v : NodeId) (p : Pledges) → b.statement v ≡ Some p → IsAhead b n v → (v ≢ b.me) × (n < counter_in p)
  at_ahead v p is h = (h.0, at_some (λ p. n < counter_in p) (b.statement v) p is h.1)

  pub ahead_tested : (v : NodeId) (p : Pledges) (t : Bool) → b.statement v ≡ Some p → IsTrue t ↔ ((v ≢ b.me) × (n < counter_in p)) → IsTrue t ↔ IsAhead b n v
  ahead_tested v p t is exact = (λ passed. ahead_at v p is (exact.0 passed), λ h. exact.1 (at_ahead v p is h))

  module _ (v : NodeId) (entry : Entry) (rest : Entries) (nodes : NodeId → Bool) where
    pub picking_by : (IsAhead b n v → ⊥) → IsPickingAhead b n nodes ((v, entry) ∷ rest) → IsPickingAhead b n nodes rest
    picking_by fails g = record {
      sound = g.sound;
      complete = visited_more (λ w. IsAhead b n w → nodes w ≡ true) (λ w. IsAhead b n w → nodes w ≡ true) v entry rest (λ w k. k) (λ h. absurd (fails h)) g.complete;
    }

    pub picking_takes : (new : NodeId → Bool) → IsAhead b n v → ((w : NodeId) → new w ≡ cond (is_at (node_cmp v) w) true (nodes w)) → IsPickingAhead b n nodes ((v, entry) ∷ rest) → IsPickingAhead b n new rest
    picking_takes new ahead puts g = record {
      sound = λ w h. elim (decided (is_at (node_cmp v) w)) [
        | inl here ↦ subst (λ u. IsAhead b n u) (same_at v w here) ahead
        | inr apart ↦ g.sound w (sym (puts w ∙ ap (λ t. cond t true (nodes w)) apart) ∙ h)
      ];
      complete = visited_more (λ w. IsAhead b n w → nodes w ≡ true) (λ w. IsAhead b n w → new w ≡ true) v entry rest
          (λ w k h. elim (decided (is_at (node_cmp v) w)) [
            | inl here ↦ puts w ∙ ap (λ t. cond t true (nodes w)) here
            | inr apart ↦ puts w ∙ ap (λ t. cond t true (nodes w)) apart ∙ k h
          ])
          (λ h. puts v ∙ ap (λ t. cond t true (nodes v)) (at_itself v)) g.complete;
    }

  pub picking_end : (nodes : NodeId → Bool) → IsPickingAhead b n nodes [] → PicksAhead b n nodes
  picking_end nodes g v = (λ h. g.sound v h, λ h. g.complete v refl h)

  -- the picked nodes block exactly where the nodes that are ahead do
  pub ahead_by : (nodes : NodeId → Bool) (t : Bool) → PicksAhead b n nodes → IsTrue t ↔ Blocks nodes b.local → IsTrue t ↔ AreAheadOf b n
  ahead_by nodes t picks exact = (
    λ passed. record { nodes = nodes; others = λ v h. (picks v).0 h; block = exact.0 passed },
    λ h. exact.1 (λ us apart satisfied. h.block us (λ v has. outside h.nodes v (h.others v) (apart v has)) satisfied),
  )
    where
      outside : (few : NodeId → Bool) (v : NodeId) → (few v ≡ true → (v ≢ b.me) × IsSomeAnd (b.statement v) (λ p. n < counter_in p)) → nodes v ≡ false → few v ≡ false
      outside few v others e = elim (decided (few v)) [ inl in_few ↦ absurd (not_both (nodes v) ((picks v).1 (others in_few)) e) | inr f ↦ f ]

  -- where nobody is ahead, nothing is blocked
  pub nobody_ahead : IsInRange b.local → ((v : NodeId) → IsAhead b n v → ⊥) → ¬ (AreAheadOf b n)
  nobody_ahead range nobody h = none_block_nothing b.local range (λ us apart satisfied. h.block us (λ v has. elim (decided (h.nodes v)) [ inl in_few ↦ absurd (nobody v (h.others v in_few)) | inr f ↦ f ]) satisfied)

pub floor_up : (n : ℕ) (top : Option ℕ) → ForSome top (λ t. n < t) → n ≤ or_floor n top
floor_up n None h = omega arith
floor_up n (Some t) h = omega (arith, h t refl)

pub ahead_less : (b : Seen) (m n : ℕ) (v : NodeId) → m ≤ n → IsAhead b n v → IsAhead b m v
ahead_less b m n v le h =
    let p = some_of (λ p. n < counter_in p) (b.statement v) h.1 in
    (h.0, some_and (λ p. m < counter_in p) (b.statement v) p.0 p.1 (omega (arith, le, p.2)))

pub for_if : {A : Type 0} (P : A → Type 0) (o : Option A) → IfSome o P → ForSome o P
for_if P None h x e = none_some None x refl e
for_if P (Some y) h x e = subst P (some_same (Some y) y x refl e) h

pub nobody_above : (b : Seen) (n : ℕ) (top : Option ℕ) → ((v : NodeId) → IsAhead b (or_floor n top) v → ⊥) → IfSome top (λ t. (v : NodeId) → IsAhead b t v → ⊥)
nobody_above b n None h = tt
nobody_above b n (Some t) h = h

-- the counter's node is not above the greatest
pub not_over : (b : Seen) (v : NodeId) (p : Pledges) (t : ℕ) → b.statement v ≡ Some p → counter_in p ≤ t → IsAhead b t v → ⊥
not_over b v p t is le h = let k = at_some (λ p. t < counter_in p) (b.statement v) p is h.1 in absurd (omega (arith, le, k))

at_most_or : (n hi : ℕ) → (n ≤ hi) ⊎ (hi < n)
at_most_or n hi = elim (cases_order n hi) [ inl e ↦ inl (omega (arith, e)) | inr apart ↦ elim apart [ inl lt ↦ inl (omega (arith, lt)) | inr gt ↦ inr gt ] ]

pub areahead_less : (b : Seen) (m n : ℕ) → m ≤ n → AreAheadOf b n → AreAheadOf b m
areahead_less b m n le a = record { nodes = a.nodes; others = λ v h. ahead_less b m n v le (a.others v h); block = a.block }

-- From a counter that is free down to n, all counters are free if no statement has a free one in between; so n itself would be free.
module _ (b : Seen) (n new : ℕ) (ahead : AreAheadOf b n) (least : (v : NodeId) → IsLeastOfStatement b n new v) where
  down : (k : ℕ) → n + k < new → ¬ (AreAheadOf b (n + k)) → ⊥
  down zero lt free = let e : n ≡ n + 0 = omega arith in free (subst (λ m. AreAheadOf b m) e ahead)
  down (suc k) lt free = down k (omega (arith, lt)) (λ a. free (record {
    nodes = a.nodes;
    others = λ v h.
        let was = a.others v h in
        let p = some_of (λ p. n + k < counter_in p) (b.statement v) was.1 in (
          was.0,
          some_and (λ p. n + suc k < counter_in p) (b.statement v) p.0 p.1 (elim (at_most_or (counter_in p.0) (n + suc k)) [
            | inl le ↦
                let same : counter_in p.0 ≡ n + suc k = omega (arith, le, p.2) in
                absurd (omega (arith, same, lt, least v p.0 p.1 (omega (arith, p.2)) (subst (λ m. ¬ (AreAheadOf b m)) (sym same) free)))
            | inr gt ↦ gt
          ]),
        );
    block = a.block;
  }))

  pub least_free : n < new → ¬ (AreAheadOf b new) → IsLeastFree b new
  least_free up free = record {
    free = free;
    least = λ m not. elim (at_most_or new m) [
      | inl le ↦ le
      | inr lt ↦ elim (at_most_or n m) [
        | inl le ↦ (let e : m ≡ n + (m - n) = omega (arith, le) in absurd (down (m - n) (omega (arith, lt, e)) (subst (λ k. ¬ (AreAheadOf b k)) e not)))
        | inr below ↦ absurd (not (areahead_less b m n (omega (arith, below)) ahead))
      ]
    ];
  }

pub lessens_free : (b : Seen) (n counter least new : ℕ) → ¬ (AreAheadOf b least) → Lessens b n counter least new → ¬ (AreAheadOf b new)
lessens_free b n counter least new free (inl h) = subst (λ m. ¬ (AreAheadOf b m)) (sym h.0) h.3
lessens_free b n counter least new free (inr h) = subst (λ m. ¬ (AreAheadOf b m)) (sym h.0) free

pub lessens_down : (b : Seen) (n counter least new : ℕ) → Lessens b n counter least new → new ≤ least
lessens_down b n counter least new (inl h) = omega (arith, h.0, h.2)
lessens_down b n counter least new (inr h) = omega (arith, h.0)

pub lessens_here : (b : Seen) (n counter least new : ℕ) → Lessens b n counter least new → n < counter → ¬ (AreAheadOf b counter) → new ≤ counter
lessens_here b n counter least new (inl h) up free = omega (arith, h.0)
lessens_here b n counter least new (inr h) up free = omega (arith, h.0, h.1 up free)

pub least_of_more : (b : Seen) (n least new : ℕ) (v : NodeId) → new ≤ least → IsLeastOfStatement b n least v → IsLeastOfStatement b n new v
least_of_more b n least new v le h p e up free = omega (arith, le, h p e up free)

pub least_of_here : (b : Seen) (n least new : ℕ) (v : NodeId) (p : Pledges) → b.statement v ≡ Some p → Lessens b n (counter_in p) least new → IsLeastOfStatement b n new v
least_of_here b n least new v p is h q e up free =
    let same : p ≡ q = some_same (b.statement v) p q is e in
    subst (λ r. new ≤ counter_in r) same (lessens_here b n (counter_in p) least new h (subst (λ r. n < counter_in r) (sym same) up) (subst (λ r. ¬ (AreAheadOf b (counter_in r))) (sym same) free))

pub floor_rises : (n counter old : ℕ) (top : Option ℕ) → (top ≡ None → ⊥) → IfSome top (λ t. (counter ≤ t) × (old ≤ t)) → (counter ≤ or_floor n top) × (old ≤ or_floor n top)
floor_rises n counter old None some h = absurd (some refl)
floor_rises n counter old (Some t) some h = h
