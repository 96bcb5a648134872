-- What each rule builds is one of its steps; if it finds nothing, the state is at rest.
use Rattle.std.proofs.Common.{Bool, true, false, IsTrue, IfSome, ◌≡◌, ◌≢◌, ◌↔◌, List, Option, Some, None, IsSomeAnd, Contains, refl, sym, ◌∙◌, ap, subst, ◌⊎◌, inl, inr}
use Rattle.std.specs.Option.{ForSome}
use Rattle.scp_vote.specs.scp_types.specs.declared.ballot.Ballot.{Ballot}
use Rattle.scp_vote.specs.scp_envelope.specs.Ballots.{IsLess}
use Rattle.scp_vote.specs.declared.claim.Claim.TheVariants.{Prepared}
use Rattle.scp_vote.specs.Board.{Seen, Accepted, Confirmed}
use Rattle.scp_ballot_rules.specs.declared.state.State.{State}
use Rattle.scp_ballot_rules.specs.Order.{AtMost, IsOver, IsAbove}
use Rattle.scp_ballot_rules.specs.Ready.{NoneOver}
use Rattle.scp_ballot_rules.specs.Rules.{AcceptsPrepared, AcceptsMore, Joins, LowAfter, ConfirmsPrepared}
use Rattle.scp_ballot_rules.specs.Rests.{AcceptsNoMore, ConfirmsNoMore}
use Rattle.scp_ballot_rules.proofs.Options.{some_of, some_and, at_some}
use Rattle.scp_ballot_rules.proofs.Order.{either_way, values_decided, less_turn, less_irrefl}
use Rattle.scp_ballot_rules.specs.Finding.{AreCandidates}
use Rattle.scp_ballot_rules.specs.inside.Finding.{IsGreatest, IsPrimeUnder, Clears, JoinsState, KeepsLow, MayVote, Revises}
use Rattle.scp_ballot_rules.proofs.Primes.{not_above}

-- accept prepared
module _ (b : Seen) (old next : State) (list : List Ballot) (prepared prime low : Option Ballot)
    (g : IsGreatest (λ x. Unit {0} × Accepted b (Prepared x)) list old.prepared prepared) where
  pub accepts_prepared : next ≡ record old { prepared = prepared; prime = prime; low = low } → IsPrimeUnder b old prepared prime → Clears old.high old.low prepared prime low → AcceptsPrepared b old next
  accepts_prepared is under clears =
      let made : State = record old { prepared = prepared; prime = prime; low = low } in
      let here : AcceptsPrepared b old made = record {
        frame = refl;
        prepared = elim g.found [
          | inl same ↦ inl same
          | inr more ↦
              let x = some_of (λ x. (Unit {0} × Accepted b (Prepared x)) × IsAbove x old.prepared × Contains list x) prepared more in
              inr (some_and (λ x. Accepted b (Prepared x) × IsAbove x old.prepared) prepared x.0 x.1 (x.2.0.1, x.2.1))
        ];
        prime = under.below;
        kept = under.kept;
        low = clears;
      } in
      subst (λ s. AcceptsPrepared b old s) (sym is) here

  pub accepts_no_more : AreCandidates b list → prepared ≡ old.prepared → AcceptsNoMore b old
  accepts_no_more all same x candidate accepted above = g.others x ((all x).1 candidate) (tt, accepted) (subst (λ o. IsAbove x o) (sym same) above)

-- accept more
pub accepts_more : (b : Seen) (old next : State) (list : List Ballot) (prepared : Option Ballot) (c : Ballot) → old.low ≡ Some c → AreCandidates b list
    → IsGreatest (λ x. (x.value ≡ c.value) × Accepted b (Prepared x)) list old.prepared prepared → (prepared ≡ old.prepared → ⊥) → next ≡ record old { prepared = prepared } → AcceptsMore b old next
accepts_more b old next list prepared c is all g differs made =
    let here : AcceptsMore b old (record old { prepared = prepared }) = record {
      frame = refl;
      prepared = elim g.found [
        | inl same ↦ absurd (differs same)
        | inr more ↦
            let x = some_of (λ x. ((x.value ≡ c.value) × Accepted b (Prepared x)) × IsAbove x old.prepared × Contains list x) prepared more in
            some_and (λ x. Accepted b (Prepared x) × IsAbove x old.prepared × IsSomeAnd old.low (λ c. x.value ≡ c.value) × (x.counter ≢ 0)) prepared x.0 x.1
            (x.2.0.1, x.2.1, some_and (λ c. x.0.value ≡ c.value) old.low c is x.2.0.0, ((all x.0).0 x.2.2).counted)
      ];
    } in
    subst (λ s. AcceptsMore b old s) (sym made) here

-- confirm prepared
module _ (b : Seen) (old : State) (list : List Ballot) (best : Option Ballot) (all : AreCandidates b list)
    (g : IsGreatest (λ x. Unit {0} × Confirmed b (Prepared x)) list old.confirmed best) where
  pub confirms_more : (best ≡ old.confirmed → ⊥) → IsSomeAnd best (λ x. (x.counter ≢ 0) × Confirmed b (Prepared x) × IsAbove x old.confirmed)
  confirms_more differs = elim g.found [
    | inl same ↦ absurd (differs same)
    | inr more ↦
        let x = some_of (λ x. (Unit {0} × Confirmed b (Prepared x)) × IsAbove x old.confirmed × Contains list x) best more in
        some_and (λ x. (x.counter ≢ 0) × Confirmed b (Prepared x) × IsAbove x old.confirmed) best x.0 x.1 (((all x.0).0 x.2.2).counted, x.2.0.1, x.2.1)
  ]

  pub confirms_no_more : best ≡ old.confirmed → ConfirmsNoMore b old
  confirms_no_more same x candidate confirmed = subst (λ o. IsSomeAnd o (λ w. AtMost x w)) same (not_above x best (g.others x ((all x).1 candidate) (tt, confirmed)))

over_decided : (o : Option Ballot) (h : Ballot) → IsOver o h ⊎ (IsOver o h → ⊥)
over_decided None h = inr (λ e. absurd e)
over_decided (Some x) h = elim (either_way x h) [
  | inl le ↦ inr (λ over. elim le [ inl e ↦ less_irrefl h (subst (λ y. IsLess h y) e over.0) | inr l ↦ less_turn x h l over.0 ])
  | inr up ↦ elim (values_decided x.value h.value) [ inl same ↦ inr (λ over. over.1 same) | inr apart ↦ inl (up, apart) ]
]

module _ (old mid : State) (low : Option Ballot) (same_low : mid.low ≡ old.low) (same_prepared : mid.prepared ≡ old.prepared) (same_prime : mid.prime ≡ old.prime) where
  none_over : (h : Ballot) → NoneOver mid h → NoneOver old h
  none_over h n = (subst (λ o. IsOver o h → ⊥) same_prepared n.0, subst (λ o. IsOver o h → ⊥) same_prime n.1)

  one_over : (h : Ballot) → (NoneOver mid h → ⊥) → IsOver old.prepared h ⊎ IsOver old.prime h
  one_over h some = elim (over_decided old.prepared h) [
    | inl over ↦ inl over
    | inr under ↦ elim (over_decided old.prime h) [
      | inl over ↦ inr over
      | inr also ↦ absurd (some (subst (λ o. IsOver o h → ⊥) (sym same_prepared) under, subst (λ o. IsOver o h → ⊥) (sym same_prime) also))
    ]
  ]

  parted : (KeepsLow mid → ⊥) → ForSome old.low (λ c. ForSome mid.present (λ b. c.value ≢ b.value))
  parted lost c e p f same = lost (some_and (λ c. IsSomeAnd mid.present (λ b. c.value ≡ b.value)) mid.low c (same_low ∙ e) (some_and (λ b. c.value ≡ b.value) mid.present p f same))

  pub low_after : Revises mid low → LowAfter old (record mid { low = low })
  low_after (inl kept) = inl (kept.0 ∙ same_low, subst (λ o. IsSomeAnd o (λ c. IsSomeAnd mid.present (λ b. c.value ≡ b.value))) same_low kept.1)
  low_after (inr (inl votes)) =
      let h = some_of (λ h. (mid.present ≡ Some h) × NoneOver mid h) mid.high votes.1 in
      inr (inl (parted votes.2, some_and (λ h. (mid.present ≡ Some h) × (low ≡ Some h) × NoneOver old h) mid.high h.0 h.1 (h.2.0, votes.0 ∙ h.2.0, none_over h.0 h.2.1)))
  low_after (inr (inr none)) =
      inr (inr (none.0, (λ h e f. one_over h (λ n. none.1 (some_and (λ h. (mid.present ≡ Some h) × NoneOver mid h) mid.high h e (f, n)))), parted none.2))

pub may_vote_at : (s : State) (h : Ballot) (t : Bool) → s.high ≡ Some h → s.present ≡ Some h → IsTrue t ↔ NoneOver s h → IsTrue t ↔ MayVote s
may_vote_at s h t high present exact = (
  λ yes. some_and (λ h. (s.present ≡ Some h) × NoneOver s h) s.high h high (present, exact.0 yes),
  λ votes. exact.1 (at_some (λ h. (s.present ≡ Some h) × NoneOver s h) s.high h high votes).1,
)

pub joins_below : (x p : Ballot) (old next : State) → old.present ≡ Some p → (IsLess p x → ⊥)
    → ((p.value ≡ x.value) × (next ≡ record old { confirmed = Some x; high = Some x })) ⊎ ((p.value ≢ x.value) × (next ≡ record old { confirmed = Some x })) → JoinsState x old next
joins_below x p old next there notless made = elim made [
  | inl joined ↦ subst (λ s. JoinsState x old s) (sym joined.1) (record {
    frame = refl;
    joins = inr (inl (some_and (λ b. AtMost x b × (x.value ≡ b.value)) old.present p there (below, sym joined.0), refl, refl));
  })
  | inr apart ↦ subst (λ s. JoinsState x old s) (sym apart.1) (record {
    frame = refl;
    joins = inr (inr (some_and (λ b. AtMost x b × (x.value ≢ b.value)) old.present p there (below, λ e. apart.0 (sym e)), refl, refl));
  })
]
  where
    below : AtMost x p
    below = elim (either_way x p) [ inl le ↦ le | inr less ↦ absurd (notless less) ]

-- a test that failed
pub refuted : (P : Type 0) (t : Bool) → IsTrue t ↔ P → t ≡ false → P → ⊥
refuted P t exact f p = let e : t ≡ true = exact.1 p in let k : true ≡ false = sym e ∙ f in cc

pub if_some : {A : Type 0} (P : A → Type 0) (o : Option A) → IsSomeAnd o P → IfSome o P
if_some P None h = absurd h
if_some P (Some x) h = h

-- the newly confirmed ballot joined, and the low end was revised
pub confirms_prepared : (b : Seen) (x : Ballot) (old mid next : State) (low : Option Ballot) → (x.counter ≢ 0) × Confirmed b (Prepared x) × IsAbove x old.confirmed → JoinsState x old mid → Revises mid low
    → next ≡ record mid { low = low } → ConfirmsPrepared b old next
confirms_prepared b x old mid next low confirmed joins revises is =
    let here : ConfirmsPrepared b old (record mid { low = low }) = record {
      frame = ap (λ (s : State). let t : State = record s { low = low } in t) joins.frame ∙ ap (λ (o : Option Ballot). let t : State = record old { present = mid.present; confirmed = o; high = mid.high; low = low } in t) (sym there);
      confirmed = inr (some_and (λ x. (x.counter ≢ 0) × Confirmed b (Prepared x) × IsAbove x old.confirmed × Joins x old (record mid { low = low })) mid.confirmed x there
          (confirmed.0, confirmed.1, confirmed.2, joins.joins));
      low = low_after old mid low (ap (λ (s : State). s.low) joins.frame) (ap (λ (s : State). s.prepared) joins.frame) (ap (λ (s : State). s.prime) joins.frame) revises;
    } in
    subst (λ s. ConfirmsPrepared b old s) (sym is) here
  where
    there : mid.confirmed ≡ Some x
    there = ap (λ (s : State). s.confirmed) joins.frame

-- only the low end was revised
pub revises_prepared : (b : Seen) (old next : State) → next ≡ record old { low = next.low } → Revises old next.low → ConfirmsPrepared b old next
revises_prepared b old next is revises =
    let here : ConfirmsPrepared b old (record old { low = next.low }) = record {
      frame = refl;
      confirmed = inl (refl, refl, refl);
      low = low_after old old next.low refl refl refl revises;
    } in
    subst (λ s. ConfirmsPrepared b old s) (sym is) here
