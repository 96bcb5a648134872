-- The protocol is a function: from one state, over one board, each rule comes to exactly one state, and so do the rules in turn.
use Rattle.std.proofs.Common.{◌≡◌, ◌≢◌, ◌≤◌, ◌<◌, ℕ, zero, suc, List, Bool, Option, Some, None, IsSome, IsSomeAnd, refl, sym, ◌∙◌, ap, subst, ◌⊎◌, inl, inr, arith}
use Rattle.std.specs.Option.{ForSome}
use Rattle.std.specs.Ordering.{ordering_reverse}
use Rattle.std.specs.declared.cmp.Ordering.{Ordering}
use Rattle.std.specs.declared.cmp.Ordering.TheVariants.{Less, Equal, Greater}
use Rattle.std.proofs.lemmas.Cmp.{nat_list_cmp_total}
use Rattle.std.proofs.lemmas.Map.Lookups.{exact_bytes}
use Rattle.scp_vote.specs.scp_types.specs.declared.ballot.Ballot.{Ballot}
use Rattle.scp_vote.specs.scp_types.specs.declared.names.Hash.{Hash}
use Rattle.scp_vote.specs.scp_envelope.specs.Ballots.{IsLess, value_cmp}
use Rattle.scp_vote.specs.declared.claim.Claim.{Claim}
use Rattle.scp_vote.specs.declared.claim.Claim.TheVariants.{Committed}
use Rattle.scp_vote.specs.Board.{Seen, Accepted, Confirmed}
use Rattle.scp_ballot_rules.specs.declared.state.State.{State}
use Rattle.scp_ballot_rules.specs.declared.state.Phase.{Phase}
use Rattle.scp_ballot_rules.specs.declared.state.Phase.TheVariants.{Prepare, Confirm, Externalize}
use Rattle.scp_ballot_rules.specs.Order.{AtMost, FitsUnder, IsAbove}
use Rattle.scp_ballot_rules.specs.Ready.{NoneOver}
use Rattle.scp_ballot_rules.specs.Own.{counter_of}
use Rattle.scp_ballot_rules.specs.Rules.{IsHeld}
use Rattle.scp_ballot_rules.specs.Greatest.{IsGreatestOf, Where, IsOf, ballot_at}
use Rattle.scp_ballot_rules.specs.AcceptPrepared.{IsInA, IsOvertaken, AcceptsInPrepare, AcceptsInConfirm, AcceptPrepared}
use Rattle.scp_ballot_rules.specs.ConfirmPrepared.{IsConfirmedCandidate, Enters, ConfirmsInPrepare, ConfirmPrepared}
use Rattle.scp_ballot_rules.specs.Range.{IsRangeOf}
use Rattle.scp_ballot_rules.specs.AcceptCommit.{TakesRange, IsHeldOf, TakesFirst, TakesHigher, AcceptCommit}
use Rattle.scp_ballot_rules.specs.ConfirmCommit.{Commits, ConfirmCommit}
use Rattle.scp_ballot_rules.specs.RaiseCounter.{value_to_raise, Raised, RaiseTo, IsLeastFree, RaiseCounter}
use Rattle.scp_ballot_rules.specs.Steps.{OrElse, Step, renewed, Settles}
use Rattle.scp_ballot_rules.proofs.Options.{some_of, some_same, some_or_none, none_some}
use Rattle.scp_ballot_rules.proofs.Order.{less_turn}

-- two ballots that are each at most the other are one ballot
both_ways : (x y : Ballot) → AtMost x y → AtMost y x → x ≡ y
both_ways x y (inl e) k = e
both_ways x y (inr l) (inl e) = sym e
both_ways x y (inr l) (inr k) = absurd (less_turn x y l k)

pub greatest_one : (P : Ballot → Type 0) (o q : Option Ballot) → IsGreatestOf P o → IsGreatestOf P q → o ≡ q
greatest_one P o q g k = elim (some_or_none o) [
  | inl (x, e) ↦
      let y = some_of (λ y. AtMost x y) q (k.greatest x (g.among x e)) in
      let z = some_of (λ z. AtMost y.0 z) o (g.greatest y.0 (k.among y.0 y.1)) in
      let back : AtMost y.0 x = subst (λ w. AtMost y.0 w) (some_same o z.0 x z.1 e) z.2 in
      e ∙ ap Some (both_ways x y.0 y.2 back) ∙ sym y.1
  | inr none ↦ elim (some_or_none q) [
    | inl (y, e) ↦ (let z = some_of (λ z. AtMost y z) o (g.greatest y (k.among y e)) in none_some o z.0 none z.1)
    | inr also ↦ none ∙ sym also
  ]
]

pub where_one : {A : Type 0} (P : Type 0) (x w a b : A) → Where P x w a → Where P x w b → a ≡ b
where_one P x w a b (inl h) (inl k) = h.1 ∙ sym k.1
where_one P x w a b (inl h) (inr k) = absurd (k.0 h.0)
where_one P x w a b (inr h) (inl k) = absurd (h.0 k.0)
where_one P x w a b (inr h) (inr k) = h.1 ∙ sym k.1

-- a relation that comes to one state
abbrev pub IsFunction : (State → State → Type 0) → Type 0
IsFunction R = (s t u : State) → R s t → R s u → t ≡ u

accepts_one : (b : Seen) → IsFunction (λ s t. AcceptsInPrepare b s t)
accepts_one b s t u h k = h.frame ∙ ap (λ (o : Option Ballot). let r : State = record s { prepared = o; prime = t.prime; low = t.low } in r) prepared
    ∙ ap (λ (o : Option Ballot). let r : State = record s { prepared = u.prepared; prime = o; low = t.low } in r) prime
    ∙ ap (λ (o : Option Ballot). let r : State = record s { prepared = u.prepared; prime = u.prime; low = o } in r) low ∙ sym k.frame
  where
    prepared : t.prepared ≡ u.prepared
    prepared = greatest_one (λ x. IsInA Prepare b s x ⊎ (s.prepared ≡ Some x)) t.prepared u.prepared h.prepared k.prepared

    prime : t.prime ≡ u.prime
    prime = greatest_one (λ x. (IsInA Prepare b s x ⊎ IsHeld s x) × IsSomeAnd u.prepared (λ p. FitsUnder x p)) t.prime u.prime
        (subst (λ o. IsGreatestOf (λ x. (IsInA Prepare b s x ⊎ IsHeld s x) × IsSomeAnd o (λ p. FitsUnder x p)) t.prime) prepared h.prime) k.prime

    low : t.low ≡ u.low
    low = where_one (IsOvertaken s.high u.prepared u.prime) None s.low t.low u.low
        (subst (λ o. Where (IsOvertaken s.high u.prepared o) None s.low t.low) prime (subst (λ o. Where (IsOvertaken s.high o t.prime) None s.low t.low) prepared h.low)) k.low

more_one : (b : Seen) → IsFunction (λ s t. AcceptsInConfirm b s t)
more_one b s t u h k = h.frame ∙ ap (λ (o : Option Ballot). let r : State = record s { prepared = o } in r) (greatest_one (λ x. IsInA Confirm b s x ⊎ (s.prepared ≡ Some x)) t.prepared u.prepared h.prepared k.prepared) ∙ sym k.frame

both_same : (s t u : State) → t ≡ s → u ≡ s → t ≡ u
both_same s t u e f = e ∙ sym f

pub accept_prepared_one : (p : Phase) (b : Seen) → IsFunction (λ s t. AcceptPrepared p b s t)
accept_prepared_one Prepare b s t u h k = accepts_one b s t u h k
accept_prepared_one Confirm b s t u h k = more_one b s t u h k
accept_prepared_one Externalize b s t u h k = both_same s t u h k

-- what comes of w, b and h
module _ (b : Seen) (s t u : State) where
  enters_one : (x y : Ballot) → IsGreatestOf (λ z. IsConfirmedCandidate b z) (Some x) → IsGreatestOf (λ z. IsConfirmedCandidate b z) (Some y) → Enters x s t → Enters y s u → (t.confirmed ≡ u.confirmed) × (t.present ≡ u.present) × (t.high ≡ u.high)
  enters_one x y g l h k =
      let e : Some x ≡ Some y = greatest_one (λ z. IsConfirmedCandidate b z) (Some x) (Some y) g l in
      let same : x ≡ y = some_same (Some y) x y (sym e) refl in
      let m : Enters y s t = subst (λ z. Enters z s t) same h in (
        m.confirmed ∙ sym k.confirmed,
        where_one (ForSome s.present (λ b. IsLess b y)) (Some y) s.present t.present u.present m.present k.present,
        where_one (ForSome s.present (λ b. IsLess b y) ⊎ IsOf y.value s.present) (Some y) s.high t.high u.high m.high k.high,
      )

  among : (x : Ballot) → IsGreatestOf (λ z. IsConfirmedCandidate b z) (Some x) → IsConfirmedCandidate b x
  among x g = g.among x refl

  joined_one : ((x : Ballot) × IsGreatestOf (λ y. IsConfirmedCandidate b y) (Some x) × IsAbove x s.confirmed × Enters x s t) ⊎ (((x : Ballot) → IsConfirmedCandidate b x → ¬ (IsAbove x s.confirmed)) × (t.confirmed ≡ s.confirmed) × (t.present ≡ s.present) × (t.high ≡ s.high))
      → ((x : Ballot) × IsGreatestOf (λ y. IsConfirmedCandidate b y) (Some x) × IsAbove x s.confirmed × Enters x s u) ⊎ (((x : Ballot) → IsConfirmedCandidate b x → ¬ (IsAbove x s.confirmed)) × (u.confirmed ≡ s.confirmed) × (u.present ≡ s.present) × (u.high ≡ s.high))
      → (t.confirmed ≡ u.confirmed) × (t.present ≡ u.present) × (t.high ≡ u.high)
  joined_one (inl h) (inl k) = enters_one h.0 k.0 h.1 k.1 h.3 k.3
  joined_one (inl h) (inr k) = absurd (k.0 h.0 (among h.0 h.1) h.2)
  joined_one (inr h) (inl k) = absurd (h.0 k.0 (among k.0 k.1) k.2)
  joined_one (inr h) (inr k) = (h.1 ∙ sym k.1, h.2 ∙ sym k.2, h.3 ∙ sym k.3)

confirms_one : (b : Seen) → IsFunction (λ s t. ConfirmsInPrepare b s t)
confirms_one b s t u h k = h.frame ∙ ap (λ (o : Option Ballot). let r : State = record s { present = t.present; confirmed = o; high = t.high; low = t.low } in r) same.0
    ∙ ap (λ (o : Option Ballot). let r : State = record s { present = o; confirmed = u.confirmed; high = t.high; low = t.low } in r) same.1
    ∙ ap (λ (o : Option Ballot). let r : State = record s { present = u.present; confirmed = u.confirmed; high = o; low = t.low } in r) same.2
    ∙ ap (λ (o : Option Ballot). let r : State = record s { present = u.present; confirmed = u.confirmed; high = u.high; low = o } in r) low ∙ sym k.frame
  where
    same : (t.confirmed ≡ u.confirmed) × (t.present ≡ u.present) × (t.high ≡ u.high)
    same = joined_one b s t u h.joined k.joined

    cleared : h.cleared ≡ k.cleared
    cleared = where_one (IsSomeAnd s.low (λ c. IsOf c.value u.present → ⊥)) None s.low h.cleared k.cleared (subst (λ o. Where (IsSomeAnd s.low (λ c. IsOf c.value o → ⊥)) None s.low h.cleared) same.1 h.clears) k.clears

    low : t.low ≡ u.low
    low = where_one ((k.cleared ≡ None) × IsSomeAnd u.high (λ x. (u.present ≡ Some x) × NoneOver s x)) u.present k.cleared t.low u.low
        (subst (λ o. Where ((o ≡ None) × IsSomeAnd u.high (λ x. (u.present ≡ Some x) × NoneOver s x)) u.present o t.low) cleared
        (subst (λ o. Where ((h.cleared ≡ None) × IsSomeAnd u.high (λ x. (o ≡ Some x) × NoneOver s x)) o h.cleared t.low) same.1
        (subst (λ o. Where ((h.cleared ≡ None) × IsSomeAnd o (λ x. (t.present ≡ Some x) × NoneOver s x)) t.present h.cleared t.low) same.2 h.votes))) k.votes

pub confirm_prepared_one : (p : Phase) (b : Seen) → IsFunction (λ s t. ConfirmPrepared p b s t)
confirm_prepared_one Prepare b s t u h k = confirms_one b s t u h k
confirm_prepared_one Confirm b s t u h k = both_same s t u h k
confirm_prepared_one Externalize b s t u h k = both_same s t u h k

-- one rule before another, each a function
pub or_else_one : (R Q : State → State → Type 0) → IsFunction R → IsFunction Q → IsFunction (OrElse R Q)
or_else_one R Q r q s t u (inl h) (inl k) = r s t u h.0 k.0
or_else_one R Q r q s t u (inl h) (inr k) = absurd (h.1 (r s t s h.0 k.0))
or_else_one R Q r q s t u (inr h) (inl k) = absurd (k.1 (r s u s k.0 h.0))
or_else_one R Q r q s t u (inr h) (inr k) = q s t u h.1 k.1

values_by : (v w : List ℕ) (o : Ordering) → value_cmp v w ≡ o → (value_cmp v w ≡ Less) ⊎ (v ≡ w) ⊎ (value_cmp w v ≡ Less)
values_by v w Less e = inl e
values_by v w Equal e = inr (inl (exact_bytes v w e))
values_by v w Greater e = inr (inr (nat_list_cmp_total.antisymm w v ∙ ap ordering_reverse e))

values_three : (v w : List ℕ) → (value_cmp v w ≡ Less) ⊎ (v ≡ w) ⊎ (value_cmp w v ≡ Less)
values_three v w = values_by v w (value_cmp v w) refl

positive : (n : ℕ) → n ≢ 0 → 0 < n
positive n h = omega (arith, h)

module _ (R : Claim → Type 0) (b : Seen) (v : List ℕ) (lo hi lo2 hi2 : ℕ) (h : IsRangeOf R b v lo hi) (k : IsRangeOf R b v lo2 hi2) where
  hi_one : hi ≡ hi2
  hi_one = omega (arith, h.greatest hi2 k.high.0 k.high.1, k.greatest hi h.high.0 h.high.1)

  lo_one : lo ≡ lo2
  lo_one = omega (arith, h.least lo2 k.low.0 (subst (λ n. R (Committed lo2 n v)) (sym hi_one) k.low.1), k.least lo h.low.0 (subst (λ n. R (Committed lo n v)) hi_one h.low.1))

-- of one value, one state
module _ (R : Claim → Type 0) (b : Seen) (v : List ℕ) (lo hi lo2 hi2 : ℕ) (h : IsRangeOf R b v lo hi) (k : IsRangeOf R b v lo2 hi2) (s t u : State) where
  takes_one : TakesRange v lo hi s t → TakesRange v lo2 hi2 s u → t.prepared ≡ u.prepared → t ≡ u
  takes_one f g prepared =
      let m : TakesRange v lo2 hi2 s t = subst (λ n. TakesRange v lo2 n s t) (hi_one R b v lo hi lo2 hi2 h k) (subst (λ n. TakesRange v n hi s t) (lo_one R b v lo hi lo2 hi2 h k) f) in
      m.frame
      ∙ ap (λ (o : Option Ballot). let r : State = record s { phase = Confirm; present = o; prepared = t.prepared; prime = None; high = Some (ballot_at hi2 v); low = Some (ballot_at lo2 v) } in r)
      (where_one (ForSome s.present (λ x. IsLess x (ballot_at hi2 v) ⊎ (x.value ≢ v))) (Some (ballot_at hi2 v)) s.present t.present u.present m.present g.present)
      ∙ ap (λ (o : Option Ballot). let r : State = record s { phase = Confirm; present = u.present; prepared = o; prime = None; high = Some (ballot_at hi2 v); low = Some (ballot_at lo2 v) } in r) prepared ∙ sym g.frame

held_one : (v : List ℕ) (s : State) (o q : Option Ballot) → IsHeldOf v s o → IsHeldOf v s q → o ≡ q
held_one v s o q (inl h) (inl k) = h.1 ∙ sym k.1
held_one v s o q (inl h) (inr k) = absurd (k.0 h.0)
held_one v s o q (inr h) (inl k) = absurd (h.0 k.0)
held_one v s o q (inr h) (inr k) = where_one (IsOf v s.prime) s.prime None o q h.1 k.1

first_one : (b : Seen) (v w : List ℕ) (lo hi lo2 hi2 : ℕ) (s t u : State) → TakesFirst b v lo hi s t → TakesFirst b w lo2 hi2 s u → t ≡ u
first_one b v w lo hi lo2 hi2 s t u h k = elim (values_three v w) [
  | inl less ↦ absurd (k.first v less hi h.range.high.0 (positive hi h.range.high.0.counted) h.range.high.1)
  | inr other ↦ elim other [
    | inl e ↦
        let m : TakesFirst b w lo hi s t = subst (λ x. TakesFirst b x lo hi s t) e h in
        takes_one (λ c. Accepted b c) b w lo hi lo2 hi2 m.range k.range s t u m.takes k.takes (held_one w s t.prepared u.prepared m.prepared k.prepared)
    | inr more ↦ absurd (h.first w more hi2 k.range.high.0 (positive hi2 k.range.high.0.counted) k.range.high.1)
  ]
]

of_one : (v w : List ℕ) (o : Option Ballot) → IsOf v o → IsOf w o → v ≡ w
of_one v w o h k =
    let x = some_of (λ x. x.value ≡ v) o h in
    let y = some_of (λ x. x.value ≡ w) o k in
    sym x.2 ∙ ap (λ (z : Ballot). z.value) (some_same o x.0 y.0 x.1 y.1) ∙ y.2

higher_one : (b : Seen) (v w : List ℕ) (lo hi lo2 hi2 : ℕ) (s t u : State) → TakesHigher b v lo hi s t → TakesHigher b w lo2 hi2 s u → t ≡ u
higher_one b v w lo hi lo2 hi2 s t u h k =
    let m : TakesHigher b w lo hi s t = subst (λ x. TakesHigher b x lo hi s t) (of_one v w s.low h.of_low k.of_low) h in
    takes_one (λ c. Accepted b c) b w lo hi lo2 hi2 m.range k.range s t u m.takes k.takes (m.prepared ∙ sym k.prepared)

pub accept_commit_one : (p : Phase) (b : Seen) → IsFunction (λ s t. AcceptCommit p b s t)
accept_commit_one Prepare b s t u (inl h) (inl k) = first_one b h.0 k.0 h.1 h.2 k.1 k.2 s t u h.3 k.3
accept_commit_one Prepare b s t u (inl h) (inr k) = absurd (k.0 h.0 h.2 h.3.range.high.0 (positive h.2 h.3.range.high.0.counted) h.3.range.high.1)
accept_commit_one Prepare b s t u (inr h) (inl k) = absurd (h.0 k.0 k.2 k.3.range.high.0 (positive k.2 k.3.range.high.0.counted) k.3.range.high.1)
accept_commit_one Prepare b s t u (inr h) (inr k) = both_same s t u h.1 k.1
accept_commit_one Confirm b s t u (inl h) (inl k) = higher_one b h.0 k.0 h.1 h.2 k.1 k.2 s t u h.3 k.3
accept_commit_one Confirm b s t u (inl h) (inr k) = absurd (k.0 h.0 h.3.of_low h.2 h.3.range.high.0 h.3.above h.3.range.high.1)
accept_commit_one Confirm b s t u (inr h) (inl k) = absurd (h.0 k.0 k.3.of_low k.2 k.3.range.high.0 k.3.above k.3.range.high.1)
accept_commit_one Confirm b s t u (inr h) (inr k) = both_same s t u h.1 k.1
accept_commit_one Externalize b s t u h k = both_same s t u h k

commits_one : (b : Seen) (v w : List ℕ) (lo hi lo2 hi2 : ℕ) (s t u : State) → Commits b v lo hi s t → Commits b w lo2 hi2 s u → t ≡ u
commits_one b v w lo hi lo2 hi2 s t u h k =
    let m : Commits b w lo hi s t = subst (λ x. Commits b x lo hi s t) (of_one v w s.low h.of_low k.of_low) h in
    m.takes
    ∙ ap (λ n. let r : State = record s { phase = Externalize; high = Some (ballot_at n w); low = Some (ballot_at lo w) } in r) (hi_one (λ c. Confirmed b c) b w lo hi lo2 hi2 m.range k.range)
    ∙ ap (λ n. let r : State = record s { phase = Externalize; high = Some (ballot_at hi2 w); low = Some (ballot_at n w) } in r) (lo_one (λ c. Confirmed b c) b w lo hi lo2 hi2 m.range k.range) ∙ sym k.takes

pub confirm_commit_one : (p : Phase) (b : Seen) → IsFunction (λ s t. ConfirmCommit p b s t)
confirm_commit_one Prepare b s t u h k = both_same s t u h k
confirm_commit_one Confirm b s t u (inl h) (inl k) = commits_one b h.0 k.0 h.1 h.2 k.1 k.2 s t u h.3 k.3
confirm_commit_one Confirm b s t u (inl h) (inr k) = absurd (k.0 h.0 h.3.of_low h.2 h.3.range.high.0 (positive h.2 h.3.range.high.0.counted) h.3.range.high.1)
confirm_commit_one Confirm b s t u (inr h) (inl k) = absurd (h.0 k.0 k.3.of_low k.2 k.3.range.high.0 (positive k.2 k.3.range.high.0.counted) k.3.range.high.1)
confirm_commit_one Confirm b s t u (inr h) (inr k) = both_same s t u h.1 k.1
confirm_commit_one Externalize b s t u h k = both_same s t u h k

raised_one : (n : ℕ) (v : List ℕ) → IsFunction (λ s t. Raised n v s t)
raised_one n v s t u h k = h.frame
    ∙ ap (λ (o : Option Ballot). let r : State = record s { present = Some (ballot_at n v); high = o; low = t.low } in r) (where_one ((s.phase ≡ Prepare) × IsSome s.confirmed) s.confirmed s.high t.high u.high h.high k.high)
    ∙ ap (λ (o : Option Ballot). let r : State = record s { present = Some (ballot_at n v); high = u.high; low = o } in r) (where_one ((s.phase ≡ Prepare) × IsSomeAnd s.low (λ c. c.value ≢ v)) None s.low t.low u.low h.low k.low) ∙ sym k.frame

cannot : {Z : Type 0} (n : ℕ) (v : List ℕ) (s : State) → value_to_raise s.phase s ≡ Some v → counter_of s.present < n → (value_to_raise s.phase s ≡ None) ⊎ (n ≤ counter_of s.present) → Z
cannot n v s value up (inl none) = none_some (value_to_raise s.phase s) v none value
cannot n v s value up (inr le) = absurd (omega (arith, up, le))

pub raise_to_one : (n : ℕ) → IsFunction (λ s t. RaiseTo n s t)
raise_to_one n s t u (inl h) (inl k) = raised_one n k.0 s t u (subst (λ v. Raised n v s t) (some_same (value_to_raise s.phase s) h.0 k.0 h.1 k.1) h.3) k.3
raise_to_one n s t u (inl h) (inr k) = cannot n h.0 s h.1 h.2 k.0
raise_to_one n s t u (inr h) (inl k) = cannot n k.0 s k.1 k.2 h.0
raise_to_one n s t u (inr h) (inr k) = both_same s t u h.1 k.1

least_one : (b : Seen) (m n : ℕ) → IsLeastFree b m → IsLeastFree b n → m ≡ n
least_one b m n h k = omega (arith, h.least n k.free, k.least m h.free)

no_value_same : (n : ℕ) (s t : State) → value_to_raise s.phase s ≡ None → RaiseTo n s t → t ≡ s
no_value_same n s t none (inl h) = none_some (value_to_raise s.phase s) h.0 none h.1
no_value_same n s t none (inr h) = h.1

pub raise_counter_one : (b : Seen) → IsFunction (λ s t. RaiseCounter b s t)
raise_counter_one b s t u (inl h) (inl k) = raise_to_one k.1.0 s t u (subst (λ n. RaiseTo n s t) (least_one b h.1.0 k.1.0 h.1.1 k.1.1) h.1.2) k.1.2
raise_counter_one b s t u (inl h) (inr k) = no_value_same h.1.0 s t (k.0 h.0) h.1.2 ∙ sym k.1
raise_counter_one b s t u (inr h) (inl k) = h.1 ∙ sym (no_value_same k.1.0 s u (h.0 k.0) k.1.2)
raise_counter_one b s t u (inr h) (inr k) = both_same s t u h.1 k.1

-- The first rule that changes the state comes to one state.
pub step_one : (b : Seen) → IsFunction (λ s t. Step b s t)
step_one b s = or_else_one (AcceptPrepared s.phase b) (OrElse (ConfirmPrepared s.phase b) (OrElse (AcceptCommit s.phase b) (OrElse (ConfirmCommit s.phase b) (RaiseCounter b)))) (accept_prepared_one s.phase b)
    (or_else_one (ConfirmPrepared s.phase b) (OrElse (AcceptCommit s.phase b) (OrElse (ConfirmCommit s.phase b) (RaiseCounter b))) (confirm_prepared_one s.phase b)
    (or_else_one (AcceptCommit s.phase b) (OrElse (ConfirmCommit s.phase b) (RaiseCounter b)) (accept_commit_one s.phase b)
    (or_else_one (ConfirmCommit s.phase b) (RaiseCounter b) (confirm_commit_one s.phase b) (raise_counter_one b)))) s

-- The rules come to one board and one state, and there is more or not.
pub settles_one : (n : ℕ) (hash : Hash) (b : Seen) (s : State) (c d : Seen) (t u : State) (m l : Bool) → Settles n hash b s c t m → Settles n hash b s d u l → (c ≡ d) × (t ≡ u) × (m ≡ l)
settles_one zero hash b s c d t u m l h k = (h.0 ∙ sym k.0, h.1 ∙ sym k.1, h.2 ∙ sym k.2)
settles_one (suc n) hash b s c d t u m l (inl h) (inl k) = (h.1 ∙ sym k.1, h.2 ∙ sym k.2, h.3 ∙ sym k.3)
settles_one (suc n) hash b s c d t u m l (inl h) (inr k) = absurd (k.2 (step_one b s k.0 s k.1 h.0))
settles_one (suc n) hash b s c d t u m l (inr h) (inl k) = absurd (h.2 (step_one b s h.0 s h.1 k.0))
settles_one (suc n) hash b s c d t u m l (inr h) (inr k) =
    let same : h.0 ≡ k.0 = step_one b s h.0 k.0 h.1 k.1 in
    settles_one n hash (renewed hash b k.0) k.0 c d t u m l (subst (λ x. Settles n hash (renewed hash b x) x c t m) same h.3) k.3
