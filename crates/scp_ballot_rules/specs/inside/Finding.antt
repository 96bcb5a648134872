-- What is looked for among the ballots and boundaries that statements on the board name.
-- No public clause reaches these definitions: nothing here need be believed.
use Rattle.std.specs.Prelude.{◌≡◌, ◌≢◌, ◌<◌, ◌≤◌, ◌↔◌, ◌⊎◌, ℕ, List, Contains, Option, Some, None, IsSomeAnd}
use Rattle.std.specs.Option.{ForSome}
use Rattle.scp_vote.specs.scp_types.specs.declared.ballot.Ballot.{Ballot}
use Rattle.std.specs.declared.cmp.Ordering.TheVariants.{Less}
use Rattle.scp_vote.specs.scp_envelope.specs.Ballots.{IsLess, value_cmp}
use Rattle.scp_ballot_rules.specs.Greatest.{IsGreatestOf, ballot_at}
use Rattle.scp_vote.specs.declared.claim.Claim.TheVariants.{Committed}
use Rattle.scp_vote.specs.Board.{Seen, Accepted}
use Rattle.scp_vote.specs.declared.claim.Claim.TheVariants.{Prepared}
use Rattle.scp_ballot_rules.specs.declared.state.State.{State}
use Rattle.scp_ballot_rules.specs.Order.{AtMost, FitsUnder, IsOver, IsAbove}
use Rattle.scp_ballot_rules.specs.Ready.{NoneOver}
use Rattle.scp_ballot_rules.specs.Rules.{IsHeld, Joins}
use Rattle.scp_ballot_rules.specs.declared.finding.Bound.{Bound}
use Rattle.scp_ballot_rules.specs.declared.finding.Bound.TheVariants.{Any, Under, Of}
use Rattle.scp_ballot_rules.specs.declared.told.Stage.{Stage}
use Rattle.scp_ballot_rules.specs.declared.range.Range.{Range}
use Rattle.scp_ballot_rules.specs.inside.Told.{Reached}

-- the ballots for which P holds were added, except those with counter 0
abbrev pub Adds : (Ballot → Type 0) → List Ballot → List Ballot → Type 0
Adds P old new = (x : Ballot) → Contains new x ↔ (Contains old x ⊎ (P x × (x.counter ≢ 0)))

-- the ballot is within the bound
abbrev pub IsWithin : Bound → Ballot → Type 0
IsWithin Any x = Unit {0}
IsWithin (Under p) x = FitsUnder x p
IsWithin (Of v) x = x.value ≡ v

-- the ballot if P holds of it and it is greater than the best so far, else the best so far
abbrev pub Betters : (Ballot → Type 0) → Ballot → Option Ballot → Option Ballot → Type 0
Betters P x best new = ((new ≡ Some x) × P x × IsAbove x best) ⊎ ((new ≡ best) × (P x → ¬ (IsAbove x best)))

-- the floor, or the greatest ballot of the list above it for which P holds
pub record IsGreatest (P : Ballot → Type 0) (list : List Ballot) (floor best : Option Ballot) : Type 0 where
  pub found : (best ≡ floor) ⊎ IsSomeAnd best (λ x. P x × IsAbove x floor × Contains list x)
  pub others : (x : Ballot) → Contains list x → P x → ¬ (IsAbove x best)

-- the ballot with P, or the best so far; none only if there was none and P doesn't hold
abbrev pub Finds : (Ballot → Type 0) → Ballot → Option Ballot → Option Ballot → Type 0
Finds P x best new = ((new ≡ Some x) × P x) ⊎ ((new ≡ best) × (best ≡ None → ¬ (P x)))

-- a ballot of the list for which P holds, and none if there is none
pub record IsFound (P : Ballot → Type 0) (list : List Ballot) (best : Option Ballot) : Type 0 where
  pub found : ForSome best (λ x. P x × Contains list x)
  pub none : best ≡ None → (x : Ballot) → Contains list x → ¬ (P x)

-- the commits of the range together have reached the stage of voting; the range isn't empty and has no 0
pub record IsReachedRange (stage : Stage) (b : Seen) (range : Range) : Type 0 where
  pub counted : range.low.counter ≢ 0
  pub compatible : range.low.value ≡ range.high.value
  pub ascends : range.low.counter ≤ range.high.counter
  pub reached : Reached stage b (Committed range.low.counter range.high.counter range.high.value)

-- the ballot if it is within the bound and greater than the best so far, else the best so far
abbrev pub Keeps : Bound → Option Ballot → Option Ballot → Option Ballot → Type 0
Keeps bound o best new = IsSomeAnd o (λ x. IsWithin bound x × IsAbove x best × (new ≡ Some x)) ⊎ ((new ≡ best) × ForSome o (λ x. IsWithin bound x → ¬ (IsAbove x best)))

-- the low end is cleared if one of the two is over the high end, and else stays
abbrev pub Clears : Option Ballot → Option Ballot → Option Ballot → Option Ballot → Option Ballot → Type 0
Clears high low prepared prime new =
    ((new ≡ None) × IsSomeAnd high (λ h. IsOver prepared h ⊎ IsOver prime h)) ⊎ ((new ≡ low) × ForSome high (λ h. (IsOver prepared h → ⊥) × (IsOver prime h → ⊥)))

-- the ballot below the highest accepted one: it was held or is accepted, and no such ballot that was held is greater
pub record IsPrimeUnder (b : Seen) (old : State) (prepared prime : Option Ballot) : Type 0 where
  pub below : ForSome prime (λ x. (IsHeld old x ⊎ Accepted b (Prepared x)) × IsSomeAnd prepared (λ p. FitsUnder x p))
  pub kept : (x : Ballot) → IsHeld old x → IsSomeAnd prepared (λ p. FitsUnder x p) → IsSomeAnd prime (λ y. AtMost x y)

-- a newly confirmed ballot enters the state
pub record JoinsState (x : Ballot) (old next : State) : Type 0 where
  pub frame : next ≡ record old { present = next.present; confirmed = Some x; high = next.high }
  pub joins : Joins x old next

-- the low end is compatible with the current ballot
abbrev pub KeepsLow : State → Type 0
KeepsLow s = IsSomeAnd s.low (λ c. IsSomeAnd s.present (λ b. c.value ≡ b.value))

-- the current ballot is the high end, and none is over it
abbrev pub MayVote : State → Type 0
MayVote s = IsSomeAnd s.high (λ h. (s.present ≡ Some h) × NoneOver s h)

-- the low end is kept if it is compatible with the current ballot; else it is the current ballot, if that may be voted for
abbrev pub Revises : State → Option Ballot → Type 0
Revises s low = ((low ≡ s.low) × KeepsLow s) ⊎ ((low ≡ s.present) × MayVote s × (KeepsLow s → ⊥)) ⊎ ((low ≡ None) × (MayVote s → ⊥) × (KeepsLow s → ⊥))

-- a ballot that was held and has the value, if there is a ballot
abbrev pub KeepsHeld : State → List ℕ → Option Ballot → Type 0
KeepsHeld s v held = ForSome held (λ x. IsHeld s x × (x.value ≡ v))

-- the current ballot; or the high end, if the current one is absent, less or incompatible with it
abbrev pub Reaches : Option Ballot → Ballot → Ballot → Type 0
Reaches present high new = IsSomeAnd present (λ b. AtMost high b × (b.value ≡ high.value) × (new ≡ b)) ⊎ ((new ≡ high) × ForSome present (λ b. IsLess b high ⊎ (b.value ≢ high.value)))

-- the boundary comes before the other: its value is less, or the same with a greater counter
abbrev pub Precedes : Ballot → Ballot → Type 0
Precedes x y = ((x.value ≡ y.value) × (y.counter < x.counter)) ⊎ (value_cmp x.value y.value ≡ Less)

-- the boundary comes before the best so far, or there is no best so far
abbrev pub GoesBefore : Ballot → Option Ballot → Type 0
GoesBefore x best = ForSome best (λ y. Precedes x y)

-- the boundary if P holds of it and it comes before the best so far, else the best so far
abbrev pub Leads : (Ballot → Type 0) → Ballot → Option Ballot → Option Ballot → Type 0
Leads P x best new = ((new ≡ Some x) × P x × GoesBefore x best) ⊎ ((new ≡ best) × (P x → ¬ (GoesBefore x best)))

-- the first of the list for which P holds, if there is one
pub record IsFirst (P : Ballot → Type 0) (list : List Ballot) (best : Option Ballot) : Type 0 where
  pub found : ForSome best (λ x. P x × Contains list x)
  pub others : (x : Ballot) → Contains list x → P x → ¬ (GoesBefore x best)

-- the boundary's counter if it has the value, is lower and R holds of it; else the least so far
abbrev pub Lowers : (ℕ → Type 0) → List ℕ → Ballot → ℕ → ℕ → Type 0
Lowers R v x least new = ((new ≡ x.counter) × (new < least) × (x.value ≡ v) × R new) ⊎ ((new ≡ least) × (x.value ≡ v → R x.counter → least ≤ x.counter))

-- the least boundary of the value for which R holds
pub record IsLeastOf (R : ℕ → Type 0) (v : List ℕ) (list : List Ballot) (n : ℕ) : Type 0 where
  pub among : Contains list (ballot_at n v) × R n
  pub least : (x : Ballot) → Contains list x → x.value ≡ v → R x.counter → n ≤ x.counter

-- the first reached boundary within the bound and above the floor, and the least of its value from which the range is reached
pub record IsExactRange (stage : Stage) (b : Seen) (bound : Bound) (floor : ℕ) (list : List Ballot) (range : Range) : Type 0 where
  pub high : IsFirst (λ x. ((floor < x.counter) × IsWithin bound x) × Reached stage b (Committed x.counter x.counter x.value)) list (Some range.high)
  pub low : IsLeastOf (λ n. Reached stage b (Committed n range.high.counter range.high.value)) range.high.value list range.low.counter
  pub compatible : range.low.value ≡ range.high.value

-- the greatest ballot below the highest one, among those of the list that are accepted, and those that were held
abbrev pub IsPrimeOf : Seen → List Ballot → State → Option Ballot → Option Ballot → Type 0
IsPrimeOf b list s prepared prime = IsGreatestOf (λ x. ((Contains list x × Accepted b (Prepared x)) ⊎ IsHeld s x) × IsSomeAnd prepared (λ p. FitsUnder x p)) prime

-- only the low end is revised
abbrev pub RevisesLow : State → State → Type 0
RevisesLow s t = (t ≡ record s { low = t.low }) × Revises s t.low
