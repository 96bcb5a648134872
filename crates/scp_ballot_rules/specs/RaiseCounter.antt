-- Rule 5: raise the counter (the SCP draft, in this project's profile). What it makes of the state over a board.
use Rattle.std.specs.Prelude.{◌≡◌, ◌≢◌, ◌<◌, ◌≤◌, ◌⊎◌, ℕ, List, Option, Some, None, IsSome, IsSomeAnd}
use Rattle.std.specs.Option.{option_map}
use Rattle.scp_vote.specs.scp_types.specs.declared.ballot.Ballot.{Ballot}
use Rattle.scp_vote.specs.Board.{Seen}
use Rattle.scp_ballot_rules.specs.declared.state.State.{State}
use Rattle.scp_ballot_rules.specs.declared.state.Phase.{Phase}
use Rattle.scp_ballot_rules.specs.declared.state.Phase.TheVariants.{Prepare, Confirm, Externalize}
use Rattle.scp_ballot_rules.specs.Own.{counter_of}
use Rattle.scp_ballot_rules.specs.Owed.{AreAheadOf}
use Rattle.scp_ballot_rules.specs.Rules.{raised_value}
use Rattle.scp_ballot_rules.specs.Greatest.{Where, ballot_at}

-- The value for a raised ballot: in Confirm that of low; in Prepare that of confirmed, else the composite, else that of prepared.
abbrev pub value_to_raise : Phase → State → Option (List ℕ)
value_to_raise Prepare s = raised_value s.confirmed s.composite s.prepared
value_to_raise Confirm s = option_map (λ (c : Ballot). c.value) s.low
value_to_raise Externalize s = None

-- present becomes (n, v); in Prepare high becomes confirmed if there is one, and low is cleared if it has another value
pub record Raised (n : ℕ) (v : List ℕ) (s t : State) : Type 0 where
  pub frame : t ≡ record s { present = Some (ballot_at n v); high = t.high; low = t.low }
  pub high : Where ((s.phase ≡ Prepare) × IsSome s.confirmed) s.confirmed s.high t.high
  pub low : Where ((s.phase ≡ Prepare) × IsSomeAnd s.low (λ c. c.value ≢ v)) None s.low t.low

-- Raise the counter to n, if there is a value and n is above present's counter.
abbrev pub RaiseTo : ℕ → State → State → Type 0
RaiseTo n s t =
    ((v : List ℕ) × (value_to_raise s.phase s ≡ Some v) × (counter_of s.present < n) × Raised n v s t)
    ⊎ ((value_to_raise s.phase s ≡ None ⊎ (n ≤ counter_of s.present)) × (t ≡ s))

-- The least counter that the other nodes aren't ahead of: those with a counter above it don't block the local set, and for each
-- lesser one they do.
pub record IsLeastFree (b : Seen) (n : ℕ) : Type 0 where
  pub free : ¬ (AreAheadOf b n)
  pub least : (m : ℕ) → ¬ (AreAheadOf b m) → n ≤ m

-- if the other nodes are ahead, the counter rises to the least that they aren't ahead of, if there is a value (the SCP draft)
abbrev pub RaiseCounter : Seen → State → State → Type 0
RaiseCounter b s t =
    (AreAheadOf b (counter_of s.present) × ((n : ℕ) × IsLeastFree b n × RaiseTo n s t))
    ⊎ ((AreAheadOf b (counter_of s.present) → value_to_raise s.phase s ≡ None) × (t ≡ s))
