-- The counter never falls within a phase.
-- No public clause reaches this: nothing here need be believed.
use Rattle.std.specs.Prelude.{◌≡◌, ◌≢◌, ◌<◌, ◌≤◌, ◌⊎◌, ℕ, Option, Some, None, IsSomeAnd}
use Rattle.std.specs.Option.{ForSome}
use Rattle.scp_vote.specs.Board.{Seen}
use Rattle.scp_ballot_rules.specs.declared.state.State.{State}
use Rattle.scp_ballot_rules.specs.declared.state.Phase.{Phase}
use Rattle.scp_ballot_rules.specs.declared.state.Phase.TheVariants.{Prepare, Confirm, Externalize}
use Rattle.scp_ballot_rules.specs.Own.{counter_of}
use Rattle.scp_ballot_rules.specs.Owed.{AreAheadOf}

abbrev pub place : Phase → ℕ
place Prepare = 0
place Confirm = 1
place Externalize = 2

-- The phase is a later one; or it is the same, with a counter that is no less.
abbrev pub Rises : State → State → Type 0
Rises s t = (place s.phase < place t.phase) ⊎ ((t.phase ≡ s.phase) × (counter_of s.present ≤ counter_of t.present))

-- the state with which settling begins
abbrev pub or_state : Option State → State → State
or_state None s = s
or_state (Some t) s = t

-- if there is a composite, the current ballot has its value
abbrev pub HasComposite : State → Type 0
HasComposite s = ForSome s.composite (λ z. IsSomeAnd s.present (λ x. x.value ≡ z))

-- If the phase is still Prepare: present and high are as before; or high has a counter other than 0; or the others were ahead
-- of present, and it now has the composite's value.
abbrev pub Moves : Seen → State → State → Type 0
Moves b s t = t.phase ≡ Prepare → ((t.present ≡ s.present) × (t.high ≡ s.high)) ⊎ (counter_of t.high ≢ 0) ⊎ (AreAheadOf b (counter_of s.present) × HasComposite t)
