-- What follows from the definitions of the ballot protocol.
use Rattle.std.specs.Prelude.{◌≡◌, ◌≢◌, ℕ, List, Bool}
use Rattle.scp_vote.specs.scp_types.specs.declared.names.Hash.{Hash}
use Rattle.scp_vote.specs.Board.{Seen}
use Rattle.scp_vote.specs.Licence.{Follows}
use Rattle.scp_ballot_rules.specs.declared.state.State.{State}
use Rattle.scp_ballot_rules.specs.declared.state.Phase.{Phase}
use Rattle.scp_ballot_rules.specs.Own.{own_of, StandsFor}
use Rattle.scp_ballot_rules.specs.Ready.{IsReady}
use Rattle.scp_ballot_rules.specs.Owed.{OwesNothing}
use Rattle.scp_ballot_rules.specs.Steps.{Step, Settles}
use Rattle.scp_ballot_rules.specs.Inputs.{Compose, Time, AfterInput}

-- over one board, a rule leads from one state to exactly one state
abbrev pub StepIsAFunction : Type 0
StepIsAFunction = (b : Seen) (s t u : State) → Step b s t → Step b s u → t ≡ u

-- the rules in turn lead to exactly one board and one state, and one answer whether there is more
abbrev pub SettlingIsAFunction : Type 0
SettlingIsAFunction =
    (n : ℕ) (hash : Hash) (b : Seen) (s : State) (c d : Seen) (t u : State) (more other : Bool) → Settles n hash b s c t more → Settles n hash b s d u other → (c ≡ d) × (t ≡ u) × (more ≡ other)

-- a composite makes exactly one state of one state
abbrev pub ComposingIsAFunction : Type 0
ComposingIsAFunction = (p : Phase) (z : List ℕ) (s t u : State) → Compose p z s t → Compose p z s u → t ≡ u

-- a timer makes exactly one state of one state
abbrev pub TimingIsAFunction : Type 0
TimingIsAFunction = (s t u : State) → Time s t → Time s u → t ≡ u

-- after an input, what it made of a state leads to exactly one board and one state, and one answer whether there is more
abbrev pub InputIsAFunction : Type 0
InputIsAFunction =
    (hash : Hash) (b : Seen) (s mid : State) (c d : Seen) (t u : State) (more other : Bool) → AfterInput hash b s mid c t more → AfterInput hash b s mid d u other → (c ≡ d) × (t ≡ u) × (more ≡ other)

-- Of a ready state, whose own statement is on the board, a rule makes a ready state, and its own statement may follow.
abbrev pub StepIsLicensed : Type 0
StepIsLicensed = (b : Seen) (hash : Hash) (s t : State) → StandsFor (b.statement b.me) hash s → IsReady s → Step b s t → t ≢ s → IsReady t × Follows b (b.statement b.me) (own_of hash t)

-- If no rule changes such a state, nothing is owed.
abbrev pub RestOwesNothing : Type 0
RestOwesNothing = (b : Seen) (hash : Hash) (s : State) → StandsFor (b.statement b.me) hash s → IsReady s → Step b s s → OwesNothing hash b
