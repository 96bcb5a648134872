-- Which values the rules say: only those on the board, in the state, or in the composite.
use Rattle.std.specs.Prelude.{ℕ, List, [], Bool, IsTrue}
use Rattle.std.specs.Option.{ForSome}
use Rattle.scp_vote.specs.scp_types.specs.declared.names.NodeId.{NodeId}
use Rattle.scp_vote.specs.scp_types.specs.declared.names.Hash.{Hash}
use Rattle.scp_vote.specs.scp_envelope.specs.Short.{SaysOnly}
use Rattle.scp_vote.specs.Board.{Seen}
use Rattle.scp_ballot_rules.specs.declared.state.State.{State}
use Rattle.scp_ballot_rules.specs.declared.state.Phase.{Phase}
use Rattle.scp_ballot_rules.specs.Steps.{Step}
use Rattle.scp_ballot_rules.specs.Inputs.{Compose, Time, AfterInput}

-- P holds of each value in each statement on the board
abbrev pub BoardSaysOnly : (List ℕ → Type 0) → Seen → Type 0
BoardSaysOnly P b = (v : NodeId) → ForSome (b.statement v) (λ p. SaysOnly P p)

-- P holds of the value of each ballot of the state, and of its composite
pub record StateSaysOnly (P : List ℕ → Type 0) (s : State) : Type 0 where
  pub present : ForSome s.present (λ x. P x.value)
  pub prepared : ForSome s.prepared (λ x. P x.value)
  pub prime : ForSome s.prime (λ x. P x.value)
  pub confirmed : ForSome s.confirmed (λ x. P x.value)
  pub high : ForSome s.high (λ x. P x.value)
  pub low : ForSome s.low (λ x. P x.value)
  pub composite : ForSome s.composite P

-- what holds of the values that pass a test
abbrev pub Passes : (List ℕ → Bool) → List ℕ → Type 0
Passes test v = IsTrue (test v)

-- if each value on the board and in the state passes, so does each that a rule leaves in the state
abbrev pub StepSaysNoMore : Type 0
StepSaysNoMore = (test : List ℕ → Bool) (b : Seen) (s t : State) → BoardSaysOnly (Passes test) b → StateSaysOnly (Passes test) s → Step b s t → StateSaysOnly (Passes test) t

-- if the composite passes too, so does each value in the state that is made of it
abbrev pub ComposingSaysNoMore : Type 0
ComposingSaysNoMore = (test : List ℕ → Bool) (p : Phase) (z : List ℕ) (s t : State) → Passes test z → StateSaysOnly (Passes test) s → Compose p z s t → StateSaysOnly (Passes test) t

-- if each value in a state passes a test, so does each that a timer leaves in it
abbrev pub TimingSaysNoMore : Type 0
TimingSaysNoMore = (test : List ℕ → Bool) (s t : State) → StateSaysOnly (Passes test) s → Time s t → StateSaysOnly (Passes test) t

-- If an absent ballot's value, which has no bytes, passes, so does each value that the rules come to after an input, on the
-- board and in the state.
abbrev pub InputSaysNoMore : Type 0
InputSaysNoMore =
    (test : List ℕ → Bool) (hash : Hash) (b : Seen) (s mid : State) (c : Seen) (t : State) (more : Bool) → Passes test [] → BoardSaysOnly (Passes test) b → StateSaysOnly (Passes test) mid
    → AfterInput hash b s mid c t more → BoardSaysOnly (Passes test) c × StateSaysOnly (Passes test) t
