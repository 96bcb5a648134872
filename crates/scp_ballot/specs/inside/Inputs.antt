-- What the inputs make of the machine before its rules are applied.
-- No public clause reaches this: nothing here need be believed.
use Rattle.std.specs.Prelude.{◌≡◌, ◌≢◌, ◌+◌, ◌⊎◌, ℕ, List, Option, None, IfSome, IfNone}
use Rattle.scp_ballot_rules.specs.scp_quorum.specs.QuorumTree.{QuorumTree}
use Rattle.scp_ballot_rules.specs.scp_envelope.specs.declared.statement.Envelope.{Envelope}
use Rattle.scp_ballot_rules.specs.scp_vote.specs.Board.{kind_of_pledges, PutsCounted}
use Rattle.scp_ballot_rules.specs.scp_vote.specs.declared.claim.StatementKind.TheVariants.{Balloting}
use Rattle.scp_ballot_rules.specs.declared.state.State.{State}
use Rattle.scp_ballot_rules.specs.declared.state.Phase.TheVariants.{Prepare, Confirm, Externalize}
use Rattle.scp_ballot_rules.specs.Own.{counter_of}
use Rattle.scp_ballot_rules.specs.Ready.{HasValue}
use Rattle.scp_ballot_rules.specs.inside.Rules.{Composes, Raises, RaisesMore}
use Rattle.scp_ballot_rules.specs.Steps.{Answers}
use Rattle.scp_ballot_rules.specs.Inputs.{Time}
use Rattle.scp_ballot.specs.declared.machine.Machine.{Machine}
use Rattle.scp_ballot.specs.declared.balloted.Balloted.{Balloted}
use Rattle.scp_ballot_rules.specs.Told.{ballots_on}
use Rattle.scp_ballot.specs.inside.Machine.{KeepsRest}
use Rattle.scp_ballot.specs.inside.Gives.{Gives}

-- a timer raises the counter by one
abbrev pub Times : State → State → Type 0
Times s next = (((s.phase ≡ Prepare) × Raises s next) ⊎ ((s.phase ≡ Confirm) × RaisesMore s next)) × (counter_of next.present ≡ counter_of s.present + 1)

-- a timer raises nothing
abbrev pub CannotRaise : State → Type 0
CannotRaise s = (counter_of s.present ≡ 4294967295) ⊎ ((s.phase ≡ Prepare) × (HasValue s → ⊥)) ⊎ ((s.phase ≡ Confirm) × (s.low ≡ None)) ⊎ (s.phase ≡ Externalize)

-- a composite came, and the machine settled
pub record TakesComposite (z : List ℕ) (old new : Machine) (given : Balloted) : Type 0 where
  pub first : Option State
  pub some : IfSome first (λ next. (old.state.phase ≡ Prepare) × Composes z old.state next)
  pub none : IfNone first (old.state.phase ≡ Prepare → ⊥)
  pub gives : Gives old first new given

-- a timer came, and the machine settled
pub record TakesTimer (old new : Machine) (given : Balloted) : Type 0 where
  pub first : Option State
  pub some : IfSome first (λ next. Times old.state next)
  pub none : IfNone first (CannotRaise old.state)
  pub exact : Answers (λ s t. Time s t) old.state first
  pub gives : Gives old first new given

-- another node's ballot statement of this slot, while nothing is externalized
abbrev pub IsHeardBy : Machine → Envelope → Type 0
IsHeardBy m e = (e.statement.node ≢ (ballots_on m.board).me) × (e.statement.slot ≡ m.slot) × (kind_of_pledges e.statement.pledges ≡ Balloting) × (m.state.phase ≢ Externalize)

-- such a statement is put on the board; any other changes nothing
pub record HearsOne (old new : Machine) (e : Envelope) (delivered : QuorumTree) : Type 0 where
  pub rest : KeepsRest old new
  pub state : new.state ≡ old.state
  pub board : (IsHeardBy old e × PutsCounted (ballots_on old.board) (ballots_on new.board) e.statement.node e.statement.pledges delivered) ⊎ ((IsHeardBy old e → ⊥) × (new.board ≡ old.board))

-- a statement came, and the machine settled
pub record TakesStatement (e : Envelope) (delivered : QuorumTree) (old new : Machine) (given : Balloted) : Type 0 where
  pub mid : Machine
  pub hears : HearsOne old mid e delivered
  pub gives : Gives mid None new given
