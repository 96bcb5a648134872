-- The ballot machine as its steps see it.
-- No public clause reaches this: nothing here need be believed.
use Rattle.std.specs.Prelude.{◌≡◌, Option, None}
use Rattle.std.specs.Option.{ForSome}
use Rattle.scp_ballot_rules.specs.scp_types.specs.declared.names.NodeId.{NodeId}
use Rattle.scp_ballot_rules.specs.scp_quorum.specs.QuorumTree.{QuorumTree}
use Rattle.scp_ballot_rules.specs.scp_quorum.specs.QuorumKind.{set_spelling}
use Rattle.sha2.specs.Sha256.{sha256}
use Rattle.scp_ballot_rules.specs.scp_envelope.specs.declared.statement.Pledges.{Pledges}
use Rattle.scp_ballot_rules.specs.scp_envelope.specs.declared.statement.Statement.{Statement}
use Rattle.scp_ballot_rules.specs.scp_vote.specs.declared.claim.Claim.TheVariants.{Committed}
use Rattle.scp_ballot_rules.specs.scp_vote.specs.Board.{Seen, Puts, KeepsOwn, IsNewBoard, Confirmed}
use Rattle.scp_ballot_rules.specs.scp_vote.specs.inside.Chain.{IsChain}
use Rattle.scp_ballot_rules.specs.declared.state.State.{State}
use Rattle.scp_ballot_rules.specs.declared.state.Phase.TheVariants.{Externalize}
use Rattle.scp_ballot_rules.specs.Own.{own_of, or_zero, counter_of, StandsFor, IsBlank}
use Rattle.scp_ballot_rules.specs.Ready.{IsReady}
use Rattle.scp_ballot_rules.specs.inside.Rises.{Rises, Moves, or_state}
use Rattle.scp_ballot_rules.specs.Told.{ballots_on}
use Rattle.scp_ballot.specs.declared.machine.Machine.{Machine}

-- the own statement on the board
abbrev pub own_at : Machine → Option Pledges
own_at m = (ballots_on m.board).statement (ballots_on m.board).me

-- all but the board and the state is as before
pub record KeepsRest (old new : Machine) : Type 0 where
  pub slot : new.slot ≡ old.slot
  pub hash : new.hash ≡ old.hash
  pub emitted : new.emitted ≡ old.emitted

-- The state is the given one, and its own statement is put on the board with the local set.
pub record Renews (old new : Machine) (given : State) : Type 0 where
  pub rest : KeepsRest old new
  pub state : new.state ≡ given
  pub board : Puts (ballots_on old.board) (ballots_on new.board) (ballots_on old.board).me (own_of old.hash given) (ballots_on old.board).local

-- The statement of a state, of this node and slot.
pub record IsOwnStatement (m : Machine) (s : State) (made : Statement) : Type 0 where
  pub node : made.node ≡ (ballots_on m.board).me
  pub slot : made.slot ≡ m.slot
  pub pledges : made.pledges ≡ own_of m.hash s

-- what is externalized is confirmed on the board, at its high end
abbrev pub IsConfirmedAt : Seen → State → Type 0
IsConfirmedAt b s = s.phase ≡ Externalize → Confirmed b (Committed (counter_of s.high) (counter_of s.high) (or_zero s.low).value)

-- Between inputs: the own statement is that of the state, which is ready.
pub record IsAtRest (m : Machine) : Type 0 where
  pub keeps : KeepsOwn (ballots_on m.board)
  pub stands : StandsFor (own_at m) m.hash m.state
  pub ready : IsReady m.state
  pub emitted : ForSome m.emitted (λ (s : Statement). (s.node ≡ (ballots_on m.board).me) × (s.slot ≡ m.slot))

-- What holds while the rules are applied, compared with the first machine and what the input made of its state. What is
-- externalized stays as it is.
pub record IsSettled (first : Machine) (input : Option State) (now : Machine) : Type 0 where
  pub rest : KeepsRest first now
  pub chain : IsChain (ballots_on first.board) (own_at first) (ballots_on now.board)
  pub stands : StandsFor (own_at now) now.hash now.state
  pub ready : IsReady now.state
  pub rises : Rises (or_state input first.state) now.state
  pub composite : now.state.composite ≡ (or_state input first.state).composite
  pub moves : Moves (ballots_on first.board) (or_state input first.state) now.state
  pub confirmed : (first.state.phase ≡ Externalize → ⊥) → IsConfirmedAt (ballots_on now.board) now.state
  pub ended : first.state.phase ≡ Externalize → now ≡ first

-- Nothing was heard and nothing said.
pub record MachineBegins (me : NodeId) (set : QuorumTree) (m : Machine) : Type 0 where
  pub board : IsNewBoard me set (ballots_on m.board)
  pub hash : m.hash.0 ≡ sha256 (set_spelling set)
  pub state : IsBlank m.state
  pub composite : m.state.composite ≡ None
  pub emitted : m.emitted ≡ None
