-- What an input comes to, exactly (the SCP draft, in this project's profile).
use Rattle.std.specs.Prelude.{◌≡◌, ◌≢◌, ◌⊎◌, ◌↔◌, List, ℕ, Option, None, IsSome}
use Rattle.std.specs.Option.{ForSome}
use Rattle.scp_ballot_rules.specs.scp_quorum.specs.QuorumTree.{QuorumTree}
use Rattle.scp_ballot_rules.specs.scp_envelope.specs.Newer.{ArePledgesNewer}
use Rattle.scp_ballot_rules.specs.scp_envelope.specs.declared.statement.Pledges.{Pledges}
use Rattle.scp_ballot_rules.specs.scp_envelope.specs.declared.statement.Envelope.{Envelope}
use Rattle.scp_ballot_rules.specs.scp_vote.specs.Board.{Seen, PutsCounted}
use Rattle.scp_ballot_rules.specs.declared.state.State.{State}
use Rattle.scp_ballot_rules.specs.declared.state.Phase.TheVariants.{Prepare}
use Rattle.scp_ballot_rules.specs.Own.{own_of, IsBlank, StandsFor}
use Rattle.scp_ballot_rules.specs.Inputs.{Compose, Time, AfterInput}
use Rattle.scp_ballot.specs.Balloting.{Ballots, own, IsHeard}
use Rattle.scp_ballot.specs.declared.balloted.Balloted.{Balloted}

-- nothing was said yet
pub record BeginsBlank (b : Ballots) : Type 0 where
  pub blank : IsBlank b.state
  pub composite : b.state.composite ≡ None

-- The state's statement is to be emitted: there is a ballot or the phase is past Prepare, and the statement is newer than the
-- one emitted before, if there was one.
abbrev pub IsToEmit : Option Pledges → Ballots → Type 0
IsToEmit last b = (IsSome b.state.present ⊎ (b.state.phase ≢ Prepare)) × ForSome last (λ p. ArePledgesNewer p (own_of b.hash b.state))

-- An input makes a state of the old one, over this board. The rules lead on from there, over the board with that state's statement
-- if the input changed the state. There is more exactly where the rules were stopped at their limit. What is emitted is the new
-- state's statement, exactly where it is to be.
pub record ComesOut (makes : State → State → Type 0) (board : Seen) (old new : Ballots) (given : Balloted) : Type 0 where
  pub mid : State
  pub made : makes old.state mid
  pub after : AfterInput old.hash board old.state mid new.board new.state given.more
  pub stands : StandsFor (own new) new.hash new.state
  pub composite : new.state.composite ≡ new.composite
  pub emitted : IsSome given.statement ↔ IsToEmit old.emitted new
  pub statement : ForSome given.statement (λ e. e.statement.pledges ≡ own_of new.hash new.state)

-- what a composite from nomination comes to
abbrev pub ComposesExactly : List ℕ → Ballots → Ballots → Balloted → Type 0
ComposesExactly z old new given = ComesOut (λ s t. Compose s.phase z s t) old.board old new given

-- what a timer comes to
abbrev pub TimesExactly : Ballots → Ballots → Balloted → Type 0
TimesExactly old new given = ComesOut (λ s t. Time s t) old.board old new given

-- the board with the statement, if the statement is heard
abbrev pub HearsOn : Ballots → Envelope → QuorumTree → Seen → Type 0
HearsOn b e delivered board = (IsHeard b e × PutsCounted b.board board e.statement.node e.statement.pledges delivered) ⊎ ((IsHeard b e → ⊥) × (board ≡ b.board))

-- what another node's statement comes to; by itself it leaves the state
pub record HearsExactly (e : Envelope) (delivered : QuorumTree) (old new : Ballots) (given : Balloted) : Type 0 where
  pub board : Seen
  pub hears : HearsOn old e delivered board
  pub comes : ComesOut (λ s t. t ≡ s) board old new given
