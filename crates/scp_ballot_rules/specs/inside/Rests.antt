-- What it means that no rule of the ballot machine changes its state.
-- No public clause reaches these definitions: nothing here need be believed.
use Rattle.scp_vote.specs.Board.{Seen}
use Rattle.scp_ballot_rules.specs.declared.state.State.{State}
use Rattle.scp_ballot_rules.specs.declared.state.Phase.{Phase}
use Rattle.scp_ballot_rules.specs.declared.state.Phase.TheVariants.{Prepare, Confirm, Externalize}
use Rattle.scp_ballot_rules.specs.Own.{counter_of}
use Rattle.scp_ballot_rules.specs.Ready.{HasValue}
use Rattle.scp_ballot_rules.specs.Owed.{AreAheadOf}
use Rattle.scp_ballot_rules.specs.Rests.{AcceptsNoMore, ConfirmsNoMore, CommitsNone, CommitsNoHigher, ConfirmsNone}

-- The other nodes aren't ahead, or there is no value for a raised ballot.
abbrev pub RaisesNone : Seen → State → Type 0
RaisesNone b s = AreAheadOf b (counter_of s.present) → ¬ (HasValue s)

pub record RestsInPrepare (b : Seen) (s : State) : Type 0 where
  pub accepts : AcceptsNoMore b s
  pub confirms : ConfirmsNoMore b s
  pub commits : CommitsNone b
  pub raises : RaisesNone b s

pub record RestsInConfirm (b : Seen) (s : State) : Type 0 where
  pub commits : CommitsNoHigher b s
  pub confirms : ConfirmsNone b s
  pub raises : ¬ (AreAheadOf b (counter_of s.present))

abbrev pub RestsIn : Phase → Seen → State → Type 0
RestsIn Prepare b s = RestsInPrepare b s
RestsIn Confirm b s = RestsInConfirm b s
RestsIn Externalize b s = Unit {0}

-- No rule changes the state.
abbrev pub Rests : Seen → State → Type 0
Rests b s = RestsIn s.phase b s
