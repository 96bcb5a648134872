-- What the machine gives after an input.
-- No public clause reaches this: nothing here need be believed.
use Rattle.std.specs.Prelude.{◌≡◌, ◌≢◌, ◌↔◌, [], Option, Some, IsSome, IsSomeAnd, IfSome, IfNone, false}
use Rattle.std.specs.Option.{ForSome}
use Rattle.scp_ballot_rules.specs.scp_types.specs.declared.ballot.Ballot.{Ballot}
use Rattle.scp_ballot_rules.specs.scp_quorum.specs.NodeSet.{is_in}
use Rattle.scp_ballot_rules.specs.scp_envelope.specs.Sane.{IsSane}
use Rattle.scp_ballot_rules.specs.scp_envelope.specs.Newer.{IsNewer}
use Rattle.scp_ballot_rules.specs.scp_envelope.specs.declared.statement.Statement.{Statement}
use Rattle.scp_ballot_rules.specs.scp_envelope.specs.declared.statement.Envelope.{Envelope}
use Rattle.scp_ballot_rules.specs.scp_vote.specs.Board.{Certificate}
use Rattle.scp_ballot_rules.specs.scp_vote.specs.declared.claim.Claim.TheVariants.{Committed}
use Rattle.scp_ballot_rules.specs.declared.state.State.{State}
use Rattle.scp_ballot_rules.specs.declared.state.Phase.{Phase}
use Rattle.scp_ballot_rules.specs.declared.state.Phase.TheVariants.{Externalize}
use Rattle.scp_ballot_rules.specs.Own.{counter_of}
use Rattle.scp_ballot_rules.specs.Owed.{OwesNothing}
use Rattle.scp_ballot.specs.declared.machine.Machine.{Machine}
use Rattle.scp_ballot.specs.declared.balloted.Balloted.{Balloted}
use Rattle.scp_ballot.specs.declared.balloted.Certified.{Certified}
use Rattle.scp_ballot_rules.specs.Told.{ballots_on}
use Rattle.scp_ballot.specs.inside.Machine.{IsSettled, IsOwnStatement}
use Rattle.scp_ballot.specs.inside.Exactly.{ComesTo}

-- the statement is worth emitting
abbrev pub IsWorth : Option Statement → Statement → Type 0
IsWorth before own = IsSane own.pledges × ForSome before (λ s. IsNewer s own)

-- the machine's own statement is emitted if it is worth emitting, and is then the last one emitted
pub record Emits (old new : Machine) (found : Option Envelope) : Type 0 where
  pub frame : new ≡ record old { emitted = new.emitted }
  pub some : IfSome found (λ e. IsOwnStatement old old.state e.statement × (e.signature ≡ []) × IsWorth old.emitted e.statement × (new.emitted ≡ Some e.statement))
  pub none : IfNone found ((new.emitted ≡ old.emitted) × ((own : Statement) → IsOwnStatement old old.state own → ¬ (IsWorth old.emitted own)))

-- a decision on the low end's value, with the certificate of the commit at the high end
pub record IsCertifiedAt (m : Machine) (low : Ballot) (d : Certified) : Type 0 where
  pub value : d.value ≡ low.value
  pub n : d.n ≡ counter_of m.state.high
  pub quorum : Certificate (ballots_on m.board) (Committed d.n d.n d.value) (is_in d.quorum)
  pub own : IsOwnStatement m m.state d.own.statement
  pub unsigned : d.own.signature ≡ []

-- there is a decision exactly where the phase has become Externalize
pub record Decides (before : Phase) (m : Machine) (found : Option Certified) : Type 0 where
  pub exactly : IsSome found ↔ ((before ≢ Externalize) × (m.state.phase ≡ Externalize))
  pub certified : ForSome found (λ d. IsSomeAnd m.state.low (λ low. IsCertifiedAt m low d))

-- the machine settled, and gave what is to be emitted and what is decided
pub record Gives (old : Machine) (first : Option State) (new : Machine) (given : Balloted) : Type 0 where
  pub settled : Machine
  pub settles : IsSettled old first settled
  pub exact : ComesTo old first (ballots_on settled.board) settled.state given.more
  pub owed : given.more ≡ false → OwesNothing settled.hash (ballots_on settled.board)
  pub decides : Decides old.state.phase settled given.decided
  pub emits : Emits settled new given.statement
