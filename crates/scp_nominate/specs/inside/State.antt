-- The part of a nominator that its inputs change.
-- No public clause reaches these definitions: nothing here need be believed.
use Rattle.std.specs.Prelude.{◌≡◌, ◌⊎◌, List, [], ℕ, Bool, true, false, Option, Some}
use Rattle.std.specs.Option.{ForSome}
use Rattle.scp_vote.specs.scp_envelope.specs.Newer.{ArePledgesNewer}
use Rattle.scp_vote.specs.scp_envelope.specs.declared.statement.Pledges.{Pledges}
use Rattle.scp_vote.specs.scp_envelope.specs.declared.statement.Envelope.{Envelope}
use Rattle.scp_vote.specs.scp_envelope.specs.Sane.{IsSane}
use Rattle.scp_vote.specs.declared.claim.Claim.TheVariants.{Nominated}
use Rattle.scp_vote.specs.Board.{Seen, Puts, PutsCounted, IsNewBoard, Confirmed}
use Rattle.scp_vote.specs.scp_envelope.specs.Claims.{VotesValue, AcceptsValue}
use Rattle.scp_vote.specs.scp_types.specs.declared.names.NodeId.{NodeId}
use Rattle.scp_vote.specs.scp_quorum.specs.QuorumTree.{QuorumTree}
use Rattle.scp_vote.specs.scp_quorum.specs.QuorumKind.{set_spelling}
use Rattle.sha2.specs.Sha256.{sha256}
use Rattle.scp_vote.specs.inside.Chain.{IsChain}
use Rattle.scp_nominate.specs.Heard.{heard}
use Rattle.scp_nominate.specs.declared.values.ValueSet.{ValueSet}
use Rattle.scp_nominate.specs.declared.state.State.{State}
use Rattle.scp_nominate.specs.Values.{Has}
use Rattle.scp_nominate.specs.inside.Steps.{More, Learns}
use Rattle.scp_nominate.specs.Own.{own_of, StandsFor, IsReady, IsKnown}
use Rattle.scp_nominate.specs.State.{own_at}

-- The own statement of the lists is put on the board, the fully validated votes are known, and lists and hash stay.
pub record Renews (full : List ℕ → Type 0) (old new : State) : Type 0 where
  pub hash : new.hash ≡ old.hash
  pub lists : new.lists ≡ old.lists
  pub board : Puts (heard old.board) (heard new.board) (heard old.board).me (own_of old.hash old.lists) (heard old.board).local
  pub learns : Learns full (λ v. Has old.lists.votes v) old.known new.known

-- each new candidate is confirmed on the board
abbrev pub NewAreConfirmed : Seen → ValueSet → ValueSet → Type 0
NewAreConfirmed b old new = (v : List ℕ) → Has new v → Has old v ⊎ Confirmed b (Nominated v)

-- The statement q is sane, and newer than the one before it, if there was one.
pub record Tells (before : Option Pledges) (q : Pledges) : Type 0 where
  pub sane : IsSane q
  pub newer : ForSome before (λ p. ArePledgesNewer p q)

-- the own statement was renewed, and is sane and newer than the first; or it is the first
abbrev pub IsTold : Option Pledges → State → Bool → Type 0
IsTold first now renewed =
    ((renewed ≡ false) × (own_at now ≡ first)) ⊎ ((renewed ≡ true) × (own_at now ≡ Some (own_of now.hash now.lists)) × Tells first (own_of now.hash now.lists))

-- What holds while the steps are repeated, compared with the first state.
pub record IsSettling (full : List ℕ → Type 0) (first now : State) (renewed : Bool) : Type 0 where
  pub hash : now.hash ≡ first.hash
  pub chain : IsChain (heard first.board) (own_at first) (heard now.board)
  pub stands : StandsFor (own_at now) now.hash now.lists
  pub ready : IsReady full now.lists
  pub known : IsKnown full (heard now.board) now.known
  pub votes : More first.lists.votes now.lists.votes
  pub accepted : More first.lists.accepted now.lists.accepted
  pub candidates : More first.lists.candidates now.lists.candidates
  pub confirmed : NewAreConfirmed (heard now.board) first.lists.candidates now.lists.candidates
  pub told : IsTold (own_at first) now renewed

-- The envelope of this node's own statement.
pub record IsOwnOf (m : State) (number : ℕ) (e : Envelope) : Type 0 where
  pub node : e.statement.node ≡ (heard m.board).me
  pub slot : e.statement.slot.0 ≡ number
  pub pledges : e.statement.pledges ≡ own_of m.hash m.lists
  pub unsigned : e.signature ≡ []

-- Another node's statement is put on the board, its fully validated values are known, and lists and hash stay.
pub record HearsOne (full : List ℕ → Type 0) (old new : State) (node : NodeId) (q : Pledges) (delivered : QuorumTree) : Type 0 where
  pub lists : new.lists ≡ old.lists
  pub hash : new.hash ≡ old.hash
  pub put : PutsCounted (heard old.board) (heard new.board) node q delivered
  pub learns : Learns full (λ v. VotesValue q v ⊎ AcceptsValue q v) old.known new.known

-- An empty board for this node and its set, and empty lists.
pub record StateBegins (me : NodeId) (set : QuorumTree) (m : State) : Type 0 where
  pub board : IsNewBoard me set (heard m.board)
  pub hash : m.hash.0 ≡ sha256 (set_spelling set)
  pub known : m.known.values.items ≡ []
  pub votes : m.lists.votes.values.items ≡ []
  pub accepted : m.lists.accepted.values.items ≡ []
  pub candidates : m.lists.candidates.values.items ≡ []
