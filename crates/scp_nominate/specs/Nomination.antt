-- A nominator as its contracts see it (the SCP draft, in this project's profile).
use Rattle.std.specs.Prelude.{◌≡◌, ◌≢◌, ◌≤◌, ◌↔◌, ◌⊎◌, ℕ, List, [], length, Bool, false, Option, Some, None, IsSome, Contains, cond}
use Rattle.std.specs.Option.{ForSome}
use Rattle.std.specs.BTreeMap.{is_at}
use Rattle.scp_vote.specs.scp_types.specs.declared.names.NodeId.{NodeId}
use Rattle.scp_vote.specs.scp_types.specs.declared.names.Hash.{Hash}
use Rattle.scp_vote.specs.scp_quorum.specs.NodeSet.{node_cmp}
use Rattle.scp_vote.specs.scp_quorum.specs.QuorumTree.{QuorumTree}
use Rattle.scp_vote.specs.scp_quorum.specs.QuorumKind.{set_spelling}
use Rattle.sha2.specs.Sha256.{sha256}
use Rattle.scp_vote.specs.scp_envelope.specs.declared.statement.Pledges.{Pledges}
use Rattle.scp_vote.specs.scp_envelope.specs.declared.statement.Pledges.TheVariants.{Nominate as Nominating}
use Rattle.scp_vote.specs.scp_envelope.specs.declared.statement.Envelope.{Envelope}
use Rattle.scp_vote.specs.declared.claim.Claim.TheVariants.{Nominated as IsNominated}
use Rattle.scp_vote.specs.declared.board.Board.{Board}
use Rattle.scp_vote.specs.Board.{Seen, Confirmed, PutsCounted}
use Rattle.scp_vote.specs.Licence.{Licensed}
use Rattle.scp_driver.specs.declared.driver.Level.{Level}
use Rattle.scp_driver.specs.Driver.{IsFull}
use Rattle.scp_nominate.specs.Heard.{heard}
use Rattle.scp_nominate.specs.declared.state.State.{State}
use Rattle.scp_nominate.specs.declared.nominated.Nominated.{Nominated}
use Rattle.scp_nominate.specs.declared.nominator.Nominator.{Nominator}
use Rattle.scp_nominate.specs.Owed.{OwnLists, AreOwn, OwesNothing, MayVote, VotesFor}
use Rattle.scp_nominate.specs.Steps.{own_lists}
use Rattle.scp_nominate.specs.State.{IsAtRest}
use Rattle.scp_nominate.specs.Turns.{Leads, AreInTurn}
use Rattle.scp_nominate.specs.Given.{IsWorth, GivesComposite}
use Rattle.scp_nominate.specs.Repeating.{Rule, LeadsTo}
use Rattle.std.specs.List.Sorted.{IsStrictlySortedBy}

-- What a nominator knows: its slot, its set's hash, the board, its lists, its proposal, the nodes that lead in turn, how many
-- rounds there were, and whether it failed.
pub record Nomination : Type 0 where
  pub slot : ℕ
  pub hash : Hash
  pub board : Seen
  pub lists : OwnLists
  pub proposal : Option (List ℕ)
  pub nodes : List NodeId
  pub rounds : ℕ
  pub failed : Bool

-- what contracts see of nomination, from its state and what it goes by
abbrev pub nomination_of : State → ℕ → Option (List ℕ) → List NodeId → ℕ → Bool → Nomination
nomination_of m slot proposal nodes rounds failed =
    record { slot = slot; hash = m.hash; board = heard m.board; lists = own_lists m.lists; proposal = proposal; nodes = nodes; rounds = rounds; failed = failed }

-- what contracts see of nomination
abbrev pub nomination : {D : Type 0} → Nominator D → Nomination
nomination m = nomination_of m.state m.guide.slot.0 m.guide.proposal m.nodes.items m.rounds m.failed

-- the nominator's driver
abbrev pub driver_of : {D : Type 0} → Nominator D → D
driver_of m = m.guide.driver

-- the nominator's board, with the envelopes themselves
abbrev pub board_of : {D : Type 0} → Nominator D → Board
board_of m = m.state.board

-- the own NOMINATE on the board
abbrev pub own : Nomination → Option Pledges
own n = n.board.statement n.board.me

-- The own statement as it is emitted: for this node and slot, a NOMINATE of the own lists with the local set's hash, without a signature.
pub record IsOwnEnvelope (n : Nomination) (e : Envelope) : Type 0 where
  pub node : e.statement.node ≡ n.board.me
  pub slot : e.statement.slot.0 ≡ n.slot
  pub pledges : e.statement.pledges ≡ Nominating (record { set_hash = n.hash; votes = n.lists.votes; accepted = n.lists.accepted })
  pub stands : own n ≡ Some e.statement.pledges
  pub unsigned : e.signature ≡ []

-- Nothing is removed from the lists.
pub record KeepsLists (old new : OwnLists) : Type 0 where
  pub votes : (v : List ℕ) → Contains old.votes v → Contains new.votes v
  pub accepted : (v : List ℕ) → Contains old.accepted v → Contains new.accepted v
  pub candidates : (v : List ℕ) → Contains old.candidates v → Contains new.candidates v

-- What an input gives, from the own statement and the lists before it. The own statement is licensed, with the others' part of
-- the board as it is after the input. It is emitted exactly where it is sane and newer than the one before. New candidates are
-- confirmed on the board.
pub record Advances (combined : List (List ℕ) → List ℕ) (before : Option Pledges) (lists : OwnLists) (new : Nomination) (given : Nominated) : Type 0 where
  pub licensed : Licensed new.board before (own new)
  pub emitted : IsSome given.statement ↔ IsWorth before (own new)
  pub statement : ForSome given.statement (λ e. IsOwnEnvelope new e)
  -- if nothing is emitted, the own statement stays as it was
  pub still : given.statement ≡ None → own new ≡ before
  pub keeps : KeepsLists lists new.lists
  pub confirmed : (v : List ℕ) → Contains new.lists.candidates v → Contains lists.candidates v ⊎ Confirmed new.board (IsNominated v)
  pub composite : GivesComposite combined lists.candidates new.lists.candidates given.composite

-- The slot, the hash, the nodes in turn, this node and its set are as before.
pub record KeepsMaking (old new : Nomination) : Type 0 where
  pub slot : new.slot ≡ old.slot
  pub hash : new.hash ≡ old.hash
  pub nodes : new.nodes ≡ old.nodes
  pub me : new.board.me ≡ old.board.me
  pub local : new.board.local ≡ old.board.local

-- The other nodes have the same statements and sets as before.
pub record KeepsOthers (old new : Seen) : Type 0 where
  pub statements : (v : NodeId) → v ≢ old.me → new.statement v ≡ old.statement v
  pub sets : (v : NodeId) → v ≢ old.me → new.counted v ≡ old.counted v

-- Among the other nodes, this one has the given statement and set, and all others are as before.
pub record Hears (old new : Seen) (node : NodeId) (statement : Pledges) (set : QuorumTree) : Type 0 where
  pub statements : (v : NodeId) → v ≢ old.me → new.statement v ≡ cond (is_at (node_cmp node) v) (Some statement) (old.statement v)
  pub sets : (v : NodeId) → v ≢ old.me → new.counted v ≡ cond (is_at (node_cmp node) v) (Some set) (old.counted v)

-- the first proposal is kept
abbrev pub first_of : Option (List ℕ) → List ℕ → Option (List ℕ)
first_of None v = Some v
first_of (Some first) v = Some first

-- The own statement is the NOMINATE of the lists with the local set's hash; or it is absent, and there is no vote.
abbrev pub SaysItsLists : Nomination → Type 0
SaysItsLists n = (own n ≡ Some (Nominating (record { set_hash = n.hash; votes = n.lists.votes; accepted = n.lists.accepted }))) ⊎ ((own n ≡ None) × (n.lists.votes ≡ []))

-- the nominator's lists are as they always are, by its driver's levels
abbrev pub HasOwnLists : {D : Type 0} → (D → ℕ → List ℕ → Level) → Nominator D → Type 0
HasOwnLists level m = AreOwn (IsFull (level m.guide.driver) m.guide.slot.0) (own_lists m.state.lists)

-- what is new in its votes since these lists is accepted too, or could be voted for, by its driver's answers
abbrev pub VotesWell : {D : Type 0} → (D → ℕ → List ℕ → Level) → (D → ℕ → List ℕ → Option (List ℕ)) → (D → ℕ → ℕ → ℕ → ℕ) → OwnLists → Nominator D → Type 0
VotesWell level extracted place lists m =
    VotesFor
    (MayVote (IsFull (level m.guide.driver) m.guide.slot.0) (extracted m.guide.driver m.guide.slot.0) (Leads (place m.guide.driver m.guide.slot.0) m.nodes.items m.rounds) m.guide.proposal (heard m.state.board))
    lists
    (own_lists m.state.lists)

-- the nominator owes nothing, by its driver's levels and places
abbrev pub IsPaid : {D : Type 0} → (D → ℕ → List ℕ → Level) → (D → ℕ → ℕ → ℕ → ℕ) → Nominator D → Type 0
IsPaid level place m =
    OwesNothing (IsFull (level m.guide.driver) m.guide.slot.0) (Leads (place m.guide.driver m.guide.slot.0) m.nodes.items m.rounds) m.guide.proposal (heard m.state.board) (own_lists m.state.lists)

-- What holds of a nominator between its inputs while it hasn't failed. Nothing is owed, the own statement on the board is
-- that of the lists, and the leaders are those of the rounds so far.
pub record IsWorking {D : Type 0} (level : D → ℕ → List ℕ → Level) (place : D → ℕ → ℕ → ℕ → ℕ) (m : Nominator D) : Type 0 where
  pub paid : IsPaid level place m
  pub rest : IsAtRest (IsFull (level m.guide.driver) m.guide.slot.0) m.state
  pub leaders : (node : NodeId) → Contains m.guide.leaders.items node ↔ Leads (place m.guide.driver m.guide.slot.0) m.nodes.items m.rounds node
  pub ascending : IsStrictlySortedBy node_cmp m.guide.leaders.items
  pub nodes : AreInTurn (heard m.state.board).me (heard m.state.board).local m.nodes.items
  pub rounds : m.rounds ≤ length m.nodes.items

-- what always holds of a nominator, from `new` on
abbrev pub IsSound : {D : Type 0} → (D → ℕ → List ℕ → Level) → (D → ℕ → ℕ → ℕ → ℕ) → Nominator D → Type 0
IsSound level place m = m.failed ≡ false → IsWorking level place m

-- what the steps go by: its driver's levels, what the driver extracts, the leaders of its rounds, and its proposal
abbrev pub rule_of : {D : Type 0} → (D → ℕ → List ℕ → Level) → (D → ℕ → List ℕ → Option (List ℕ)) → (D → ℕ → ℕ → ℕ → ℕ) → Nominator D → Rule
rule_of level extracted place m =
    record { full = IsFull (level m.guide.driver) m.guide.slot.0; extracted = extracted m.guide.driver m.guide.slot.0; leads = Leads (place m.guide.driver m.guide.slot.0) m.nodes.items m.rounds; proposal = m.guide.proposal }

-- the steps lead from this board and the lists that it had to its board and its lists
abbrev pub ComesFrom : {D : Type 0} → (D → ℕ → List ℕ → Level) → (D → ℕ → List ℕ → Option (List ℕ)) → (D → ℕ → ℕ → ℕ → ℕ) → Nomination → Seen → Nominator D → Type 0
ComesFrom level extracted place old b m = LeadsTo (rule_of level extracted place m) old.hash b old.lists (heard m.state.board) (own_lists m.state.lists)

-- the same from the board with another node's statement
pub record ComesFromHearing {D : Type 0} (level : D → ℕ → List ℕ → Level) (extracted : D → ℕ → List ℕ → Option (List ℕ)) (place : D → ℕ → ℕ → ℕ → ℕ) (old : Nomination) (e : Envelope) (delivered : QuorumTree) (m : Nominator D) : Type 0 where
  pub board : Seen
  pub puts : PutsCounted old.board board e.statement.node e.statement.pledges delivered
  pub comes : ComesFrom level extracted place old board m

-- A nominator that has heard nothing: round 1, no proposal, empty lists and an empty board.
pub record Begins (node : NodeId) (number : ℕ) (set : QuorumTree) (n : Nomination) : Type 0 where
  pub me : n.board.me ≡ node
  pub local : n.board.local ≡ set
  pub statements : (v : NodeId) → n.board.statement v ≡ None
  pub sets : (v : NodeId) → n.board.counted v ≡ None
  pub slot : n.slot ≡ number
  pub hash : n.hash.0 ≡ sha256 (set_spelling set)
  pub lists : n.lists ≡ record { votes = []; accepted = []; candidates = [] }
  pub proposal : n.proposal ≡ None
  pub nodes : AreInTurn node set n.nodes
  pub rounds : n.rounds ≡ 1
  pub failed : n.failed ≡ false
