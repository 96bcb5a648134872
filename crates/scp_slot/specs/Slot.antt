-- The machine of one slot as its contracts see it.
use Rattle.std.specs.Prelude.{◌≡◌, ◌≢◌, ◌↔◌, ℕ, List, [], Bool, true, false, Option, None, Contains}
use Rattle.std.specs.Option.{option_map, ForSome}
use Rattle.scp_nominate.specs.scp_types.specs.declared.names.NodeId.{NodeId}
use Rattle.scp_nominate.specs.scp_quorum.specs.QuorumTree.{QuorumTree}
use Rattle.scp_nominate.specs.scp_envelope.specs.Short.{IsShortValue}
use Rattle.scp_nominate.specs.scp_driver.specs.declared.driver.Level.{Level}
use Rattle.scp_nominate.specs.scp_vote.specs.declared.claim.StatementKind.{StatementKind}
use Rattle.scp_nominate.specs.scp_vote.specs.declared.claim.StatementKind.TheVariants.{Nomination as Nominating, Balloting}
use Rattle.scp_nominate.specs.scp_vote.specs.Board.{Seen, counted_of_other}
use Rattle.scp_nominate.specs.declared.nominator.Nominator.{Nominator}
use Rattle.scp_nominate.specs.Nomination as nominate
use Rattle.scp_nominate.specs.Nomination.{Nomination, nomination}
use Rattle.scp_ballot.specs.scp_ballot_rules.specs.Owed.{OwesNothing}
use Rattle.scp_ballot.specs.scp_ballot_rules.specs.Values.{BoardSaysOnly, StateSaysOnly}
use Rattle.scp_ballot.specs.View.{BalloterView}
use Rattle.scp_ballot.specs.Balloting as ballot
use Rattle.scp_ballot.specs.Balloting.{Ballots, ballots, IsDecided, HasBallot}
use Rattle.scp_ballot.specs.Outcome.{BeginsBlank}
use Rattle.scp_slot.specs.declared.newest.Heard.{Heard}
use Rattle.scp_slot.specs.declared.state.State.{State}
use Rattle.scp_slot.specs.declared.machine.SlotMachine.{SlotMachine}
use Rattle.scp_slot.specs.Newest.{newest_of}

-- What a slot's machine knows: this node and the slot, what nomination and ballots know, and the newest fresh statement of
-- each other node and kind with its set. Also whether it decided, which `more` the ballots gave last, and whether it failed.
-- Nomination and ballots each have their board.
pub record SlotView : Type 0 where
  pub me : NodeId
  pub slot : ℕ
  pub nomination : Nomination
  pub ballots : Ballots
  pub newest : StatementKind → NodeId → Option Heard
  pub decided : Bool
  pub more : Bool
  pub failed : Bool

-- what contracts see of a slot's machine, from its state
abbrev pub view_of : {D : Type 0} → State D → Bool → SlotView
view_of s failed =
    record { me = s.me; slot = s.slot.0; nomination = nomination s.nominator; ballots = ballots s.balloter; newest = newest_of s.newest; decided = s.decided; more = s.more; failed = failed }

-- what contracts see of a slot's machine
abbrev pub slot_view : {D : Type 0} → SlotMachine D → SlotView
slot_view m = view_of m.state.value m.failed

-- the machine's driver
abbrev pub driver_of : {D : Type 0} → SlotMachine D → D
driver_of m = nominate.driver_of m.state.value.nominator

-- the machine's nominator
abbrev pub nominator_of : {D : Type 0} → SlotMachine D → Nominator D
nominator_of m = m.state.value.nominator

-- what is seen of the machine's balloter
abbrev pub balloter_of : {D : Type 0} → SlotMachine D → BalloterView
balloter_of m = m.state.value.balloter

-- the board has the newest fresh statement of each other node, and counts the set that came with it; for an EXTERNALIZE it
-- counts that node alone
pub record Shows (b : Seen) (newest : NodeId → Option Heard) : Type 0 where
  pub statements : (v : NodeId) → v ≢ b.me → b.statement v ≡ option_map (λ (h : Heard). h.statement.pledges) (newest v)
  pub sets : (v : NodeId) → v ≢ b.me → b.counted v ≡ option_map (λ (h : Heard). counted_of_other v h.statement.pledges h.set.value) (newest v)

-- What holds of a machine that hasn't failed. Nomination and ballots haven't failed either, and are of this node and slot,
-- with one quorum set. Their boards have the newest fresh statements of the others. The machine has decided exactly if the own
-- ballot statement is an EXTERNALIZE. If there is a candidate, there is an own ballot. The ballots owe nothing, unless they
-- stopped their rules at the limit, and then there is more.
pub record IsRunning (v : SlotView) : Type 0 where
  pub nominating : v.nomination.failed ≡ false
  pub balloting : v.ballots.failed ≡ false
  pub me : v.nomination.board.me ≡ v.me
  pub ballots_me : v.ballots.board.me ≡ v.me
  pub slot : v.nomination.slot ≡ v.slot
  pub ballots_slot : v.ballots.slot ≡ v.slot
  pub local : v.ballots.board.local ≡ v.nomination.board.local
  pub nominations : Shows v.nomination.board (v.newest Nominating)
  pub statements : Shows v.ballots.board (v.newest Balloting)
  pub decided : (v.decided ≡ true) ↔ IsDecided v.ballots
  pub ballot : v.nomination.lists.candidates ≢ [] → HasBallot v.ballots
  pub owed : v.more ≡ false → OwesNothing v.ballots.hash v.ballots.board

-- nomination owes nothing, by its driver's levels and places
abbrev pub OwesNoVote : {D : Type 0} → (D → ℕ → List ℕ → Level) → (D → ℕ → ℕ → ℕ → ℕ) → SlotMachine D → Type 0
OwesNoVote level place m = nominate.IsPaid level place m.state.value.nominator

-- Each vote that is new since the old view has its reason, by its driver's answers: it is accepted too; or there was no
-- candidate, and it is this node's proposal, which leads, or another leader suggests it.
abbrev pub VotesWell : {D : Type 0} → (D → ℕ → List ℕ → Level) → (D → ℕ → List ℕ → Option (List ℕ)) → (D → ℕ → ℕ → ℕ → ℕ) → SlotView → SlotMachine D → Type 0
VotesWell level extracted place old m = nominate.VotesWell level extracted place old.nomination.lists m.state.value.nominator

-- What holds between inputs, while the machine hasn't failed.
pub record IsWorking {D : Type 0} (level : D → ℕ → List ℕ → Level) (place : D → ℕ → ℕ → ℕ → ℕ) (s : State D) : Type 0 where
  pub running : IsRunning (view_of s false)
  pub nominator : nominate.IsSound level place s.nominator

-- All that the machine may say has at most 4,096 bytes: its proposal, its votes, and the values of ballots on the board and in the state.
pub record HoldsShort (v : SlotView) : Type 0 where
  pub proposal : ForSome v.nomination.proposal IsShortValue
  pub votes : (w : List ℕ) → Contains v.nomination.lists.votes w → IsShortValue w
  pub board : BoardSaysOnly IsShortValue v.ballots.board
  pub state : StateSaysOnly IsShortValue v.ballots.state

-- if the machine hasn't failed, what holds between inputs holds by its driver's levels and places, and its values have at most 4,096
-- bytes each
abbrev pub IsSound : {D : Type 0} → (D → ℕ → List ℕ → Level) → (D → ℕ → ℕ → ℕ → ℕ) → SlotMachine D → Type 0
IsSound level place m = m.failed ≡ false → IsWorking level place m.state.value × HoldsShort (slot_view m)

-- A machine that has heard and said nothing.
pub record Begins (node : NodeId) (number : ℕ) (set : QuorumTree) (v : SlotView) : Type 0 where
  pub me : v.me ≡ node
  pub slot : v.slot ≡ number
  pub nomination : nominate.Begins node number set v.nomination
  pub ballots : ballot.Begins node number set v.ballots
  pub blank : BeginsBlank v.ballots
  pub newest : (kind : StatementKind) (u : NodeId) → v.newest kind u ≡ None
  pub decided : v.decided ≡ false
  pub more : v.more ≡ false
  pub failed : v.failed ≡ false
