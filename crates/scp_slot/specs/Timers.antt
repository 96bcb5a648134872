-- Which timers of a slot run (the SCP draft, in this project's profile).
use Rattle.std.specs.Prelude.{◌≡◌, ◌<◌, ◌≤◌, ◌⊎◌, ℕ, List, [], ◌∷◌, ◌++◌, length, Option, Some, None}
use Rattle.scp_nominate.specs.scp_types.specs.declared.names.Slot.{Slot}
use Rattle.scp_nominate.specs.scp_envelope.specs.declared.statement.Pledges.{Pledges}
use Rattle.scp_nominate.specs.scp_vote.specs.Board.{Seen, HasQuorumOf}
use Rattle.scp_ballot.specs.scp_ballot_rules.specs.Owed.{counter_in}
use Rattle.scp_slot.specs.Slot.{SlotView}
use Rattle.scp_slot.specs.declared.timers.Timer.{Timer}
use Rattle.scp_slot.specs.declared.timers.Timer.TheVariants.{Round, Ballot}

-- the statement's counter is this one or a higher one
abbrev pub IsFrom : ℕ → Pledges → Type 0
IsFrom n p = n ≤ counter_in p

-- the nodes whose ballot statement has this counter or a higher one contain a quorum at this node
abbrev pub HasQuorumFrom : Seen → ℕ → Type 0
HasQuorumFrom b n = HasQuorumOf b (IsFrom n)

-- the counter of a statement; 0 if there is none
abbrev pub counter_or_zero : Option Pledges → ℕ
counter_or_zero None = 0
counter_or_zero (Some p) = counter_in p

-- the counter of the own statement
abbrev pub own_counter : Seen → ℕ
own_counter b = counter_or_zero (b.statement b.me)

-- the timer of a round runs: there is no candidate, and a later round adds a leader
abbrev pub RunsRound : SlotView → Type 0
RunsRound v = (v.nomination.lists.candidates ≡ []) × (v.nomination.rounds < length v.nomination.nodes)

-- the timer of a ballot runs: there is a ballot, and a quorum has reached its counter
abbrev pub RunsBallot : SlotView → Type 0
RunsBallot v = (0 < own_counter v.ballots.board) × HasQuorumFrom v.ballots.board (own_counter v.ballots.board)

-- a timer is added if it runs; otherwise nothing is
abbrev pub AddsWhere : Type 0 → Timer → List Timer → List Timer → Type 0
AddsWhere Runs timer old new = (Runs × (new ≡ old ++ timer ∷ [])) ⊎ ((Runs → ⊥) × (new ≡ old))

-- the timer of a slot's nomination is added, if it runs
abbrev pub AddsRound : Slot → SlotView → List Timer → List Timer → Type 0
AddsRound slot v old new = AddsWhere (RunsRound v) (Round slot v.nomination.rounds) old new

-- the timer of a slot's ballot is added, if it runs
abbrev pub AddsBallot : Slot → SlotView → List Timer → List Timer → Type 0
AddsBallot slot v old new = AddsWhere (RunsBallot v) (Ballot slot (own_counter v.ballots.board)) old new

-- the timers of a slot are added: first that of its round
pub record AddsTimers (slot : Slot) (v : SlotView) (old new : List Timer) : Type 0 where
  pub mid : List Timer
  pub round : AddsRound slot v old mid
  pub ballot : AddsBallot slot v mid new
