-- What follows from the definitions of nomination.
use Rattle.std.specs.Prelude.{◌≡◌, ℕ, List, Option}
use Rattle.scp_vote.specs.scp_types.specs.declared.names.NodeId.{NodeId}
use Rattle.scp_vote.specs.scp_types.specs.declared.names.Hash.{Hash}
use Rattle.scp_vote.specs.scp_quorum.specs.QuorumTree.{QuorumTree}
use Rattle.scp_vote.specs.scp_quorum.specs.Sane.{IsInRange}
use Rattle.scp_vote.specs.scp_envelope.specs.declared.statement.Envelope.{Envelope}
use Rattle.scp_vote.specs.Board.{Seen}
use Rattle.scp_driver.specs.declared.driver.Level.{Level}
use Rattle.scp_driver.specs.Driver.{IsFull}
use Rattle.scp_nominate.specs.declared.nominator.Nominator.{Nominator}
use Rattle.scp_nominate.specs.Owed.{OwnLists}
use Rattle.scp_nominate.specs.Turns.{Leads}
use Rattle.scp_nominate.specs.Repeating.{Rule, LeadsTo}
use Rattle.scp_nominate.specs.Nomination.{Nomination, nomination, driver_of, ComesFrom, ComesFromHearing}

-- the rule by a driver's levels for a slot, what it extracts there, the leaders of this many rounds, and a proposal
abbrev pub rule_by : (ℕ → List ℕ → Level) → ℕ → (List ℕ → Option (List ℕ)) → (ℕ → ℕ → ℕ) → List NodeId → ℕ → Option (List ℕ) → Rule
rule_by level slot extracted place nodes rounds proposal =
    record { full = IsFull level slot; extracted = extracted; leads = Leads place nodes rounds; proposal = proposal }

-- by one rule, on one board whose local set is in range, the steps lead from one state to exactly one board and one state
abbrev pub StepsAreAFunction : Type 0
StepsAreAFunction =
    (level : ℕ → List ℕ → Level) (slot : ℕ) (extracted : List ℕ → Option (List ℕ)) (place : ℕ → ℕ → ℕ) (nodes : List NodeId) (rounds : ℕ) (proposal : Option (List ℕ))
    (hash : Hash) (b : Seen) (s : OwnLists) (c d : Seen) (t u : OwnLists) → IsInRange b.local
    → LeadsTo (rule_by level slot extracted place nodes rounds proposal) hash b s c t → LeadsTo (rule_by level slot extracted place nodes rounds proposal) hash b s d u → (c ≡ d) × (t ≡ u)

-- Both go by one driver, in one slot, with the same nodes in turn, the same number of rounds, and the same proposal.
pub record GoAlike {D : Type 0} (m n : Nominator D) : Type 0 where
  pub driver : driver_of n ≡ driver_of m
  pub slot : (nomination n).slot ≡ (nomination m).slot
  pub nodes : (nomination n).nodes ≡ (nomination m).nodes
  pub rounds : (nomination n).rounds ≡ (nomination m).rounds
  pub proposal : (nomination n).proposal ≡ (nomination m).proposal

-- they have the same board and the same lists
abbrev pub HoldAlike : {D : Type 0} → Nominator D → Nominator D → Type 0
HoldAlike m n = ((nomination m).board ≡ (nomination n).board) × ((nomination m).lists ≡ (nomination n).lists)

-- nominators that go alike, and come from the same board and the same lists, hold alike
abbrev pub ComingIsAFunction : Type 0 → Type 0
ComingIsAFunction D =
    (level : D → ℕ → List ℕ → Level) (extracted : D → ℕ → List ℕ → Option (List ℕ)) (place : D → ℕ → ℕ → ℕ → ℕ) (old : Nomination) (b : Seen) (m n : Nominator D) → IsInRange b.local → GoAlike m n
    → ComesFrom level extracted place old b m → ComesFrom level extracted place old b n → HoldAlike m n

-- nominators that go alike, and heard the same statement from there, hold alike
abbrev pub HearingIsAFunction : Type 0 → Type 0
HearingIsAFunction D =
    (level : D → ℕ → List ℕ → Level) (extracted : D → ℕ → List ℕ → Option (List ℕ)) (place : D → ℕ → ℕ → ℕ → ℕ) (old : Nomination) (e : Envelope) (delivered : QuorumTree) (m n : Nominator D) → IsInRange old.board.local → GoAlike m n
    → ComesFromHearing level extracted place old e delivered m → ComesFromHearing level extracted place old e delivered n → HoldAlike m n
