-- Why a node failed, step by step.
use Rattle.std.proofs.Common.{◌≡◌, ℕ, List, ap, inl, inr, Option}
use Rattle.scp_theorem.specs.scp_driver.specs.Driver.{Says}
use Rattle.scp_theorem.specs.scp_types.specs.declared.fault.Fault.{Fault}
use Rattle.scp_core.specs.declared.event.Event.{Event}
use Rattle.scp_core.specs.declared.event.Event.TheVariants.{Open, Send, Close, Local, ReaderTake, ReaderPut, PendTake, PendPut, SlotTake, SlotPut, ApplyTake, Drain}
use Rattle.scp_core.specs.declared.event.Reply.{Reply}
use Rattle.scp_core.specs.declared.event.Reply.TheVariants.{Failed, NoLink, AlreadyOpen, LivesSpent, NotOpen, Full, Accepted, Blocked, Idle, Moved, Sent, JournalFull, NoMemory}
use Rattle.scp_core.specs.Node.{NodeView, Accepts, Moves, SendsOut, Step, fault_after}

module _ {D : Type 0} where
  abbrev fault_in : NodeView D → Option Fault
  fault_in v = v.fault

  accepted : (old new : NodeView D) (event : Event) → Accepts old event new → new.fault ≡ old.fault
  accepted old new (Open l) h = ap fault_in h.2.3
  accepted old new (Send l bytes) h = ap fault_in h.2.2
  accepted old new (Close l) h = ap fault_in h.2.2
  accepted old new (Local command) h = ap fault_in h.2
  accepted old new event h = absurd h

  sent : (old new : NodeView D) (event : Event) (bytes : List ℕ) → SendsOut old event bytes new → new.fault ≡ old.fault
  sent old new (Drain l) bytes h = ap fault_in h.is
  sent old new event bytes h = absurd h

module _ {D : Type 0} (says : Says D) where
  moved : (old new : NodeView D) (event : Event) → Moves says old event new → new.fault ≡ old.fault
  moved old new (ReaderTake l) h = ap fault_in h.2.4
  moved old new (ReaderPut l) h = ap fault_in h.2.4
  moved old new PendTake h = elim h.1 [
    | inl b ↦ ap fault_in b.is
    | inr b ↦ ap fault_in b.is
  ]
  moved old new PendPut h = ap fault_in h.3
  moved old new SlotTake h = ap fault_in h.1.is
  moved old new SlotPut h = ap fault_in h.3
  moved old new ApplyTake h = ap fault_in h.is
  moved old new event h = absurd h

  -- a step leaves why the node failed, or is the one that failed it
  pub step_fault : (old new : NodeView D) (event : Event) (reply : Reply) → Step says old event reply new → new.fault ≡ fault_after reply old.fault
  step_fault old new event Failed s = ap fault_in s.1
  step_fault old new event Accepted s = accepted old new event s.1
  step_fault old new event Moved s = moved old new event s.1
  step_fault old new event (Sent bytes) s = sent old new event bytes s.1
  step_fault old new event JournalFull s = s.2
  step_fault old new event NoMemory s = s.2
  step_fault old new event NoLink s = ap fault_in s.2
  step_fault old new event AlreadyOpen s = ap fault_in s.2
  step_fault old new event LivesSpent s = ap fault_in s.2
  step_fault old new event NotOpen s = ap fault_in s.2
  step_fault old new event Full s = ap fault_in s.2
  step_fault old new event Blocked s = ap fault_in s.2
  step_fault old new event Idle s = ap fault_in s.2
