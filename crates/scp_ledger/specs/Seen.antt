-- What is seen of a ledger.
use Rattle.std.specs.Prelude.{ℕ, Bool, List, Option}
use Rattle.std.specs.BTreeMap as tree
use Rattle.std.specs.List.{list_any}
use Rattle.std.specs.Map.{lookup}
use Rattle.std.specs.Ordering.{nat_cmp, ordering_then}
use Rattle.std.specs.declared.cmp.Ordering.{Ordering}
use Rattle.scp_slot.specs.scp_types.specs.declared.names.NodeId.{NodeId}
use Rattle.scp_slot.specs.scp_quorum.specs.QuorumTree.{QuorumTree}
use Rattle.scp_slot.specs.declared.machine.SlotMachine.{SlotMachine}
use Rattle.scp_ledger.specs.declared.journal.Fate.{Fate}
use Rattle.scp_ledger.specs.declared.journal.Decision.{Decision}
use Rattle.scp_ledger.specs.declared.journal.Asking.{Asking}

-- what clients see of a ledger, over the driver of its machines
pub record LedgerView (D : Type 0) : Type 0 where
  pub me : NodeId
  pub local : QuorumTree  -- this node's quorum set
  pub driver : D
  pub peers : List NodeId  -- the sender of each link
  pub first : ℕ  -- the slot that it began with
  pub failed : Bool
  pub journal : List Fate
  pub decisions : List Decision
  pub lowest : ℕ  -- the lowest slot from the first on without a decision, where the ledger hasn't failed
  pub asked : List Asking  -- the links that were asked for a slot, with the slot, the newest slots first
  pub machines : List (ℕ × SlotMachine D)  -- the machines of undecided slots, ascending by slot

-- the machine of the slot, if it has one
abbrev pub machine_at : {D : Type 0} → List (ℕ × SlotMachine D) → ℕ → Option (SlotMachine D)
machine_at machines slot = lookup (tree.is_at (nat_cmp slot)) machines

-- the order by slot, the highest first, and then by link
abbrev pub asking_cmp : Asking → Asking → Ordering
asking_cmp a b = ordering_then (nat_cmp b.slot.0 a.slot.0) (nat_cmp a.link b.link)

-- this link was asked for this slot
abbrev pub is_asked : List Asking → Asking → Bool
is_asked asked a = list_any (tree.is_at (asking_cmp a)) asked
