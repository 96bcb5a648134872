-- What the code does with queues and outcomes, on the way to the rules; nothing here need be believed.
use Rattle.std.specs.Prelude.{ℕ, ◌<◌, ◌≡◌, ◌++◌, true, List, Option, Some, length, get_or, set, remove, flat_map}
use Rattle.std.specs.List.{AllZip}
use Rattle.scp_wire.specs.scp_types.specs.declared.names.ConnId.{ConnId}
use Rattle.scp_wire.specs.scp_types.specs.declared.names.Hash.{Hash}
use Rattle.scp_wire.specs.declared.carried.Carried.{Carried}
use Rattle.scp_pending.specs.Queues.{QueueView, is_open, parked_of, others, changed, with_set, lost_by, hash_of}
use Rattle.scp_pending.specs.Messages.{IsParkedAs}
use Rattle.scp_pending.specs.declared.parked.Parked.{Parked}
use Rattle.scp_pending.specs.declared.parked.Outcome.{Outcome}
use Rattle.scp_pending.specs.declared.parked.Outcome.TheVariants.{Has, Lost}

abbrev pub outcome_of : Outcome → Carried → Parked
outcome_of (Has set) x = with_set (Some set.value) x
outcome_of (Lost cause) x = lost_by cause x

abbrev pub HasHash : Option Hash → Outcome → Type 0
HasHash hash (Has set) = hash ≡ Some (hash_of set.value)
HasHash hash (Lost cause) = Unit {0}

-- the connection's queue is at this place
pub record IsPlace (c : ConnId) (queues : List QueueView) (place : ℕ) : Type 0 where
  pub within : place < length queues
  pub open_here : is_open c queues ≡ true
  pub parked : (d : QueueView) → parked_of c queues ≡ (get_or queues place d).parked
  pub mine : (d : QueueView) → (get_or queues place d).conn ≡ c
  pub others_are : others c queues ≡ remove queues place
  pub changed_is : (f : QueueView → QueueView) (d : QueueView) → changed c f queues ≡ set queues place (f (get_or queues place d))

-- the messages of what was parked were added
pub record Adds (ps : List Parked) (old new : List Carried) : Type 0 where
  pub more : List Carried
  pub grows : new ≡ old ++ more
  pub are : AllZip IsParkedAs ps more

-- what is parked in all queues, queue after queue
abbrev pub parked_in_all : List QueueView → List Parked
parked_in_all queues = flat_map (λ q. q.parked) queues
