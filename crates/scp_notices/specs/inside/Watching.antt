-- What a watch notes of commands.
-- No public clause reaches these definitions: nothing here need be believed.
use Rattle.std.specs.Prelude.{ℕ, ◌≡◌, ◌⊎◌, Bool, true, false, List, [], ◌++◌, Option, map, option_to_list}
use Rattle.scp_line.specs.scp_ledger.specs.declared.took.CommandFate.{CommandFate}
use Rattle.scp_line.specs.scp_core.specs.declared.event.Event.{Event}
use Rattle.scp_line.specs.scp_core.specs.declared.event.Event.TheVariants.{SlotTake}
use Rattle.scp_line.specs.scp_core.specs.declared.event.Reply.{Reply}
use Rattle.scp_line.specs.scp_core.specs.declared.event.Reply.TheVariants.{Moved}
use Rattle.scp_line.specs.scp_core.specs.Kv.{NodeView}
use Rattle.scp_line.specs.scp_turn.specs.Heard.{Nodes}
use Rattle.scp_line.specs.scp_script.specs.declared.command.Command.{Command}
use Rattle.scp_notices.specs.declared.commands.Told.{Told}
use Rattle.scp_notices.specs.Run.{with_cut}

-- what contracts see of a watch
pub record WatchView : Type 0 where
  pub told : List Told
  pub cut : List ℕ
  pub is_slot_take : Bool
  pub lacks_memory : Bool

-- a step of a slot stage
abbrev pub is_slot_take : Event → Bool
is_slot_take SlotTake = true
is_slot_take event = false

-- something moved
abbrev pub has_moved : Reply → Bool
has_moved Moved = true
has_moved reply = false

-- what became of a command at a node, if it took one
abbrev pub fates_told : ℕ → Option CommandFate → List Told
fates_told number fate = map (λ told. record { node = number; fate = told }) (option_to_list fate)

-- this was noted, or the watch is out of memory
abbrev pub Adds : WatchView → List Told → WatchView → Type 0
Adds old more new = (new.lacks_memory ≡ true) ⊎ (new ≡ record old { told = old.told ++ more })

-- what is noted after a step, from the reply and the node
abbrev pub told_behind : Bool → ℕ → Reply → NodeView → List Told
told_behind true number Moved node = fates_told number node.last_command
told_behind takes number reply node = []

-- what the watch notes after a step
abbrev pub notes_step : WatchView → ℕ → Reply → NodeView → WatchView → Type 0
notes_step old number reply node new = Adds old (told_behind old.is_slot_take number reply node) new

-- What the watch notes after a line: that it was cut off, if the nodes didn't come to rest in it. Or the watch is out of memory.
abbrev pub notes_line : WatchView → ℕ → Command → Bool → Nodes → WatchView → Type 0
notes_line old line command calm nodes new = (new.lacks_memory ≡ true) ⊎ (new ≡ record old { cut = with_cut old.cut line calm })
