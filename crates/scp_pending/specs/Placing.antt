-- The place of a local command in what is given.
use Rattle.std.specs.Prelude.{◌≡◌, List, ◌∷◌, ◌++◌, map}
use Rattle.std.specs.List.{AllByRecursion}
use Rattle.scp_wire.specs.scp_types.specs.declared.names.NodeId.{NodeId}
use Rattle.scp_wire.specs.declared.link.Command.{Command}
use Rattle.scp_wire.specs.declared.link.Inbound.{Inbound}
use Rattle.scp_wire.specs.declared.link.Inbound.TheVariants as inbound
use Rattle.scp_pending.specs.declared.ready.Ready.{Ready}
use Rattle.scp_pending.specs.declared.ready.Ready.TheVariants.{Local}
use Rattle.scp_pending.specs.Causes.{HasCause}
use Rattle.scp_pending.specs.Endings.{passing_command, commands_in, commands_of}
use Rattle.scp_pending.specs.Pends.{Pends, start_of}
use Rattle.scp_pending.specs.Rules.{PendingView, Settled, released_by}

-- a command, as it is given
abbrev pub as_given : Command → Ready
as_given command = Local command

-- Before the command is exactly what left because of what came before it, each with its cause in that, with the commands in
-- that. Then comes the command itself, unless it is a Tick; and then what left later.
pub record StandsAt (start : Settled) (before : List Inbound) (command : Command) (given : List Ready) : Type 0 where
  pub front : List Ready
  pub rest : List Ready
  pub at : given ≡ front ++ (map as_given (passing_command command) ++ rest)
  pub released : front ≡ released_by start before
  pub causes : AllByRecursion (HasCause start before) front
  pub commands : commands_of front ≡ commands_in before

-- each command is in its place, by where it came, in what was given and what is ready
abbrev pub CommandsKeepPlace : Type 0
CommandsKeepPlace = (me : NodeId) (peers : List NodeId) (taken : List Inbound) (given : List Ready) (v : PendingView) → Pends me peers taken given v → (before : List Inbound) (command : Command) (after' : List Inbound) → taken ≡ before ++ inbound.Local command ∷ after' → StandsAt (start_of me peers v) before command (given ++ v.leaving)
