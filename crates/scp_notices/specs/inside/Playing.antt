-- Why a script stops while it is played.
-- No public clause reaches these definitions: nothing here need be believed.
use Rattle.std.specs.Prelude.{ℕ, List}
use Rattle.scp_line.specs.scp_types.specs.declared.fault.Fault.{Fault}
use Rattle.scp_line.specs.scp_types.specs.declared.fault.Fault.TheVariants.{NoMemory as no_memory}
use Rattle.scp_line.specs.scp_turn.specs.Network.{NetworkView}
use Rattle.scp_line.specs.scp_script.specs.declared.command.Command.{Command}
use Rattle.scp_line.specs.declared.playing.PlayFault.{PlayFault}
use Rattle.scp_line.specs.Player.{Lining}
use Rattle.scp_notices.specs.declared.notice.Notice.{Notice}
use Rattle.scp_notices.specs.declared.playing.RunFault.{RunFault}
use Rattle.scp_notices.specs.declared.playing.RunFault.TheVariants.{Stopped, Unread}
use Rattle.scp_notices.specs.Run.{IsStoppedIn, IsWatched, Shows}
use Rattle.scp_line.specs.scp_device.specs.declared.bad.ReadFault.TheVariants as reads

-- why a script stopped in a line, from the fault of that line
abbrev pub stop_by : ℕ → PlayFault → Fault → RunFault
stop_by line fault no_memory = Unread reads.NoMemory
stop_by line fault other = Stopped line fault

-- why a script stopped in a line
abbrev pub stop_of : ℕ → PlayFault → RunFault
stop_of line fault = stop_by line fault fault.fault

-- a line wasn't done, and memory alone isn't the reason
abbrev pub IsStop : List Command → List ℕ → RunFault → Type 0
IsStop commands lines (Stopped line fault) = IsStoppedIn commands lines line fault
IsStop commands lines fault = ⊥

-- the nodes played all commands, the notices are those of that run, and another watch noted it too
abbrev pub ShowsBoth : {W : Type 0} → Lining W → List Command → List ℕ → NetworkView → List Notice → W → W → Type 0
ShowsBoth {W} L commands lines network notices old new = (shows : Shows commands lines network notices) × IsWatched L commands lines network notices shows old new
