-- Why a script isn't played in threads.
-- No public clause reaches these definitions: nothing here need be believed.
use Rattle.std.specs.Prelude.{◌≢◌, List}
use Rattle.scp_line.specs.scp_types.specs.declared.fault.Fault.{Fault}
use Rattle.scp_line.specs.scp_types.specs.declared.fault.Fault.TheVariants.{NoMemory as no_memory}
use Rattle.scp_line.specs.scp_threaded_script.specs.Reported.{IsGivenUp}
use Rattle.scp_line.specs.scp_script.specs.declared.command.Command.{Command}
use Rattle.scp_line.specs.declared.playing.PlayFault.{PlayFault}
use Rattle.scp_notices.specs.declared.playing.RunFault.{RunFault}
use Rattle.scp_line.specs.scp_device.specs.declared.bad.ReadFault.TheVariants as reads
use Rattle.scp_notices.specs.declared.playing.RunFault.TheVariants.{Unread, GivenUp}

-- why a script ended in threads, from the fault of its nodes
abbrev pub ended_with : PlayFault → Fault → RunFault
ended_with fault no_memory = Unread reads.NoMemory
ended_with fault other = GivenUp fault

-- why a script ended in threads
abbrev pub ended_by : PlayFault → RunFault
ended_by fault = ended_with fault fault.fault

-- the nodes ended with a fault, and memory alone isn't the reason
abbrev pub IsEnding : List Command → RunFault → Type 0
IsEnding commands (GivenUp fault) = IsGivenUp commands (record { fault = fault.fault; node = fault.node }) × (fault.fault ≢ no_memory)
IsEnding commands fault = ⊥
