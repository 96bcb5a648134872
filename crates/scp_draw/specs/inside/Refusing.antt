-- Why a page isn't made, as the code finds it.
-- No public clause reaches this definition: nothing here need be believed.
use Rattle.std.specs.Prelude.{List}
use Rattle.scp_trace.specs.scp_script.specs.declared.command.Command.{Command}
use Rattle.scp_trace.specs.scp_device.specs.declared.bad.ReadFault.TheVariants as reads
use Rattle.scp_draw.specs.declared.drawing.DrawFault.{DrawFault}
use Rattle.scp_draw.specs.declared.drawing.DrawFault.TheVariants.{Unread, Stopped}
use Rattle.scp_draw.specs.Drawn.{IsStopped}

-- why nothing is drawn of a script without a bad line
abbrev pub IsCauseOf : List Command → DrawFault → Type 0
IsCauseOf commands (Unread reads.NoMemory) = Unit {0}
IsCauseOf commands (Unread fault) = ⊥
IsCauseOf commands (Stopped fault) = IsStopped commands fault
