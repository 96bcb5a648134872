use Rattle.std.proofs.Common.{◌≡◌, ◌<◌, take}
use Rattle.std.specs.List.{AllByRecursion}
use Rattle.scp_threaded_script.specs.Waits.{AreWaits}
use Rattle.scp_threaded_script.specs.inside.Outlets.{AreSameMarkers, all_given}
use Rattle.scp_threaded_script.specs.inside.Played.{HaveDone}
use Rattle.scp_threaded_script.proofs.lines.act_all.Given as goal

-- the lines so far were done, and those of them that gave up are `wait` lines
abbrev pub invariant-loop-command : goal.invariant-loop-command
invariant-loop-command g l = record {
  all : HaveDone l.commands (take l.command-index l.commands) l.nodes.items;
  place : l.place ≡ l.command-index;
  waits : AreWaits l.commands 0 l.gave_up.items;
  below : AllByRecursion (λ i. i < l.command-index) l.gave_up.items;
  given : all_given l.nodes.items ≡ all_given l.fn.nodes.items;
  markers : AreSameMarkers l.fn.markers.items l.markers.items;
}
