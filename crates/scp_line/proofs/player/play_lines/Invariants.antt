use Rattle.std.proofs.Common.{◌≡◌, take}
use Rattle.scp_line.specs.Player.{lining}
use Rattle.scp_line.proofs.Runs.{PlaysSo}
use Rattle.scp_line.proofs.player.play_lines.Given as goal

-- the lines so far were played, and the watch noted each
abbrev pub invariant-loop-command : goal.invariant-loop-command
invariant-loop-command g l = record {
  at : l.index ≡ l.command-index;
  so : PlaysSo (lining g.W.LineWatch.notes_begin g.W.LineWatch.notes_end g.W.Watch.notes_before g.W.Watch.notes_after) l.commands (take l.index l.commands) (take l.index l.lines) l.network l.initial.watch l.watch;
}
