use Rattle.std.proofs.Common.{◌≡◌, ◌++◌, drop, take}
use Rattle.scp_notices.specs.Ignoring.{ignored, ignored_behind}
use Rattle.scp_notices.specs.inside.Queues.{AreQueues}
use Rattle.scp_notices.proofs.commands.add_ignored.Given as goal

-- with what is left it is all
abbrev pub invariant-loop-command : goal.invariant-loop-command
invariant-loop-command l = record {
  at : l.index ≡ l.command-index;
  queues_are : AreQueues l.told (take l.index l.commands) l.queues.items;
  all : l.out.items ++ ignored_behind l.told (take l.index l.commands) (drop l.index l.lines) (drop l.index l.commands) ≡ l.initial.out.items ++ ignored l.told l.lines l.commands;
}
