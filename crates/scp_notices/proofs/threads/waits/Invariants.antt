use Rattle.std.proofs.Common.{◌≡◌, drop}
use Rattle.std.specs.List.{list_any}
use Rattle.scp_notices.specs.Threads.{is_wait}
use Rattle.scp_notices.proofs.threads.waits.Given as goal

-- what is left tells it
abbrev pub invariant-loop-command : goal.invariant-loop-command
invariant-loop-command l = list_any is_wait (drop l.command-index l.commands) ≡ list_any is_wait l.commands
