-- The lines that don't say of any message that it was sent (this project's profile).
use Rattle.std.specs.Prelude.{ℕ, List}
use Rattle.scp_core.specs.scp_types.specs.declared.names.NodeId.{NodeId}
use Rattle.scp_core.specs.scp_ledger.specs.declared.journal.Fate.{Fate}
use Rattle.scp_core.specs.scp_ledger.specs.declared.journal.Decision.{Decision}
use Rattle.scp_core.specs.scp_slot.specs.declared.timers.Timer.{Timer}
use Rattle.scp_core.specs.scp_ledger.specs.declared.took.CommandFate.{CommandFate}
use Rattle.scp_core.specs.declared.event.Reply.{Reply}
use Rattle.scp_live_lines.specs.Fates.{fate_line}
use Rattle.scp_live_lines.specs.Decisions.{decided_line, applied_line}
use Rattle.scp_live_lines.specs.Timers.{changes}
use Rattle.scp_live_lines.specs.Replies.{refused_line, ignored_lines, ok_line}
use Rattle.scp_live_lines.specs.Back.{SaysNothing}

-- With these names and peers, no other line that reports an event says of a message that it was sent.
pub record AreOthers (names : List (List ℕ)) (peers : List NodeId) : Type 0 where
  pub fates : (fate : Fate) → SaysNothing (fate_line names peers fate)
  pub decisions : (d : Decision) → SaysNothing (decided_line names peers d)
  pub applied : (d : Decision) → SaysNothing (applied_line d)
  pub timers : (old new : List Timer) → SaysNothing (changes old new)
  pub refusals : (reply : Reply) → SaysNothing (refused_line reply)
  pub ignored : (fate : CommandFate) → SaysNothing (ignored_lines fate)
  pub ends : (number : ℕ) → SaysNothing (ok_line number)
