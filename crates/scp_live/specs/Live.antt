-- A node with what was reported to its host, and the lines that report an event (this project's profile).
use Rattle.std.specs.Prelude.{◌≡◌, ℕ, Bool, true, false, List, [], Option, Some, None, ◌++◌, length, drop, flat_map, if◌then◌else◌}
use Rattle.scp_again.specs.scp_types.specs.declared.limits.TheConstants.{WINDOW}
use Rattle.scp_again.specs.scp_slot.specs.declared.timers.Timer.{Timer}
use Rattle.scp_again.specs.scp_ledger.specs.Timers.{AreTimers}
use Rattle.sha2.specs.Sha256.{sha256}
use Rattle.scp_again.specs.scp_ledger.specs.declared.took.CommandFate.{CommandFate}
use Rattle.scp_again.specs.scp_wire.specs.declared.link.Command.{Command}
use Rattle.scp_again.specs.scp_wire.specs.declared.link.Command.TheVariants.{Tick}
use Rattle.scp_again.specs.scp_core.specs.declared.event.Event.{Event}
use Rattle.scp_again.specs.scp_core.specs.declared.event.Event.TheVariants.{Local}
use Rattle.scp_again.specs.scp_core.specs.declared.event.Reply.{Reply}
use Rattle.scp_again.specs.scp_core.specs.declared.event.Reply.TheVariants as reply
use Rattle.scp_again.specs.scp_core.specs.History.{Exchange}
use Rattle.scp_again.specs.scp_core.specs.Kv.{NodeView}
use Rattle.scp_turn.specs.declared.sending.Sending.{Sending}
use Rattle.scp_turn.specs.Episode.{sent_in}
use Rattle.scp_turn.specs.Kv.{IsEpisode}
use Rattle.scp_live_config.specs.Names.{Identity}
use Rattle.scp_live_lines.specs.Names.{name_at}
use Rattle.scp_live_lines.specs.Sent.{send_line}
use Rattle.scp_live_lines.specs.Fates.{fate_line}
use Rattle.scp_live_lines.specs.Decisions.{decided_line, applied_line}
use Rattle.scp_live_lines.specs.Replies.{refused_line, ignored_lines}
use Rattle.scp_live_lines.specs.Timers.{changes}

-- A node, the names of its peers in the order of the links, all names that its configuration gives nodes, each with the id that it is for,
-- and the timers that its host was last asked to run.
pub record LiveView : Type 0 where
  pub node : NodeView
  pub names : List (List ℕ)
  pub nodes : List Identity
  pub timers : List Timer

-- The line of a message that was sent.
abbrev pub sent_line : List (List ℕ) → Sending → List ℕ
sent_line names s = send_line (name_at names s.link) s.bytes

-- The lines of all messages that were sent, in order.
abbrev pub sends : List (List ℕ) → List Exchange → List ℕ
sends names heard = flat_map (sent_line names) (sent_in heard)

-- The slot stage says what becomes of the command: it is no tick.
abbrev pub is_told : Command → Bool
is_told Tick = false
is_told command = true

-- The event is such a command.
abbrev pub has_fate : Event → Bool
has_fate (Local command) = is_told command
has_fate event = false

-- What became of such a command, as the node shows it of the last one that its slot stage took. Of any other event nothing is shown.
abbrev pub fate_at : NodeView → Bool → Option CommandFate
fate_at v is_command = if is_command then v.last_command else None

-- The line of a command that changed nothing, if a command with this fate was taken.
abbrev pub ignored : Option CommandFate → List ℕ
ignored None = []
ignored (Some fate) = ignored_lines fate

-- What is reported of the reply to an event. If it was accepted, that its command changed nothing, where that is so, and why. If not, the line
-- of its refusal.
abbrev pub outcome : Reply → Option CommandFate → List ℕ
outcome reply.Accepted fate = ignored fate
outcome other fate = refused_line other

-- The line of each fate after the first `before` ones.
abbrev pub new_fates : List (List ℕ) → ℕ → NodeView → List ℕ
new_fates names before v = flat_map (fate_line names v.config.peers) (drop before v.ledger.journal)

-- The line of each decision after the first `before` ones.
abbrev pub new_decisions : List (List ℕ) → ℕ → NodeView → List ℕ
new_decisions names before v = flat_map (decided_line names v.config.peers) (drop before v.ledger.decisions)

-- The line of each applied slot after the first `before` ones.
abbrev pub newly_applied : ℕ → NodeView → List ℕ
newly_applied before v = flat_map applied_line (drop before v.applier.applied)

-- The lines that report an episode of this event, which began with this reply. They say why the event was refused, or why its command
-- changed nothing; then what was sent, and the new fates, decisions and applied slots. Last come the timers that no longer run and those that
-- run from now on.
abbrev pub told_of : Event → List (List ℕ) → List Timer → List Timer → Reply → NodeView → List Exchange → NodeView → List ℕ
told_of event names before after' reply old heard new =
    outcome reply (fate_at new (has_fate event)) ++ sends names heard
    ++ new_fates names (length old.ledger.journal) new ++ new_decisions names (length old.ledger.decisions) new ++ newly_applied (length old.applier.applied) new
    ++ changes before after'

-- The timers that the host of the node should run.
abbrev pub AreTimersOf : NodeView → List Timer → Type 0
AreTimersOf v timers = AreTimers v.ledger.machines v.ledger.lowest WINDOW timers

-- What an event did and how it was reported. It was an episode; its lines follow the text; the digest is that of the lines of what was
-- sent.
pub record IsTold (event : Event) (names : List (List ℕ)) (before after' : List Timer) (old : NodeView) (heard : List Exchange) (new : NodeView) (text longer digest : List ℕ) : Type 0 where
  pub reply : Reply
  pub episode : IsEpisode event reply old heard new
  pub lines : longer ≡ text ++ told_of event names before after' reply old heard new
  pub digest_is : digest ≡ sha256 (sends names heard)
