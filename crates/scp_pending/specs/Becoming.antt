-- What would become of an item that the pending stage takes, by its rules (this project's profile).
use Rattle.std.specs.Prelude.{ℕ, Option, Some, None, if◌then◌else◌}
use Rattle.scp_wire.specs.scp_types.specs.declared.names.Hash.{Hash}
use Rattle.scp_wire.specs.scp_quorum.specs.QuorumTree.{QuorumTree}
use Rattle.scp_wire.specs.declared.carried.Carried.{Carried}
use Rattle.scp_wire.specs.declared.message.Message.{Message}
use Rattle.scp_wire.specs.declared.side.SideMessage.{SideMessage}
use Rattle.scp_wire.specs.declared.side.SideMessage.TheVariants.{GetSet, Set, NoSet}
use Rattle.scp_wire.specs.declared.link.Command.{Command}
use Rattle.scp_wire.specs.declared.link.Command.TheVariants.{Tick, Propose, Round, Timer, Ask}
use Rattle.scp_wire.specs.declared.link.Inbound.{Inbound}
use Rattle.scp_wire.specs.declared.link.Inbound.TheVariants as inbound
use Rattle.scp_fetch.specs.Wants.{is_wanted}
use Rattle.scp_pending.specs.Sanity.{is_sane}
use Rattle.scp_pending.specs.Queues.{is_open, waited_by}
use Rattle.scp_pending.specs.Rules.{Settled, link_number, opens, entering, goes_through, overflows, asks, is_answer}
use Rattle.scp_pending.specs.declared.parked.Parked.{Parked}
use Rattle.scp_pending.specs.declared.becoming.Becoming.{Becoming}
use Rattle.scp_pending.specs.declared.becoming.Becoming.TheVariants.{Nothing, Discarded, Opens, Goes, Parks, Answered, Stored, BadSet, Missed, Unwanted, Ticks}
use Rattle.scp_pending.specs.declared.becoming.Why.{Why}
use Rattle.scp_pending.specs.declared.becoming.Why.TheVariants.{Asks, Waits, Behind, Over}

-- Why a message is parked, by the hash that it waits for and the request that is made for it. If it waits for none, it is behind one of its
-- lane that waits.
abbrev pub why_by : Option Hash → Option (ℕ × Message) → Why
why_by None asked = Behind
why_by (Some hash) None = Waits
why_by (Some hash) (Some asked) = Asks

-- why a message is parked that enters like this
abbrev pub why_parked : Carried → Parked → Settled → Why
why_parked x p s = why_by (waited_by p) (asks (link_number x.conn.from s) p s.wanted)

-- what becomes of a live carried message that enters like this: it is one too many, or passes through, or is parked
abbrev pub enters_as : Carried → Parked → Settled → Becoming
enters_as x p s = if overflows x.conn p s.queues then Parks Over else (if goes_through x.conn p s.queues then Goes else Parks (why_parked x p s))

-- what becomes of a quorum set that came
abbrev pub set_becomes : QuorumTree → Settled → Becoming
set_becomes set s = if is_answer set s then (if is_sane set then Stored else BadSet) else Unwanted

-- what becomes of a live side message
abbrev pub side_becomes : SideMessage → Settled → Becoming
side_becomes (GetSet hash) s = Answered
side_becomes (Set set) s = set_becomes set s
side_becomes (NoSet hash) s = if is_wanted hash s.wanted then Missed else Unwanted

-- what becomes of a command: a Tick is a miss of all that is wanted, and any other passes
abbrev pub command_becomes : Command → Becoming
command_becomes Tick = Ticks
command_becomes (Propose slot value) = Nothing
command_becomes (Round slot) = Nothing
command_becomes (Timer slot) = Nothing
command_becomes (Ask link slot) = Nothing

-- what would become of an item if it were taken next
abbrev pub becoming : Settled → Inbound → Becoming
becoming s (inbound.Opened c) = if opens c s then Opens else Nothing
becoming s (inbound.Carried x) = if is_open x.conn s.queues then enters_as x (entering s.store x) s else Discarded
becoming s (inbound.Side c message) = if is_open c s.queues then side_becomes message s else Discarded
becoming s (inbound.Closed c cause) = Nothing
becoming s (inbound.Local command) = command_becomes command
