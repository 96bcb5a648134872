-- The commands of a node in a trace, as the text of a script has them, but with the names of nodes (this project's profile).
use Rattle.std.specs.Prelude.{ℕ, List, ◌++◌, codes}
use Rattle.std.specs.Fmt.{decimal}
use Rattle.scp_words.specs.scp_wire.specs.declared.link.Command.{Command}
use Rattle.scp_words.specs.scp_wire.specs.declared.link.Command.TheVariants as command
use Rattle.scp_facts.specs.scp_core.specs.declared.config.Config.{Config}
use Rattle.scp_facts.specs.scp_core.specs.History.{peer_at}
use Rattle.scp_stand_slot.specs.scp_text.specs.Values.{value_text}
use Rattle.scp_stand_slot.specs.declared.names.Names.{Names}
use Rattle.scp_stand_slot.specs.Names.{node_name}

-- A word followed by a number.
abbrev pub with_one : List ℕ → ℕ → List ℕ
with_one word a = word ++ codes " " ++ decimal a

-- A command as a script's line has it, without the node. A record is asked of the node at the other end of the link.
abbrev pub command_words : Names → Config → Command → List ℕ
command_words names config command.Tick = codes "tick"
command_words names config (command.Propose slot value) = with_one (codes "propose") slot.0 ++ codes " " ++ value_text value
command_words names config (command.Round slot) = with_one (codes "round") slot.0
command_words names config (command.Timer slot) = with_one (codes "timer") slot.0
command_words names config (command.Ask link slot) = codes "ask " ++ node_name names (peer_at config link) ++ codes " " ++ decimal slot.0
