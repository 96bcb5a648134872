-- A command in an account, and what became of it (this project's profile).
use Rattle.std.specs.Prelude.{codes}
use Rattle.serde_json.specs.Data.{Data, string, object, member, no_members}
use Rattle.scp_line.specs.scp_wire.specs.declared.link.Command.{Command}
use Rattle.scp_line.specs.scp_wire.specs.declared.link.Command.TheVariants.{Tick, Propose, Round, Timer, Ask}
use Rattle.scp_line.specs.scp_ledger.specs.declared.took.CommandFate.{CommandFate}
use Rattle.scp_line.specs.scp_words.specs.Words.{fate_word}
use Rattle.scp_account.specs.Pieces.{count, digits}

-- What became of a command, in the words of notices.
abbrev pub fate_json : CommandFate → Data
fate_json fate = string (fate_word fate)

-- A command, and what became of it.
abbrev pub command_json : Command → CommandFate → Data
command_json Tick fate = object (member (codes "command") (string (codes "tick")) (member (codes "fate") (fate_json fate) no_members))
command_json (Propose slot value) fate =
    object (member (codes "command") (string (codes "propose"))
    (member (codes "fate") (fate_json fate)
    (member (codes "slot") (count slot.0)
    (member (codes "value") (digits value) no_members))))
command_json (Round slot) fate =
    object (member (codes "command") (string (codes "round"))
    (member (codes "fate") (fate_json fate)
    (member (codes "slot") (count slot.0) no_members)))
command_json (Timer slot) fate =
    object (member (codes "command") (string (codes "timer"))
    (member (codes "fate") (fate_json fate)
    (member (codes "slot") (count slot.0) no_members)))
command_json (Ask link slot) fate =
    object (member (codes "command") (string (codes "ask"))
    (member (codes "fate") (fate_json fate)
    (member (codes "link") (count link)
    (member (codes "slot") (count slot.0) no_members))))
