-- What became of the commands of a script, line by line (this project's profile). A node takes its commands in the order of their lines.
use Rattle.std.specs.Prelude.{ℕ, ◌+◌, ◌≡◌, Bool, true, false, List, [], ◌∷◌, ◌++◌, Option, Some, None, filter, length, map, nat_eq, option_to_list, slice_get, if◌then◌else◌}
use Rattle.scp_line.specs.scp_ledger.specs.declared.took.CommandFate.{CommandFate}
use Rattle.scp_line.specs.scp_ledger.specs.declared.took.CommandFate.TheVariants as fates
use Rattle.scp_line.specs.scp_core.specs.declared.event.Event.{Event}
use Rattle.scp_line.specs.scp_core.specs.declared.event.Event.TheVariants.{SlotTake}
use Rattle.scp_line.specs.scp_core.specs.declared.event.Reply.{Reply}
use Rattle.scp_line.specs.scp_core.specs.declared.event.Reply.TheVariants.{Moved}
use Rattle.scp_line.specs.scp_core.specs.Kv.{NodeView}
use Rattle.scp_line.specs.scp_turn.specs.Kv.{Noting}
use Rattle.scp_line.specs.scp_script.specs.declared.command.Command.{Command}
use Rattle.scp_line.specs.scp_script.specs.declared.command.Command.TheVariants.{Propose, Round, Timer, Ask}
use Rattle.scp_notices.specs.declared.commands.Told.{Told}
use Rattle.scp_notices.specs.declared.notice.Notice.{Notice}
use Rattle.scp_notices.specs.declared.notice.Notice.TheVariants.{Ignored}

-- ---- what the slot stages report

-- What a step of the node of this number reports, from the node after the step: what became of the command that its slot stage took, if it
-- took one.
abbrev pub told_at : ℕ → Event → Reply → NodeView → List Told
told_at number SlotTake Moved after' = map (λ fate. record { node = number; fate = fate }) (option_to_list after'.last_command)
told_at number event reply after' = []

-- the list of what was reported so far grows by what the step reports
abbrev pub Tells : Noting (List Told)
Tells old number event reply before after' new = new ≡ old ++ told_at number event reply after'

-- what the node of this number reported of its commands, one after another
abbrev pub told_by : ℕ → List CommandFate → List Told
told_by number fates = map (λ fate. record { node = number; fate = fate }) fates

-- what these nodes reported of their commands; the first node has this number
abbrev pub told_from : ℕ → List (List CommandFate) → List Told
told_from number [] = []
told_from number (fates ∷ nodes) = told_by number fates ++ told_from (number + 1) nodes

-- ---- to which line a report belongs

-- what was reported at a node, in its order
abbrev pub fates_at : ℕ → List Told → List CommandFate
fates_at number told = map (λ t. t.fate) (filter (λ t. nat_eq t.node number) told)

-- The node whose slot stage reports what becomes of the command. There is none for a `tick`, nor for a line that is no command.
abbrev pub teller : Command → Option ℕ
teller (Propose node slot value) = Some node
teller (Round node slot) = Some node
teller (Timer node slot) = Some node
teller (Ask from to slot) = Some from
teller command = None

-- the node is there, and is this one
abbrev pub is_told_by : ℕ → Option ℕ → Bool
is_told_by number None = false
is_told_by number (Some node) = nat_eq node number

-- the number of these commands on which a node reports
abbrev pub count_at : ℕ → List Command → ℕ
count_at number commands = length (filter (λ command. is_told_by number (teller command)) commands)

-- what a node reports of its next command after these, if it took that command
abbrev pub fate_by : List Told → List Command → Option ℕ → Option CommandFate
fate_by told before None = None
fate_by told before (Some number) = slice_get (fates_at number told) (count_at number before)

-- What became of a command, after those before it, if its node took it. A node's k-th report is of its k-th command.
abbrev pub fate_behind : List Told → List Command → Command → Option CommandFate
fate_behind told before command = fate_by told before (teller command)

-- the command did nothing
abbrev pub does_nothing : CommandFate → Bool
does_nothing fates.Proposed = false
does_nothing fates.RoundAdded = false
does_nothing fates.BallotMoved = false
does_nothing fates.Asked = false
does_nothing fate = true

-- ---- notices

-- a notice, if a line's command did nothing
abbrev pub ignored_by : ℕ → Option CommandFate → List Notice
ignored_by line None = []
ignored_by line (Some why) = if does_nothing why then Ignored line why ∷ [] else []

-- the same for each command in the lines of these numbers, after those before them
abbrev pub ignored_behind : List Told → List Command → List ℕ → List Command → List Notice
ignored_behind told before (line ∷ lines) (command ∷ commands) = ignored_by line (fate_behind told before command) ++ ignored_behind told (before ++ command ∷ []) lines commands
ignored_behind told before lines commands = []

-- a notice for each line whose command did nothing, in the order of the lines
abbrev pub ignored : List Told → List ℕ → List Command → List Notice
ignored told lines commands = ignored_behind told [] lines commands
