-- Which of the commands that a node is given its slot stage took (this project's profile).
use Rattle.std.specs.Prelude.{◌≡◌, false, List, [], ◌∷◌, ◌++◌, Option, Some, None, map, flat_map, option_to_list, slice_get}
use Rattle.scp_core.specs.scp_wire.specs.declared.link.Command.{Command}
use Rattle.scp_core.specs.scp_pending.specs.declared.ready.Ready.{Ready}
use Rattle.scp_core.specs.scp_pending.specs.declared.ready.Ready.TheVariants as ready
use Rattle.scp_core.specs.scp_pending.specs.Endings.{passing_command, commands_in, commands_of}
use Rattle.scp_core.specs.scp_ledger.specs.declared.took.CommandFate.{CommandFate}
use Rattle.scp_core.specs.declared.event.Event.{Event}
use Rattle.scp_core.specs.declared.event.Event.TheVariants.{Local, SlotTake}
use Rattle.scp_core.specs.declared.event.Reply.{Reply}
use Rattle.scp_core.specs.declared.event.Reply.TheVariants.{Accepted, Moved}
use Rattle.scp_core.specs.History.{Exchange}
use Rattle.scp_core.specs.Node.{NodeView}

-- ---- what is given

-- the command that an accepted event gives; a Tick goes no further than the pending stage
abbrev pub command_given : Event → List Command
command_given (Local command) = passing_command command
command_given event = []

-- the command that an event with its reply gives
abbrev pub given_by : Event → Reply → List Command
given_by event Accepted = command_given event
given_by event reply = []

-- the commands that exchanges give, in order
abbrev pub given_in : List Exchange → List Command
given_in heard = flat_map (λ x. given_by x.0 x.1) heard

-- ---- what is taken

-- a command that a slot stage took, with its fate
pub record TakenCommand : Type 0 where
  pub command : Command
  pub fate : CommandFate

-- a command with its fate; a Tick has none
abbrev pub with_fate : Command → Option CommandFate → List TakenCommand
with_fate command None = []
with_fate command (Some fate) = record { command = command; fate = fate } ∷ []

-- the command with its fate, where the thing that was taken is one
abbrev pub command_taken : Ready → Option CommandFate → List TakenCommand
command_taken (ready.Deliver delivery) fate = []
command_taken (ready.Dropped conn seq cause) fate = []
command_taken (ready.Closed conn cause) fate = []
command_taken (ready.Local command) fate = with_fate command fate

-- the same, where a thing was taken
abbrev pub front_taken : Option Ready → Option CommandFate → List TakenCommand
front_taken None fate = []
front_taken (Some thing) fate = command_taken thing fate

-- the commands of these, in order
abbrev pub commands_taken : List TakenCommand → List Command
commands_taken taken = map (λ t. t.command) taken

-- their fates, in order
abbrev pub fates_taken : List TakenCommand → List CommandFate
fates_taken taken = map (λ t. t.fate) taken

module _ {D : Type 0} where
  -- what a step that moves something takes: the slot stage takes the front of the ready queue, and the node then shows its fate
  abbrev pub taken_at : Event → NodeView D → NodeView D → List TakenCommand
  taken_at SlotTake old new = front_taken (slice_get old.ready 0) new.last_command
  taken_at event old new = []

  -- the command that the slot stage takes in a step
  abbrev pub taken_by : Event → Reply → NodeView D → NodeView D → List TakenCommand
  taken_by event Moved old new = taken_at event old new
  taken_by event reply old new = []

  -- ---- in turn

  -- the commands that a node that runs has and didn't take yet, in the order in which it takes them: in the ready queue, in the pending stage's
  -- hand, ready in that stage, and in the inbox
  abbrev pub commands_waiting : NodeView D → List Command
  commands_waiting v = commands_of v.ready ++ (commands_of (option_to_list v.pend_hand) ++ (commands_of v.pending.leaving ++ commands_in v.inbox))

  -- Of the commands that were given, those that were taken are the first ones, each once, in the order given. In a node that runs, the others
  -- wait, in that order.
  pub record AreInTurn (given : List Command) (taken : List TakenCommand) (v : NodeView D) : Type 0 where
    pub rest : List Command
    pub first : given ≡ commands_taken taken ++ rest
    pub waiting : v.failed ≡ false → rest ≡ commands_waiting v
