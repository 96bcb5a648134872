-- Commands without the bytes that they send or propose. Whether a line may follow others doesn't depend on these bytes.
-- No public clause reaches this: nothing here need be believed.
use Rattle.std.specs.Prelude.{[]}
use Rattle.scp_script.specs.declared.command.Command.{Command}
use Rattle.scp_script.specs.declared.command.Command.TheVariants.{Caps, Nodes, Set, Open, Close, Send, Propose, Round, Timer, Tick, Ask, Settle, Wait, Report}

-- the command, with no bytes in place of those that it sends or proposes
abbrev pub bare : Command → Command
bare (Caps capacities) = Caps capacities
bare (Nodes count quorum) = Nodes count quorum
bare (Set node set) = Set node set
bare (Open from to) = Open from to
bare (Close from to) = Close from to
bare (Send from to bytes) = Send from to []
bare (Propose node slot value) = Propose node slot []
bare (Round node slot) = Round node slot
bare (Timer node slot) = Timer node slot
bare (Tick node) = Tick node
bare (Ask from to slot) = Ask from to slot
bare Settle = Settle
bare (Wait node things) = Wait node things
bare (Report node) = Report node
