-- Nodes whose values are operation lists (this project's profile): the definitions of nodes, over what that application says of values.
use Rattle.std.specs.Prelude.{List, Option}
use Rattle.std.specs.FinMap as map
use Rattle.scp_theorem.specs.scp_kv.specs.Map.{KvMap}
use Rattle.scp_theorem.specs.scp_kv.specs.Saved.{state_of}
use Rattle.scp_theorem.specs.scp_kv.specs.State.{after_value}
use Rattle.scp_theorem.specs.scp_driver.specs.declared.kv_driver.KvDriver.{KvDriver}
use Rattle.scp_theorem.specs.scp_driver.specs.Kv.{kv_says}
use Rattle.scp_core.specs.declared.config.Config.{Config}
use Rattle.scp_core.specs.declared.event.Event.{Event}
use Rattle.scp_core.specs.declared.event.Reply.{Reply}
use Rattle.scp_core.specs.History.{Exchange, Past}
use Rattle.scp_core.specs.Node as node
use Rattle.scp_core.specs.Flow as flow
use Rattle.scp_core.specs.Theorem as theorem
use Rattle.scp_core.specs.Ledger as ledger
use Rattle.scp_core.specs.Headline as headline
use Rattle.scp_core.specs.Same as same

-- what contracts see of such a node
abbrev pub NodeView : Type 0
NodeView = node.NodeView KvDriver

-- an event that moves something
abbrev pub Moves : NodeView → Event → NodeView → Type 0
Moves old event new = node.Moves kv_says old event new

-- one event
abbrev pub Step : NodeView → Event → Reply → NodeView → Type 0
Step old event reply new = node.Step kv_says old event reply new

-- how the node and its past fit
abbrev pub Flows : Past → NodeView → Type 0
Flows p v = flow.Flows kv_says p v

-- the node of a configuration as it is made
abbrev pub made : Config → NodeView
made c = theorem.made (record {}) c

-- the ledger theorem, of each list of events with their replies
abbrev pub LedgerTheorem : List Exchange → NodeView → Type 0
LedgerTheorem past v = theorem.LedgerTheorem kv_says past v

-- what holds of a list of exchanges holds of the list with one more step
abbrev pub StepsKeep : Type 0
StepsKeep = theorem.StepsKeep kv_says

-- it failed at the exchange after these, by a step from what it was then
abbrev pub FailedAfter : List Exchange → List Exchange → NodeView → NodeView → Type 0
FailedAfter past earlier v moment = ledger.FailedAfter kv_says past earlier v moment

-- the ledger theorem in one record
abbrev pub HoldsLedger : List Exchange → NodeView → Type 0
HoldsLedger past v = ledger.HoldsLedger kv_says past v

-- `HoldsLedger` follows from `LedgerTheorem`
abbrev pub TheoremGivesLedger : Type 0
TheoremGivesLedger = ledger.TheoremGivesLedger kv_says

-- the state that such a node shows: what the applied operation lists make of the one with which it began, of the empty map if it began with no
-- bytes; a failed node shows none
abbrev pub state_shown : NodeView → Option KvMap
state_shown v = headline.state_shown (state_of v.applier.base) after_value v

-- the headline of such a node, with its state
abbrev pub HoldsHeadline : List Exchange → NodeView → Type 0
HoldsHeadline past v = headline.HoldsHeadline (node.Step kv_says) map.empty after_value past v

-- a node that holds its ledger holds its headline
abbrev pub LedgerGivesHeadline : Type 0
LedgerGivesHeadline = headline.LedgerGivesHeadline kv_says map.empty after_value

-- the same events give the same replies
abbrev pub SameEventsSameReplies : Type 0
SameEventsSameReplies = same.SameEventsSameReplies kv_says
