-- Where the nodes of a script stand, at a moment of its run and at its end (this project's profile).
use Rattle.std.specs.Prelude.{ℕ, ◌+◌, ◌-◌, ◌≡◌, Bool, true, false, not, ◌&&◌, ◌||◌, List, [], ◌∷◌, ◌++◌, Some, codes, nat_eq, slice_get}
use Rattle.std.specs.List.{list_any}
use Rattle.scp_line.specs.scp_core.specs.Kv.{NodeView}
use Rattle.scp_line.specs.scp_turn.specs.Heard.{Nodes as NodeList, Heard}
use Rattle.scp_line.specs.scp_script.specs.declared.command.Command.{Command}
use Rattle.scp_line.specs.scp_script.specs.declared.command.Command.TheVariants.{Report}
use Rattle.scp_line.specs.scp_script.specs.Script.{node_count}
use Rattle.scp_line.specs.Play.{ArePlayed, Hears, HoldLedgers, driven_in}
use Rattle.scp_script_check.specs.Nodes.{is_scripted_in, acts_on, settles_them}
use Rattle.scp_stand_node.specs.scp_stand_slot.specs.declared.names.Names.{Names}
use Rattle.scp_stand_node.specs.Slots.{AreTexts}
use Rattle.scp_stand_node.specs.Stand.{IsStand}

-- a moment of a run: what the nodes of a script heard so far, and how the nodes are then
pub record Moment : Type 0 where
  pub heard : List Heard
  pub nodes : NodeList

-- the moment at which a run begins, with these nodes
abbrev pub beginning : NodeList → Moment
beginning first = record { heard = []; nodes = first }

-- at the next moment, the nodes heard also what this line says
pub record Follows (all : List Command) (command : Command) (now next : Moment) : Type 0 where
  pub more : List Heard
  pub heard : next.heard ≡ now.heard ++ more
  pub hears : Hears (driven_in all) (node_count all) command now.nodes more next.nodes

-- The nodes of a script played these lines, from the first line on, and each of them holds its ledger.
pub record HavePlayed (all done : List Command) (now : Moment) : Type 0 where
  pub played : ArePlayed all done now.heard now.nodes
  pub ledgers : HoldLedgers now.heard now.nodes

-- the text shows where the node stands, in a script of these lines, of which the second ones were played
abbrev pub IsStandIn : Names → List Command → List Command → NodeView → List ℕ → Type 0
IsStandIn names all done node text = IsStand names (Some (record { all = all; played = done })) node text

-- the text shows where the node of this number stands, after these lines were played
abbrev pub TellsNode : Names → List Command → List Command → NodeList → ℕ → List ℕ → Type 0
TellsNode names all done nodes number text = (node : NodeView) × (slice_get nodes (number - 1) ≡ Some node) × IsStandIn names all done node text

-- ---- at the end

-- the command puts something into a queue, or brings the nodes to rest
abbrev pub acts : Command → Bool
acts command = acts_on command || settles_them command

-- the command is a `report` line for the node of this number
abbrev pub asks_for : ℕ → Command → Bool
asks_for number (Report at) = nat_eq at number
asks_for number command = false

-- One of the commands asks for a report of the node, and no later command acts.
abbrev pub is_told : ℕ → List Command → Bool
is_told number [] = false
is_told number (command ∷ commands) = (asks_for number command && not (list_any acts commands)) || is_told number commands

-- nothing if the first argument is true, else where the node stands
abbrev pub TellsUnless : Bool → Names → List Command → NodeList → ℕ → List ℕ → Type 0
TellsUnless true names all nodes number text = text ≡ []
TellsUnless false names all nodes number text = TellsNode names all all nodes number text

-- Nothing is shown of the node at the end: the script alone speaks for it, or it was already reported and nodes aren't shown anew.
abbrev pub is_left_out : Bool → ℕ → List Command → Bool
is_left_out anew number all = (not anew && is_told number all) || is_scripted_in number all

-- What is shown of a node at the end: where it stands, unless it is left out.
abbrev pub TellsLast : Bool → Names → List Command → NodeList → ℕ → List ℕ → Type 0
TellsLast anew names all nodes number text = TellsUnless (is_left_out anew number all) names all nodes number text

-- The line `end`, and then for each node, in the order of their numbers, where it stands at this moment, as `TellsLast` says.
pub record IsEnd (anew : Bool) (names : Names) (all : List Command) (now : Moment) (text : List ℕ) : Type 0 where
  pub played : HavePlayed all all now
  pub stands : List ℕ
  pub of_nodes : AreTexts (λ index. TellsLast anew names all now.nodes (index + 1)) (node_count all) stands
  pub is : text ≡ codes "end\n" ++ stands
