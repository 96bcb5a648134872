-- The nodes that are named by the sets of what is heard, and of which nothing is heard.
use Rattle.std.specs.Prelude.{◌≡◌, ℕ, List, [], flat_map, None}
use Rattle.std.specs.Option.{option_map_or}
use Rattle.scp_history.specs.scp_types.specs.declared.names.NodeId.{NodeId}
use Rattle.scp_history.specs.scp_quorum.specs.Sane.{all_nodes}
use Rattle.scp_history.specs.scp_ledger.specs.Journal.{Heard}
use Rattle.scp_history.specs.scp_judged.specs.Verdicts.{heard_by}
use Rattle.scp_history.specs.declared.line.Line.{Line}
use Rattle.scp_history.specs.declared.line.Line.TheVariants.{Silent}
use Rattle.scp_shown.specs.Listed.{Picks, ascending}
use Rattle.scp_shown.specs.ValueLines.{if_any}

-- the nodes of the set that a node's last ballot statement names
abbrev pub named_by : List Heard → NodeId → List NodeId
named_by hs v = option_map_or (λ (h : Heard). all_nodes h.set) (heard_by hs v) []

-- the nodes of the sets that these nodes name last, ascending, each once
abbrev pub nodes_named : List Heard → List NodeId → List NodeId
nodes_named hs nodes = ascending (flat_map (named_by hs) nodes)

-- nothing is heard of the node
abbrev pub IsSilent : List Heard → NodeId → Type 0
IsSilent hs v = heard_by hs v ≡ None

-- the line of the silent nodes, if there are any
pub record AreSilentLines (ledger : ℕ) (hs : List Heard) (nodes : List NodeId) (lines : List Line) : Type 0 where
  pub silent : List NodeId
  pub are_silent : Picks (IsSilent hs) (nodes_named hs nodes) silent
  pub all : lines ≡ if_any (λ vs. Silent ledger vs) silent
