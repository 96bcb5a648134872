-- Nodes that are side by side in quorum sets.
-- No public clause reaches this: nothing here need be believed.
use Rattle.std.specs.Prelude.{◌≡◌, List, count_by}
use Rattle.std.specs.List.{All, Any}
use Rattle.scp_quorum.specs.scp_types.specs.declared.names.NodeId.{NodeId}
use Rattle.scp_quorum.specs.scp_xdr.specs.Tree.{Trees, no_trees, tree_then}
use Rattle.scp_quorum.specs.QuorumTree.{Level, QuorumTree}
use Rattle.scp_quorum_search.specs.declared.member.Member.{Member}
use Rattle.scp_quorum_search.specs.inside.Search.{is_node}

-- a list has the one node as often as the other
abbrev pub AreAsOften : NodeId → NodeId → List NodeId → Type 0
AreAsOften a b nodes = count_by (is_node a) nodes ≡ count_by (is_node b) nodes

-- the same of each level of quorum sets in a row
abbrev pub StandInRow : NodeId → NodeId → Trees Level → Type 0
StandInRow a b no_trees = Unit {0}
StandInRow a b (tree_then level inner others) = (AreAsOften a b level.validators × StandInRow a b inner) × StandInRow a b others

-- the same of each level of a quorum set
abbrev pub StandTogether : NodeId → NodeId → QuorumTree → Type 0
StandTogether a b q = AreAsOften a b q.head.validators × StandInRow a b q.inner

-- each quorum set of the first node is one of the second
abbrev pub HaveOneSet : List Member → NodeId → NodeId → Type 0
HaveOneSet members a b = All (λ m. m.node ≡ a → Any (λ o. (o.node ≡ b) × (o.set ≡ m.set)) members) members
