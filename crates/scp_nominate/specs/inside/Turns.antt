-- Who leads (this project's profile).
-- No public clause reaches this definition: nothing here need be believed.
use Rattle.std.specs.Prelude.{◌≡◌, ℕ, List, length}
use Rattle.std.specs.List.{AllWithin}
use Rattle.std.specs.declared.cmp.Ordering.TheVariants.{Less, Greater}
use Rattle.scp_vote.specs.scp_types.specs.declared.names.NodeId.{NodeId}
use Rattle.scp_vote.specs.scp_quorum.specs.NodeSet.{node_cmp}

-- the nodes before the place are less than the node, and the others are greater
pub record IsNodeGap (nodes : List NodeId) (node : NodeId) (at : ℕ) : Type 0 where
  pub below : AllWithin (λ w. node_cmp w node ≡ Less) nodes 0 at
  pub above : AllWithin (λ w. node_cmp w node ≡ Greater) nodes at (length nodes)
