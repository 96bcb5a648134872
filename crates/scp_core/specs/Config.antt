-- Which configurations a node can have.
use Rattle.std.specs.Prelude.{ℕ, ◌≤◌, ◌≡◌, Bool, true, false, not, ◌&&◌, List, [], ◌∷◌, length}
use Rattle.scp_theorem.specs.scp_types.specs.declared.names.NodeId.{NodeId}
use Rattle.scp_theorem.specs.scp_quorum.specs.Sane.{IsSane}
use Rattle.scp_theorem.specs.Fates.{is_among}
use Rattle.scp_core.specs.declared.config.Config.{Config}
use Rattle.scp_theorem.specs.scp_types.specs.declared.limits.TheConstants.{PEER_LIMIT, LINK_LIMIT}
use Rattle.scp_theorem.specs.scp_types.specs.declared.capacities.Capacities.{Capacities}
use Rattle.scp_theorem.specs.scp_types.specs.Range.{AreInRange}

-- no peer is in the list twice
abbrev pub are_apart : List NodeId → Bool
are_apart [] = true
are_apart (peer ∷ peers) = not (is_among peer peers) && are_apart peers

-- at most this many peers, none twice and not the node itself, and capacities from 1 to 1,024
pub record IsFitWithin (most : ℕ) (me : NodeId) (peers : List NodeId) (capacities : Capacities) : Type 0 where
  pub few : length peers ≤ most
  pub apart : are_apart peers ≡ true
  pub others : is_among me peers ≡ false
  pub in_range : AreInRange capacities

-- such a configuration with a sane quorum set
pub record IsConfigWithin (most : ℕ) (c : Config) : Type 0 where
  pub sane : IsSane c.set
  pub fit : IsFitWithin most c.me c.peers c.capacities

-- the configuration of a node of at most seven peers
abbrev pub IsConfig : Config → Type 0
IsConfig c = IsConfigWithin PEER_LIMIT c

-- the configuration of a node of at most a hundred peers
abbrev pub IsConfigOfMany : Config → Type 0
IsConfigOfMany c = IsConfigWithin LINK_LIMIT c
