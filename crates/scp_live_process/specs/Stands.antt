-- The status of a node that runs as a process, with nodes shown by the names of its configuration (this project's profile).
use Rattle.std.specs.Prelude.{ℕ, List, [], None, map}
use Rattle.scp_live.specs.scp_live_config.specs.Names.{Identity}
use Rattle.scp_live.specs.Live.{LiveView}
use Rattle.scp_stand_node.specs.scp_stand_slot.specs.NodeNames.{Naming}
use Rattle.scp_stand_node.specs.scp_stand_slot.specs.declared.names.Names.{Names}
use Rattle.scp_stand_node.specs.scp_stand_slot.specs.Names.{AreNamesOf}
use Rattle.scp_stand_node.specs.Stand.{IsStand}

-- The name that a configuration gives a node.
abbrev pub naming_in : Identity → Naming
naming_in identity = record { id = identity.id; name = identity.name }

-- The names are those that a configuration gives nodes. Quorum sets have none, so they are shown by their hashes.
abbrev pub AreNamesIn : List Identity → Names → Type 0
AreNamesIn nodes names = AreNamesOf [] (map naming_in nodes) names

-- The status of the node, with these names. It plays in no script.
pub record TellsStand (v : LiveView) (told : List ℕ) : Type 0 where
  pub names : Names
  pub named : AreNamesIn v.nodes names
  pub is : IsStand names None v.node told
