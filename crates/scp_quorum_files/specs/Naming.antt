-- Nodes by their names.
use Rattle.std.specs.Prelude.{◌≡◌, ℕ, List, Option, Some, None, option_map, string_bytes}
use Rattle.std.specs.List.{find, slice_get}
use Rattle.std.specs.Str.{bytes_eq}
use Rattle.scp_quorum_search.specs.scp_types.specs.declared.names.NodeId.{NodeId}
use Rattle.scp_quorum_files.specs.declared.network.Named.{Named}
use Rattle.scp_quorum_files.specs.declared.naming.NamingFault.{NamingFault}
use Rattle.scp_quorum_files.specs.declared.naming.NamingFault.TheVariants as fault

-- The id of the first of these nodes with this name, if there is one.
abbrev pub node_named : List Named → List ℕ → Option NodeId
node_named nodes name = option_map (λ (node : Named). node.id) (find (λ node. bytes_eq (string_bytes node.name) name) nodes)

-- Memory ran out, or no node has the name at this place.
abbrev pub IsNamingFault : List Named → List (List ℕ) → NamingFault → Type 0
IsNamingFault nodes names fault.NoMemory = Unit {0}
IsNamingFault nodes names (fault.NoNode place) = (name : List ℕ) × (slice_get names place ≡ Some name) × (node_named nodes name ≡ None)
