use Rattle.std.proofs.Common.{◌≡◌, Some, map, take, string_bytes}
use Rattle.std.specs.List.{flat_map}
use Rattle.serde_json.specs.View.{view}
use Rattle.scp_quorum_files.specs.Documents.{text_in}
use Rattle.scp_quorum_files.specs.Networks.{id_of}
use Rattle.scp_quorum_files.proofs.read.read_nodes.Given as goal

abbrev pub invariant-loop-value : goal.invariant-loop-value
invariant-loop-value l = map (id_of (map string_bytes l.names)) (flat_map text_in (map view (take l.value-index l.values))) ≡ map Some l.nodes.items
