use Rattle.std.proofs.Common.{map, take, string_bytes}
use Rattle.std.specs.List.{AllZip}
use Rattle.serde_json.specs.View.{view}
use Rattle.scp_quorum_files.specs.Networks.{SaysOrganisation}
use Rattle.scp_quorum_files.proofs.read.read_organisations.Given as goal

abbrev pub invariant-loop-place : goal.invariant-loop-place
invariant-loop-place l = AllZip (SaysOrganisation (map string_bytes l.names)) (map view (take l.place l.values)) l.found.items
