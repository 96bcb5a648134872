use Rattle.std.proofs.Common.{map, filter, take, string_bytes}
use Rattle.std.specs.List.{AllZip}
use Rattle.serde_json.specs.View.{view}
use Rattle.scp_quorum_files.specs.Networks.{has_set, SaysMember}
use Rattle.scp_quorum_files.proofs.read.read_members.Given as goal

abbrev pub invariant-loop-place : goal.invariant-loop-place
invariant-loop-place l = AllZip (SaysMember l.form (map string_bytes l.names)) (filter (has_set l.form) (map view (take l.place l.nodes))) l.members.items
