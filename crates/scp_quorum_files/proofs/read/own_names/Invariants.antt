use Rattle.std.proofs.Common.{◌≡◌, Some, map, take, string_bytes}
use Rattle.serde_json.specs.View.{view}
use Rattle.scp_quorum_files.specs.Networks.{node_name, each_once}
use Rattle.scp_quorum_files.proofs.read.own_names.Given as goal

abbrev pub invariant-loop-place : goal.invariant-loop-place
invariant-loop-place l =
    record {
      given : map (node_name l.form) (map view (take l.place l.nodes)) ≡ map Some (map string_bytes l.own.items);
      once : each_once (map string_bytes l.own.items) ≡ map string_bytes l.own.items;
    }
