use Rattle.std.proofs.Common.{map, take, string_bytes}
use Rattle.scp_quorum_files.specs.inside.Failing.{AreNumbered}
use Rattle.scp_quorum_files.proofs.read.numbered.Given as goal

abbrev pub invariant-loop-place : goal.invariant-loop-place
invariant-loop-place l = AreNumbered (map string_bytes (take l.place l.names)) l.nodes.items
