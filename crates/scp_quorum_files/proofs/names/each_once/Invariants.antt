use Rattle.std.proofs.Common.{◌≡◌, map, take, string_bytes}
use Rattle.scp_quorum_files.specs.Networks.{each_once}
use Rattle.scp_quorum_files.proofs.names.each_once.Given as goal

abbrev pub invariant-loop-text : goal.invariant-loop-text
invariant-loop-text l = map string_bytes l.once.items ≡ each_once (map string_bytes (take l.text-index l.texts))
