use Rattle.std.proofs.Common.{◌≡◌, take, string_bytes}
use Rattle.std.specs.List.{flat_map}
use Rattle.scp_script_hints.specs.Told.{halting_line}
use Rattle.scp_script_hints.proofs.told.halting_text.Given as goal

abbrev pub invariant-loop-lost : goal.invariant-loop-lost
invariant-loop-lost l = string_bytes l.out ≡ flat_map (halting_line l.node) (take l.lost-index l.lost-items)
