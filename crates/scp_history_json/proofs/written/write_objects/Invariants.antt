use Rattle.std.proofs.Common.{◌≡◌, ◌++◌, drop, flat_map, string_bytes}
use Rattle.scp_history_json.specs.Json.{line_object}
use Rattle.scp_history_json.proofs.written.write_objects.Given as goal

-- with what is left it is all
abbrev pub invariant-loop-line : goal.invariant-loop-line
invariant-loop-line l = string_bytes l.text ++ flat_map (line_object l.by_number) (drop l.line-index l.lines) ≡ string_bytes l.fn.text ++ flat_map (line_object l.by_number) l.lines
