use Rattle.std.proofs.Common.{◌≡◌, ◌++◌, None, map, drop, string_bytes}
use Rattle.std.specs.Prelude.{option_map}
use Rattle.scp_trace_text.specs.Facts.{told_lines}
use Rattle.scp_trace_text.proofs.told.write_shown.Given as goal

-- with the lines of what is left it is all
abbrev pub invariant-loop-index : goal.invariant-loop-index
invariant-loop-index l =
    string_bytes l.out ++ told_lines l.scene.names.now l.scene.line l.scene.nodes.now (option_map (λ told. told.now) l.last) (map (λ told. told.now) (drop l.index l.facts))
    ≡ string_bytes l.initial.out ++ told_lines l.scene.names.now l.scene.line l.scene.nodes.now None (map (λ told. told.now) l.facts)
