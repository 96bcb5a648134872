use Rattle.std.proofs.Common.{◌≡◌, ◌++◌, string_bytes}
use Rattle.scp_draw.specs.Page.{for_nodes, stem_text}
use Rattle.scp_draw.proofs.section.write_stems.Given as goal

-- those of the nodes so far
abbrev pub invariant-loop-index : goal.invariant-loop-index
invariant-loop-index l = string_bytes l.out ≡ string_bytes l.initial.out ++ for_nodes stem_text l.index
