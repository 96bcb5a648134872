use Rattle.std.proofs.Common.{◌≡◌, ◌++◌, drop, flat_map, string_bytes}
use Rattle.scp_trace_text.specs.Watching.{telling_text}
use Rattle.scp_trace_text.proofs.lines.lines_of.Given as goal

-- with the lines of what is left it is all
abbrev pub invariant-loop-telling : goal.invariant-loop-telling
invariant-loop-telling l =
    string_bytes l.text ++ flat_map (telling_text l.names l.node) (drop l.telling-index l.tellings)
    ≡ flat_map (telling_text l.names l.node) l.tellings
