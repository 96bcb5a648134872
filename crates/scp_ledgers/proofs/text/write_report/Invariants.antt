use Rattle.std.proofs.Common.{◌≡◌, ◌++◌, drop, flat_map, string_bytes}
use Rattle.scp_shown.specs.scp_history.specs.Lines.{line_text}
use Rattle.scp_ledgers.proofs.text.write_report.Given as goal

-- with what is left it is all
abbrev pub invariant-loop-line : goal.invariant-loop-line
invariant-loop-line l = string_bytes l.text ++ flat_map (line_text l.by_number) (drop l.line-index l.lines) ≡ string_bytes l.fn.text ++ flat_map (line_text l.by_number) l.lines
