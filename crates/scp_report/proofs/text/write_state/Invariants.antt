use Rattle.std.proofs.Common.{◌≡◌, ◌++◌, string_bytes, flat_map}
use Rattle.scp_report.specs.Text.{state_text_line}
use Rattle.scp_report.proofs.text.write_state.Given as goal

-- with what is left it is all
abbrev pub invariant-loop-key : goal.invariant-loop-key
invariant-loop-key l = string_bytes l.out ++ flat_map state_text_line l.key-iterator ≡ string_bytes l.initial.out ++ flat_map state_text_line l.initial.key-iterator
