use Rattle.std.proofs.Common.{◌≡◌, ◌++◌, string_bytes, flat_map}
use Rattle.scp_report.specs.Settled.{state_line}
use Rattle.scp_report.proofs.settled.write_state.Given as goal

-- with what is left it is all
abbrev pub invariant-loop-key : goal.invariant-loop-key
invariant-loop-key l = string_bytes l.text ++ flat_map state_line l.key-iterator ≡ string_bytes l.initial.text ++ flat_map state_line l.initial.key-iterator
