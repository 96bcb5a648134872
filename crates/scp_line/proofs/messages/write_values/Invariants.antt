use Rattle.std.proofs.Common.{◌≡◌, ◌++◌, drop, string_bytes, flat_map}
use Rattle.scp_line.specs.Play.{value_word}
use Rattle.scp_line.proofs.messages.write_values.Given as goal

-- with what is left it is all
abbrev pub invariant-loop-value : goal.invariant-loop-value
invariant-loop-value l = string_bytes l.text ++ flat_map value_word (drop l.value-index l.values) ≡ string_bytes l.initial.text ++ flat_map value_word l.values
