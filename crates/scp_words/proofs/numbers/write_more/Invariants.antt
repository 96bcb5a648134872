use Rattle.std.proofs.Common.{◌≡◌, ◌++◌, drop, string_bytes, flat_map}
use Rattle.scp_words.specs.Words.{behind_comma}
use Rattle.scp_words.proofs.numbers.write_more.Given as goal

-- with what is left it is all
abbrev pub invariant-loop-number : goal.invariant-loop-number
invariant-loop-number l = string_bytes l.text ++ flat_map behind_comma (drop l.number-index l.numbers) ≡ string_bytes l.initial.text ++ flat_map behind_comma l.numbers
