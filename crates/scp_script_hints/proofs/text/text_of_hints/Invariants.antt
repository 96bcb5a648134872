use Rattle.std.proofs.Common.{◌≡◌, ◌++◌, drop, flat_map, string_bytes}
use Rattle.scp_script_hints.specs.Texts.{hint_text}
use Rattle.scp_script_hints.proofs.text.text_of_hints.Given as goal

-- with what is left it is all
abbrev pub invariant-loop-hint : goal.invariant-loop-hint
invariant-loop-hint l = string_bytes l.out ++ flat_map hint_text (drop l.hint-index l.hints) ≡ flat_map hint_text l.hints
