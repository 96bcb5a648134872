use Rattle.std.proofs.Common.{◌≡◌, ◌++◌, drop, flat_map, string_bytes}
use Rattle.scp_script_check.specs.Texts.{warning_text}
use Rattle.scp_script_check.proofs.text.text_of_warnings.Given as goal

-- with what is left it is all
abbrev pub invariant-loop-warning : goal.invariant-loop-warning
invariant-loop-warning l = string_bytes l.out ++ flat_map warning_text (drop l.warning-index l.warnings) ≡ flat_map warning_text l.warnings
