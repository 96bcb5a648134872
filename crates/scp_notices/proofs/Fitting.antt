-- Each command of a script has the number of its line.
use Rattle.std.proofs.Common.{◌≡◌, ◌+◌, ◌++◌, ◌∙◌, [], ◌∷◌, ℕ, suc, List, None, length, map, refl, sym, ap}
use Rattle.std.specs.Prelude.{Option, Some, option_to_list}
use Rattle.scp_line.specs.scp_script.specs.declared.command.Command.{Command}
use Rattle.scp_line.specs.scp_script.specs.Words.{words_of}
use Rattle.scp_line.specs.scp_script.specs.Script.{command_in, commands_of}
use Rattle.scp_script_check.specs.Lines.{IsSaid, numbers_of}

one_each : (o : Option Command) (number : ℕ) (rest : List ℕ) (others : List Command) → length rest ≡ length others → length (map (λ (command : Command). number) (option_to_list o) ++ rest) ≡ length (option_to_list o ++ others)
one_each None number rest others e = e
one_each (Some command) number rest others e = ap (λ (n : ℕ). suc n) e

numbers_fit : (number : ℕ) (digits : List (List ℕ)) → length (numbers_of number digits) ≡ length (commands_of digits)
numbers_fit number [] = refl
numbers_fit number (line ∷ digits) = one_each (command_in (words_of line)) number (numbers_of (number + 1) digits) (commands_of digits) (numbers_fit (number + 1) digits)

pub lines_fit : (text : List ℕ) (commands : List Command) (lines : List ℕ) → IsSaid text commands lines → length lines ≡ length commands
lines_fit text commands lines said =
    ap (λ (l : List ℕ). length l) said.lines_are ∙ numbers_fit 1 said.digits ∙ sym (ap (λ (l : List Command). length l) said.commands_are)
