use Rattle.std.proofs.Common.{◌≡◌, None, sym, map, ap, option_map, length, List, ℕ, Bor, inl, inr, arith, nat_lt, true, false, ◌<◌, ◌≤◌}
use Rattle.std.proofs.lemmas.Bool.Decides.{nat_tests}
use Rattle.std.proofs.lemmas.List.{length-map}
use Rattle.scp_script.specs.inside.Bare.{bare}
use Rattle.scp_script.specs.Script.{command_in}
use Rattle.scp_script.proofs.Lines.{command_in_other}
use Rattle.scp_script.proofs.line.bare_command.Goals.{in_default-via-then-words-lt1, in_default-via-else-words-lt1+else-words-lt2+else-words-lt3+else-words-lt4+else-words-lt5+else-words-lt6}
use Rattle.scp_script.proofs.line.bare_command.Goals as goal

pub returns-in_default-clause-found : goal.returns-in_default-clause-found
returns-in_default-clause-found c = λ other.
    let words : List (List ℕ) = map (λ (word : Bor (List ℕ)). word.now) c.args.words.now in
    let count : length words ≡ length c.args.words.now = simp length-map in
    let none : command_in words ≡ None = command_in_other words (elim c.in_default.branch [ in_default-via-then-words-lt1 w ↦ (let h : nat_lt (length c.args.words.now) 1 ≡ true = w.if-words-lt1-1.true in inl (let less : length c.args.words.now < 1 = grind (arith, nat_tests) in omega arith)) | in_default-via-else-words-lt1+else-words-lt2+else-words-lt3+else-words-lt4+else-words-lt5+else-words-lt6 w ↦ (let h : nat_lt (length c.args.words.now) 6 ≡ false = w.if-words-lt6-1.false in inr (let more : 6 ≤ length c.args.words.now = grind (arith, nat_tests) in omega arith)) ]) in
    sym (ap (option_map bare) none)
