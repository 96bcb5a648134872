use Rattle.std.proofs.Common.{◌≡◌, ◌++◌, drop, map}
use Rattle.scp_script_text.specs.Lines.{before}
use Rattle.scp_script_text.proofs.line.line_of.Given as goal

-- with the words that are left it is all
abbrev pub invariant-loop-word : goal.invariant-loop-word
invariant-loop-word l = l.line.items ++ before (map (λ w. w.now) (drop l.word-index l.words)) l.last ≡ before (map (λ w. w.now) l.words) l.last
