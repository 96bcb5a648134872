use Rattle.std.proofs.Common.{◌≡◌, ◌+◌, drop, map}
use Rattle.scp_script.specs.Reasons.{first_wrong, foreign_in}
use Rattle.scp_script.proofs.bytes.foreign_word.Given as goal

-- the first of what is left is the first of all
abbrev pub invariant-loop-index : goal.invariant-loop-index
invariant-loop-index l = first_wrong (foreign_in l.expected) (l.index + 1) (map (λ w. w.now) (drop l.index l.words)) ≡ first_wrong (foreign_in l.expected) 1 (map (λ w. w.now) l.words)
