use Rattle.std.proofs.Common.{drop, map, Option}
use Rattle.scp_device.specs.declared.bad.BadWord.{BadWord}
use Rattle.scp_script.specs.Reasons.{IsKindsFault}
use Rattle.scp_script.proofs.reason.wrong_word.Given as goal

-- the first of what is left is the first of all
abbrev pub invariant-loop-index : goal.invariant-loop-index
invariant-loop-index l = (found : Option BadWord) → IsKindsFault (drop l.index l.kinds) l.count (map (λ w. w.now) l.words) l.index found → IsKindsFault l.kinds l.count (map (λ w. w.now) l.words) 0 found
