use Rattle.std.proofs.Common.{◌≡◌, ◌++◌, drop, map}
use Rattle.scp_test_folder.proofs.content.named.Given as goal

-- with those of the numbers that are left it is all
abbrev pub invariant-loop-epoch : goal.invariant-loop-epoch
invariant-loop-epoch l = l.past.items ++ map (λ epoch. (epoch, l.log)) (drop l.epoch-index l.epochs) ≡ map (λ epoch. (epoch, l.log)) l.epochs
