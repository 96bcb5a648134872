use Rattle.std.proofs.Common.{map, take}
use Rattle.scp_quorum_files.specs.Configs.{AreConfigsOf}
use Rattle.scp_quorum_files.proofs.configs.read_configs.Given as goal

abbrev pub invariant-loop-place : goal.invariant-loop-place
invariant-loop-place l = AreConfigsOf (map (λ text. text.now) (take l.place l.texts)) l.network
