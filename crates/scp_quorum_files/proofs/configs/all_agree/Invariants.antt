use Rattle.std.proofs.Common.{take}
use Rattle.std.specs.List.{All}
use Rattle.scp_quorum_files.specs.inside.Agreeing.{Agrees}
use Rattle.scp_quorum_files.proofs.configs.all_agree.Given as goal

abbrev pub invariant-loop-node : goal.invariant-loop-node
invariant-loop-node l = All (λ n. Agrees n l.identity) (take l.node-index l.nodes)
