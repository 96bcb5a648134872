use Rattle.std.proofs.Common.{take}
use Rattle.scp_quorum_files.specs.inside.Agreeing.{AddAll}
use Rattle.scp_quorum_files.proofs.configs.add_names.Given as goal

abbrev pub invariant-loop-identity : goal.invariant-loop-identity
invariant-loop-identity l = AddAll l.initial.nodes.items (take l.identity-index l.identities) l.nodes.items
