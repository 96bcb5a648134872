use Rattle.std.proofs.Common.{◌≡◌, ◌++◌, drop}
use Rattle.scp_core.specs.Node.{said_in}
use Rattle.scp_core.proofs.handing.said_in.Given as goal

-- with what is left it is all
abbrev pub invariant-loop-one : goal.invariant-loop-one
invariant-loop-one l = l.said.items ++ said_in (drop l.one-index l.outgoing) ≡ said_in l.outgoing
