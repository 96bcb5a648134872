use Rattle.std.proofs.Common.{◌≡◌, map}
use Rattle.scp_script.specs.Nodes.{numbers}
use Rattle.scp_script_hints.proofs.QuorumTexts.{member_of}
use Rattle.scp_script_hints.proofs.told.members_of.Given as goal

abbrev pub invariant-loop-index : goal.invariant-loop-index
invariant-loop-index l = l.members.items ≡ map (member_of l.commands) (numbers l.index)
