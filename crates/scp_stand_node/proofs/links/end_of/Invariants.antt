use Rattle.std.proofs.Common.{◌≡◌, drop}
use Rattle.scp_stand_node.specs.Links.{ended_by}
use Rattle.scp_stand_node.proofs.links.end_of.Given as goal

-- what is left tells it
abbrev pub invariant-loop-fate : goal.invariant-loop-fate
invariant-loop-fate l = ended_by l.conn (drop l.fate-index l.journal) ≡ ended_by l.conn l.journal
