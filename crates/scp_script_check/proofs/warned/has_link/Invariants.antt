use Rattle.std.proofs.Common.{◌≡◌, drop}
use Rattle.scp_script_check.specs.inside.Sent.{has_sent}
use Rattle.scp_script_check.proofs.warned.has_link.Given as goal

-- what is left tells it
abbrev pub invariant-loop-link : goal.invariant-loop-link
invariant-loop-link l = has_sent (drop l.link-index l.links) l.from l.to ≡ has_sent l.links l.from l.to
