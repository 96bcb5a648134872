use Rattle.std.proofs.Common.{◌≡◌, take}
use Rattle.scp_script_short.specs.Scripts.{script_of}
use Rattle.scp_script_short.proofs.Joined.{is_nil}
use Rattle.scp_script_short.proofs.placed.joined.Given as goal

-- the lines so far were written
abbrev pub invariant-loop-placed : goal.invariant-loop-placed
invariant-loop-placed l = (l.script.items ≡ script_of (take l.placed-index l.lines)) × (l.first ≡ is_nil (take l.placed-index l.lines))
