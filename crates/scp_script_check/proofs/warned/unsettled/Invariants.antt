use Rattle.std.proofs.Common.{◌≡◌, drop}
use Rattle.scp_script_check.specs.Warnings.{rest_place}
use Rattle.scp_script_check.proofs.Telling.{place_with}
use Rattle.scp_script_check.proofs.warned.unsettled.Given as goal

-- with what is left it is all
abbrev pub invariant-loop-index : goal.invariant-loop-index
invariant-loop-index l = place_with l.found l.index (drop l.index l.commands) ≡ rest_place 0 l.commands
