use Rattle.std.proofs.Common.{◌≡◌, ◌++◌, take}
use Rattle.scp_core.specs.scp_types.specs.declared.names.ConnId.{ConnId}
use Rattle.scp_report.specs.Settled.{parked_lines}
use Rattle.scp_report.specs.inside.Sections.{lines_at}
use Rattle.scp_report.proofs.settled.sort_all_parked.Given as goal

abbrev pub invariant-loop-waiting : goal.invariant-loop-waiting
invariant-loop-waiting l = (conn : ConnId) → lines_at l.sections conn ≡ lines_at l.initial.sections conn ++ parked_lines (take l.waiting-index l.parked) conn
