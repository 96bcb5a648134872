use Rattle.std.proofs.Common.{◌≡◌, take}
use Rattle.scp_core.specs.scp_types.specs.declared.names.ConnId.{ConnId}
use Rattle.scp_report.specs.Settled.{fate_lines}
use Rattle.scp_report.specs.inside.Sections.{lines_at}
use Rattle.scp_report.proofs.settled.sections.Given as goal

abbrev pub invariant-loop-fate : goal.invariant-loop-fate
invariant-loop-fate l = (conn : ConnId) → lines_at l.sections conn ≡ fate_lines (take l.fate-index l.journal) conn
