use Rattle.std.proofs.Common.{◌≡◌, take}
use Rattle.scp_core.specs.scp_types.specs.declared.names.ConnId.{ConnId}
use Rattle.scp_report.specs.Json.{fates_on}
use Rattle.scp_report.specs.inside.Grouped.{fates_at}
use Rattle.scp_report.proofs.grouped.grouped.Given as goal

abbrev pub invariant-loop-fate : goal.invariant-loop-fate
invariant-loop-fate l = (conn : ConnId) → fates_at l.grouped conn ≡ fates_on (take l.fate-index l.journal) conn
