use Rattle.std.proofs.Common.{drop}
use Rattle.scp_ledgers.specs.inside.Grouped.{entries_at}
use Rattle.scp_ledgers.proofs.Reporting.{LedgersLead}
use Rattle.scp_ledgers.proofs.report.add_ledgers.Given as goal

-- with those of what is left they are all
abbrev pub invariant-loop-number : goal.invariant-loop-number
invariant-loop-number l = LedgersLead (entries_at l.grouped) (drop l.number-index l.numbers) l.lines.items l.certified.items l.numbers l.fn.lines.items
