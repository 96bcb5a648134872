use Rattle.std.proofs.Common.{◌+◌, ◌++◌, arith}
use Rattle.scp_ledgers.specs.Report.{record_lines}
use Rattle.scp_ledgers.proofs.Reporting.{records_more, records_all}
use Rattle.scp_ledgers.proofs.report.add_records.Goals as goal

pub loop-at-preserved : goal.loop-at-preserved
loop-at-preserved c =
    let xs = c.args.archives.now in
    let i = c.loop-at.at in
    records_more (i + 1) xs i c.index-archives-at.result c.loop-at.lines.items c.add_archive_lines.new.lines.items (c.args.lines.now.items ++ record_lines 1 xs) (omega arith) c.index-archives-at.is c.in_ok-add_archive_lines.ensures c.loop-at.invariant

pub returns : goal.returns
returns c = records_all (c.loop-at.at + 1) c.args.archives.now c.loop-at.at c.loop-at.lines.items (c.args.lines.now.items ++ record_lines 1 c.args.archives.now) (omega arith) c.loop-at.invariant
