use Rattle.std.proofs.Common.{string_bytes, arith}
use Rattle.scp_quorum_files.specs.Report.{organisation_line}
use Rattle.scp_quorum_files.proofs.Lines.{lines_more, lines_end}
use Rattle.scp_quorum_files.proofs.report.write_organisations.Goals as goal

pub loop-organisation-preserved : goal.loop-organisation-preserved
loop-organisation-preserved c =
    lines_more (organisation_line c.args.all.now) c.args.organisations.now c.loop-organisation.organisation-index c.organisation-item.result (string_bytes c.loop-organisation.out) _ _ c.loop-organisation-test.true c.organisation-item.is c.in_ok-write_organisation.ensures c.loop-organisation.invariant

pub returns : goal.returns
returns c = lines_end (organisation_line c.args.all.now) c.args.organisations.now c.loop-organisation.organisation-index (string_bytes c.loop-organisation.out) _ (omega arith) c.loop-organisation.invariant
