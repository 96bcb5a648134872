use Rattle.std.proofs.Common.{◌++◌, codes}
use Rattle.std.specs.Fmt.{decimal}
use Rattle.std.proofs.lemmas.Result.{err_from_is_err_and}
use Rattle.scp_live.proofs.Reporting.{part_within, whole_behind, part_behind, raised_behind, kept_behind}
use Rattle.scp_live.proofs.failing.write_least.Goals as goal

pub returns-in_err-write_number-clause-part : goal.returns-in_err-write_number-clause-part
returns-in_err-write_number-clause-part g c =
    let p = err_from_is_err_and c.from_residual.result c.from_residual.ensures.1 in
    rw p.1 (part_within (g.W.ReportOut.written c.args.writer.now) (g.W.ReportOut.written c.write_number.new.writer) (codes "fault 9 log has " ++ decimal c.args.count ++ codes " events, expected at least ") (codes "" ++ decimal c.args.least ++ codes "\n") c.in_err-write_number.ensures.part)

pub returns-clause-whole : goal.returns-clause-whole
returns-clause-whole g c = whole_behind c.write_number-2.result (g.W.ReportOut.written c.args.writer.now) (g.W.ReportOut.written c.write_number.new.writer) (g.W.ReportOut.written c.write_number-2.new.writer) (codes "fault 9 log has " ++ decimal c.args.count ++ codes " events, expected at least ") (codes "" ++ decimal c.args.least ++ codes "\n") c.in_ok-write_number.ensures.whole c.write_number-2.ensures.whole

pub returns-clause-part : goal.returns-clause-part
returns-clause-part g c = part_behind c.write_number-2.result (g.W.ReportOut.written c.args.writer.now) (g.W.ReportOut.written c.write_number.new.writer) (g.W.ReportOut.written c.write_number-2.new.writer) (codes "fault 9 log has " ++ decimal c.args.count ++ codes " events, expected at least ") (codes "" ++ decimal c.args.least ++ codes "\n") c.in_ok-write_number.ensures.whole c.write_number-2.ensures.part

pub returns-clause-raised : goal.returns-clause-raised
returns-clause-raised g c = raised_behind c.write_number-2.result _ _ _ c.in_ok-write_number.ensures.kept c.write_number-2.ensures.raised

pub returns-clause-kept : goal.returns-clause-kept
returns-clause-kept g c = kept_behind c.write_number-2.result _ _ _ c.in_ok-write_number.ensures.kept c.write_number-2.ensures.kept
