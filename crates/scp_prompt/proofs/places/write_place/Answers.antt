use Rattle.std.proofs.Common.{◌++◌}
use Rattle.scp_prompt.proofs.Written.{something_stands}
use Rattle.scp_prompt.proofs.places.write_place.Goals as goal

pub returns-in-Err-clause-whole : goal.returns-in-Err-clause-whole
returns-in-Err-clause-whole g c =
    let written = g.W.ReportOut.written in
    something_stands c.write_line-in-Err.result (written c.args.writer.now) (written c.write_line-in-Err.new.writer) c.args.text.now c.args.place.now.name.now (c.args.expected.now ++ c.args.end.now) c.args.place.now.line c.args.place.now.word c.write_line-in-Err.ensures.whole
