use Rattle.std.proofs.Common.{◌∙◌, arith}
use Rattle.scp_device.proofs.DeviceLemmas.{parts_more, parts_end}
use Rattle.scp_device.proofs.parts.write_parts.Goals as goal

pub loop-part-preserved : goal.loop-part-preserved
loop-part-preserved g c =
    let written = g.W.ReportOut.written in
    record {
      leads = λ end h. c.loop-part.invariant.leads end (parts_more (written c.loop-part.writer) (written c.write_text.new.writer) end c.args.parts.now c.loop-part.part-index _ (omega arith) c.in_ok-write_text.ensures.whole h);
      failures = c.in_ok-write_text.ensures.kept ∙ c.loop-part.invariant.failures;
    }

pub returns-clause-whole : goal.returns-clause-whole
returns-clause-whole g c =
    let written = g.W.ReportOut.written in
    c.loop-part.invariant.leads (written c.loop-part.writer) (parts_end (written c.loop-part.writer) c.args.parts.now c.loop-part.part-index c.loop-part-test.false)
