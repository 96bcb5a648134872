use Rattle.std.proofs.Common.{◌∙◌, arith, refl, [], ◌++◌}
use Rattle.scp_convert.specs.scp_prompt.proofs.DeviceLemmas.{gains-more, gains-nothing}
use Rattle.scp_command.proofs.Lines.{one_reported, none_reported}
use Rattle.scp_command.proofs.converting.write_all_refused.Goals as goal

pub loop-bad-init : goal.loop-bad-init
loop-bad-init g c = record { leads = λ rest end h q. (rest, h, q); failures = refl }

pub loop-bad-preserved : goal.loop-bad-preserved
loop-bad-preserved g c =
    let written = g.E.ReportOut.written in
    let wrote = c.in-Ok.ensures.whole in
    record {
      leads = λ rest end h q.
          c.loop-bad.invariant.leads (wrote.0 ++ rest) end
          (one_reported c.args.conversion c.args.name.now c.args.input.now c.args.refused.now c.loop-bad.bad-index _ wrote.0 rest (omega arith) wrote.1 h)
          (gains-more (written c.loop-bad.errors) (written c.write_refused.new.writer) end wrote.0 rest wrote.2 q);
      failures = c.in-Ok.ensures.kept ∙ c.loop-bad.invariant.failures;
    }

pub returns-clause-whole : goal.returns-clause-whole
returns-clause-whole g c =
    let written = g.E.ReportOut.written in
    c.loop-bad.invariant.leads [] (written c.loop-bad.errors) (none_reported c.args.conversion c.args.name.now c.args.input.now c.args.refused.now c.loop-bad.bad-index c.loop-bad-test.false) (gains-nothing (written c.loop-bad.errors))
