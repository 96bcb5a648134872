use Rattle.std.proofs.Common.{◌++◌, ◌∙◌, ap}
use Rattle.scp_quorum_files.specs.Report.{halting_lines}
use Rattle.scp_quorum_files.proofs.report.halting_text.Goals as goal

pub returns : goal.returns
returns c = (
  c.halting_within.new.tries,
  c.in_ok-found.found,
  c.in_ok-found.ensures.shows,
  c.in_ok-write_halting.ensures ∙ ap (λ o. o ++ halting_lines c.args.all.now c.args.at c.halting_within.new.tries.made c.in_ok-found.found) c.new-out.ensures.bytes,
)
