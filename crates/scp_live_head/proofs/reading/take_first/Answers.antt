use Rattle.std.proofs.Common.{◌∙◌, ap}
use Rattle.scp_live_head.specs.Head.{first_line}
use Rattle.scp_live_head.proofs.Heads.{written_there}
use Rattle.scp_live_head.proofs.reading.take_first.Goals as goal

pub returns-in_default-clause-none : goal.returns-in_default-clause-none
returns-in_default-clause-none c f fits tail is = c.in_default.ensures.found f tail fits is

pub returns-then-not-begins_with-clause-none : goal.returns-then-not-begins_with-clause-none
returns-then-not-begins_with-clause-none c f fits tail is =
    let same = c.in-Some.ensures.found f tail fits is in
    c.if-not-begins_with.ensures.none (tail, written_there (first_line f) (first_line c.in-Some.first) c.deref.result.now tail c.args.bytes.now (c.deref.ensures.value ∙ c.in_ok-written.ensures) (ap first_line same) is)
