use Rattle.std.proofs.Common.{ap, rules}
use Rattle.scp_live_head.specs.Head.{said_line}
use Rattle.scp_live_head.proofs.Heads.{said_is_line, line_there, line_cut, written_there}
use Rattle.scp_live_head.proofs.reading.take_said.Goals as goal

pub returns-in_default-clause-none : goal.returns-in_default-clause-none
returns-in_default-clause-none c said are tail is = line_there (said_line said) tail c.args.bytes.now is c.in_default.ensures.none

pub returns-in_default-2-clause-none : goal.returns-in_default-2-clause-none
returns-in_default-2-clause-none c said are tail is =
    let cut = line_cut (said_line said) tail c.args.bytes.now c.in-Some.line.0.now c.in-Some.line.1.now (said_is_line said are) is c.in-Some.ensures.some in
    (rw c.in_default-2.is at c.in_ok-said.ensures.found) said are cut.0

pub returns-then-not-begins_with-clause-none : goal.returns-then-not-begins_with-clause-none
returns-then-not-begins_with-clause-none c said are tail is =
    let cut = line_cut (said_line said) tail c.args.bytes.now c.in-Some.line.0.now c.in-Some.line.1.now (said_is_line said are) is c.in-Some.ensures.some in
    let same = (rw c.in-Some-2.is at c.in_ok-said.ensures.found) said are cut.0 in
    c.if-not-begins_with.ensures.none (tail, written_there (said_line said) (said_line c.in-Some-2.said.items) c.deref-2.result.now tail c.args.bytes.now (search rules) (ap said_line same) is)
