use Rattle.std.proofs.Common.{ap, rules}
use Rattle.scp_live_head.specs.Head.{base_line}
use Rattle.scp_live_head.proofs.Heads.{base_is_line, line_there, line_cut, written_there}
use Rattle.scp_live_head.proofs.reading.take_base.Goals as goal

pub returns-in_default-clause-none : goal.returns-in_default-clause-none
returns-in_default-clause-none c base are tail is = line_there (base_line base) tail c.args.bytes.now is c.in_default.ensures.none

pub returns-in_default-2-clause-none : goal.returns-in_default-2-clause-none
returns-in_default-2-clause-none c base are tail is =
    let cut = line_cut (base_line base) tail c.args.bytes.now c.in-Some.line.0.now c.in-Some.line.1.now (base_is_line base are) is c.in-Some.ensures.some in
    (rw c.in_default-2.is at c.in_ok-base.ensures.found) base are cut.0

pub returns-then-not-begins_with-clause-none : goal.returns-then-not-begins_with-clause-none
returns-then-not-begins_with-clause-none c base are tail is =
    let cut = line_cut (base_line base) tail c.args.bytes.now c.in-Some.line.0.now c.in-Some.line.1.now (base_is_line base are) is c.in-Some.ensures.some in
    let same = (rw c.in-Some-2.is at c.in_ok-base.ensures.found) base are cut.0 in
    c.if-not-begins_with.ensures.none (tail, written_there (base_line base) (base_line c.in-Some-2.base.items) c.deref-2.result.now tail c.args.bytes.now (search rules) (ap base_line same) is)
