use Rattle.std.proofs.Common.{◌<◌, ◌^◌, ap, rules}
use Rattle.scp_live_head.proofs.Heads.{slot_text, slot_is_line, line_there, line_cut, written_there}
use Rattle.scp_live_head.proofs.applied.line_size.Goals as goal

pub returns-in_default-clause-none : goal.returns-in_default-clause-none
returns-in_default-clause-none c value are tail is = line_there (slot_text c.args.slot value) tail c.args.bytes.now is c.in_default.ensures.none

pub returns-in_default-2-clause-none : goal.returns-in_default-2-clause-none
returns-in_default-2-clause-none c value are tail is =
    let small : c.args.slot < 2 ^ 64 = search rules in
    let line = line_cut (slot_text c.args.slot value) tail c.args.bytes.now c.in-Some.line.0.now c.in-Some.line.1.now (slot_is_line c.args.slot value small are) is c.in-Some.ensures.some in
    (rw c.in_default-2.is at c.in_ok-value.ensures.found) c.args.slot value small are line.0

pub returns-then-not-begins_with-clause-none : goal.returns-then-not-begins_with-clause-none
returns-then-not-begins_with-clause-none c value are tail is =
    let small : c.args.slot < 2 ^ 64 = search rules in
    let line = line_cut (slot_text c.args.slot value) tail c.args.bytes.now c.in-Some.line.0.now c.in-Some.line.1.now (slot_is_line c.args.slot value small are) is c.in-Some.ensures.some in
    let same = (rw c.in-Some-2.is at c.in_ok-value.ensures.found) c.args.slot value small are line.0 in
    c.if-not-begins_with.ensures.none (tail, written_there (slot_text c.args.slot value) (slot_text c.args.slot c.in-Some-2.value.items) c.deref-2.result.now tail c.args.bytes.now (search rules) (ap (slot_text c.args.slot) same) is)
