use Rattle.std.proofs.Common.{arith, rules}
use Rattle.std.proofs.lemmas.Grind.{common_steps}
use Rattle.scp_judged.specs.Named.{set_in}
use Rattle.scp_judged.specs.Verdicts.{IsFit}
use Rattle.scp_judged.specs.inside.Newest.{newest_in}
use Rattle.scp_judged.proofs.Judging.{lacks_why, lacks_not, counts_why, not_newer_why}
use Rattle.scp_judged.proofs.verdict.counted_set.Goals as goal

pub returns-in-Err-clause-why : goal.returns-in-Err-clause-why
returns-in-Err-clause-why c =
    let s = c.args.envelope.now.statement in
    let fit : IsFit c.args.slot.0 s = first_of (search rules, grind (arith, common_steps)) in
    lacks_why (set_in c.args.sets.now) c.args.slot.0 (newest_in c.args.newest.now) s c.set_hash.result c.in-Err.why c.set_hash.ensures fit c.in-Err.ensures.lacks

pub returns-in-Err-clause-not : goal.returns-in-Err-clause-not
returns-in-Err-clause-not c = lacks_not (set_in c.args.sets.now c.set_hash.result) c.in-Err.why c.in-Err.ensures.lacks

pub returns-then-not-precedes-clause-why : goal.returns-then-not-precedes-clause-why
returns-then-not-precedes-clause-why c =
    let s = c.args.envelope.now.statement in
    let fit : IsFit c.args.slot.0 s = first_of (search rules, grind (arith, common_steps)) in
    not_newer_why (set_in c.args.sets.now) c.args.slot.0 (newest_in c.args.newest.now) s c.set_hash.result c.in-Ok.set.now.value c.precedes.result c.set_hash.ensures fit c.in-Ok.ensures.found c.in-Ok.ensures.sane c.precedes.ensures c.if-not-precedes.true

pub returns-clause-counts : goal.returns-clause-counts
returns-clause-counts c =
    let s = c.args.envelope.now.statement in
    let fit : IsFit c.args.slot.0 s = first_of (search rules, grind (arith, common_steps)) in
    counts_why (set_in c.args.sets.now) c.args.slot.0 (newest_in c.args.newest.now) s c.set_hash.result c.in-Ok.set.now.value c.precedes.result c.set_hash.ensures fit c.in-Ok.ensures.found c.in-Ok.ensures.sane c.precedes.ensures c.if-not-precedes.false
