use Rattle.std.proofs.Common.{arith, refl}
use Rattle.scp_notices.proofs.Values.{value_found, value_missing}
use Rattle.scp_notices.proofs.disagreeing.value_for.Goals as goal

pub returns-in-Some : goal.returns-in-Some
returns-in-Some c =
    let there = c.in-Some.ensures.lookup in
    let applied = c.args.report.now.applied.now in
    value_found c.args.slot applied applied c.in-Some.decision.now c.get-in-Some.result.now refl c.requires.in_order (λ none. omega (arith, none, c.requires.slot)) there.3.0 there.3.1 c.get-in-Some.ensures.same

pub returns-in-None : goal.returns-in-None
returns-in-None c =
    let applied = c.args.report.now.applied.now in
    value_missing c.args.slot applied applied refl c.requires.in_order (λ none. omega (arith, none, c.requires.slot)) c.in-None.ensures.lookup.3
