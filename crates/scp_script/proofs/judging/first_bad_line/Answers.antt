use Rattle.std.proofs.Common.{inl, inr, ◌+◌, ◌∷◌, [], ◌++◌, take, subst, length, arith, rules, tests}
use Rattle.std.proofs.lemmas.List.{length_push}
use Rattle.std.proofs.lemmas.Iterator.Splits.{YieldsList-from_slice_split}
use Rattle.std.proofs.lemmas.Iterator.Consumers.{YieldsList-at, YieldsList-turn, YieldsList-end}
use Rattle.scp_script.specs.Words.{lines_of}
use Rattle.scp_script.specs.Script.{commands_of}
use Rattle.scp_script.specs.declared.judging.Place.{Place}
use Rattle.scp_script.specs.inside.Judging.{IsPlace}
use Rattle.scp_script.proofs.Judged.{one_more_line, first_bad, has_set_line, all_good, script_has_no_bad_line}
use Rattle.scp_script.proofs.judging.first_bad_line.Goals as goal

pub loop-line-preserved : goal.loop-line-preserved
loop-line-preserved c =
    let road = YieldsList-at {s = c.into_iter-line-iterator.result} (cc) (YieldsList-from_slice_split {s = c.split-line-items.result} _ _ c.args.text.now c.split-line-items.ensures.rest c.split-line-items.ensures.done c.split-line-items.ensures.closure (λ x r q k. search (rules, tests))) in
    let next = YieldsList-turn road c.loop-line.yielded _ c.loop-line.yielded_by _ _ c.in-Some.line c.in-Some.is c.next.ensures.steps in
    let inv = c.loop-line.invariant in
    let n = length c.loop-line.yielded in
    let told = subst (λ (p : Place). IsPlace (commands_of (take n (lines_of c.args.text.now))) c.in-Some.line.now p c.take_line.new.known) c.in-Stands.is (c.take_line.ensures (commands_of (take n (lines_of c.args.text.now))) inv.knows) in
    let more = one_more_line (lines_of c.args.text.now) n (length (c.loop-line.yielded ++ c.in-Some.line ∷ [])) c.in-Some.line.now c.take_line.new.known (length_push c.loop-line.yielded c.in-Some.line) next inv.good told in
    record { number = omega (arith, inv.number, length_push c.loop-line.yielded c.in-Some.line); knows = more.0; good = more.1 }

pub returns-in-Bad-clause-bad : goal.returns-in-Bad-clause-bad
returns-in-Bad-clause-bad c =
    let road = YieldsList-at {s = c.into_iter-line-iterator.result} (cc) (YieldsList-from_slice_split {s = c.split-line-items.result} _ _ c.args.text.now c.split-line-items.ensures.rest c.split-line-items.ensures.done c.split-line-items.ensures.closure (λ x r q k. search (rules, tests))) in
    let next = YieldsList-turn road c.loop-line.yielded _ c.loop-line.yielded_by _ _ c.in-Some.line c.in-Some.is c.next.ensures.steps in
    let inv = c.loop-line.invariant in
    let n = length c.loop-line.yielded in
    let told = subst (λ (p : Place). IsPlace (commands_of (take n (lines_of c.args.text.now))) c.in-Some.line.now p c.take_line.new.known) c.in-Bad.is (c.take_line.ensures (commands_of (take n (lines_of c.args.text.now))) inv.knows) in
    first_bad c.args.text.now n (c.loop-line.number + 1) c.in-Some.line.now (omega (arith, inv.number)) next inv.good told

pub returns-in-Set-clause-none : goal.returns-in-Set-clause-none
returns-in-Set-clause-none c =
    let road = YieldsList-at {s = c.into_iter-line-iterator.result} (cc) (YieldsList-from_slice_split {s = c.split-line-items.result} _ _ c.args.text.now c.split-line-items.ensures.rest c.split-line-items.ensures.done c.split-line-items.ensures.closure (λ x r q k. search (rules, tests))) in
    let next = YieldsList-turn road c.loop-line.yielded _ c.loop-line.yielded_by _ _ c.in-Some.line c.in-Some.is c.next.ensures.steps in
    let n = length c.loop-line.yielded in
    let told = subst (λ (p : Place). IsPlace (commands_of (take n (lines_of c.args.text.now))) c.in-Some.line.now p c.take_line.new.known) c.in-Set.is (c.take_line.ensures (commands_of (take n (lines_of c.args.text.now))) c.loop-line.invariant.knows) in
    λ none. inr (has_set_line c.args.text.now n c.in-Some.line.now next told)

pub returns-clause-none : goal.returns-clause-none
returns-clause-none c =
    let road = YieldsList-at {s = c.into_iter-line-iterator.result} (cc) (YieldsList-from_slice_split {s = c.split-line-items.result} _ _ c.args.text.now c.split-line-items.ensures.rest c.split-line-items.ensures.done c.split-line-items.ensures.closure (λ x r q k. search (rules, tests))) in
    let end = YieldsList-end road c.loop-line.yielded _ c.loop-line.yielded_by _ _ c.in-None.is c.next.ensures.steps in
    λ none. inl (script_has_no_bad_line c.args.text.now (all_good c.args.text.now (length c.loop-line.yielded) end.1 c.loop-line.invariant.good))
