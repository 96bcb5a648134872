use Rattle.std.proofs.Common.{◌∙◌, ◌+◌, ◌∷◌, [], ◌++◌, ap, sym, not, length, arith, rules, tests}
use Rattle.std.proofs.lemmas.List.{length_push}
use Rattle.std.proofs.lemmas.Iterator.Splits.{YieldsList-from_slice_split}
use Rattle.std.proofs.lemmas.Iterator.Consumers.{YieldsList-at, YieldsList-turn, YieldsList-end}
use Rattle.scp_script_text.specs.Scripts.{lines_of}
use Rattle.scp_script_check.proofs.Wanting.{bare_at, bare_more, one_carries, all_bare}
use Rattle.scp_script_check.proofs.reading.are_bare.Goals as goal

pub returns-then-left-eq0 : goal.returns-then-left-eq0
returns-then-left-eq0 c = sym (ap not (bare_at (lines_of c.args.text.now) (length c.loop-line.yielded) c.args.count (omega (arith, c.loop-line.invariant.left, c.if-left-eq0.true)) c.loop-line.invariant.bare))

pub returns-then-carries : goal.returns-then-carries
returns-then-carries c =
    let road = YieldsList-at {s = c.into_iter-line-iterator.result} (cc) (YieldsList-from_slice_split {s = c.split-line-items.result} _ _ c.args.text.now c.split-line-items.ensures.rest c.split-line-items.ensures.done c.split-line-items.ensures.closure (λ x r q k. search (rules, tests))) in
    let next = YieldsList-turn road c.loop-line.yielded _ c.loop-line.yielded_by _ _ c.in-Some.line c.in-Some.is c.next.ensures.steps in
    sym (ap not (one_carries (lines_of c.args.text.now) (length c.loop-line.yielded) c.args.count c.in-Some.line.now (omega (arith, c.loop-line.invariant.left)) next (sym c.carries.ensures ∙ c.if-carries.true)))

pub loop-line-preserved : goal.loop-line-preserved
loop-line-preserved c =
    let road = YieldsList-at {s = c.into_iter-line-iterator.result} (cc) (YieldsList-from_slice_split {s = c.split-line-items.result} _ _ c.args.text.now c.split-line-items.ensures.rest c.split-line-items.ensures.done c.split-line-items.ensures.closure (λ x r q k. search (rules, tests))) in
    let next = YieldsList-turn road c.loop-line.yielded _ c.loop-line.yielded_by _ _ c.in-Some.line c.in-Some.is c.next.ensures.steps in
    let n = length c.loop-line.yielded in
    record {
      left = omega (arith, c.loop-line.invariant.left, length_push c.loop-line.yielded c.in-Some.line);
      bare = bare_more (lines_of c.args.text.now) n (length (c.loop-line.yielded ++ c.in-Some.line ∷ [])) c.in-Some.line.now (length_push c.loop-line.yielded c.in-Some.line) next c.loop-line.invariant.bare (sym c.carries.ensures ∙ c.if-carries.false);
    }

pub returns : goal.returns
returns c =
    let road = YieldsList-at {s = c.into_iter-line-iterator.result} (cc) (YieldsList-from_slice_split {s = c.split-line-items.result} _ _ c.args.text.now c.split-line-items.ensures.rest c.split-line-items.ensures.done c.split-line-items.ensures.closure (λ x r q k. search (rules, tests))) in
    let end = YieldsList-end road c.loop-line.yielded _ c.loop-line.yielded_by _ _ c.in-None.is c.next.ensures.steps in
    sym (ap not (all_bare (lines_of c.args.text.now) (length c.loop-line.yielded) c.args.count end.1 (omega (arith, c.loop-line.invariant.left)) c.loop-line.invariant.bare))
