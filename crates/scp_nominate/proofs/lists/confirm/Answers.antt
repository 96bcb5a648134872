use Rattle.scp_vote.specs.Board.{Confirmed}
use Rattle.scp_nominate.specs.Heard.{heard}
use Rattle.std.proofs.Common.{◌≡◌, ◌<◌, length, arith, sym, ◌∙◌, subst, Contains, [], get_or}
use Rattle.scp_vote.specs.declared.claim.Claim.TheVariants.{Nominated}
use Rattle.scp_nominate.specs.Values.{Has}
use Rattle.scp_nominate.specs.inside.Steps.{Confirms}
use Rattle.std.proofs.lemmas.List.{get_or_default}
use Rattle.scp_nominate.proofs.Growing.{confirming, doing, each_value}
use Rattle.scp_nominate.proofs.lists.confirm.Goals as goal

pub loop-value-preserved : goal.loop-value-preserved
loop-value-preserved c =
    let vs = c.as_slice-value-items.result.now in
    let i = c.loop-value.value-index in
    let v = c.value-item.result in
    let lt : i < length vs = omega arith in
    let is : v ≡ get_or vs i [] = c.value-item.is ∙ get_or_default vs i v [] lt in
    record {
      confirms = confirming (heard c.args.board.now) vs i v lt is c.args.candidates.now c.loop-value.candidates c.confirm_one.new.candidates c.loop-value.invariant.confirms c.in_ok-confirm_one.ensures.confirms;
      done = doing (heard c.args.board.now) vs i v lt is c.loop-value.candidates c.confirm_one.new.candidates c.in_ok-confirm_one.ensures.confirms c.loop-value.invariant.done c.in_ok-confirm_one.ensures.done;
    }

pub returns-clause-confirms : goal.returns-clause-confirms
returns-clause-confirms c = subst (λ vs. Confirms (λ v. Contains vs v) (heard c.args.board.now) c.args.candidates.now c.loop-value.candidates) c.as_slice-value-items.ensures c.loop-value.invariant.confirms

pub returns-clause-done : goal.returns-clause-done
returns-clause-done c v has con =
    each_value (λ w. Confirmed (heard c.args.board.now) (Nominated w)) (λ w. Has c.loop-value.candidates w) c.as_slice-value-items.result.now c.loop-value.value-index (omega arith) c.loop-value.invariant.done v (subst (λ vs. Contains vs v) (sym c.as_slice-value-items.ensures) has) con
