use Rattle.scp_vote.specs.Board.{Accepted}
use Rattle.scp_nominate.specs.Heard.{heard}
use Rattle.std.proofs.Common.{◌≡◌, ◌<◌, length, arith, sym, ◌∙◌, subst, Contains, [], get_or}
use Rattle.scp_vote.specs.declared.claim.Claim.TheVariants.{Nominated}
use Rattle.scp_nominate.specs.inside.Steps.{Accepts, IsTaken}
use Rattle.scp_nominate.specs.Steps.{own_lists}
use Rattle.scp_nominate.specs.InTurn.{InTurn}
use Rattle.scp_nominate.specs.Taking.{TakesOne}
use Rattle.scp_nominate.proofs.Turns.{goes_more, goes_all}
use Rattle.std.proofs.lemmas.List.{get_or_default}
use Rattle.scp_nominate.proofs.Growing.{accepting, taking, each_value}
use Rattle.scp_nominate.proofs.lists.accept.Goals as goal

pub loop-value-preserved : goal.loop-value-preserved
loop-value-preserved c =
    let vs = c.as_slice-value-items.result.now in
    let i = c.loop-value.value-index in
    let v = c.value-item.result in
    let lt : i < length vs = omega arith in
    let is : v ≡ get_or vs i [] = c.value-item.is ∙ get_or_default vs i v [] lt in
    record {
      accepts = accepting (heard c.args.board.now) vs i v lt is c.args.lists.now c.loop-value.lists c.accept_one.new.lists c.loop-value.invariant.accepts c.in_ok-accept_one.ensures.accepts;
      taken = taking (heard c.args.board.now) vs i v lt is c.loop-value.lists c.accept_one.new.lists c.in_ok-accept_one.ensures.accepts c.loop-value.invariant.taken c.in_ok-accept_one.ensures.taken;
      exact = goes_more (λ v s t. TakesOne (heard c.args.board.now) v s t) vs i v lt c.value-item.is (own_lists c.args.lists.now) (own_lists c.loop-value.lists) (own_lists c.accept_one.new.lists) c.loop-value.invariant.exact c.in_ok-accept_one.ensures.exact;
    }

pub returns-clause-accepts : goal.returns-clause-accepts
returns-clause-accepts c = subst (λ vs. Accepts (λ v. Contains vs v) (heard c.args.board.now) c.args.lists.now c.loop-value.lists) c.as_slice-value-items.ensures c.loop-value.invariant.accepts

pub returns-clause-taken : goal.returns-clause-taken
returns-clause-taken c v has acc =
    each_value (λ w. Accepted (heard c.args.board.now) (Nominated w)) (λ w. IsTaken c.loop-value.lists w) c.as_slice-value-items.result.now c.loop-value.value-index (omega arith) c.loop-value.invariant.taken v (subst (λ vs. Contains vs v) (sym c.as_slice-value-items.ensures) has) acc

pub returns-clause-exact : goal.returns-clause-exact
returns-clause-exact c =
    subst (λ vs. InTurn (λ v s t. TakesOne (heard c.args.board.now) v s t) vs (own_lists c.args.lists.now) (own_lists c.loop-value.lists)) c.as_slice-value-items.ensures
    (goes_all (λ v s t. TakesOne (heard c.args.board.now) v s t) c.as_slice-value-items.result.now c.loop-value.value-index (omega arith) (own_lists c.args.lists.now) (own_lists c.loop-value.lists) c.loop-value.invariant.exact)
