use Rattle.std.proofs.Common.{◌≡◌, ◌<◌, ℕ, length, get_or, map, sym, subst, arith}
use Rattle.scp_notices.specs.inside.Choices.{choice_seen}
use Rattle.scp_notices.proofs.Choices.{sides_more}
use Rattle.scp_notices.proofs.disagreeing.sides.Goals as goal

pub loop-choice-preserved : goal.loop-choice-preserved
loop-choice-preserved c =
    let choices = c.args.choices.now in
    let i = c.loop-choice.index in
    let choice = c.choice-item.result in
    let lt : i < length choices = omega (arith, c.loop-choice.invariant.at) in
    let is : choice ≡ get_or choices i choice = subst (λ (n : ℕ). choice ≡ get_or choices n choice) (sym c.loop-choice.invariant.at) c.choice-item.is in
    record {
      at = omega (arith, c.loop-choice.invariant.at);
      so = sides_more (map choice_seen choices) choices i choice c.loop-choice.sides.items c.add_side.new.sides.items lt is c.loop-choice.invariant.so c.in_ok-add_side.ensures.added;
    }
