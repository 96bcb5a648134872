use Rattle.std.proofs.Common.{subst}
use Rattle.std.specs.BTreeSet.{BTreeSet}
use Rattle.std.proofs.lemmas.Bool.{iff_false, OnTrue_at, OnFalse_at}
use Rattle.scp_quorum.specs.scp_types.specs.declared.names.NodeId.{NodeId}
use Rattle.scp_quorum.specs.NodeSet.{is_in}
use Rattle.scp_quorum_search.proofs.Looking.{IsSettled, dead_where_none, dead_where_lacking, dead_where_no_other, other_quorum, apart_from_others, least_quorum, none_chosen, between_next}
use Rattle.scp_quorum_search.proofs.search.look.Goals as goal

pub returns-then-has_none : goal.returns-then-has_none
returns-then-has_none c =
    let settles : IsSettled c.args.quest.now (is_in c.in_ok-most.most) (is_in c.settle.new.nodes) = record { within = c.settle.ensures.within; kept = c.settle.ensures.kept; settled = c.settle.ensures.settled } in
    dead_where_none c.args.quest.now (is_in c.args.chosen.now) c.args.left.now (is_in c.in_ok-most.most) (is_in c.settle.new.nodes) c.in_ok-most.ensures.chosen c.in_ok-most.ensures.left settles (OnTrue_at c.if-has_none.true c.has_none.ensures.none)

pub returns-then-not-is_subset : goal.returns-then-not-is_subset
returns-then-not-is_subset c =
    let settles : IsSettled c.args.quest.now (is_in c.in_ok-most.most) (is_in c.settle.new.nodes) = record { within = c.settle.ensures.within; kept = c.settle.ensures.kept; settled = c.settle.ensures.settled } in
    dead_where_lacking c.args.quest.now (is_in c.args.chosen.now) c.args.left.now (is_in c.in_ok-most.most) (is_in c.settle.new.nodes) c.in_ok-most.ensures.chosen c.in_ok-most.ensures.left settles (iff_false c.is_subset.ensures c.if-not-is_subset.true)

pub returns-then-has_none-2 : goal.returns-then-has_none-2
returns-then-has_none-2 c =
    let settles : IsSettled c.args.quest.now (is_in c.in_ok-others.others) (is_in c.settle-2.new.nodes) = record { within = c.settle-2.ensures.within; kept = c.settle-2.ensures.kept; settled = c.settle-2.ensures.settled } in
    dead_where_no_other c.args.quest.now (is_in c.args.chosen.now) c.args.left.now (is_in c.in_ok-others.others) (is_in c.settle-2.new.nodes) c.in_ok-others.ensures.apart c.in_ok-others.ensures.listed c.in_ok-others.ensures.rest settles (OnTrue_at c.if-has_none-2.true c.has_none-2.ensures.none)

pub returns-then-not-has_none : goal.returns-then-not-has_none
returns-then-not-has_none c =
    let quest = c.args.quest.now in
    let chosen = is_in c.args.chosen.now in
    let others_settle : IsSettled quest (is_in c.in_ok-others.others) (is_in c.settle-2.new.nodes) = record { within = c.settle-2.ensures.within; kept = c.settle-2.ensures.kept; settled = c.settle-2.ensures.settled } in
    let copied : IsSettled quest (is_in c.in_ok-least.least) (is_in c.settle-3.new.nodes) = record { within = c.settle-3.ensures.within; kept = c.settle-3.ensures.kept; settled = c.settle-3.ensures.settled } in
    let P : BTreeSet NodeId → Type 0 = λ s. IsSettled quest (is_in s) (is_in c.settle-3.new.nodes) in
    let settles : IsSettled quest chosen (is_in c.settle-3.new.nodes) = subst P c.in_ok-least.ensures copied in (
      least_quorum quest chosen c.args.left.now c.requires (is_in c.settle-3.new.nodes) settles (OnFalse_at c.if-not-has_none.true c.has_none-3.ensures.some),
      other_quorum quest chosen c.args.left.now (is_in c.in_ok-others.others) (is_in c.settle-2.new.nodes) c.in_ok-others.ensures.apart c.in_ok-others.ensures.listed c.in_ok-others.ensures.rest others_settle (OnFalse_at c.if-has_none-2.false c.has_none-2.ensures.some),
      apart_from_others quest chosen c.args.left.now (is_in c.in_ok-others.others) (is_in c.settle-2.new.nodes) c.in_ok-others.ensures.apart c.in_ok-others.ensures.listed c.in_ok-others.ensures.rest others_settle (is_in c.settle-3.new.nodes) settles,
    )

pub returns : goal.returns
returns c =
    let quest = c.args.quest.now in
    let chosen = is_in c.args.chosen.now in
    let most_settles : IsSettled quest (is_in c.in_ok-most.most) (is_in c.settle.new.nodes) = record { within = c.settle.ensures.within; kept = c.settle.ensures.kept; settled = c.settle.ensures.settled } in
    let copied : IsSettled quest (is_in c.in_ok-least.least) (is_in c.settle-3.new.nodes) = record { within = c.settle-3.ensures.within; kept = c.settle-3.ensures.kept; settled = c.settle-3.ensures.settled } in
    let P : BTreeSet NodeId → Type 0 = λ s. IsSettled quest (is_in s) (is_in c.settle-3.new.nodes) in
    let settles : IsSettled quest chosen (is_in c.settle-3.new.nodes) = subst P c.in_ok-least.ensures copied in (
      c.in_ok-left.ensures.each,
      c.in_ok-left.ensures.no_more,
      between_next quest chosen c.args.left.now (is_in c.in_ok-most.most) (is_in c.settle.new.nodes) c.in_ok-most.ensures.chosen c.in_ok-most.ensures.left most_settles c.in_ok-left.left.items c.in_ok-left.ensures.all,
      none_chosen quest chosen c.args.left.now c.requires (is_in c.settle-3.new.nodes) settles (OnTrue_at c.if-not-has_none.false c.has_none-3.ensures.none),
    )
