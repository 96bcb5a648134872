use Rattle.std.proofs.Common.{◌+◌, ◌^◌, ◌∷◌, [], get_or, length, arith, ◌∙◌, subst}
use Rattle.std.proofs.lemmas.List.Elements.{All-more}
use Rattle.scp_quorum.specs.scp_types.specs.declared.names.NodeId.{NodeId}
use Rattle.scp_quorum_search.specs.declared.few.Few.{Few}
use Rattle.scp_quorum_search.specs.inside.Losses.{ShowsFewOfAll}
use Rattle.scp_quorum_search.proofs.Sets.{no_node, all_seen}
use Rattle.scp_quorum_search.proofs.Counting.{round_more}
use Rattle.scp_quorum_search.proofs.MostLost.{IsNeverHalted, never_here, never_any}
use Rattle.scp_quorum_search.proofs.surviving.few_halt_any.Goals as goal

pub loop-at-preserved : goal.loop-at-preserved
loop-at-preserved c =
    let quest = c.args.quest.now in
    let i = c.loop-at.at-index in
    let node : NodeId = get_or quest.all.now i no_node in
    let tries = c.few_halt_one.new.tries in
    let F : Few → Type 0 = λ found. ShowsFewOfAll quest (node ∷ []) c.args.count tries found in
    record {
      never = All-more (IsNeverHalted quest c.args.count) quest.all.now i no_node c.loop-at-test.true c.loop-at.invariant.never (never_here quest node c.args.count tries (subst F c.in-Survive.is c.in_ok-few_halt_one.ensures.shows));
      few = omega (arith, c.in_ok-few_halt_one.ensures.few, c.loop-at.invariant.few, round_more i (2 ^ (length quest.all.now + 1)));
      limit = c.few_halt_one.ensures.limit ∙ c.loop-at.invariant.limit;
    }

pub returns-clause-shows : goal.returns-clause-shows
returns-clause-shows c =
    never_any c.args.quest.now c.args.count c.loop-at.tries
    (all_seen (IsNeverHalted c.args.quest.now c.args.count) c.args.quest.now.all.now c.loop-at.at-index (omega arith) c.loop-at.invariant.never)
