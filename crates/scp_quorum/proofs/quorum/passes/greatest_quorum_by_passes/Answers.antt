use Rattle.std.proofs.Common.{◌≡◌, sym, ◌∙◌, true, false}
use Rattle.scp_quorum.proofs.Known.{all_have_sets, all_within}
use Rattle.scp_quorum.specs.NodeSet.{is_in}
use Rattle.scp_quorum.specs.Quorum.{set_of}
use Rattle.scp_quorum.proofs.Known.{union_of}
use Rattle.scp_quorum.proofs.quorum.passes.greatest_quorum_by_passes.Goals as goal

pub loop-init : goal.loop-init
loop-init c = record {
  have_sets = all_have_sets c.args.sets.now c.in_ok-remaining.remaining c.in_ok-remaining.ensures;
  kept = all_within c.args.sets.now c.in_ok-remaining.remaining c.in_ok-remaining.ensures;
}

pub loop-preserved : goal.loop-preserved
loop-preserved c = record {
  have_sets = c.remove_unsatisfied.ensures.have_sets;
  kept = λ others closed. c.remove_unsatisfied.ensures.kept others closed (c.loop.invariant.kept others closed);
}

pub returns-then-contains-clause-found : goal.returns-then-contains-clause-found
returns-then-contains-clause-found c = record {
  quorum = record { has = sym c.contains.ensures ∙ c.if-contains.true; satisfied = c.loop-test.ensures.settled };
  others = λ others quorum. c.remove_unsatisfied.ensures.kept others quorum.satisfied (c.loop.invariant.kept others quorum.satisfied);
}

pub returns-then-contains-clause-union : goal.returns-then-contains-clause-union
returns-then-contains-clause-union c = union_of (set_of c.args.sets.now) c.args.me (is_in c.remove_unsatisfied.new.remaining) (returns-then-contains-clause-found c)

pub returns-else-contains-clause-none : goal.returns-else-contains-clause-none
returns-else-contains-clause-none c nodes quorum =
    apart (sym (c.remove_unsatisfied.ensures.kept nodes quorum.satisfied (c.loop.invariant.kept nodes quorum.satisfied) c.args.me quorum.has) ∙ sym c.contains.ensures ∙ c.if-contains.false)
  where
    apart : true ≡ false → ⊥
    apart e = cc
