use Rattle.std.proofs.Common.{◌≡◌, sym, ◌∙◌, true, false}
use Rattle.scp_quorum.specs.NodeSet.{is_in}
use Rattle.scp_quorum.specs.Quorum.{set_of}
use Rattle.scp_quorum.proofs.Known.{all_have_sets, all_within, union_of}
use Rattle.scp_quorum.proofs.quorum.greatest_quorum.Goals as goal

pub settle-requires : goal.settle-requires
settle-requires c = all_have_sets c.args.sets.now c.in_ok-remaining.remaining c.in_ok-remaining.ensures

pub returns-then-contains-clause-found : goal.returns-then-contains-clause-found
returns-then-contains-clause-found c = record {
  quorum = record { has = sym c.contains.ensures ∙ c.if-contains.true; satisfied = c.in_ok-settle.ensures.settled };
  others = λ others quorum. c.in_ok-settle.ensures.kept others quorum.satisfied (all_within c.args.sets.now c.in_ok-remaining.remaining c.in_ok-remaining.ensures others quorum.satisfied);
}

pub returns-then-contains-clause-union : goal.returns-then-contains-clause-union
returns-then-contains-clause-union c = union_of (set_of c.args.sets.now) c.args.me (is_in c.settle.new.remaining) (returns-then-contains-clause-found c)

pub returns-else-contains-clause-none : goal.returns-else-contains-clause-none
returns-else-contains-clause-none c nodes quorum =
    apart (sym (c.in_ok-settle.ensures.kept nodes quorum.satisfied (all_within c.args.sets.now c.in_ok-remaining.remaining c.in_ok-remaining.ensures nodes quorum.satisfied) c.args.me quorum.has) ∙ sym c.contains.ensures ∙ c.if-contains.false)
  where
    apart : true ≡ false → ⊥
    apart e = cc
