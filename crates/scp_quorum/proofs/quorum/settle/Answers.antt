use Rattle.std.proofs.Common.{List, sym, subst}
use Rattle.std.specs.List.{All}
use Rattle.std.proofs.lemmas.Bool.{OnFalse_at}
use Rattle.scp_quorum.specs.declared.quorum.groups.Group.{Group}
use Rattle.scp_quorum.specs.NodeSet.{is_in}
use Rattle.scp_quorum.specs.Quorum.{set_of}
use Rattle.scp_quorum.specs.inside.Quorum.{AllHaveSets}
use Rattle.scp_quorum.specs.inside.Groups.{HasOneSet, IsSettled}
use Rattle.scp_quorum.proofs.Groups.{all_settled}
use Rattle.scp_quorum.proofs.quorum.settle.Goals as goal

pub loop-alloc-init : goal.loop-alloc-init
loop-alloc-init c = record { have_sets = c.requires; kept = λ others closed within. within }

pub loop-alloc-preserved : goal.loop-alloc-preserved
loop-alloc-preserved c =
    let sets = set_of c.args.sets.now in
    let P : List Group → Type 0 = λ gs. All (HasOneSet sets) gs in
    record {
      have_sets = λ v has. c.loop-alloc.invariant.have_sets v (c.remove_unsatisfied.ensures.within v (c.follow_counts.ensures.within v has));
      kept = λ others closed within.
          c.follow_counts.ensures.kept sets (subst P (sym c.deref-in-loop-alloc.ensures.value) c.in_ok-groups.ensures.one_set) others closed
          (c.remove_unsatisfied.ensures.kept sets (subst P (sym c.deref.ensures.value) c.in_ok-groups.ensures.one_set) others closed (c.loop-alloc.invariant.kept others closed within));
    }

pub returns-clause-kept : goal.returns-clause-kept
returns-clause-kept c others closed within =
    let sets = set_of c.args.sets.now in
    let P : List Group → Type 0 = λ gs. All (HasOneSet sets) gs in
    c.remove_unsatisfied.ensures.kept sets (subst P (sym c.deref.ensures.value) c.in_ok-groups.ensures.one_set) others closed (c.loop-alloc.invariant.kept others closed within)

pub returns-clause-settled : goal.returns-clause-settled
returns-clause-settled c =
    let sets = set_of c.args.sets.now in
    let nodes = is_in c.remove_unsatisfied.new.remaining in
    let groups = c.in_ok-groups.groups.items in
    let Q : List Group → Type 0 = λ gs. All (IsSettled nodes) gs in
    let have : AllHaveSets sets nodes = λ v has. c.loop-alloc.invariant.have_sets v (c.remove_unsatisfied.ensures.within v has) in
    let settled : Q groups = subst Q c.deref.ensures.value (OnFalse_at c.loop-alloc-test.false c.remove_unsatisfied.ensures.settled) in
    all_settled sets groups nodes have c.in_ok-groups.ensures.one_set c.in_ok-groups.ensures.all settled
