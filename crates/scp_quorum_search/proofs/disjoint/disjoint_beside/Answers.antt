use Rattle.std.proofs.Common.{◌≡◌, ◌≤◌, true, false, List, length, arith, sym, ◌∙◌, ap, subst}
use Rattle.std.specs.List.{All, Any, Contains}
use Rattle.std.proofs.lemmas.List.Elements.{All-contains_itself}
use Rattle.scp_quorum.specs.scp_types.specs.declared.names.NodeId.{NodeId}
use Rattle.scp_quorum.specs.NodeSet.{is_in}
use Rattle.scp_quorum_search.proofs.Sets.{empty_has_none}
use Rattle.scp_quorum_search.proofs.Counting.{power_more}
use Rattle.scp_quorum_search.proofs.Honest.{shows_beside}
use Rattle.scp_quorum_search.proofs.disjoint.disjoint_beside.Goals as goal

pub search-requires-clause-chosen : goal.search-requires-clause-chosen
search-requires-clause-chosen c v has = absurd (let f : true ≡ false = sym has ∙ empty_has_none c.new-chosen.result c.new-chosen.ensures.empty v in cc)

pub search-requires-clause-left : goal.search-requires-clause-left
search-requires-clause-left c = All-contains_itself c.as_slice-all.result.now

pub returns-clause-shows : goal.returns-clause-shows
returns-clause-shows c =
    let E : List NodeId → Type 0 = λ vs. All (λ v. Any (λ m. m.node ≡ v) c.args.members.now) vs in
    let H : List NodeId → Type 0 = λ vs. All (λ v. is_in c.args.liars.now v ≡ false) vs in
    let A : List NodeId → Type 0 = λ vs. All (λ m. is_in c.args.liars.now m.node ≡ false → Contains vs m.node) c.args.members.now in
    let same = sym c.as_slice-all.ensures.value in
    shows_beside _ (subst E same c.in_ok-all.ensures.each) (subst H same c.in_ok-all.ensures.honest) (subst A same c.in_ok-all.ensures.all) (is_in c.new-chosen.result) c.search.new.tries c.in_ok-found.found
    (empty_has_none c.new-chosen.result c.new-chosen.ensures.empty) c.in_ok-found.ensures.finds

pub returns-clause-few : goal.returns-clause-few
returns-clause-few c =
    let fewer : length c.as_slice-all.result.now ≤ length c.args.members.now = omega (arith, ap length c.as_slice-all.ensures.value, c.in_ok-all.ensures.no_more) in
    omega (arith, c.in_ok-found.ensures.few, power_more (length c.as_slice-all.result.now) (length c.args.members.now) fewer)
