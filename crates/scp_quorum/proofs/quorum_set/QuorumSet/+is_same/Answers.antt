use Rattle.std.proofs.Common.{◌≡◌, List, [], length, get_or, arith, sym, ◌∙◌, ap, ⊎_elim}
use Rattle.std.proofs.lemmas.List.{ext_get_or, get_or_default}
use Rattle.std.proofs.lemmas.Bool.{OnTrue_at, OnFalse_at}
use Rattle.scp_xdr.specs.Tree.{no_trees}
use Rattle.scp_quorum.specs.QuorumTree.{QuorumTree}
use Rattle.scp_quorum.proofs.Same.{same_made, made_parts}
use Rattle.scp_quorum.proofs.quorum_set.QuorumSet.+is_same.Goals as goal

pub returns-clause-equal : goal.returns-clause-equal
returns-clause-equal t c =
    let none : QuorumTree = record { head = record { threshold = 0; validators = [] }; inner = no_trees } in
    let mine = c.as_slice-mine.result.now in
    let theirs = c.as_slice-theirs.result.now in
    let threshold : c.self.inside.threshold ≡ c.other.inside.threshold = omega (arith, c.if-self-other.false) in
    let len : length mine ≡ length theirs = omega (arith, c.if-mine-theirs.false) in
    let each : mine ≡ theirs = ext_get_or none mine theirs len (λ k h. c.loop-i.invariant k none (omega (arith, h, c.loop-i-test.false))) in
    let inner : c.self.inside.inner_sets.items ≡ c.other.inside.inner_sets.items = sym c.as_slice-mine.ensures.value ∙ each ∙ c.as_slice-theirs.ensures.value in
    let validators : c.self.inside.validators.items ≡ c.other.inside.validators.items =
    sym c.as_slice.ensures.value ∙ OnTrue_at c.if-not-are_same_nodes.false c.are_same_nodes.ensures.equal ∙ c.as_slice-2.ensures.value
    in
    sym c.self.view_is
    ∙ same_made c.self.inside.threshold c.other.inside.threshold c.self.inside.validators.items c.other.inside.validators.items c.self.inside.inner_sets.items c.other.inside.inner_sets.items threshold validators inner
    ∙ c.other.view_is

pub returns-then-self-other-clause-different : goal.returns-then-self-other-clause-different
returns-then-self-other-clause-different t c = λ same.
    let mine = c.as_slice-mine.ensures.value in
    let theirs = c.as_slice-theirs.ensures.value in
    let parts = made_parts _ _ _ _ _ _ (c.self.view_is ∙ same ∙ sym c.other.view_is) in
    ⊎_elim
    (λ threshold. threshold parts.0)
    (λ lengths. lengths.1 (ap length (mine ∙ parts.2 ∙ sym theirs)))
    c.then-self-other.either

pub returns-then-not-is_same-clause-different : goal.returns-then-not-is_same-clause-different
returns-then-not-is_same-clause-different t c = λ same.
    let mine = c.as_slice-mine.result.now in
    let theirs = c.as_slice-theirs.result.now in
    let parts = made_parts _ _ _ _ _ _ (c.self.view_is ∙ same ∙ sym c.other.view_is) in
    let each : mine ≡ theirs = c.as_slice-mine.ensures.value ∙ parts.2 ∙ sym c.as_slice-theirs.ensures.value in
    let inner : c.index-mine-i.result ≡ c.index-theirs-i.result =
    c.index-mine-i.is
    ∙ get_or_default mine c.loop-i.i c.index-mine-i.result c.index-theirs-i.result c.loop-i-test.true
    ∙ ap (λ (sets : List QuorumTree). get_or sets c.loop-i.i c.index-theirs-i.result) each
    ∙ sym c.index-theirs-i.is
    in
    OnFalse_at c.if-not-is_same.true c.is_same.ensures.different inner
