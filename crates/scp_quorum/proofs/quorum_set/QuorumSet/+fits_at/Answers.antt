use Rattle.std.proofs.Common.{◌≡◌, ◌<◌, ◌≤◌, ◌-◌, ◌^◌, ℕ, List, take, length, true, false, sym, ◌∙◌, subst, arith}
use Rattle.std.specs.Prelude.{map}
use Rattle.std.specs.List.{All, AllByRecursion}
use Rattle.std.proofs.lemmas.Grind.{common_steps}
use Rattle.std.proofs.lemmas.List.Elements.{All-more, All-from_recursion, recursion_from_All}
use Rattle.scp_xdr.specs.scp_types.specs.declared.names.NodeId.{NodeId}
use Rattle.scp_xdr.specs.Kind.{Fits, array, limit_at}
use Rattle.scp_xdr.specs.Shared.{node_kind, node_value}
use Rattle.scp_quorum.specs.QuorumTree.{QuorumTree}
use Rattle.scp_xdr.proofs.Answered.{refuted, shown}
use Rattle.scp_quorum.proofs.Whole.{FitsAt, made_fits, made_few, made_each, limit_none, limit_some, limit_le}
use Rattle.scp_quorum.proofs.quorum_set.QuorumSet.+fits_at.Goals as goal
use Rattle.scp_quorum.proofs.quorum_set.QuorumSet.+fits_at.Goals.{then-levels-eq0, else-levels-eq0, then-not-array_fits-via-then-not-array_fits, then-not-array_fits-via-else-not-array_fits+then-len-limit}

apart : false ≡ true → ⊥
apart e = cc

abbrev FitNodes : List NodeId → Type 0
FitNodes vs = Fits (array 1000 node_kind) (map node_value vs)

pub returns-then-not-array_fits : goal.returns-then-not-array_fits
returns-then-not-array_fits t c =
    let limit : c.if-levels-eq0.limit ≡ limit_at c.args.levels 1000 =
    elim c.if-levels-eq0.branch [
      | then-levels-eq0 w ↦ limit_none c.args.levels c.if-levels-eq0.limit w.if-levels-eq0.true w.limit-is
      | else-levels-eq0 w ↦ limit_some c.args.levels c.if-levels-eq0.limit (omega (arith, w.if-levels-eq0.false)) w.limit-is
    ]
    in
    rw (← c.self.view_is)
    (refuted (λ h. elim c.then-not-array_fits.branch [
      | then-not-array_fits-via-then-not-array_fits w ↦
          (let nodes : FitNodes c.deref.result.now = subst FitNodes (sym c.deref.ensures.value) h.0.1 in
          apart (sym w.if-not-array_fits.true ∙ c.array_fits.ensures.1 nodes))
      | then-not-array_fits-via-else-not-array_fits+then-len-limit w ↦
          omega (arith, limit, w.if-len-limit.true, w.len.ensures, made_few c.args.levels c.self.inside.threshold c.self.inside.validators.items c.self.inside.inner_sets.items h)
    ]))

pub returns-then-not-fits_at : goal.returns-then-not-fits_at
returns-then-not-fits_at t c =
    rw (← c.self.view_is)
    (refuted (λ h.
    let qs = c.self.inside.inner_sets.items in
    let P : List QuorumTree → Type 0 = λ xs. All (FitsAt (c.args.levels - 1)) xs in
    let each : All (FitsAt (c.args.levels - 1)) qs = All-from_recursion (FitsAt (c.args.levels - 1)) qs (made_each c.args.levels c.self.inside.threshold c.self.inside.validators.items qs h) in
    let here : All (FitsAt (c.args.levels - 1)) c.deref-inner-items.result.now = subst P (sym c.deref-inner-items.ensures.value) each in
    let one : FitsAt (c.args.levels - 1) c.inner-item.result = subst (FitsAt (c.args.levels - 1)) (sym c.inner-item.is) (here c.loop-inner.inner-index c.inner-item.result c.loop-inner-test.true) in
    let F : ℕ → Type 0 = λ n. FitsAt n c.inner-item.result in
    apart (sym c.if-not-fits_at.true ∙ c.fits_at.ensures.1 (subst F (sym c.saturating_sub.ensures) one))))

pub loop-inner-preserved : goal.loop-inner-preserved
loop-inner-preserved t c =
    let F : ℕ → Type 0 = λ n. FitsAt n c.inner-item.result in
    let one : FitsAt (c.args.levels - 1) c.inner-item.result = subst F c.saturating_sub.ensures (c.fits_at.ensures.0 c.if-not-fits_at.false) in
    record {
      so_far = All-more (FitsAt (c.args.levels - 1)) c.deref-inner-items.result.now c.loop-inner.inner-index c.inner-item.result c.loop-inner-test.true c.loop-inner.invariant.so_far (subst (FitsAt (c.args.levels - 1)) c.inner-item.is one);
      all = c.loop-inner.invariant.all;
    }

pub returns : goal.returns
returns t c =
    let qs = c.self.inside.inner_sets.items in
    let limit : c.if-levels-eq0.limit ≡ limit_at c.args.levels 1000 =
    elim c.if-levels-eq0.branch [
      | then-levels-eq0 w ↦ limit_none c.args.levels c.if-levels-eq0.limit w.if-levels-eq0.true w.limit-is
      | else-levels-eq0 w ↦ limit_some c.args.levels c.if-levels-eq0.limit (omega (arith, w.if-levels-eq0.false)) w.limit-is
    ]
    in
    let all : take c.loop-inner.inner-index c.deref-inner-items.result.now ≡ qs = grind (arith, common_steps) in
    let P : List QuorumTree → Type 0 = λ xs. All (FitsAt (c.args.levels - 1)) xs in
    let each : AllByRecursion (FitsAt (c.args.levels - 1)) qs = recursion_from_All (FitsAt (c.args.levels - 1)) qs (subst P all c.loop-inner.invariant.so_far) in
    let few : length qs ≤ limit_at c.args.levels 1000 = omega (arith, limit, c.if-len-limit.false, c.len.ensures) in
    let less : length qs < 2 ^ 32 = omega (arith, few, limit_le c.args.levels) in
    let small : c.self.inside.threshold < 2 ^ 32 = omega arith in
    let nodes : FitNodes c.self.inside.validators.items = subst FitNodes c.deref.ensures.value (c.array_fits.ensures.0 c.if-not-array_fits.false) in
    rw (← c.self.view_is) (shown (made_fits c.args.levels c.self.inside.threshold c.self.inside.validators.items qs small nodes few less each))
