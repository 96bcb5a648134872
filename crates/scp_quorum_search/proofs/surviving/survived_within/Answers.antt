use Rattle.std.proofs.Common.{◌≡◌, ℕ, ◌+◌, ◌*◌, ◌^◌, ◌≤◌, false, List, length, arith, refl, sym, ◌∙◌, ap, subst}
use Rattle.std.specs.List.{All, Any, Contains}
use Rattle.std.proofs.lemmas.Nat.{row_fits}
use Rattle.scp_quorum.specs.scp_types.specs.declared.names.NodeId.{NodeId}
use Rattle.scp_quorum.specs.NodeSet.{is_in}
use Rattle.scp_quorum_search.proofs.Sets.{empty_has_none}
use Rattle.scp_quorum_search.proofs.Counting.{round_more, searches_fit}
use Rattle.scp_quorum_search.proofs.MostLost.{below_more, halt_not_survived, survived_here, at_halt, at_end}
use Rattle.scp_quorum_search.proofs.surviving.survived_within.Goals as goal

pub returns-in-Halt-clause-shows : goal.returns-in-Halt-clause-shows
returns-in-Halt-clause-shows c =
    let E : List NodeId → Type 0 = λ vs. All (λ v. Any (λ m. m.node ≡ v) c.args.members.now) vs in
    let H : List NodeId → Type 0 = λ vs. All (λ v. is_in c.new-liars.result v ≡ false) vs in
    let A : List NodeId → Type 0 = λ vs. All (λ m. is_in c.new-liars.result m.node ≡ false → Contains vs m.node) c.args.members.now in
    let same = sym c.as_slice.ensures.value in
    let free = empty_has_none c.new-liars.result c.new-liars.ensures.empty in
    at_halt c.args.members.now c.loop-count.count c.few_halt_any.new.tries c.loop-count-test.true c.loop-count.invariant.below
    (halt_not_survived _ c.loop-count.count c.few_halt_any.new.tries c.in_ok-few_halt_any.field-0 c.in-Halt.is c.in_ok-few_halt_any.ensures.shows
    (record { free = free; each = subst E same c.in_ok-all.ensures.each; honest = subst H same c.in_ok-all.ensures.honest; every = subst A same c.in_ok-all.ensures.all }))
    c.loop-count.most c.loop-count.invariant.most

pub returns-in-Halt-clause-few : goal.returns-in-Halt-clause-few
returns-in-Halt-clause-few c =
    let n : ℕ = length c.args.members.now in
    let fewer : length c.as_slice.result.now ≤ n = omega (arith, ap length c.as_slice.ensures.value, c.in_ok-all.ensures.no_more) in
    omega (arith, c.in_ok-few_halt_any.ensures.few, c.loop-count.invariant.few, searches_fit (length c.as_slice.result.now) n fewer, row_fits c.loop-count.count (n * 2 ^ (n + 1)) n (n * 2 ^ (n + 1)) c.loop-count-test.true (omega arith))

pub returns-in-Unknown-clause-few : goal.returns-in-Unknown-clause-few
returns-in-Unknown-clause-few c =
    let n : ℕ = length c.args.members.now in
    let fewer : length c.as_slice.result.now ≤ n = omega (arith, ap length c.as_slice.ensures.value, c.in_ok-all.ensures.no_more) in
    omega (arith, c.in_ok-few_halt_any.ensures.few, c.loop-count.invariant.few, searches_fit (length c.as_slice.result.now) n fewer, row_fits c.loop-count.count (n * 2 ^ (n + 1)) n (n * 2 ^ (n + 1)) c.loop-count-test.true (omega arith))

pub loop-count-preserved : goal.loop-count-preserved
loop-count-preserved c =
    let E : List NodeId → Type 0 = λ vs. All (λ v. Any (λ m. m.node ≡ v) c.args.members.now) vs in
    let H : List NodeId → Type 0 = λ vs. All (λ v. is_in c.new-liars.result v ≡ false) vs in
    let A : List NodeId → Type 0 = λ vs. All (λ m. is_in c.new-liars.result m.node ≡ false → Contains vs m.node) c.args.members.now in
    let same = sym c.as_slice.ensures.value in
    let free = empty_has_none c.new-liars.result c.new-liars.ensures.empty in
    let n : ℕ = length c.args.members.now in
    let fewer : length c.as_slice.result.now ≤ n = omega (arith, ap length c.as_slice.ensures.value, c.in_ok-all.ensures.no_more) in
    record {
      below = below_more c.args.members.now c.loop-count.count c.loop-count.invariant.below
          (survived_here _ c.loop-count.count c.few_halt_any.new.tries c.in_ok-few_halt_any.field-0 c.in-Survive.is c.in_ok-few_halt_any.ensures.shows
          (record { free = free; each = subst E same c.in_ok-all.ensures.each; honest = subst H same c.in_ok-all.ensures.honest; every = subst A same c.in_ok-all.ensures.all }));
      most = refl;
      few = omega (arith, c.in_ok-few_halt_any.ensures.few, c.loop-count.invariant.few, searches_fit (length c.as_slice.result.now) n fewer, round_more c.loop-count.count (n * 2 ^ (n + 1)));
      limit = c.few_halt_any.ensures.limit ∙ c.loop-count.invariant.limit;
    }

pub returns-clause-shows : goal.returns-clause-shows
returns-clause-shows c =
    at_end c.args.members.now c.loop-count.count c.loop-count.tries c.loop-count-test.false (omega arith) c.loop-count.invariant.below c.loop-count.most c.loop-count.invariant.most
