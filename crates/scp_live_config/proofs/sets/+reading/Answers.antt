use Rattle.std.proofs.Common.{◌≡◌, ◌+◌, ◌<◌, ◌≤◌, length, sym, ◌∙◌, arith}
use Rattle.toml.specs.View.{table_view}
use Rattle.scp_quorum.specs.Sane.{levels}
use Rattle.scp_live_config.proofs.Rows.{says_made, no_threshold, inner_more, inner_wrong, no_table_here}
use Rattle.scp_live_config.proofs.sets.+reading.Goals as goal

pub read_set-returns-in-None-clause-wrong : goal.read_set-returns-in-None-clause-wrong
read_set-returns-in-None-clause-wrong t c =
    let nodes = c.in_ok-validators.validators.items in
    let sets = c.in_ok-inner_sets.inner_sets.items in
    let counts : c.len.result + c.len-2.result ≡ length nodes + length sets = omega arith in
    rw c.new.ensures.items
    (no_threshold c.args.names.now c.args.left (table_view c.args.table.now) nodes sets (c.len.result + c.len-2.result) counts (sym c.in-None.is ∙ c.read_threshold.ensures) c.in_ok-validators.ensures.said c.in_ok-inner_sets.ensures.said)

pub read_set-returns-in-Ok-clause-said : goal.read_set-returns-in-Ok-clause-said
read_set-returns-in-Ok-clause-said t c =
    let nodes = c.in_ok-validators.validators.items in
    let sets = c.in_ok-inner_sets.inner_sets.items in
    let counts : c.len.result + c.len-2.result ≡ length nodes + length sets = omega arith in
    says_made c.args.names.now (table_view c.args.table.now) nodes sets c.in-Some.threshold (c.len.result + c.len-2.result) c.in-Ok.set c.in-Ok.ensures.made c.in_ok-refuse_others.ensures.none counts (sym c.in-Some.is ∙ c.read_threshold.ensures) c.in_ok-validators.ensures.said c.in_ok-inner_sets.ensures.said

pub read_inner-loop-place-preserved : goal.read_inner-loop-place-preserved
read_inner-loop-place-preserved t c =
    let vs = c.in-Some.values.now in
    let v = c.index-values-place.result in
    let place = c.loop-place.place in
    let within : place < length vs = omega arith in
    let found = rw c.in-Some-as_table.is at c.as_table.ensures in
    let few : levels c.in-Ok.set.inner + 1 ≤ c.args.left = omega (arith, c.in-Ok.ensures.shallow, c.if-left-eq0.false) in
    rw c.in_ok-push-in-Ok.ensures.items
    (inner_more c.args.names.now vs c.loop-place.sets.items place c.args.left v c.in-Ok.set (table_view c.in-Some-as_table.inner.now) within c.index-values-place.is c.loop-place.invariant found c.in-Ok.ensures.said few)

pub read_inner-returns-in-Err-clause-wrong : goal.read_inner-returns-in-Err-clause-wrong
read_inner-returns-in-Err-clause-wrong t c =
    let vs = c.in-Some.values.now in
    let v = c.index-values-place.result in
    let place = c.loop-place.place in
    let within : place < length vs = omega arith in
    let there = rw c.in-Some.is at c.values_at.ensures in
    let found = rw c.in-Some-as_table.is at c.as_table.ensures in
    inner_wrong c.args.names.now c.args.left (table_view c.args.table.now) (table_view c.in-Some-as_table.inner.now) vs place v c.in-Err.fault c.inside.result within c.index-values-place.is there found c.inside.ensures c.in-Err.ensures.wrong

pub read_inner-returns-in_default-as_table-clause-wrong : goal.read_inner-returns-in_default-as_table-clause-wrong
read_inner-returns-in_default-as_table-clause-wrong t c =
    let vs = c.in-Some.values.now in
    let v = c.index-values-place.result in
    let place = c.loop-place.place in
    let within : place < length vs = omega arith in
    let there = rw c.in-Some.is at c.values_at.ensures in
    let table = rw c.in_default-as_table.is at c.as_table.ensures in
    rw c.new-in_default-as_table.ensures.items (no_table_here c.args.names.now c.args.left (table_view c.args.table.now) vs place v within c.index-values-place.is there table)
