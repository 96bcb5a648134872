use Rattle.std.proofs.Common.{◌<◌, length, arith, ap, ◌∙◌, sym, Option, Some}
use Rattle.std.specs.Option.{option_map}
use Rattle.scp_live_config.specs.Names.{Identity, node_said}
use Rattle.scp_live_config.proofs.Views.{at_said}
use Rattle.scp_live_config.proofs.Telling.{node_more}
use Rattle.scp_live_config.proofs.sets.read_nodes.Goals as goal

pub loop-place-preserved : goal.loop-place-preserved
loop-place-preserved c =
    let vs = c.args.values.now in
    let v = c.index-values-place.result in
    let within : c.loop-place.place < length vs = omega arith in
    let found = rw c.in-Some.is at c.name_said.ensures in
    rw (c.in_ok-push-in-Some.ensures.items, c.id.ensures) (node_more c.args.names.now vs c.loop-place.nodes.items c.loop-place.place v c.in-Some.named.now within c.index-values-place.is c.loop-place.invariant found)

pub returns-in-None-clause-wrong : goal.returns-in-None-clause-wrong
returns-in-None-clause-wrong c =
    let vs = c.args.values.now in
    let v = c.index-values-place.result in
    let within : c.loop-place.place < length vs = omega arith in
    let found = rw c.in-None.is at c.name_said.ensures in
    at_said (node_said c.args.names.now) vs c.loop-place.place v within c.index-values-place.is ∙ ap (λ (o : Option Identity). Some (option_map (λ identity. identity.id) o)) (sym found)
