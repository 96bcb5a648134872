use Rattle.std.proofs.Common.{◌≢◌, ◌<◌, length, refl, arith}
use Rattle.toml.specs.View.{view}
use Rattle.scp_live_config.specs.Names.{Identity, name_said}
use Rattle.scp_live_config.proofs.Lists.{no_two_nil}
use Rattle.scp_live_config.proofs.Views.{at_said}
use Rattle.scp_live_config.proofs.Telling.{each_more, peer_once, all_by_push, peer_wrong}
use Rattle.scp_live_config.proofs.peers.read_each.Goals as goal

pub loop-place-init : goal.loop-place-init
loop-place-init c = rw c.new-peers.ensures.items (refl, no_two_nil (λ (peer : Identity). peer.name), tt)

pub loop-place-preserved : goal.loop-place-preserved
loop-place-preserved c =
    let i = c.loop-place.invariant in
    let vs = c.args.values.now in
    let peers = c.loop-place.peers.items in
    let v = c.index-values-place.result in
    let within : c.loop-place.place < length vs = omega arith in
    let new = rw c.deref.ensures.value at c.in-Ok.ensures.new in
    rw c.in_ok-push.ensures.items (
      each_more c.args.names.now c.args.node.now vs peers c.loop-place.place v c.in-Ok.peer within c.index-values-place.is i.0 c.in-Ok.ensures.read,
      peer_once peers c.in-Ok.peer i.1 new,
      all_by_push (λ (peer : Identity). peer.name ≢ c.args.node.now.name) peers c.in-Ok.peer i.2 c.in-Ok.ensures.other,
    )

pub returns-in-Err-clause-wrong : goal.returns-in-Err-clause-wrong
returns-in-Err-clause-wrong c =
    let vs = c.args.values.now in
    let v = c.index-values-place.result in
    let within : c.loop-place.place < length vs = omega arith in
    let told = rw c.deref.ensures.value at c.in-Err.ensures.wrong in
    peer_wrong c.args.names.now c.args.node.now vs c.loop-place.peers.items c.loop-place.place (name_said c.args.names.now (view v)) c.in-Err.fault c.loop-place.invariant.0 within
    (at_said (name_said c.args.names.now) vs c.loop-place.place v within c.index-values-place.is) told
