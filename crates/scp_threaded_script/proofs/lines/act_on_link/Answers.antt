use Rattle.std.proofs.Common.{◌≡◌, ◌∙◌, ◌<◌, length, Some, ap, sym, arith}
use Rattle.std.specs.Prelude.{slice_get}
use Rattle.std.proofs.lemmas.Option.{slice_get-get_or}
use Rattle.scp_threaded_node.specs.Kv.{Node}
use Rattle.scp_threaded_node.specs.scp_shared_outbox.proofs.ListsOfAll.{there_is}
use Rattle.scp_threaded_script.proofs.Doing.{place_within, one_acted, one_unchanged}
use Rattle.scp_threaded_script.proofs.lines.act_on_link.Goals as goal

pub act_at-requires : goal.act_at-requires
act_at-requires g c =
    let nodes = c.args.nodes.now.items in
    let i = c.from.result in
    let node = c.index_mut.result.now in
    let was : slice_get nodes i ≡ Some node = slice_get-get_or nodes i node (omega arith) ∙ ap (λ (n : Node). Some n) (sym c.index_mut.ensures.value) in
    omega (arith, place_within (length nodes) (length node.lanes.items) c.args.from c.args.to c.requires.link (c.requires.lanes i node was))

pub returns-in-Ok-clause-acts : goal.returns-in-Ok-clause-acts
returns-in-Ok-clause-acts g c =
    let nodes = c.args.nodes.now.items in
    let i = c.from.result in
    let node = c.index_mut.result.now in
    let was : slice_get nodes i ≡ Some node = slice_get-get_or nodes i node (omega arith) ∙ ap (λ (n : Node). Some n) (sym c.index_mut.ensures.value) in
    one_acted nodes c.args.from c.args.to i c.from-place.result c.args.done node c.act_at.new.node was (omega arith) (omega arith) c.in-Ok.ensures.acted

pub returns-in-Err-clause-same : goal.returns-in-Err-clause-same
returns-in-Err-clause-same g c =
    let nodes = c.args.nodes.now.items in
    let i = c.from.result in
    let node = c.index_mut.result.now in
    let was : slice_get nodes i ≡ Some node = slice_get-get_or nodes i node (omega arith) ∙ ap (λ (n : Node). Some n) (sym c.index_mut.ensures.value) in
    one_unchanged nodes i node c.act_at.new.node was c.in-Err.ensures.same

pub returns-in-Err-clause-given_up : goal.returns-in-Err-clause-given_up
returns-in-Err-clause-given_up g c =
    let nodes = c.args.nodes.now.items in
    let i = c.from.result in
    let node = c.index_mut.result.now in
    let was : slice_get nodes i ≡ Some node = slice_get-get_or nodes i node (omega arith) ∙ ap (λ (n : Node). Some n) (sym c.index_mut.ensures.value) in
    let within : c.from-place.result < length node.lanes.items = omega (arith, place_within (length nodes) (length node.lanes.items) c.args.from c.args.to c.requires.link (c.requires.lanes i node was)) in
    let lane = there_is node.lanes.items c.from-place.result within in
    c.fault_at.ensures (length nodes) c.requires.link.1 c.args.done lane.0.tail (c.in-Err.ensures.why lane.0 lane.1)
