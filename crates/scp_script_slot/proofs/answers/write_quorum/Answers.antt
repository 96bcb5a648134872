use Rattle.std.proofs.Common.{Bor, ◌≡◌, ◌++◌, ◌∷◌, [], ap, ◌∙◌, sym, map, string_bytes, flat_map}
use Rattle.std.proofs.lemmas.List.{map-append}
use Rattle.scp_slot.specs.scp_types.specs.declared.names.NodeId.{NodeId}
use Rattle.std.proofs.lemmas.Iterator.Consumers.{YieldsList-end, YieldsList-from_rest}
use Rattle.scp_script_slot.specs.Answers.{node_word}
use Rattle.scp_script_slot.proofs.Answering.{node_added}
use Rattle.scp_script_slot.proofs.answers.write_quorum.Goals as goal

pub loop-node-preserved : goal.loop-node-preserved
loop-node-preserved c =
    let start = string_bytes c.args.out.now in
    node_added start _ _ _ (map (λ (x : Bor NodeId). x.now) c.loop-node.yielded) c.in-Some.node.now c.loop-node.invariant c.in_ok-push_str.ensures.bytes c.in_ok-write_digits.ensures
    ∙ ap (λ nodes. start ++ flat_map node_word nodes) (sym (map-append (λ (x : Bor NodeId). x.now) c.loop-node.yielded (c.in-Some.node ∷ [])))

pub returns : goal.returns
returns c =
    let end = YieldsList-end (YieldsList-from_rest c.args.quorum.now.keys c.into_iter-node-iterator.ensures.into_iter_gives.0) c.loop-node.yielded _ c.loop-node.yielded_by _ _ c.in-None.is c.next.ensures.steps in
    c.loop-node.invariant ∙ ap (λ nodes. string_bytes c.args.out.now ++ flat_map node_word nodes) end.0
