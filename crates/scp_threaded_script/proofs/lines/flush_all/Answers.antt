use Rattle.std.proofs.Common.{◌≡◌, ◌<◌, length, ◌++◌, List, get_or, subst, sym, arith, ap, ◌∙◌, []}
use Rattle.std.proofs.lemmas.List.{drop_all, take_all, append-nil}
use Rattle.std.specs.Prelude.{take, drop}
use Rattle.std.proofs.lemmas.Option.{slice_get-get_or}
use Rattle.scp_threaded_node.specs.Kv.{Node}
use Rattle.scp_threaded_script.specs.inside.Played.{AreUnchanged}
use Rattle.scp_threaded_script.proofs.Acting.{all_unchanged, one_more_unchanged}
use Rattle.scp_threaded_script.proofs.lines.flush_all.Goals as goal

pub loop-node-init : goal.loop-node-init
loop-node-init c = subst (λ (xs : List Node). AreUnchanged c.args.nodes.now.items xs) (sym c.deref_mut-node-items.ensures.value) (all_unchanged c.args.nodes.now.items)

pub loop-node-preserved : goal.loop-node-preserved
loop-node-preserved c =
    let xs : List Node = c.loop-node.node-items in
    let i = c.loop-node.node-index in
    let d : Node = c.node-item.result in
    let inside : i < length xs = omega arith in
    one_more_unchanged c.args.nodes.now.items xs i (get_or xs i d) c.flush.new.node (slice_get-get_or xs i d inside) c.flush.ensures.same c.loop-node.invariant

pub returns : goal.returns
returns c =
    let xs : List Node = c.loop-node.node-items in
    let ys : List Node = c.args.nodes.now.items in
    let count : length xs ≡ length ys = c.loop-node.invariant.count in
    let full : c.args.nodes.now.len ≡ length ys = omega (arith, c.deref_mut-node-items.ensures.len, ap length c.deref_mut-node-items.ensures.value) in
    let none : drop (length xs) ys ≡ [] = drop_all (length xs) ys (omega arith) in
    let all : take c.args.nodes.now.len (xs ++ drop (length xs) ys) ≡ xs = ap (λ (t : List Node). take c.args.nodes.now.len (xs ++ t)) none ∙ ap (take c.args.nodes.now.len) (append-nil xs) ∙ take_all c.args.nodes.now.len xs (omega arith) in
    subst (λ (zs : List Node). AreUnchanged ys zs) (sym all) c.loop-node.invariant
