-- The peers of a node are the others: those before it, and those after it.
use Rattle.std.proofs.Common.{◌≡◌, ◌<◌, ◌+◌, ◌-◌, ℕ, suc, List, ◌++◌, Some, take, drop, length, get_or, refl, sym, ◌∙◌, ap, arith}
use Rattle.std.specs.Prelude.{remove, slice_get}
use Rattle.std.proofs.lemmas.Option.{get_or_from_slice_get, slice_get_read}
use Rattle.std.proofs.lemmas.List.{take-append-drop, map-append, length-map, length-take-le, take_rest}
use Rattle.std.proofs.Math.Seq.{take-append_seam, drop-append_seam}
use Rattle.scp_core.specs.scp_types.specs.declared.names.NodeId.{NodeId}
use Rattle.scp_core.specs.Kv.{NodeView}
use Rattle.scp_turn.specs.Heard.{Nodes}
use Rattle.scp_turn.specs.Linked.{ids_of, HasOthers}

joined : (nodes : Nodes) (place : ℕ) (peers : List NodeId) → take place peers ≡ ids_of (take place nodes) → drop place peers ≡ ids_of (drop (suc place) nodes) → peers ≡ ids_of (remove nodes place)
joined nodes place peers before behind =
    sym (take-append-drop place peers)
    ∙ ap (λ (xs : List NodeId). xs ++ drop place peers) before
    ∙ ap (λ (xs : List NodeId). ids_of (take place nodes) ++ xs) behind
    ∙ sym (map-append (λ (node : NodeView). node.config.me) (take place nodes) (drop (suc place) nodes))

whole : (nodes : Nodes) (place : ℕ) (peers : List NodeId) → peers ≡ ids_of (remove nodes place) → peers ≡ ids_of (take place nodes) ++ ids_of (drop (suc place) nodes)
whole nodes place peers is = is ∙ map-append (λ (node : NodeView). node.config.me) (take place nodes) (drop (suc place) nodes)

so_many : (nodes : Nodes) (place : ℕ) → place < length nodes → length (ids_of (take place nodes)) ≡ place
so_many nodes place lt = length-map (take place nodes) (λ (node : NodeView). node.config.me) ∙ length-take-le place nodes (omega (arith, lt))

before : (nodes : Nodes) (place : ℕ) (peers : List NodeId) → place < length nodes → peers ≡ ids_of (remove nodes place) → take place peers ≡ ids_of (take place nodes)
before nodes place peers lt is =
    let front = ids_of (take place nodes) in
    let back = ids_of (drop (suc place) nodes) in
    ap (λ (xs : List NodeId). take place xs) (whole nodes place peers is)
    ∙ ap (λ (n : ℕ). take n (front ++ back)) (sym (so_many nodes place lt))
    ∙ take-append_seam front back

behind : (nodes : Nodes) (place : ℕ) (peers : List NodeId) → place < length nodes → peers ≡ ids_of (remove nodes place) → drop place peers ≡ ids_of (drop (suc place) nodes)
behind nodes place peers lt is =
    let front = ids_of (take place nodes) in
    let back = ids_of (drop (suc place) nodes) in
    ap (λ (xs : List NodeId). drop place xs) (whole nodes place peers is)
    ∙ ap (λ (n : ℕ). drop n (front ++ back)) (sym (so_many nodes place lt))
    ∙ drop-append_seam front back

-- ---- the peers of the node at a place, by the front and the back of them

own_peers : (nodes : Nodes) (place : ℕ) (node kept : NodeView) (peers : List NodeId) → slice_get nodes place ≡ Some node → kept ≡ get_or nodes place kept → peers ≡ kept.config.peers → peers ≡ node.config.peers
own_peers nodes place node kept peers at is has = has ∙ ap (λ (v : NodeView). v.config.peers) (is ∙ get_or_from_slice_get nodes place node kept at)

all_behind : (nodes : Nodes) (place : ℕ) → ids_of (take (length nodes - (place + 1)) (drop (place + 1) nodes)) ≡ ids_of (drop (suc place) nodes)
all_behind nodes place =
    let e : place + 1 ≡ suc place = omega arith in
    ap (λ (vs : Nodes). ids_of vs) (take_rest nodes (place + 1)) ∙ ap (λ (n : ℕ). ids_of (drop n nodes)) e

pub others_found : (nodes : Nodes) (place : ℕ) (node kept : NodeView) (peers front back : List NodeId) → slice_get nodes place ≡ Some node → kept ≡ get_or nodes place kept → peers ≡ kept.config.peers → front ≡ take place peers → back ≡ drop place peers → front ≡ ids_of (take place nodes) → back ≡ ids_of (take (length nodes - (place + 1)) (drop (place + 1) nodes)) → node.config.peers ≡ ids_of (remove nodes place)
others_found nodes place node kept peers front back at is has first last first_ids last_ids =
    sym (own_peers nodes place node kept peers at is has)
    ∙ joined nodes place peers (sym first ∙ first_ids) (sym last ∙ last_ids ∙ all_behind nodes place)

others_here : (nodes : Nodes) (place : ℕ) (kept : NodeView) (peers : List NodeId) → place < length nodes → kept ≡ get_or nodes place kept → peers ≡ kept.config.peers → HasOthers nodes place → peers ≡ ids_of (remove nodes place)
others_here nodes place kept peers lt is has others = has ∙ others kept (slice_get_read nodes (length nodes) place kept refl lt is)

pub others_front : (nodes : Nodes) (place : ℕ) (kept : NodeView) (peers front : List NodeId) → place < length nodes → kept ≡ get_or nodes place kept → peers ≡ kept.config.peers → front ≡ take place peers → HasOthers nodes place → front ≡ ids_of (take place nodes)
others_front nodes place kept peers front lt is has first others = first ∙ before nodes place peers lt (others_here nodes place kept peers lt is has others)

pub others_back : (nodes : Nodes) (place : ℕ) (kept : NodeView) (peers back : List NodeId) → place < length nodes → kept ≡ get_or nodes place kept → peers ≡ kept.config.peers → back ≡ drop place peers → HasOthers nodes place → back ≡ ids_of (take (length nodes - (place + 1)) (drop (place + 1) nodes))
others_back nodes place kept peers back lt is has last others =
    last ∙ behind nodes place peers lt (others_here nodes place kept peers lt is has others) ∙ sym (all_behind nodes place)
