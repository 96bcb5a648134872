-- A node of a script has a link from each other node, at its place.
use Rattle.std.specs.Prelude.{Some, slice_get}
use Rattle.std.proofs.Common.{◌≡◌, ◌≢◌, ◌≤◌, ◌<◌, ◌+◌, ℕ, suc, zero, Bool, true, false, not, cond, List, [], ◌∷◌, ◌++◌, length, filter, map, nat_eq, get_or, ◌∙◌, sym, ap, subst, arith, ⊎_elim}
use Rattle.std.proofs.lemmas.Bool.{cases_eq}
use Rattle.std.proofs.lemmas.Bool.Decides.{nat_tests}
use Rattle.std.proofs.lemmas.List.{map-append, append-nil}
use Rattle.std.proofs.lemmas.List.Elements.{filter-append}
use Rattle.scp_threaded_node.specs.scp_types.specs.declared.names.NodeId.{NodeId}
use Rattle.scp_script.specs.Nodes.{numbers, id_of, peers_of}
use Rattle.scp_threaded_node.specs.scp_pending.specs.Peers.{AreApart}
use Rattle.scp_threaded_script.specs.Lines.{peer_at}
use Rattle.scp_threaded_node.specs.scp_shared_outbox.proofs.ListsOfAll.{there_is}
use Rattle.scp_threaded_node.specs.scp_shared_outbox.proofs.Peers.{ArePeers, peers_none, peers_more, peers_same, peers_all, place_apart}

-- one more node is one more peer, or the node itself
one_more : (n node : ℕ) → peers_of (suc n) node ≡ peers_of n node ++ map id_of (cond (not (nat_eq (suc n) node)) (suc n ∷ []) [])
one_more n node =
    ap (λ (xs : List ℕ). map id_of xs) (filter-append (λ other. not (nat_eq other node)) (numbers n) (suc n ∷ []))
    ∙ map-append id_of (filter (λ other. not (nat_eq other node)) (numbers n)) (cond (not (nat_eq (suc n) node)) (suc n ∷ []) [])

one_peer : (n node : ℕ) (b : Bool) → nat_eq (suc n) node ≡ b → peers_of (suc n) node ≡ peers_of n node ++ map id_of (cond (not b) (suc n ∷ []) [])
one_peer n node b e = one_more n node ∙ ap (λ (c : Bool). peers_of n node ++ map id_of (cond (not c) (suc n ∷ []) [])) e

abbrev Has : ℕ → NodeId → Type 0
Has number peer = peer ≡ id_of number

next : (n : ℕ) → n + 1 ≡ suc n
next n = omega arith

is_self : (n node : ℕ) → suc n ≡ node → nat_eq (suc n) node ≡ true
is_self n node e = grind (arith, nat_tests, e)

is_other : (n node : ℕ) → suc n ≢ node → nat_eq (suc n) node ≡ false
is_other n node e = grind (arith, nat_tests, e)

first_peers : (n node : ℕ) → 1 ≤ node → ArePeers Has node n (peers_of n node)
first_peers zero node one = peers_none Has node one
first_peers (suc n) node one = subst (λ k. ArePeers Has node k (peers_of (suc n) node)) (next n) (⊎_elim
    (λ e. subst (ArePeers Has node (n + 1)) (sym (one_peer n node true (is_self n node e) ∙ append-nil (peers_of n node))) (peers_same Has node n (peers_of n node) (next n ∙ e) (first_peers n node one)))
    (λ apart. peers_more Has node n (peers_of n node) (peers_of (suc n) node) (id_of (suc n)) one (λ e. apart (sym (next n) ∙ e)) (one_peer n node false (is_other n node apart)) (ap id_of (sym (next n))) (first_peers n node one))
    (cases_eq (suc n) node))

-- as many as there are other nodes
pub peer_count : (count node : ℕ) → 1 ≤ node → node ≤ count → length (peers_of count node) + 1 ≡ count
peer_count count node one most = peers_all Has node count (peers_of count node) one most (first_peers count node one)

same_number : (a b : ℕ) → id_of a ≡ id_of b → a ≡ b
same_number a b e = ap (λ (id : NodeId). get_or id.0 0 0) e

-- and none of them twice
pub peers_apart : (count node : ℕ) → 1 ≤ node → AreApart (peers_of count node)
peers_apart count node one l m peer at_l at_m =
    let f = first_peers count node one in
    place_apart node l m (same_number (peer_at l node) (peer_at m node) (sym (f.each l peer at_l) ∙ f.each m peer at_m))

-- each at its place
pub peer_is : (count node place : ℕ) → 1 ≤ node → node ≤ count → place + 1 < count → slice_get (peers_of count node) place ≡ Some (id_of (peer_at place node))
peer_is count node place one most within =
    let peers = peers_of count node in
    let p = there_is peers place (omega (arith, within, peer_count count node one most)) in
    p.1 ∙ ap (λ (id : NodeId). Some id) ((first_peers count node one).each place p.0 p.1)
