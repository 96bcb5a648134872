-- A peer is told by its own name.
use Rattle.std.proofs.Common.{◌≡◌, ◌<◌, ◌+◌, ℕ, zero, suc, Bool, true, false, cond, List, [], ◌∷◌, Option, Some, None, length, get_or, refl, sym, ◌∙◌, ap, arith}
use Rattle.std.specs.Prelude.{is_some, not, position, slice_get}
use Rattle.std.specs.List.{position_or_len}
use Rattle.std.specs.Cmp.Lexicographic.{same_text}
use Rattle.std.proofs.lemmas.Bool.{lt-ltb}
use Rattle.std.proofs.lemmas.Cmp.{nat_list_eq_equiv}
use Rattle.std.proofs.lemmas.List.Quantifiers.{position-Some}
use Rattle.std.proofs.lemmas.Option.{slice_get-get_or}
use Rattle.scp_core.specs.scp_types.specs.declared.names.NodeId.{NodeId}
use Rattle.scp_core.specs.scp_types.specs.Same.{same_node}
use Rattle.scp_core.specs.scp_pending.specs.Peers.{AreApart}
use Rattle.scp_live_lines.specs.Names.{name_at, name_if, name_of}

same_id : (a b : NodeId) → same_node a b ≡ true → a ≡ b
same_id a b e =
    let at : List ℕ → NodeId = λ bytes. record { 0 = bytes } in
    ap at (same_text a.0 b.0 (sym e))

itself : (a : NodeId) → same_node a a ≡ true
itself a = nat_list_eq_equiv.refl a.0

-- a peer has a place among the peers
stands : (peers : List NodeId) (place : ℕ) (peer : NodeId) → slice_get peers place ≡ Some peer → position_or_len (λ p. same_node p peer) peers < length peers
stands [] place peer e = absurd cc
stands (p ∷ ps) zero peer e = (let same : p ≡ peer = is_it p peer e in rw (same, itself peer) (omega arith))
  where
    is_it : (a b : NodeId) → Some a ≡ Some b → a ≡ b
    is_it a b e = cc
stands (p ∷ ps) (suc place) peer e = by (same_node p peer) (stands ps place peer e)
  where
    by : (b : Bool) → position_or_len (λ q. same_node q peer) ps < length ps → cond (not b) (1 + position_or_len (λ q. same_node q peer) ps) 0 < length (p ∷ ps)
    by true h = omega arith
    by false h = omega (arith, h)

found_there : (peers : List NodeId) (place : ℕ) (peer : NodeId) → slice_get peers place ≡ Some peer → is_some (position (λ p. same_node p peer) peers) ≡ true
found_there peers place peer e = rw (lt-ltb (position_or_len (λ p. same_node p peer) peers) (length peers) (stands peers place peer e)) refl

pub told_by_its_name : (names : List (List ℕ)) (peers : List NodeId) (place : ℕ) (peer : NodeId) → AreApart peers → slice_get peers place ≡ Some peer → name_of names peers peer ≡ name_at names place
told_by_its_name names peers place peer apart there = by (position test peers) refl (found_there peers place peer there)
  where
    test : NodeId → Bool
    test p = same_node p peer

    by : (o : Option ℕ) → position test peers ≡ o → is_some o ≡ true → name_if names (position test peers) ≡ name_at names place
    by None e s = absurd cc
    by (Some i) e s =
        let found = position-Some test peers i peer e in
        let same : get_or peers i peer ≡ peer = same_id (get_or peers i peer) peer found.1 in
        let at : slice_get peers i ≡ Some peer = slice_get-get_or peers i peer found.0 ∙ ap (λ (p : NodeId). Some p) same in
        ap (name_if names) e ∙ ap (name_at names) (apart i place peer at there)
