-- Which link a connection is a life of.
use Rattle.std.proofs.Common.{◌≡◌, ℕ, ◌+◌, ◌<◌, Bool, true, false, cond, not, List, [], ◌∷◌, length, sym, ◌∙◌, ap, subst, arith, suc}
use Rattle.std.specs.Prelude.{◌||◌, Option, Some, None, position, unwrap_or}
use Rattle.std.specs.List.{list_any, position_or_len}
use Rattle.std.specs.Cmp.Lexicographic.{same_text}
use Rattle.std.proofs.lemmas.Bool.{lt-ltb}
use Rattle.std.proofs.lemmas.List.Quantifiers.{position-Some}
use Rattle.scp_outbox.specs.scp_types.specs.declared.names.ConnId.{ConnId}
use Rattle.scp_outbox.specs.scp_types.specs.declared.names.NodeId.{NodeId}
use Rattle.scp_outbox.specs.scp_wire.specs.Connections.{conn_at, same_node}
use Rattle.scp_theorem.specs.Fates.{IsOfLink}
use Rattle.scp_theorem.specs.Grounds.{Who, IsLifeOf}
use Rattle.scp_theorem.proofs.Basics.{there_is, peer_is}

pub same_node-is : (p q : NodeId) → same_node p q ≡ true → p ≡ q
same_node-is p q e = ap (λ (bytes : List ℕ). record { 0 = bytes }) (same_text p.0 q.0 (sym e))

-- the sender is the peer of some link, and the connection leads to the node
pub record HasPlace (who : Who) (conn : ConnId) : Type 0 where
  pub place : ℕ
  pub there : position (λ peer. same_node peer conn.from) who.peers ≡ Some place
  pub to : conn.to ≡ who.me

-- ---- the place's link

life_there : (who : Who) (conn : ConnId) → (h : HasPlace who conn) → IsLifeOf who h.place conn
life_there who conn h =
    let first = position-Some (λ (peer : NodeId). same_node peer conn.from) who.peers h.place who.me h.there in
    let at = there_is who.peers h.place first.0 in
    let same : at.0 ≡ conn.from = same_node-is at.0 conn.from (subst (λ (peer : NodeId). same_node peer conn.from ≡ true) (peer_is who.peers h.place who.me at.0 at.1) first.1) in
    record {
      peer = at.0;
      there = at.1;
      life = conn.life;
      is = ap (λ (n : NodeId). conn_at n conn.to conn.life) (sym same) ∙ ap (λ (n : NodeId). conn_at at.0 n conn.life) h.to;
    }

pub life_at : (who : Who) (conn : ConnId) (other : ℕ) → HasPlace who conn → IsLifeOf who (unwrap_or (position (λ peer. same_node peer conn.from) who.peers) other) conn
life_at who conn other h = subst (λ (o : Option ℕ). IsLifeOf who (unwrap_or o other) conn) (sym h.there) (life_there who conn h)

-- ---- the connections of entries

below : (p : NodeId → Bool) (xs : List NodeId) → list_any p xs ≡ true → position_or_len p xs < length xs
below p [] e = absurd cc
below p (x ∷ xs) e = by_test (p x) (below p xs) e
  where
    by_test : (b : Bool) → (list_any p xs ≡ true → position_or_len p xs < length xs) → (b || list_any p xs) ≡ true → cond (not b) (1 + position_or_len p xs) 0 < suc (length xs)
    by_test true rest k = omega arith
    by_test false rest k = let h = rest k in omega (arith, h)

pub place_of : (who : Who) (conn : ConnId) → IsOfLink who.me who.peers conn → HasPlace who conn
place_of who conn h =
    let p : NodeId → Bool = λ peer. same_node peer conn.from in
    record {
      place = position_or_len p who.peers;
      there = ap (λ (b : Bool). cond b (Some (position_or_len p who.peers)) None) (lt-ltb (position_or_len p who.peers) (length who.peers) (below p who.peers h.from));
      to = h.to;
    }
