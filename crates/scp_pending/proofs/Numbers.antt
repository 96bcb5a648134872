-- What came of a connection has each number once.
use Rattle.std.proofs.Common.{◌≡◌, ℕ, ◌+◌, ◌<◌, Bool, true, false, cond, not, List, [], ◌∷◌, ◌++◌, length, refl, ◌∙◌, ap, subst, arith, nat_eq, inl, inr, ◌⊎◌, suc}
use Rattle.std.specs.Prelude.{nat_lt, fold, Some, None, slice_get, is_some, position}
use Rattle.std.specs.List.{AllByRecursion, position_or_len}
use Rattle.std.proofs.lemmas.Bool.{ltb-true, eqb-true}
use Rattle.scp_wire.specs.scp_types.specs.declared.names.ConnId.{ConnId}
use Rattle.scp_wire.specs.scp_types.specs.declared.names.NodeId.{NodeId}
use Rattle.scp_wire.specs.declared.carried.Carried.{Carried}
use Rattle.scp_wire.specs.declared.link.Inbound.{Inbound}
use Rattle.scp_wire.specs.declared.link.Inbound.TheVariants as inbound
use Rattle.scp_wire.specs.Connections.{same_node, same_conn}
use Rattle.scp_wire.specs.Shape.{Come, nothing_came, comes, MayCome, AreInOrder, is_from, of_peer, HasShape}
use Rattle.scp_pending.proofs.Basics.{clash, all_weaker, same_node-true, same_node-refl, same_conn-true}
use Rattle.scp_pending.proofs.Following.{of_peer-push, order_split}

-- before what comes next
abbrev IsBelow : Come → ℕ → ℕ → Type 0
IsBelow h life seq = (life < h.life) ⊎ ((life ≡ h.life) × (seq < h.next))

below_next : (h : Come) (item : Inbound) (life seq : ℕ) → IsBelow h life seq → IsBelow (comes h item) life seq
below_next h (inbound.Opened d) life seq (inl l) = inl (omega (arith, l))
below_next h (inbound.Opened d) life seq (inr r) = inl (omega (arith, r.0))
below_next h (inbound.Carried x) life seq (inl l) = inl l
below_next h (inbound.Carried x) life seq (inr r) = inr (r.0, omega (arith, r.1))
below_next h (inbound.Side d message) life seq b = b
below_next h (inbound.Closed d cause) life seq b = b
below_next h (inbound.Local command) life seq b = b

below_along : (h : Come) (items : List Inbound) (life seq : ℕ) → IsBelow h life seq → IsBelow (fold comes h items) life seq
below_along h [] life seq b = b
below_along h (item ∷ items) life seq b = below_along (comes h item) items life seq (below_next h item life seq b)

abbrev IsEarlier : Come → Inbound → Type 0
IsEarlier h (inbound.Opened d) = Unit {0}
IsEarlier h (inbound.Carried x) = IsBelow h x.conn.life x.seq.0
IsEarlier h (inbound.Side d message) = Unit {0}
IsEarlier h (inbound.Closed d cause) = Unit {0}
IsEarlier h (inbound.Local command) = Unit {0}

all_earlier : (peer me : NodeId) (h : Come) (items : List Inbound) → AreInOrder peer me h items → AllByRecursion (IsEarlier (fold comes h items)) items
all_earlier peer me h [] a = tt
all_earlier peer me h (inbound.Opened d ∷ items) a = (tt, all_earlier peer me (comes h (inbound.Opened d)) items a.1)
all_earlier peer me h (inbound.Carried x ∷ items) a = (
  (let life : x.conn.life ≡ h.life = ap (λ (c : ConnId). c.life) a.0.1 in let next : x.seq.0 < h.next + 1 = omega (arith, a.0.2) in below_along (comes h (inbound.Carried x)) items x.conn.life x.seq.0 (inr (life, next))),
  all_earlier peer me (comes h (inbound.Carried x)) items a.1,
)
all_earlier peer me h (inbound.Side d message ∷ items) a = (tt, all_earlier peer me (comes h (inbound.Side d message)) items a.1)
all_earlier peer me h (inbound.Closed d cause ∷ items) a = (tt, all_earlier peer me (comes h (inbound.Closed d cause)) items a.1)
all_earlier peer me h (inbound.Local command ∷ items) a = absurd a.0

-- it has another number than x, where it is of the same connection
abbrev pub HasOther : Carried → Carried → Type 0
HasOther x y = same_conn y.conn x.conn ≡ true → nat_eq y.seq.0 x.seq.0 ≡ false

abbrev pub IsOther : Carried → Inbound → Type 0
IsOther x (inbound.Opened d) = Unit {0}
IsOther x (inbound.Carried y) = HasOther x y
IsOther x (inbound.Side d message) = Unit {0}
IsOther x (inbound.Closed d cause) = Unit {0}
IsOther x (inbound.Local command) = Unit {0}

not_equal : (a b : ℕ) → a < b → nat_eq a b ≡ false
not_equal a b l = by_test (nat_eq a b) refl
  where
    by_test : (t : Bool) → nat_eq a b ≡ t → t ≡ false
    by_test true e = absurd (let same : a ≡ b = eqb-true a b e in omega (arith, same, l))
    by_test false e = refl

earlier_other : (peer me : NodeId) (h : Come) (x : Carried) → MayCome peer me h (inbound.Carried x) → (item : Inbound) → IsEarlier h item → IsOther x item
earlier_other peer me h x m (inbound.Opened d) b = tt
earlier_other peer me h x m (inbound.Carried y) b = λ e. (
    let same : y.conn.life ≡ x.conn.life = ap (λ (c : ConnId). c.life) (same_conn-true y.conn x.conn e) in
    let now : x.conn.life ≡ h.life = ap (λ (c : ConnId). c.life) m.1 in
    let next : x.seq.0 ≡ h.next = m.2 in
    not_equal y.seq.0 x.seq.0 (elim b as (λ _. y.seq.0 < x.seq.0) [ inl l ↦ absurd (omega (arith, l, same, now)) | inr r ↦ (let less = r.1 in omega (arith, less, next)) ]))
earlier_other peer me h x m (inbound.Side d message) b = tt
earlier_other peer me h x m (inbound.Closed d cause) b = tt
earlier_other peer me h x m (inbound.Local command) b = tt

-- what comes of another node is of another connection
apart_other : (x : Carried) (item : Inbound) → is_from x.conn.from item ≡ false → IsOther x item
apart_other x (inbound.Opened d) e = tt
apart_other x (inbound.Carried y) e = λ same. clash (same_conn y.conn x.conn) same (rw e refl)
apart_other x (inbound.Side d message) e = tt
apart_other x (inbound.Closed d cause) e = tt
apart_other x (inbound.Local command) e = tt

others_all : (x : Carried) (items : List Inbound) → AllByRecursion (IsOther x) (of_peer x.conn.from items) → AllByRecursion (IsOther x) items
others_all x [] a = tt
others_all x (item ∷ items) a = by_test (is_from x.conn.from item) refl (others_all x items) a
  where
    by_test : (b : Bool) → is_from x.conn.from item ≡ b → (AllByRecursion (IsOther x) (of_peer x.conn.from items) → AllByRecursion (IsOther x) items) → AllByRecursion (IsOther x) (cond b (item ∷ of_peer x.conn.from items) (of_peer x.conn.from items)) → AllByRecursion (IsOther x) (item ∷ items)
    by_test true e k h = (h.0, k h.1)
    by_test false e k h = (apart_other x item e, k h)

-- ---- the place of a peer

record HasLink (peers : List NodeId) (node : NodeId) : Type 0 where
  link : ℕ
  at : slice_get peers link ≡ Some node

link_there : (peers : List NodeId) (node : NodeId) → position_or_len (λ p. same_node p node) peers < length peers → HasLink peers node
link_there [] node h = absurd (omega (arith, h))
link_there (p ∷ ps) node h = by_test (same_node p node) refl h (link_there ps node)
  where
    by_test : (b : Bool) → same_node p node ≡ b → cond (not b) (1 + position_or_len (λ q. same_node q node) ps) 0 < length (p ∷ ps) → (position_or_len (λ q. same_node q node) ps < length ps → HasLink ps node) → HasLink (p ∷ ps) node
    by_test true e h rest = record { link = 0; at = ap (λ (q : NodeId). Some q) (same_node-true p node e) }
    by_test false e h rest = (let k = rest (omega (arith, h)) in record { link = suc k.link; at = k.at })

-- its connection is of a peer's link
abbrev pub OfPeer : List NodeId → ConnId → Type 0
OfPeer peers c = is_some (position (λ p. same_node p c.from) peers) ≡ true

link_of_peer : (peers : List NodeId) (node : NodeId) → is_some (position (λ p. same_node p node) peers) ≡ true → HasLink peers node
link_of_peer peers node e = by_test (nat_lt (position_or_len (λ p. same_node p node) peers) (length peers)) refl e
  where
    n : ℕ
    n = position_or_len (λ p. same_node p node) peers

    by_test : (b : Bool) → nat_lt n (length peers) ≡ b → is_some (cond b (Some n) None) ≡ true → HasLink peers node
    by_test true k e = link_there peers node (ltb-true n (length peers) k)
    by_test false k e = absurd cc

-- what came has other numbers than what comes next
pub others_came : (me : NodeId) (peers : List NodeId) (taken : List Inbound) (x : Carried) → OfPeer peers x.conn → HasShape me peers (taken ++ inbound.Carried x ∷ []) → AllByRecursion (IsOther x) taken
others_came me peers taken x of shape =
    let peer : NodeId = x.conn.from in
    let k = link_of_peer peers peer of in
    let mine : is_from peer (inbound.Carried x) ≡ true = same_node-refl peer in
    let pushed : of_peer peer (taken ++ inbound.Carried x ∷ []) ≡ of_peer peer taken ++ inbound.Carried x ∷ [] = of_peer-push peer taken (inbound.Carried x) ∙ ap (λ b. of_peer peer taken ++ cond b (inbound.Carried x ∷ []) []) mine in
    let split = order_split peer me nothing_came (of_peer peer taken) (inbound.Carried x) (subst (AreInOrder peer me nothing_came) pushed (shape k.link peer k.at)) in
    let h : Come = fold comes nothing_came (of_peer peer taken) in
    others_all x taken (all_weaker (IsEarlier h) (IsOther x) (of_peer peer taken) (λ item b. earlier_other peer me h x split.1 item b) (all_earlier peer me nothing_came (of_peer peer taken) split.0))
