-- What is parked ascends, once its queues are in the order of their connections.
use Rattle.std.proofs.Common.{◌≡◌, ℕ, zero, suc, ◌+◌, ◌≤◌, ◌<◌, Bool, true, false, List, [], ◌∷◌, ◌++◌, length, refl, sym, ◌∙◌, ap, subst, arith, map, get_or, nat_eq}
use Rattle.std.specs.Prelude.{◌&&◌, All, slice_index_or, slice_get, Some}
use Rattle.std.specs.Cmp.{IsTotalOrder, unsigned_ties, nat_cmp_is}
use Rattle.std.specs.Cmp.Lexicographic.{slice_cmp, texts_ties}
use Rattle.std.specs.List.{AllByRecursion, AllZip}
use Rattle.std.specs.List.Sorted.{IsPermutation, IsSortedByKey, IsStrictlySortedBy}
use Rattle.std.specs.Ordering.{nat_cmp, ordering_then, ordering_reverse, is_lt, is_eq}
use Rattle.std.specs.declared.cmp.Ordering.{Ordering}
use Rattle.std.specs.declared.cmp.Ordering.TheVariants.{Less, Equal, Greater}
use Rattle.std.proofs.lemmas.Cmp.{nat_cmp_total, nat_list_cmp_total, on_total, then_total, tied_itself}
use Rattle.std.proofs.lemmas.List.Elements.{All-from_get_or, All-from_recursion, recursion_from_All}
use Rattle.std.proofs.lemmas.List.Sorted.{ranks_by, sorted_far}
use Rattle.scp_wire.specs.scp_types.specs.Order.{conn_cmp}
use Rattle.scp_wire.specs.scp_types.specs.declared.names.ConnId.{ConnId}
use Rattle.scp_wire.specs.scp_types.specs.declared.names.NodeId.{NodeId}
use Rattle.scp_wire.specs.scp_types.specs.declared.names.Seq.{Seq}
use Rattle.scp_wire.specs.declared.carried.Carried.{Carried}
use Rattle.scp_wire.specs.declared.link.Inbound.{Inbound}
use Rattle.scp_wire.specs.Connections.{conn_at, same_conn, same_node}
use Rattle.scp_wire.specs.Lanes.{slots_of}
use Rattle.scp_wire.specs.Marks.{messages_in}
use Rattle.scp_wire.specs.Shape.{HasShape}
use Rattle.scp_pending.specs.declared.parked.Parked.{Parked}
use Rattle.scp_pending.specs.declared.ready.Ready.{Ready}
use Rattle.scp_pending.specs.Queues.{QueueView, is_of, parked_of, seq_of}
use Rattle.scp_pending.specs.Rules.{PendingView}
use Rattle.scp_pending.specs.Causes.{plus}
use Rattle.scp_pending.specs.Endings.{Ascend}
use Rattle.scp_pending.specs.inside.Outcome.{parked_in_all}
use Rattle.scp_pending.specs.Pends.{Pends}
use Rattle.scp_pending.specs.Messages.{IsParkedAs, message_cmp}
use Rattle.scp_pending.proofs.Basics.{all_weaker, all_append, same_conn-refl}
use Rattle.scp_pending.proofs.Serving.{how_many, AreSingle, IsParkedOf, AreMine}
use Rattle.scp_pending.proofs.Rising.{rises_ascend, seqs_of}
use Rattle.scp_pending.proofs.Following.{AllConns, come_of}
use Rattle.scp_pending.proofs.Numbered.{slots_are}
use Rattle.scp_pending.proofs.Accounting.{numbered_of}
use Rattle.scp_pending.proofs.Ending.{way_of}
use Rattle.scp_pending.proofs.Passing.{sound_of}
use Rattle.scp_pending.proofs.Linked.{IsLinked, linked_is, all_linked}
use Rattle.scp_pending.proofs.Messaging.{parts, its_conn, its_seq, single_same, own_parked, moved, all_mine}

-- ---- the order of connections

conn_total : IsTotalOrder conn_cmp
conn_total = then_total (on_total (λ (c : ConnId). c.from.0) nat_list_cmp_total) (then_total (on_total (λ (c : ConnId). c.to.0) nat_list_cmp_total) (on_total (λ (c : ConnId). c.life) nat_cmp_total))

is_eq-then : (a b : Ordering) → is_eq (ordering_then a b) ≡ (is_eq a && is_eq b)
is_eq-then Less b = refl
is_eq-then Equal b = refl
is_eq-then Greater b = refl

and_assoc : (a b c : Bool) → (a && (b && c)) ≡ ((a && b) && c)
and_assoc true b c = refl
and_assoc false b c = refl

ties : (a b : ConnId) → is_eq (conn_cmp a b) ≡ same_conn a b
ties a b =
    is_eq-then (slice_cmp nat_cmp a.from.0 b.from.0) (ordering_then (slice_cmp nat_cmp a.to.0 b.to.0) (nat_cmp a.life b.life))
    ∙ ap (λ r. is_eq (slice_cmp nat_cmp a.from.0 b.from.0) && r) (is_eq-then (slice_cmp nat_cmp a.to.0 b.to.0) (nat_cmp a.life b.life))
    ∙ ap (λ r. r && (is_eq (slice_cmp nat_cmp a.to.0 b.to.0) && is_eq (nat_cmp a.life b.life))) (sym (texts_ties a.from.0 b.from.0))
    ∙ ap (λ r. same_node a.from b.from && (r && is_eq (nat_cmp a.life b.life))) (sym (texts_ties a.to.0 b.to.0))
    ∙ ap (λ r. same_node a.from b.from && (same_node a.to b.to && r)) (sym (unsigned_ties a.life b.life))
    ∙ and_assoc (same_node a.from b.from) (same_node a.to b.to) (nat_eq a.life b.life)

-- by the sender, then by the life
abbrev pub by_life : ConnId → ConnId → Ordering
by_life c d = ordering_then (slice_cmp nat_cmp c.from.0 d.from.0) (nat_cmp c.life d.life)

by_orders : (a b c a' c' : Ordering) → b ≡ Equal → a' ≡ ordering_reverse a → c' ≡ ordering_reverse c → is_lt (ordering_then a (ordering_then b c)) ≡ false → is_eq (ordering_then a (ordering_then b c)) ≡ false → ordering_then a' c' ≡ Less
by_orders Less b c a' c' to from life lt ne = absurd cc
by_orders Equal Less c a' c' to from life lt ne = absurd cc
by_orders Equal Equal Less a' c' to from life lt ne = absurd cc
by_orders Equal Equal Equal a' c' to from life lt ne = absurd cc
by_orders Equal Equal Greater a' c' to from life lt ne = rw (from, life) refl
by_orders Equal Greater c a' c' to from life lt ne = absurd cc
by_orders Greater b c a' c' to from life lt ne = rw from refl

-- of two different connections to one node, the later one is later by its sender and its life
before_it : (me : NodeId) (c d : ConnId) → c.to ≡ me → d.to ≡ me → is_lt (conn_cmp d c) ≡ false → same_conn d c ≡ false → by_life c d ≡ Less
before_it me c d to to' lt ne =
    by_orders (slice_cmp nat_cmp d.from.0 c.from.0) (slice_cmp nat_cmp d.to.0 c.to.0) (nat_cmp d.life c.life) (slice_cmp nat_cmp c.from.0 d.from.0) (nat_cmp c.life d.life)
    (ap (λ (n : NodeId). slice_cmp nat_cmp n.0 c.to.0) (to' ∙ sym to) ∙ tied_itself nat_list_cmp_total c.to.0)
    (nat_list_cmp_total.antisymm c.from.0 d.from.0) (nat_cmp_total.antisymm c.life d.life) lt (ties d c ∙ ne)

-- ---- the queues are in the order of their connections

abbrev NotBefore : QueueView → QueueView → Type 0
NotBefore q r = is_lt (conn_cmp r.conn q.conn) ≡ false

abbrev InOrder : List QueueView → Type 0
InOrder [] = Unit {0}
InOrder (q ∷ qs) = All (NotBefore q) qs × InOrder qs

in_order_from : (qs : List QueueView) → ((i j : ℕ) (d : QueueView) → i ≤ j → j < length qs → is_lt (conn_cmp (get_or qs j d).conn (get_or qs i d).conn) ≡ false) → InOrder qs
in_order_from [] far = tt
in_order_from (q ∷ qs) far = (
  All-from_get_or (NotBefore q) qs q (λ j l. far zero (suc j) q (omega arith) (omega (arith, l))),
  in_order_from qs (λ i j d le l. far (suc i) (suc j) d (omega (arith, le)) (omega (arith, l))),
)

abbrev StrictlyInOrder : List QueueView → Type 0
StrictlyInOrder [] = Unit {0}
StrictlyInOrder (q ∷ qs) = AllByRecursion (λ (r : QueueView). by_life q.conn r.conn ≡ Less) qs × StrictlyInOrder qs

apart_from : (me : NodeId) (q : QueueView) (qs : List QueueView) → q.conn.to ≡ me → how_many q.conn qs ≡ 0 → AllByRecursion (NotBefore q) qs → AllConns (λ (c : ConnId). c.to ≡ me) qs → AllByRecursion (λ (r : QueueView). by_life q.conn r.conn ≡ Less) qs
apart_from me q [] to h a m = tt
apart_from me q (r ∷ qs) to h a m = by_test (is_of q.conn r) refl h (λ k. apart_from me q qs to k a.1 m.1)
  where
    by_test : (b : Bool) → is_of q.conn r ≡ b → plus (how_many q.conn qs) b ≡ 0 → (how_many q.conn qs ≡ 0 → AllByRecursion (λ (x : QueueView). by_life q.conn x.conn ≡ Less) qs) → AllByRecursion (λ (x : QueueView). by_life q.conn x.conn ≡ Less) (r ∷ qs)
    by_test true e k rest = absurd (omega (arith, k))
    by_test false e k rest = (before_it me q.conn r.conn to m.0 a.0 e, rest k)

strictly : (me : NodeId) (qs : List QueueView) → AreSingle qs → InOrder qs → AllConns (λ (c : ConnId). c.to ≡ me) qs → StrictlyInOrder qs
strictly me [] single a m = tt
strictly me (q ∷ qs) single a m = (
  apart_from me q qs m.0 (alone (is_of q.conn q) (same_conn-refl q.conn) (single q.conn)) (recursion_from_All (NotBefore q) qs a.0) m.1,
  strictly me qs (λ c. fewer (is_of c q) (single c)) a.1 m.1,
)
  where
    alone : (b : Bool) → b ≡ true → plus (how_many q.conn qs) b ≤ 1 → how_many q.conn qs ≡ 0
    alone true e h = omega (arith, h)
    alone false e h = absurd cc

    fewer : {n : ℕ} (b : Bool) → plus n b ≤ 1 → n ≤ 1
    fewer true h = omega (arith, h)
    fewer false h = h

-- ---- messages

then_less : (a c s : Ordering) → ordering_then a c ≡ Less → ordering_then a (ordering_then c s) ≡ Less
then_less Less c s e = refl
then_less Equal Less s e = refl
then_less Equal Equal s e = absurd cc
then_less Equal Greater s e = absurd cc
then_less Greater c s e = absurd cc

-- of two connections
of_two : (c d : ConnId) (x y : Carried) → x.conn ≡ c → y.conn ≡ d → by_life c d ≡ Less → message_cmp x y ≡ Less
of_two c d x y mine its e = then_less (slice_cmp nat_cmp x.conn.from.0 y.conn.from.0) (nat_cmp x.conn.life y.conn.life) (nat_cmp x.seq.0 y.seq.0) (ap (λ (k : ConnId). by_life k y.conn) mine ∙ ap (by_life c) its ∙ e)

-- of one connection
of_one : (c : ConnId) (x y : Carried) → x.conn ≡ c → y.conn ≡ c → x.seq.0 < y.seq.0 → message_cmp x y ≡ Less
of_one c x y mine its less =
    ap (λ (k : ConnId). ordering_then (slice_cmp nat_cmp k.from.0 y.conn.from.0) (ordering_then (nat_cmp k.life y.conn.life) (nat_cmp x.seq.0 y.seq.0))) mine
    ∙ ap (λ (k : ConnId). ordering_then (slice_cmp nat_cmp c.from.0 k.from.0) (ordering_then (nat_cmp c.life k.life) (nat_cmp x.seq.0 y.seq.0))) its
    ∙ rw (tied_itself nat_list_cmp_total c.from.0, tied_itself nat_cmp_total c.life) (sym (nat_cmp_is x.seq.0 y.seq.0 Less less))

abbrev Follow : ConnId → ℕ → Carried → Type 0
Follow c n y = (y.conn ≡ c) × (n ≤ y.seq.0)

-- those of a queue with ascending numbers
queue_ascends : (c : ConnId) (n : ℕ) (ps : List Parked) (ys : List Carried) → AllByRecursion (IsParkedOf c) ps → Ascend n (map seq_of ps) → AllZip IsParkedAs ps ys → IsStrictlySortedBy message_cmp ys × AllByRecursion (Follow c n) ys
unfolding IsStrictlySortedBy
queue_ascends c n [] [] m up z = (tt, tt)
queue_ascends c n [] (y ∷ ys) m up z = absurd z
queue_ascends c n (p ∷ ps) [] m up z = absurd z
queue_ascends c n (p ∷ ps) (y ∷ ys) m up z =
    let rest = queue_ascends c ((seq_of p).0 + 1) ps ys m.1 up.1 z.1 in
    let mine : y.conn ≡ c = its_conn c p y m.0 z.0 in
    let its : y.seq.0 ≡ (seq_of p).0 = ap (λ (s : Seq). s.0) (its_seq p y z.0) in (
      (all_weaker (Follow c ((seq_of p).0 + 1)) (λ w. message_cmp y w ≡ Less) ys (λ w f. of_one c y w mine f.0 (omega (arith, its, f.1))) rest.1, rest.0),
      ((mine, omega (arith, its, up.0)), all_weaker (Follow c ((seq_of p).0 + 1)) (Follow c n) ys (λ w f. (f.0, omega (arith, up.0, f.1))) rest.1),
    )

abbrev Ascends : QueueView → Type 0
Ascends q = Ascend 0 (map seq_of q.parked)

-- what holds of the connections of the queues holds of those of their messages
conns_of : (P : ConnId → Type 0) (qs : List QueueView) (ys : List Carried) → AllByRecursion AreMine qs → AllConns P qs → AllZip IsParkedAs (parked_in_all qs) ys → AllByRecursion (λ (y : Carried). P y.conn) ys
conns_of P [] [] m a z = tt
conns_of P [] (y ∷ ys) m a z = absurd z
conns_of P (q ∷ qs) ys m a z =
    let k = parts q.parked (parked_in_all qs) ys z in
    subst (AllByRecursion (λ (y : Carried). P y.conn)) (sym k.is) (all_append (λ (y : Carried). P y.conn) k.first k.later (of_queue q.parked k.first m.0 k.firsts) (conns_of P qs k.later m.1 a.1 k.laters))
  where
    of_queue : (ps : List Parked) (zs : List Carried) → AllByRecursion (IsParkedOf q.conn) ps → AllZip IsParkedAs ps zs → AllByRecursion (λ (y : Carried). P y.conn) zs
    of_queue [] [] n w = tt
    of_queue [] (y ∷ zs) n w = absurd w
    of_queue (p ∷ ps) [] n w = absurd w
    of_queue (p ∷ ps) (y ∷ zs) n w = (subst P (sym (its_conn q.conn p y n.0 w.0)) a.0, of_queue ps zs n.1 w.1)

sorted_append : (xs ys : List Carried) → IsStrictlySortedBy message_cmp xs → IsStrictlySortedBy message_cmp ys → AllByRecursion (λ x. AllByRecursion (λ y. message_cmp x y ≡ Less) ys) xs → IsStrictlySortedBy message_cmp (xs ++ ys)
unfolding IsStrictlySortedBy
sorted_append [] ys a b e = b
sorted_append (x ∷ xs) ys a b e = (all_append (λ y. message_cmp x y ≡ Less) xs ys a.0 e.0, sorted_append xs ys a.1 b e.1)

queues_ascend : (qs : List QueueView) (ys : List Carried) → AllByRecursion AreMine qs → AllByRecursion Ascends qs → StrictlyInOrder qs → AllZip IsParkedAs (parked_in_all qs) ys → IsStrictlySortedBy message_cmp ys
unfolding IsStrictlySortedBy
queues_ascend [] [] m up o z = tt
queues_ascend [] (y ∷ ys) m up o z = absurd z
queues_ascend (q ∷ qs) ys m up o z =
    let k = parts q.parked (parked_in_all qs) ys z in
    let own = queue_ascends q.conn 0 q.parked k.first m.0 up.0 k.firsts in
    let behind : AllByRecursion (λ (y : Carried). by_life q.conn y.conn ≡ Less) k.later = conns_of (λ c. by_life q.conn c ≡ Less) qs k.later m.1 o.0 k.laters in
    subst (IsStrictlySortedBy message_cmp) (sym k.is) (sorted_append k.first k.later own.0 (queues_ascend qs k.later m.1 up.1 o.1 k.laters)
    (all_weaker (Follow q.conn 0) (λ x. AllByRecursion (λ y. message_cmp x y ≡ Less) k.later) k.first (λ x f. all_weaker (λ (y : Carried). by_life q.conn y.conn ≡ Less) (λ y. message_cmp x y ≡ Less) k.later (λ y e. of_two q.conn y.conn x y f.0 refl e) behind) own.1))

-- ---- of a stage

-- the numbers of each queue ascend, where the items have their shape
all_rise : (me : NodeId) (peers : List NodeId) (taken : List Inbound) (given : List Ready) (v : PendingView) → Pends me peers taken given v → HasShape me peers taken → AllByRecursion Ascends v.settled.queues
all_rise me peers taken given v p shape =
    let qs = v.settled.queues in
    let single = (sound_of me peers taken given v p).single in
    let linked : All (λ (q : QueueView). IsLinked me peers q.conn) qs = All-from_recursion (λ (q : QueueView). IsLinked me peers q.conn) qs (all_linked me peers taken given v p) in
    recursion_from_All Ascends qs (λ k d l. one (slice_index_or qs k d) (own_parked qs single k d l) (linked k d l))
  where
    of_peer : (link : ℕ) (peer : NodeId) → slice_get peers link ≡ Some peer → (life : ℕ) → Ascend 0 (seqs_of (conn_at peer me life) v.settled.queues)
    of_peer link peer at life =
        let c = conn_at peer me life in
        let have = slots_are c (messages_in c taken) taken (numbered_of me peer taken life (shape link peer at)) in
        rises_ascend 0 (come_of peer taken).next (seqs_of c v.settled.queues) ((way_of me peer peers taken given v link life (slots_of (messages_in c taken)) p shape at have).rise life)

    one : (q : QueueView) → q.parked ≡ parked_of q.conn v.settled.queues → IsLinked me peers q.conn → Ascends q
    one q own i =
        let here : Ascend 0 (seqs_of q.conn v.settled.queues) = subst (λ (c : ConnId). Ascend 0 (seqs_of c v.settled.queues)) (sym (linked_is me q.conn i.to)) (of_peer i.link q.conn.from i.from q.conn.life) in
        subst (λ (ps : List Parked). Ascend 0 (map seq_of ps)) (sym own) here

-- the messages of the queues, in the order of their connections
pub ascending : (me : NodeId) (peers : List NodeId) (taken : List Inbound) (given : List Ready) (v : PendingView) (queues : List QueueView) (messages : List Carried) → IsPermutation v.settled.queues queues → IsSortedByKey (λ (q : QueueView). q.conn) conn_cmp queues → AllZip IsParkedAs (parked_in_all queues) messages → Pends me peers taken given v → HasShape me peers taken → IsStrictlySortedBy message_cmp messages
ascending me peers taken given v queues messages same sorted are p shape =
    let qs = v.settled.queues in
    let single = single_same qs queues same (sound_of me peers taken given v p).single in
    let to_me : AllConns (λ (c : ConnId). c.to ≡ me) qs = all_weaker (λ (q : QueueView). IsLinked me peers q.conn) (λ (q : QueueView). q.conn.to ≡ me) qs (λ q i. i.to) (all_linked me peers taken given v p) in
    let far = sorted_far (λ (q r : QueueView). is_lt (conn_cmp q.conn r.conn)) (ranks_by conn_total (λ (q : QueueView). q.conn)) queues sorted in
    queues_ascend queues messages
    (moved AreMine qs queues same (all_mine me peers taken given v p))
    (moved Ascends qs queues same (all_rise me peers taken given v p shape))
    (strictly me queues single (in_order_from queues far) (moved (λ (q : QueueView). q.conn.to ≡ me) qs queues same to_me))
    are
