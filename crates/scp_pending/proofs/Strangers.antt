-- A stage's identity stays, and all that it holds belongs to its links.
use Rattle.std.proofs.Common.{◌≡◌, ℕ, Bool, true, false, cond, not, List, [], ◌∷◌, ◌++◌, length, refl, sym, ◌∙◌, ap, subst, arith, map}
use Rattle.std.specs.Prelude.{◌&&◌, nat_lt, Option, Some, None, is_some, position}
use Rattle.std.specs.List.{list_any, position_or_len, AllByRecursion}
use Rattle.std.proofs.lemmas.Bool.{ltb-true}
use Rattle.scp_wire.specs.scp_types.specs.declared.names.ConnId.{ConnId}
use Rattle.scp_wire.specs.scp_types.specs.declared.names.Hash.{Hash}
use Rattle.scp_wire.specs.scp_types.specs.declared.names.NodeId.{NodeId}
use Rattle.scp_wire.specs.scp_quorum.specs.QuorumTree.{QuorumTree}
use Rattle.scp_wire.specs.declared.carried.Carried.{Carried}
use Rattle.scp_wire.specs.declared.side.SideMessage.{SideMessage}
use Rattle.scp_wire.specs.declared.side.SideMessage.TheVariants.{GetSet, Set, NoSet}
use Rattle.scp_wire.specs.declared.link.Cause.TheVariants.{ParkedFull}
use Rattle.scp_wire.specs.declared.link.Command.TheVariants.{Propose, Round, Timer, Tick, Ask}
use Rattle.scp_wire.specs.declared.link.Inbound.{Inbound}
use Rattle.scp_wire.specs.declared.link.Inbound.TheVariants as inbound
use Rattle.scp_wire.specs.Connections.{same_node}
use Rattle.scp_fetch.specs.declared.want.Miss.TheVariants.{One}
use Rattle.scp_fetch.specs.Wants.{gives_up, last_missed, missed_by}
use Rattle.scp_pending.specs.declared.parked.Parked.{Parked}
use Rattle.scp_pending.specs.declared.parked.Parked.TheVariants.{Waits, Free, Lost}
use Rattle.scp_pending.specs.declared.ready.DropCause.{DropCause}
use Rattle.scp_pending.specs.declared.ready.DropCause.TheVariants.{BadSet, GaveUp, Closed as ByClose, ParkedFull as ByFull}
use Rattle.scp_pending.specs.declared.ready.Ready.{Ready}
use Rattle.scp_pending.specs.declared.ready.Ready.TheVariants as ready
use Rattle.scp_pending.specs.Sanity.{is_sane}
use Rattle.scp_pending.specs.Queues.{QueueView, is_of, is_open, is_link_open, parked_of, others, changed, with_parked, parked_in, is_empty, is_held, fate, leaves_of, leaves_behind, stays_in, served, leaving_of, in_order_of, is_hash, hash_of, resolved, resolved_in, with_set, lost_by, dropped as fallen}
use Rattle.scp_pending.specs.Rules.{Settled, fresh, link_of, opens, opened, closed_off, rules, releases, overflows, goes_through, entering, parks, by_answer, is_answer, answered, gives_up_one, is_given_up, hears, heard_out, settled_by, released_by}
use Rattle.scp_pending.specs.Linked.{IsSameNode, WhoItIsStays, is_among, IsOfLink, IsParkedOf, IsReadyOf, NothingIsOfAStranger}
use Rattle.scp_pending.proofs.Basics.{or_none, same_node-true, same_conn-true, all_step, all_append, all_weaker}
use Rattle.scp_pending.proofs.Laning.{stays_all}
use Rattle.scp_pending.proofs.Serving.{all_in_order}
use Rattle.scp_pending.proofs.Lines.{resolved_mine, entering_mine}
use Rattle.scp_pending.proofs.Following.{AllConns, open_conn, frame_step}
use Rattle.scp_pending.proofs.Sound.{all_others, local_step}

-- ---- the stage's identity

who_step : (s : Settled) (item : Inbound) → IsSameNode s (rules s item)
who_step s item = record {
  me = frame_step (λ n ps. n ≡ s.me) s item refl;
  peers = frame_step (λ n ps. ps ≡ s.peers) s item refl;
  local = local_step s item;
}

pub who_it_is : WhoItIsStays
who_it_is s [] = record { me = refl; peers = refl; local = refl }
who_it_is s (item ∷ items) =
    let one = who_step s item in
    let all = who_it_is (rules s item) items in
    record { me = all.me ∙ one.me; peers = all.peers ∙ one.peers; local = all.local ∙ one.local }

-- ---- a connection that opens

pub first : (a b c : Bool) → (a && b && c) ≡ true → a ≡ true
first true b c e = refl
first false b c e = absurd cc

pub second : (a b c : Bool) → (a && b && c) ≡ true → b ≡ true
second true true c e = refl
second true false c e = absurd cc
second false b c e = absurd cc

none_len : (p : NodeId → Bool) (xs : List NodeId) → list_any p xs ≡ false → position_or_len p xs ≡ length xs
none_len p [] e = refl
none_len p (x ∷ xs) e = (let both = or_none (p x) (list_any p xs) e in rw both.0 (omega (arith, none_len p xs both.1)))

not_below : (n : ℕ) → is_some (cond (nat_lt n n) (Some n) None) ≡ true → ⊥
not_below n e = by_test (nat_lt n n) refl
  where
    by_test : (b : Bool) → nat_lt n n ≡ b → ⊥
    by_test true k = omega (arith, ltb-true n n k)
    by_test false k = clash (subst (λ (b : Bool). is_some (cond b (Some n) None) ≡ true) k e)
      where
        clash : false ≡ true → ⊥
        clash c = cc

pub there_is_one : (p : NodeId → Bool) (xs : List NodeId) → is_some (position p xs) ≡ true → list_any p xs ≡ true
there_is_one p xs e = by_test (list_any p xs) refl
  where
    by_test : (b : Bool) → list_any p xs ≡ b → list_any p xs ≡ true
    by_test true k = k
    by_test false k = absurd (not_below (length xs) (subst (λ n. is_some (cond (nat_lt n (length xs)) (Some n) None) ≡ true) (none_len p xs k) e))

new_conn : (me : NodeId) (peers : List NodeId) (s : Settled) (d : ConnId) → s.me ≡ me → s.peers ≡ peers → opens d s ≡ true → IsOfLink me peers d
new_conn me peers s d m q e = record {
  from = ap (λ (ps : List NodeId). is_among d.from ps) (sym q) ∙ there_is_one (λ peer. same_node peer d.from) s.peers (first (is_some (link_of d.from s)) (same_node d.to s.me) (not (is_link_open d.from s.queues)) e);
  to = same_node-true d.to s.me (second (is_some (link_of d.from s)) (same_node d.to s.me) (not (is_link_open d.from s.queues)) e) ∙ m;
}

by_answer_mine : (set : QuorumTree) (b : Bool) (k : ConnId) (x : Carried) → x.conn ≡ k → IsParkedOf k ((cond b (with_set (Some set)) (lost_by BadSet)) x)
by_answer_mine set true k x e = e
by_answer_mine set false k x e = e

-- ---- the queues

module _ (P : ConnId → Type 0) where
  -- the queue is of such a connection, and what is parked there belongs to it
  abbrev IsRight : QueueView → Type 0
  IsRight q = P q.conn × AllByRecursion (IsParkedOf q.conn) q.parked

  abbrev AreRight : List QueueView → Type 0
  AreRight qs = AllByRecursion IsRight qs

  right_conns : (qs : List QueueView) → AreRight qs → AllConns P qs
  right_conns qs a = all_weaker IsRight (λ (q : QueueView). P q.conn) qs (λ q k. k.0) a

  open_right : (c : ConnId) (qs : List QueueView) → is_open c qs ≡ true → AreRight qs → P c
  open_right c qs e a = open_conn P c qs e (right_conns qs a)

  right_changed : (c : ConnId) (p : Parked) (qs : List QueueView) → IsParkedOf c p → AreRight qs → AreRight (changed c (with_parked p) qs)
  right_changed c p [] mine a = tt
  right_changed c p (q ∷ qs) mine a = by_test (is_of c q) refl (right_changed c p qs mine a.1)
    where
      by_test : (b : Bool) → is_of c q ≡ b → AreRight (changed c (with_parked p) qs) → AreRight (cond b (with_parked p q ∷ qs) (q ∷ changed c (with_parked p) qs))
      by_test true e rest = ((a.0.0, all_append (IsParkedOf q.conn) q.parked (p ∷ []) a.0.1 (subst (λ (d : ConnId). IsParkedOf d p) (sym (same_conn-true q.conn c e)) mine, tt)), a.1)
      by_test false e rest = (a.0, rest)

  right_parked : (c : ConnId) (p : Parked) (qs : List QueueView) → P c → IsParkedOf c p → AreRight qs → AreRight (parked_in c p qs)
  right_parked c p qs h mine a = by_test (is_empty (parked_of c qs))
    where
      by_test : (b : Bool) → AreRight (cond b (others c qs ++ record { conn = c; parked = p ∷ [] } ∷ []) (changed c (with_parked p) qs))
      by_test true = all_append IsRight (others c qs) (record { conn = c; parked = p ∷ [] } ∷ []) (all_others IsRight c qs a) ((h, (mine, tt)), tt)
      by_test false = right_changed c p qs mine a

  right_resolved : (test : Option Hash → Bool) (f : Carried → Parked) → ((c : ConnId) (x : Carried) → x.conn ≡ c → IsParkedOf c (f x)) → (qs : List QueueView) → AreRight qs → AreRight (resolved test f qs)
  right_resolved test f mine qs a = all_step IsRight IsRight (resolved_in test f) qs (λ q k. (k.0, resolved_mine test f mine q k.1)) a

  right_served : (qs : List QueueView) → AreRight qs → AreRight (served qs)
  right_served qs a = all_step IsRight IsRight stays_in qs (λ q k. (k.0, stays_all (IsParkedOf q.conn) [] q.parked k.1)) a

  queues_step : (s : Settled) (item : Inbound) → ((d : ConnId) → opens d s ≡ true → P d) → AreRight s.queues → AreRight (rules s item).queues
  queues_step s (inbound.Opened d) new a = by_test (opens d s) refl
    where
      by_test : (b : Bool) → opens d s ≡ b → AreRight (cond b (opened d s) s).queues
      by_test true e = all_append IsRight s.queues (record { conn = d; parked = [] } ∷ []) a ((new d e, tt), tt)
      by_test false e = a
  queues_step s (inbound.Carried x) new a = by_tests (is_open x.conn s.queues) (overflows x.conn (entering s.store x) s.queues) (goes_through x.conn (entering s.store x) s.queues) refl
    where
      by_tests : (o f g : Bool) → is_open x.conn s.queues ≡ o → AreRight (cond o (cond f (closed_off x.conn s) (cond g s (parks x (entering s.store x) s))) s).queues
      by_tests true true g o = all_others IsRight x.conn s.queues a
      by_tests true false true o = a
      by_tests true false false o = right_parked x.conn (entering s.store x) s.queues (open_right x.conn s.queues o a) (entering_mine s x) a
      by_tests false f g o = a
  queues_step s (inbound.Side d m) new a = by_open (is_open d s.queues) m
    where
      by_set : (set : QuorumTree) (b : Bool) → AreRight (cond b (answered set s) s).queues
      by_set set true = right_served (resolved (is_hash (hash_of set)) (by_answer set) s.queues) (right_resolved (is_hash (hash_of set)) (by_answer set) (by_answer_mine set (is_sane set)) s.queues a)
      by_set set false = a

      by_miss : (hash : Hash) (b : Bool) → AreRight (cond b (gives_up_one hash (record s { wanted = missed_by (One hash) s.wanted })) (record s { wanted = missed_by (One hash) s.wanted })).queues
      by_miss hash true = right_served (resolved (is_hash hash) (lost_by GaveUp) s.queues) (right_resolved (is_hash hash) (lost_by GaveUp) (λ k x e. e) s.queues a)
      by_miss hash false = a

      by_message : (m : SideMessage) → AreRight (hears m s).queues
      by_message (GetSet hash) = a
      by_message (Set set) = by_set set (is_answer set s)
      by_message (NoSet hash) = by_miss hash (gives_up (One hash) s.wanted hash)

      by_open : (b : Bool) (m : SideMessage) → AreRight (cond b (hears m s) s).queues
      by_open true m = by_message m
      by_open false m = a
  queues_step s (inbound.Closed d cause) new a = by_test (is_open d s.queues)
    where
      by_test : (b : Bool) → AreRight (cond b (closed_off d s) s).queues
      by_test true = all_others IsRight d s.queues a
      by_test false = a
  queues_step s (inbound.Local Tick) new a = (
      let qs = in_order_of (last_missed s.wanted) s.queues in
      right_served (resolved (is_given_up s.wanted) (lost_by GaveUp) qs) (right_resolved (is_given_up s.wanted) (lost_by GaveUp) (λ k x e. e) qs (all_in_order IsRight (last_missed s.wanted) s.queues a))
      )
  queues_step s (inbound.Local (Propose slot value)) new a = a
  queues_step s (inbound.Local (Round slot)) new a = a
  queues_step s (inbound.Local (Timer slot)) new a = a
  queues_step s (inbound.Local (Ask link slot)) new a = a

  -- ---- what leaves

  abbrev AllGone : List Ready → Type 0
  AllGone rs = AllByRecursion (IsReadyOf P) rs

  all_end : (c : ConnId) (cause : DropCause) (ps : List Parked) (end : List Ready) → P c → AllGone end → AllGone (map (fallen c cause) ps ++ end)
  all_end c cause [] end k a = a
  all_end c cause (p ∷ ps) end k a = (k, all_end c cause ps end k a)

  all_fate : (c : ConnId) (p : Parked) → P c → IsParkedOf c p → AllGone (fate c p)
  all_fate c (Waits x) k mine = tt
  all_fate c (Free delivery) k mine = (subst P (sym mine) k, tt)
  all_fate c (Lost x cause) k mine = (k, tt)

  all_leave : (c : ConnId) (kept ps : List Parked) → P c → AllByRecursion (IsParkedOf c) ps → AllGone (leaves_behind c kept ps)
  all_leave c kept [] k mine = tt
  all_leave c kept (p ∷ ps) k mine = by_test (is_held kept p) (all_leave c (kept ++ p ∷ []) ps k mine.1) (all_append (IsReadyOf P) (fate c p) (leaves_behind c kept ps) (all_fate c p k mine.0) (all_leave c kept ps k mine.1))
    where
      by_test : (b : Bool) → AllGone (leaves_behind c (kept ++ p ∷ []) ps) → AllGone (fate c p ++ leaves_behind c kept ps) → AllGone (cond b (leaves_behind c (kept ++ p ∷ []) ps) (fate c p ++ leaves_behind c kept ps))
      by_test true stays goes = stays
      by_test false stays goes = goes

  all_leaving : (qs : List QueueView) → AreRight qs → AllGone (leaving_of qs)
  all_leaving [] a = tt
  all_leaving (q ∷ qs) a = all_append (IsReadyOf P) (leaves_of q.conn q.parked) (leaving_of qs) (all_leave q.conn [] q.parked a.0.0 a.0.1) (all_leaving qs a.1)

  released : (s : Settled) (item : Inbound) → AreRight s.queues → AllGone (releases s item)
  released s (inbound.Opened d) a = tt
  released s (inbound.Carried x) a = by_tests (is_open x.conn s.queues) (overflows x.conn (entering s.store x) s.queues) (goes_through x.conn (entering s.store x) s.queues) refl
    where
      by_tests : (o f g : Bool) → is_open x.conn s.queues ≡ o → AllGone (cond o (cond f (map (fallen x.conn ByFull) (parked_of x.conn s.queues) ++ ready.Dropped x.conn x.seq ByFull ∷ ready.Closed x.conn ParkedFull ∷ []) (cond g (fate x.conn (entering s.store x)) [])) [])
      by_tests true true g o = (let k = open_right x.conn s.queues o a in all_end x.conn ByFull (parked_of x.conn s.queues) (ready.Dropped x.conn x.seq ByFull ∷ ready.Closed x.conn ParkedFull ∷ []) k (k, (k, tt)))
      by_tests true false true o = all_fate x.conn (entering s.store x) (open_right x.conn s.queues o a) (entering_mine s x)
      by_tests true false false o = tt
      by_tests false f g o = tt
  released s (inbound.Side d m) a = by_open (is_open d s.queues) m
    where
      by_set : (set : QuorumTree) (b : Bool) → AllGone (cond b (leaving_of (resolved (is_hash (hash_of set)) (by_answer set) s.queues)) [])
      by_set set true = all_leaving (resolved (is_hash (hash_of set)) (by_answer set) s.queues) (right_resolved (is_hash (hash_of set)) (by_answer set) (by_answer_mine set (is_sane set)) s.queues a)
      by_set set false = tt

      by_miss : (hash : Hash) (b : Bool) → AllGone (cond b (leaving_of (resolved (is_hash hash) (lost_by GaveUp) s.queues)) [])
      by_miss hash true = all_leaving (resolved (is_hash hash) (lost_by GaveUp) s.queues) (right_resolved (is_hash hash) (lost_by GaveUp) (λ k x e. e) s.queues a)
      by_miss hash false = tt

      by_message : (m : SideMessage) → AllGone (heard_out m s)
      by_message (GetSet hash) = tt
      by_message (Set set) = by_set set (is_answer set s)
      by_message (NoSet hash) = by_miss hash (gives_up (One hash) s.wanted hash)

      by_open : (b : Bool) (m : SideMessage) → AllGone (cond b (heard_out m s) [])
      by_open true m = by_message m
      by_open false m = tt
  released s (inbound.Closed d cause) a = by_test (is_open d s.queues) refl
    where
      by_test : (b : Bool) → is_open d s.queues ≡ b → AllGone (cond b (map (fallen d ByClose) (parked_of d s.queues) ++ ready.Closed d cause ∷ []) [])
      by_test true o = (let k = open_right d s.queues o a in all_end d ByClose (parked_of d s.queues) (ready.Closed d cause ∷ []) k (k, tt))
      by_test false o = tt
  released s (inbound.Local Tick) a = (
      let qs = in_order_of (last_missed s.wanted) s.queues in
      all_leaving (resolved (is_given_up s.wanted) (lost_by GaveUp) qs) (right_resolved (is_given_up s.wanted) (lost_by GaveUp) (λ k x e. e) qs (all_in_order IsRight (last_missed s.wanted) s.queues a))
      )
  released s (inbound.Local (Propose slot value)) a = (tt, tt)
  released s (inbound.Local (Round slot)) a = (tt, tt)
  released s (inbound.Local (Timer slot)) a = (tt, tt)
  released s (inbound.Local (Ask link slot)) a = (tt, tt)

-- ---- along a list of items

along : (me : NodeId) (peers : List NodeId) (items : List Inbound) (s : Settled) → s.me ≡ me → s.peers ≡ peers → AreRight (IsOfLink me peers) s.queues → AreRight (IsOfLink me peers) (settled_by s items).queues × AllGone (IsOfLink me peers) (released_by s items)
along me peers [] s m q a = (a, tt)
along me peers (item ∷ items) s m q a =
    let same = who_step s item in
    let step : AreRight (IsOfLink me peers) (rules s item).queues = queues_step (IsOfLink me peers) s item (λ d e. new_conn me peers s d m q e) a in
    let rest = along me peers items (rules s item) (same.me ∙ m) (same.peers ∙ q) step in
    (rest.0, all_append (IsReadyOf (IsOfLink me peers)) (releases s item) (released_by (rules s item) items) (released (IsOfLink me peers) s item a) rest.1)

pub no_stranger : NothingIsOfAStranger
no_stranger me peers local taken =
    let all = along me peers taken (fresh me peers local) refl refl tt in
    record {
      opened = λ c e. open_right (IsOfLink me peers) c (settled_by (fresh me peers local) taken).queues e all.0;
      held = all.0;
      given = all.1;
    }
