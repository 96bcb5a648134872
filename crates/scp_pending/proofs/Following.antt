-- What came of a link in its shape makes a line.
use Rattle.std.proofs.Common.{◌≡◌, ℕ, ◌+◌, Bool, true, false, cond, not, List, [], ◌∷◌, ◌++◌, refl, sym, ◌∙◌, ap, subst, append_assoc, nat_eq, inl, inr}
use Rattle.std.specs.Prelude.{◌&&◌, ◌||◌, fold, is_some}
use Rattle.std.specs.List.{AllByRecursion}
use Rattle.std.proofs.lemmas.Bool.{eqb-true, eqb-false}
use Rattle.scp_wire.specs.scp_types.specs.declared.names.ConnId.{ConnId}
use Rattle.scp_wire.specs.scp_types.specs.declared.names.Hash.{Hash}
use Rattle.scp_wire.specs.scp_types.specs.declared.names.NodeId.{NodeId}
use Rattle.scp_wire.specs.scp_quorum.specs.QuorumTree.{QuorumTree}
use Rattle.scp_wire.specs.declared.carried.Carried.{Carried}
use Rattle.scp_wire.specs.declared.side.SideMessage.{SideMessage}
use Rattle.scp_wire.specs.declared.side.SideMessage.TheVariants.{GetSet, Set, NoSet}
use Rattle.scp_wire.specs.declared.link.Cause.{Cause}
use Rattle.scp_wire.specs.declared.link.Cause.TheVariants.{ParkedFull}
use Rattle.scp_wire.specs.declared.link.Command.TheVariants.{Tick, Propose, Round, Timer, Ask}
use Rattle.scp_wire.specs.declared.link.Inbound.{Inbound}
use Rattle.scp_wire.specs.declared.link.Inbound.TheVariants as inbound
use Rattle.scp_wire.specs.Connections.{conn_at, same_node, same_conn}
use Rattle.scp_wire.specs.Shape.{Come, nothing_came, comes, MayCome, AreInOrder, is_from, of_peer}
use Rattle.scp_wire.specs.Marks.{Mark, number, ended, one_if, came_mark, marks_in}
use Rattle.scp_wire.specs.Lanes.{in_lane, HasSlot}
use Rattle.scp_fetch.specs.declared.want.Miss.TheVariants.{One}
use Rattle.scp_pending.specs.declared.parked.Parked.{Parked}
use Rattle.scp_pending.specs.declared.ready.DropCause.TheVariants.{GaveUp}
use Rattle.scp_pending.specs.declared.ready.Ready.{Ready}
use Rattle.scp_fetch.specs.Wants.{missed_by, last_missed, gives_up}
use Rattle.scp_pending.specs.Queues.{QueueView, is_of, is_open, is_link_open, parked_of, others, changed, with_parked, parked_in, is_empty, stays_in, served, in_order_of, is_hash, hash_of, resolved, resolved_in, lost_by}
use Rattle.scp_pending.specs.Rules.{Settled, rules, releases, opens, opened, closed_off, link_of, entering, overflows, goes_through, parks, by_answer, answered, is_answer, is_given_up, gives_up_one, hears}
use Rattle.scp_pending.specs.Line.{marks_of, marks_parked}
use Rattle.scp_pending.proofs.Basics.{append_nil, clash, or_none, if_any, fold-append, flat-append, all_append, all_step, same_node-refl, same_conn-true, same_number}
use Rattle.scp_pending.proofs.Laning.{HasLane, in_lane-append}
use Rattle.scp_pending.proofs.Serving.{AreSingle, AreMine, marks_of-append, all_in_order}
use Rattle.scp_pending.proofs.Lines.{added, line_step, open_after, open_step}
use Rattle.scp_pending.proofs.Telling.{Told, NoEnd, told_same, told_other, told_opens, told_number, told_cut, told_discard, told_close, told_close_cut}

-- ---- what all items keep

pub frame_step : (P : NodeId → List NodeId → Type 0) (s : Settled) (item : Inbound) → P s.me s.peers → P (rules s item).me (rules s item).peers
frame_step P s (inbound.Opened d) k = elim (opens d s) as (λ b. P (cond b (opened d s) s).me (cond b (opened d s) s).peers) [ true ↦ k | false ↦ k ]
frame_step P s (inbound.Carried x) k = by_tests (is_open x.conn s.queues) (overflows x.conn (entering s.store x) s.queues) (goes_through x.conn (entering s.store x) s.queues)
  where
    at : Settled → Type 0
    at t = P t.me t.peers

    by_tests : (o f g : Bool) → at (cond o (cond f (closed_off x.conn s) (cond g s (parks x (entering s.store x) s))) s)
    by_tests true true g = k
    by_tests true false true = k
    by_tests true false false = k
    by_tests false f g = k
frame_step P s (inbound.Side d m) k = by_open (is_open d s.queues) m
  where
    at : Settled → Type 0
    at t = P t.me t.peers

    by_set : (set : QuorumTree) (b : Bool) → at (cond b (answered set s) s)
    by_set set true = k
    by_set set false = k

    by_miss : (hash : Hash) (b : Bool) → at (cond b (gives_up_one hash (record s { wanted = missed_by (One hash) s.wanted })) (record s { wanted = missed_by (One hash) s.wanted }))
    by_miss hash true = k
    by_miss hash false = k

    by_message : (m : SideMessage) → at (hears m s)
    by_message (GetSet hash) = k
    by_message (Set set) = by_set set (is_answer set s)
    by_message (NoSet hash) = by_miss hash (gives_up (One hash) s.wanted hash)

    by_open : (b : Bool) (m : SideMessage) → at (cond b (hears m s) s)
    by_open true m = by_message m
    by_open false m = k
frame_step P s (inbound.Closed d cause) k = elim (is_open d s.queues) as (λ b. P (cond b (closed_off d s) s).me (cond b (closed_off d s) s).peers) [ true ↦ k | false ↦ k ]
frame_step P s (inbound.Local Tick) k = k
frame_step P s (inbound.Local (Propose slot value)) k = k
frame_step P s (inbound.Local (Round slot)) k = k
frame_step P s (inbound.Local (Timer slot)) k = k
frame_step P s (inbound.Local (Ask link slot)) k = k

-- of the connections of the queues
abbrev pub AllConns : (ConnId → Type 0) → List QueueView → Type 0
AllConns P qs = AllByRecursion (λ q. P q.conn) qs

conns_others : (P : ConnId → Type 0) (c : ConnId) (qs : List QueueView) → AllConns P qs → AllConns P (others c qs)
conns_others P c [] a = tt
conns_others P c (q ∷ qs) a = elim (is_of c q) as (λ b. AllConns P (cond b qs (q ∷ others c qs))) [ true ↦ a.1 | false ↦ (a.0, conns_others P c qs a.1) ]

conns_changed : (P : ConnId → Type 0) (c : ConnId) (p : Parked) (qs : List QueueView) → AllConns P qs → AllConns P (changed c (with_parked p) qs)
conns_changed P c p [] a = tt
conns_changed P c p (q ∷ qs) a = elim (is_of c q) as (λ b. AllConns P (cond b (with_parked p q ∷ qs) (q ∷ changed c (with_parked p) qs))) [ true ↦ a | false ↦ (a.0, conns_changed P c p qs a.1) ]

conns_served : (P : ConnId → Type 0) (test : _) (f : Carried → Parked) (qs : List QueueView) → AllConns P qs → AllConns P (served (resolved test f qs))
conns_served P test f qs a =
    let k : AllConns P (resolved test f qs) = all_step (λ (q : QueueView). P q.conn) (λ (q : QueueView). P q.conn) (resolved_in test f) qs (λ q h. h) a in
    all_step (λ (q : QueueView). P q.conn) (λ (q : QueueView). P q.conn) stays_in (resolved test f qs) (λ q h. h) k

pub open_conn : (P : ConnId → Type 0) (c : ConnId) (qs : List QueueView) → is_open c qs ≡ true → AllConns P qs → P c
open_conn P c [] e a = absurd cc
open_conn P c (q ∷ qs) e a = elim (if_any (is_of c q) (is_open c qs) e) as (λ _. P c) [ inl l ↦ subst P (same_conn-true q.conn c l) a.0 | inr r ↦ open_conn P c qs r a.1 ]

conns_parked_in : (P : ConnId → Type 0) (c : ConnId) (p : Parked) (qs : List QueueView) → P c → AllConns P qs → AllConns P (parked_in c p qs)
conns_parked_in P c p qs h a = by_test (is_empty (parked_of c qs))
  where
    by_test : (b : Bool) → AllConns P (cond b (others c qs ++ record { conn = c; parked = p ∷ [] } ∷ []) (changed c (with_parked p) qs))
    by_test true = all_append (λ (q : QueueView). P q.conn) (others c qs) (record { conn = c; parked = p ∷ [] } ∷ []) (conns_others P c qs a) (h, tt)
    by_test false = conns_changed P c p qs a

pub conns_step : (P : ConnId → Type 0) (s : Settled) (item : Inbound) → ((d : ConnId) → opens d s ≡ true → P d) → AllConns P s.queues → AllConns P (rules s item).queues
conns_step P s (inbound.Opened d) new a = by_test (opens d s) refl
  where
    by_test : (b : Bool) → opens d s ≡ b → AllConns P (cond b (opened d s) s).queues
    by_test true e = all_append (λ (q : QueueView). P q.conn) s.queues (record { conn = d; parked = [] } ∷ []) a (new d e, tt)
    by_test false e = a
conns_step P s (inbound.Carried x) new a = by_tests (is_open x.conn s.queues) (overflows x.conn (entering s.store x) s.queues) (goes_through x.conn (entering s.store x) s.queues) refl
  where
    by_tests : (o f g : Bool) → is_open x.conn s.queues ≡ o → AllConns P (cond o (cond f (closed_off x.conn s) (cond g s (parks x (entering s.store x) s))) s).queues
    by_tests true true g o = conns_others P x.conn s.queues a
    by_tests true false true o = a
    by_tests true false false o = conns_parked_in P x.conn (entering s.store x) s.queues (open_conn P x.conn s.queues o a) a
    by_tests false f g o = a
conns_step P s (inbound.Side d m) new a = by_open (is_open d s.queues) m
  where
    by_set : (set : QuorumTree) (b : Bool) → AllConns P (cond b (answered set s) s).queues
    by_set set true = conns_served P (is_hash (hash_of set)) (by_answer set) s.queues a
    by_set set false = a

    by_miss : (hash : Hash) (b : Bool) → AllConns P (cond b (gives_up_one hash (record s { wanted = missed_by (One hash) s.wanted })) (record s { wanted = missed_by (One hash) s.wanted })).queues
    by_miss hash true = conns_served P (is_hash hash) (lost_by GaveUp) s.queues a
    by_miss hash false = a

    by_message : (m : SideMessage) → AllConns P (hears m s).queues
    by_message (GetSet hash) = a
    by_message (Set set) = by_set set (is_answer set s)
    by_message (NoSet hash) = by_miss hash (gives_up (One hash) s.wanted hash)

    by_open : (b : Bool) (m : SideMessage) → AllConns P (cond b (hears m s) s).queues
    by_open true m = by_message m
    by_open false m = a
conns_step P s (inbound.Closed d cause) new a = by_test (is_open d s.queues)
  where
    by_test : (b : Bool) → AllConns P (cond b (closed_off d s) s).queues
    by_test true = conns_others P d s.queues a
    by_test false = a
conns_step P s (inbound.Local Tick) new a = conns_served P (is_given_up s.wanted) (lost_by GaveUp) (in_order_of (last_missed s.wanted) s.queues) (all_in_order (λ (q : QueueView). P q.conn) (last_missed s.wanted) s.queues a)
conns_step P s (inbound.Local (Propose slot value)) new a = a
conns_step P s (inbound.Local (Round slot)) new a = a
conns_step P s (inbound.Local (Timer slot)) new a = a
conns_step P s (inbound.Local (Ask link slot)) new a = a

-- ---- one item of the link

abbrev none : List Mark
none = []

pub same_at : (peer me : NodeId) (a b : ℕ) → same_conn (conn_at peer me a) (conn_at peer me b) ≡ nat_eq a b
same_at peer me a b = rw (same_node-refl peer, same_node-refl me) refl

module _ (slots : ℕ → ℕ) (n : ℕ) where
  -- of a lane
  abbrev pub lane : List Mark → List Mark
  lane xs = in_lane slots n xs

  plain : (seq : ℕ) → NoEnd (lane (number seq ∷ []))
  plain seq = by_test (nat_eq (slots seq) n)
    where
      by_test : (b : Bool) → NoEnd (cond b (number seq ∷ []) [])
      by_test true = tt
      by_test false = tt

  with_end : (seq : ℕ) → lane (number seq ∷ ended ParkedFull ∷ []) ≡ lane (number seq ∷ []) ++ ended ParkedFull ∷ []
  with_end seq = in_lane-append slots n (number seq ∷ []) (ended ParkedFull ∷ [])

  pub told_brought : (life : ℕ) (h : Come) (seq : ℕ) (b o f oc : Bool) (S L : List Mark) → nat_eq h.life life ≡ b → (b ≡ true → o ≡ oc) → h.is_open ≡ true → Told life h oc S L → Told life (record h { next = h.next + 1 }) (cond (o && f) (oc && not b) oc) (S ++ lane (one_if b (number seq))) (L ++ lane (cond o (one_if b (number seq) ++ cond f (one_if b (ended ParkedFull)) []) []))
  told_brought life h seq true true true true S L e same running a = rw (with_end seq) (told_cut life h (lane (number seq ∷ [])) S L (plain seq) running (eqb-true h.life life e) a)
  told_brought life h seq true true false true S L e same running a = told_number life h (lane (number seq ∷ [])) S L (plain seq) running (eqb-true h.life life e) a
  told_brought life h seq true true f false S L e same running a = absurd (let bad : true ≡ false = same refl in cc)
  told_brought life h seq true false f true S L e same running a = absurd (let bad : false ≡ true = same refl in cc)
  told_brought life h seq true false f false S L e same running a = rw (append_nil L) (told_discard life h (lane (number seq ∷ [])) S L (plain seq) running (eqb-true h.life life e) a)
  told_brought life h seq false o f oc S L e same running a = rw (append_nil S, still o f, kept o f oc, append_nil L) (told_other life h (record h { next = h.next + 1 }) oc oc S L refl (eqb-false h.life life e) (λ k. k) a)
    where
      still : (o f : Bool) → cond o (none ++ cond f none none) none ≡ none
      still true true = refl
      still true false = refl
      still false f = refl

      kept : (o f oc : Bool) → cond (o && f) (oc && true) oc ≡ oc
      kept true true true = refl
      kept true true false = refl
      kept true false oc = refl
      kept false f oc = refl

  pub told_closed : (life : ℕ) (h : Come) (cause : Cause) (b o oc : Bool) (S L : List Mark) → nat_eq h.life life ≡ b → (b ≡ true → o ≡ oc) → h.is_open ≡ true → Told life h oc S L → Told life (record h { is_open = false }) (cond o (oc && not b) oc) (S ++ lane (one_if b (ended cause))) (L ++ lane (cond o (one_if b (ended cause)) []))
  told_closed life h cause true true true S L e same running a = told_close life h cause S L running (eqb-true h.life life e) a
  told_closed life h cause true true false S L e same running a = absurd (let bad : true ≡ false = same refl in cc)
  told_closed life h cause true false true S L e same running a = absurd (let bad : false ≡ true = same refl in cc)
  told_closed life h cause true false false S L e same running a = rw (append_nil L) (told_close_cut life h cause S L running (eqb-true h.life life e) a)
  told_closed life h cause false o oc S L e same running a = rw (append_nil S, still o, kept o oc, append_nil L) (told_other life h (record h { is_open = false }) oc oc S L refl (eqb-false h.life life e) (λ k. k) a)
    where
      still : (o : Bool) → cond o none none ≡ none
      still true = refl
      still false = refl

      kept : (o oc : Bool) → cond o (oc && true) oc ≡ oc
      kept true true = refl
      kept true false = refl
      kept false oc = refl

-- where no connection of the link is open, the link isn't
no_link : (peer me : NodeId) (qs : List QueueView) → AllConns (λ (c : ConnId). same_node c.to me ≡ true) qs → ((life : ℕ) → is_open (conn_at peer me life) qs ≡ false) → is_link_open peer qs ≡ false
no_link peer me [] a none = refl
no_link peer me (q ∷ qs) a none = by_test (same_node q.conn.from peer) refl (no_link peer me qs a.1 (λ life. (or_none (is_of (conn_at peer me life) q) (is_open (conn_at peer me life) qs) (none life)).1))
  where
    by_test : (b : Bool) → same_node q.conn.from peer ≡ b → is_link_open peer qs ≡ false → (b || is_link_open peer qs) ≡ false
    by_test true e rest =
        let mine : is_of (conn_at peer me q.conn.life) q ≡ true = rw (e, a.0, same_number q.conn.life) refl in
        clash (is_of (conn_at peer me q.conn.life) q) mine (or_none (is_of (conn_at peer me q.conn.life) q) (is_open (conn_at peer me q.conn.life) qs) (none q.conn.life)).0
    by_test false e rest = rest

pub record OnLink (me peer : NodeId) (s : Settled) : Type 0 where
  pub is_me : s.me ≡ me
  pub is_peer : is_some (link_of peer s) ≡ true
  pub to_me : AllConns (λ (c : ConnId). same_node c.to me ≡ true) s.queues
  pub single : AreSingle s.queues
  pub mine : AllByRecursion AreMine s.queues

told_item : (slots : ℕ → ℕ → ℕ) (n : ℕ) (me peer : NodeId) (s : Settled) (item : Inbound) (h : Come) (S L : ℕ → List Mark) → OnLink me peer s → MayCome peer me h item → ((life : ℕ) → Told life h (is_open (conn_at peer me life) s.queues) (S life) (L life)) → (life : ℕ) → Told life (comes h item) (open_after (conn_at peer me life) s item) (S life ++ in_lane (slots life) n (came_mark (conn_at peer me life) item)) (L life ++ in_lane (slots life) n (added (conn_at peer me life) s item))
told_item slots n me peer s (inbound.Opened d) h S L on m known life =
    let shut : (g : ℕ) → is_open (conn_at peer me g) s.queues ≡ false = λ g. none g (is_open (conn_at peer me g) s.queues) refl in
    let link : is_link_open peer s.queues ≡ false = no_link peer me s.queues on.to_me shut in
    let yes : opens d s ≡ true = rw (m.1, on.is_me, on.is_peer, same_node-refl me, link) refl in
    let at : same_conn d (conn_at peer me life) ≡ nat_eq (h.life + 1) life = ap (λ (k : ConnId). same_conn k (conn_at peer me life)) m.1 ∙ same_at peer me (h.life + 1) life in
    rw (yes, shut life, at, append_nil (S life), append_nil (L life)) (told_opens life h (is_open (conn_at peer me life) s.queues) (S life) (L life) (known life))
  where
    none : (g : ℕ) (b : Bool) → is_open (conn_at peer me g) s.queues ≡ b → b ≡ false
    none g true e = absurd (let o : h.is_open ≡ true = ((known g).open_here e).0 in let bad : true ≡ false = sym o ∙ m.0 in cc)
    none g false e = refl
told_item slots n me peer s (inbound.Carried x) h S L on m known life =
    let at : same_conn x.conn (conn_at peer me life) ≡ nat_eq h.life life = ap (λ (k : ConnId). same_conn k (conn_at peer me life)) m.1 ∙ same_at peer me h.life life in
    rw at (told_brought (slots life) n life h x.seq.0 (nat_eq h.life life) (is_open x.conn s.queues) (overflows x.conn (entering s.store x) s.queues) (is_open (conn_at peer me life) s.queues) (S life) (L life) refl (λ e. ap (λ (k : ConnId). is_open k s.queues) (m.1 ∙ ap (conn_at peer me) (eqb-true h.life life e))) m.0 (known life))
told_item slots n me peer s (inbound.Side d message) h S L on m known life = rw (append_nil (S life), append_nil (L life)) (known life)
told_item slots n me peer s (inbound.Closed d cause) h S L on m known life =
    let at : same_conn d (conn_at peer me life) ≡ nat_eq h.life life = ap (λ (k : ConnId). same_conn k (conn_at peer me life)) m.1 ∙ same_at peer me h.life life in
    rw at (told_closed (slots life) n life h cause (nat_eq h.life life) (is_open d s.queues) (is_open (conn_at peer me life) s.queues) (S life) (L life) refl (λ e. ap (λ (k : ConnId). is_open k s.queues) (m.1 ∙ ap (conn_at peer me) (eqb-true h.life life e))) m.0 (known life))
told_item slots n me peer s (inbound.Local command) h S L on m known life = absurd m

-- ---- an item of another link

pub apart : (peer me : NodeId) (d : ConnId) (life : ℕ) → same_node d.from peer ≡ false → same_conn d (conn_at peer me life) ≡ false
apart peer me d life e = rw e refl

quiet_mark : (peer me : NodeId) (life : ℕ) (item : Inbound) → is_from peer item ≡ false → came_mark (conn_at peer me life) item ≡ []
quiet_mark peer me life (inbound.Opened d) e = refl
quiet_mark peer me life (inbound.Carried x) e = rw (apart peer me x.conn life e) refl
quiet_mark peer me life (inbound.Side d message) e = refl
quiet_mark peer me life (inbound.Closed d cause) e = rw (apart peer me d life e) refl
quiet_mark peer me life (inbound.Local command) e = refl

quiet_added : (peer me : NodeId) (life : ℕ) (s : Settled) (item : Inbound) → is_from peer item ≡ false → added (conn_at peer me life) s item ≡ []
quiet_added peer me life s (inbound.Opened d) e = refl
quiet_added peer me life s (inbound.Carried x) e = rw (apart peer me x.conn life e) (by_tests (is_open x.conn s.queues) (overflows x.conn (entering s.store x) s.queues))
  where
    by_tests : (o f : Bool) → cond o (none ++ cond f none none) none ≡ none
    by_tests true true = refl
    by_tests true false = refl
    by_tests false f = refl
quiet_added peer me life s (inbound.Side d message) e = refl
quiet_added peer me life s (inbound.Closed d cause) e = rw (apart peer me d life e) (by_test (is_open d s.queues))
  where
    by_test : (o : Bool) → cond o none none ≡ none
    by_test true = refl
    by_test false = refl
quiet_added peer me life s (inbound.Local command) e = refl

quiet_open : (peer me : NodeId) (life : ℕ) (s : Settled) (item : Inbound) → is_from peer item ≡ false → open_after (conn_at peer me life) s item ≡ is_open (conn_at peer me life) s.queues
quiet_open peer me life s (inbound.Opened d) e = rw (apart peer me d life e) (by_test (opens d s) (is_open (conn_at peer me life) s.queues))
  where
    by_test : (b oc : Bool) → cond b (oc || false) oc ≡ oc
    by_test true true = refl
    by_test true false = refl
    by_test false oc = refl
quiet_open peer me life s (inbound.Carried x) e = rw (apart peer me x.conn life e) (by_test (is_open x.conn s.queues && overflows x.conn (entering s.store x) s.queues) (is_open (conn_at peer me life) s.queues))
  where
    by_test : (b oc : Bool) → cond b (oc && true) oc ≡ oc
    by_test true true = refl
    by_test true false = refl
    by_test false oc = refl
quiet_open peer me life s (inbound.Side d message) e = refl
quiet_open peer me life s (inbound.Closed d cause) e = rw (apart peer me d life e) (by_test (is_open d s.queues) (is_open (conn_at peer me life) s.queues))
  where
    by_test : (b oc : Bool) → cond b (oc && true) oc ≡ oc
    by_test true true = refl
    by_test true false = refl
    by_test false oc = refl
quiet_open peer me life s (inbound.Local command) e = refl

-- ---- along a list of takes

abbrev pub come_of : NodeId → List Inbound → Come
come_of peer taken = fold comes nothing_came (of_peer peer taken)

abbrev pub AllTold : (ℕ → ℕ → ℕ) → ℕ → NodeId → NodeId → List Inbound → Settled → List Ready → Type 0
AllTold slots n me peer taken s out = (life : ℕ) → Told life (come_of peer taken) (is_open (conn_at peer me life) s.queues) (in_lane (slots life) n (marks_in (conn_at peer me life) taken)) (in_lane (slots life) n (marks_of (conn_at peer me life) out ++ marks_parked (conn_at peer me life) s.queues))

pub of_peer-push : (peer : NodeId) (xs : List Inbound) (x : Inbound) → of_peer peer (xs ++ x ∷ []) ≡ of_peer peer xs ++ cond (is_from peer x) (x ∷ []) []
of_peer-push peer [] x = refl
of_peer-push peer (y ∷ ys) x = by_test (is_from peer y) (of_peer-push peer ys x)
  where
    by_test : (b : Bool) → of_peer peer (ys ++ x ∷ []) ≡ of_peer peer ys ++ cond (is_from peer x) (x ∷ []) [] → cond b (y ∷ of_peer peer (ys ++ x ∷ [])) (of_peer peer (ys ++ x ∷ [])) ≡ cond b (y ∷ of_peer peer ys) (of_peer peer ys) ++ cond (is_from peer x) (x ∷ []) []
    by_test true e = ap (λ zs. y ∷ zs) e
    by_test false e = e

pub order_split : (peer me : NodeId) (h : Come) (xs : List Inbound) (x : Inbound) → AreInOrder peer me h (xs ++ x ∷ []) → AreInOrder peer me h xs × MayCome peer me (fold comes h xs) x
order_split peer me h [] x a = (tt, a.0)
order_split peer me h (y ∷ ys) x a = let rest = order_split peer me (comes h y) ys x a.1 in ((a.0, rest.0), rest.1)

-- the line after an item
line_after : (slots : ℕ → ℕ) (n : ℕ) (c : ConnId) (s : Settled) (out : List Ready) (item : Inbound) → AreSingle s.queues → AllByRecursion AreMine s.queues → AllByRecursion (HasLane slots) (parked_of c s.queues) → HasSlot c slots item → in_lane slots n (marks_of c (out ++ releases s item) ++ marks_parked c (rules s item).queues) ≡ in_lane slots n (marks_of c out ++ marks_parked c s.queues) ++ in_lane slots n (added c s item)
line_after slots n c s out item single mine lanes slot =
    ap (in_lane slots n) (ap (λ ms. ms ++ marks_parked c (rules s item).queues) (marks_of-append c out (releases s item)) ∙ append_assoc (marks_of c out) (marks_of c (releases s item)) (marks_parked c (rules s item).queues))
    ∙ in_lane-append slots n (marks_of c out) (marks_of c (releases s item) ++ marks_parked c (rules s item).queues)
    ∙ ap (λ ms. in_lane slots n (marks_of c out) ++ ms) (line_step slots n c s item single mine lanes slot)
    ∙ sym (in_lane-append slots n (marks_of c out) (marks_parked c s.queues ++ added c s item))
    ∙ ap (in_lane slots n) (sym (append_assoc (marks_of c out) (marks_parked c s.queues) (added c s item)))
    ∙ in_lane-append slots n (marks_of c out ++ marks_parked c s.queues) (added c s item)

marks_in-push : (slots : ℕ → ℕ) (n : ℕ) (c : ConnId) (taken : List Inbound) (item : Inbound) → in_lane slots n (marks_in c (taken ++ item ∷ [])) ≡ in_lane slots n (marks_in c taken) ++ in_lane slots n (came_mark c item)
marks_in-push slots n c taken item = ap (in_lane slots n) (flat-append (came_mark c) taken (item ∷ []) ∙ ap (λ ms. marks_in c taken ++ ms) (append_nil (came_mark c item))) ∙ in_lane-append slots n (marks_in c taken) (came_mark c item)

-- what is parked of a connection has its lanes, and so does the item
pub record HasLanes (slots : ℕ → ℕ) (c : ConnId) (s : Settled) (item : Inbound) : Type 0 where
  pub parked : AllByRecursion (HasLane slots) (parked_of c s.queues)
  pub item_is : HasSlot c slots item

pub told_step : (slots : ℕ → ℕ → ℕ) (n : ℕ) (me peer : NodeId) (taken : List Inbound) (s : Settled) (out : List Ready) (item : Inbound) → OnLink me peer s → ((life : ℕ) → HasLanes (slots life) (conn_at peer me life) s item) → AreInOrder peer me nothing_came (of_peer peer (taken ++ item ∷ [])) → AllTold slots n me peer taken s out → AllTold slots n me peer (taken ++ item ∷ []) (rules s item) (out ++ releases s item)
told_step slots n me peer taken s out item on lanes shape known life = by_test (is_from peer item) refl
  where
    c : ConnId
    c = conn_at peer me life

    after : in_lane (slots life) n (marks_of c (out ++ releases s item) ++ marks_parked c (rules s item).queues) ≡ in_lane (slots life) n (marks_of c out ++ marks_parked c s.queues) ++ in_lane (slots life) n (added c s item)
    after = line_after (slots life) n c s out item on.single on.mine (lanes life).parked (lanes life).item_is

    by_test : (b : Bool) → is_from peer item ≡ b → Told life (come_of peer (taken ++ item ∷ [])) (is_open c (rules s item).queues) (in_lane (slots life) n (marks_in c (taken ++ item ∷ []))) (in_lane (slots life) n (marks_of c (out ++ releases s item) ++ marks_parked c (rules s item).queues))
    by_test true e =
        let pushed : of_peer peer (taken ++ item ∷ []) ≡ of_peer peer taken ++ item ∷ [] = of_peer-push peer taken item ∙ ap (λ b. of_peer peer taken ++ cond b (item ∷ []) []) e in
        let come : come_of peer (taken ++ item ∷ []) ≡ comes (come_of peer taken) item = ap (fold comes nothing_came) pushed ∙ fold-append comes nothing_came (of_peer peer taken) (item ∷ []) in
        let may : MayCome peer me (come_of peer taken) item = (order_split peer me nothing_came (of_peer peer taken) item (subst (AreInOrder peer me nothing_came) pushed shape)).1 in
        rw (come, open_step c s item on.single, marks_in-push (slots life) n c taken item, after) (told_item slots n me peer s item (come_of peer taken) (λ g. in_lane (slots g) n (marks_in (conn_at peer me g) taken)) (λ g. in_lane (slots g) n (marks_of (conn_at peer me g) out ++ marks_parked (conn_at peer me g) s.queues)) on may known life)
    by_test false e =
        let pushed : of_peer peer (taken ++ item ∷ []) ≡ of_peer peer taken = of_peer-push peer taken item ∙ ap (λ b. of_peer peer taken ++ cond b (item ∷ []) []) e ∙ append_nil (of_peer peer taken) in
        let come : come_of peer (taken ++ item ∷ []) ≡ come_of peer taken = ap (fold comes nothing_came) pushed in
        rw come (told_same life (come_of peer taken) _ _ _ _ _ _ (open_step c s item on.single ∙ quiet_open peer me life s item e) (marks_in-push (slots life) n c taken item ∙ ap (λ ms. in_lane (slots life) n (marks_in c taken) ++ in_lane (slots life) n ms) (quiet_mark peer me life item e) ∙ append_nil _) (after ∙ ap (λ ms. in_lane (slots life) n (marks_of c out ++ marks_parked c s.queues) ++ in_lane (slots life) n ms) (quiet_added peer me life s item e) ∙ append_nil _) (known life))
