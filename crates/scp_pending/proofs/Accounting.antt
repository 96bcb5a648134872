-- The accounts of each connection, along a list of takes.
use Rattle.std.proofs.Common.{◌≡◌, ℕ, ◌+◌, Bool, true, false, cond, List, [], ◌∷◌, ◌++◌, refl, sym, ◌∙◌, ap, subst, append_assoc, inl, inr, ◌⊎◌, zero, suc, arith, length, ◌<◌, nat_eq}
use Rattle.std.specs.Prelude.{◌&&◌, Some, slice_get, is_some, position, not}
use Rattle.std.specs.List.{AllByRecursion, position_or_len}
use Rattle.std.proofs.lemmas.Bool.{lt-ltb, eqb-true}
use Rattle.scp_wire.specs.scp_types.specs.declared.names.ConnId.{ConnId}
use Rattle.scp_wire.specs.scp_types.specs.declared.names.NodeId.{NodeId}
use Rattle.scp_wire.specs.declared.message.Message.{Message}
use Rattle.scp_wire.specs.declared.carried.Carried.{Carried}
use Rattle.scp_wire.specs.declared.link.Inbound.{Inbound}
use Rattle.scp_wire.specs.declared.link.Inbound.TheVariants as inbound
use Rattle.scp_wire.specs.Connections.{conn_at, same_node, same_conn}
use Rattle.scp_wire.specs.Shape.{Come, nothing_came, comes, AreInOrder, is_from, of_peer}
use Rattle.scp_wire.specs.Marks.{Mark, marks_in, messages_in, IsWhole}
use Rattle.scp_wire.specs.Lanes.{slots_of, in_lane, HasSlot, HaveSlots}
use Rattle.scp_pending.specs.declared.ready.Ready.{Ready}
use Rattle.scp_pending.specs.declared.ready.Ready.TheVariants.{Deliver, Dropped, Closed, Local}
use Rattle.scp_pending.specs.Queues.{QueueView, is_open, is_link_open}
use Rattle.scp_pending.specs.Rules.{Settled, rules, releases, link_of, settled_by, released_by}
use Rattle.scp_pending.specs.Line.{marks_of, marks_parked, held, HasItsMessage}
use Rattle.scp_pending.specs.Causes.{HasCause}
use Rattle.scp_pending.specs.Pends.{start_of}
use Rattle.scp_pending.specs.Laws.{AllAccounts}
use Rattle.scp_pending.proofs.Basics.{append_nil, all_weaker, all_left, same_node-refl, same_number}
use Rattle.scp_pending.proofs.Serving.{AreMine, marks_of-append}
use Rattle.scp_pending.proofs.Standing.{Fits, AllStand, lanes_of_queues, mine_of}
use Rattle.scp_pending.proofs.Sound.{Sound, sound_step, sound_start}
use Rattle.scp_pending.proofs.Telling.{Told, IsCutHere, told_start}
use Rattle.scp_pending.proofs.Following.{AllConns, AllTold, HasLanes, OnLink, come_of, conns_step, frame_step, told_step}
use Rattle.scp_pending.proofs.Numbered.{IsNumbered, numbered_right, numbered_all, slots_are, messages_of_peer}

-- ---- the front of a shaped list is shaped

pub of_peer-append : (peer : NodeId) (xs ys : List Inbound) → of_peer peer (xs ++ ys) ≡ of_peer peer xs ++ of_peer peer ys
of_peer-append peer [] ys = refl
of_peer-append peer (x ∷ xs) ys = by_test (is_from peer x) (of_peer-append peer xs ys)
  where
    by_test : (b : Bool) → of_peer peer (xs ++ ys) ≡ of_peer peer xs ++ of_peer peer ys → cond b (x ∷ of_peer peer (xs ++ ys)) (of_peer peer (xs ++ ys)) ≡ cond b (x ∷ of_peer peer xs) (of_peer peer xs) ++ of_peer peer ys
    by_test true e = ap (λ zs. x ∷ zs) e
    by_test false e = e

pub order_front : (peer me : NodeId) (h : Come) (xs ys : List Inbound) → AreInOrder peer me h (xs ++ ys) → AreInOrder peer me h xs
order_front peer me h [] ys a = tt
order_front peer me h (x ∷ xs) ys a = (a.0, order_front peer me (comes h x) xs ys a.1)

pub shape_front : (peer me : NodeId) (xs ys : List Inbound) → AreInOrder peer me nothing_came (of_peer peer (xs ++ ys)) → AreInOrder peer me nothing_came (of_peer peer xs)
shape_front peer me xs ys a = order_front peer me nothing_came (of_peer peer xs) (of_peer peer ys) (subst (AreInOrder peer me nothing_came) (of_peer-append peer xs ys) a)

-- ---- along a list of takes

pub record OnLine (start : Settled) (slots : ℕ → ℕ → ℕ) (me peer : NodeId) (peers : List NodeId) (taken : List Inbound) (s : Settled) (out : List Ready) : Type 0 where
  pub sound : Sound start taken s out
  pub is_me : s.me ≡ me
  pub are_peers : s.peers ≡ peers
  pub to_me : AllConns (λ (c : ConnId). same_node c.to me ≡ true) s.queues
  pub told : (n : ℕ) → AllTold slots n me peer taken s out

second : (a b c : Bool) → (a && b && c) ≡ true → b ≡ true
second true true c e = refl
second true false c e = absurd cc
second false b c e = absurd cc

pub mine_all : (start : Settled) (taken : List Inbound) (wanted : _) (qs : List QueueView) → AllByRecursion (Fits start taken wanted) qs → AllByRecursion AreMine qs
mine_all start taken wanted qs a = all_weaker (Fits start taken wanted) AreMine qs (λ q f. all_weaker _ _ q.parked (λ p w. mine_of start taken wanted q.conn p w) f.stands) a

-- the slots of what was taken are the lanes of what is parked, and of the item
pub lanes_on : (start : Settled) (slots : ℕ → ℕ → ℕ) (me peer : NodeId) (peers : List NodeId) (taken : List Inbound) (s : Settled) (out : List Ready) (item : Inbound) → ((life : ℕ) → HaveSlots (conn_at peer me life) (slots life) (taken ++ item ∷ [])) → OnLine start slots me peer peers taken s out → (life : ℕ) → HasLanes (slots life) (conn_at peer me life) s item
lanes_on start slots me peer peers taken s out item have k life =
    let both = all_left (HasSlot (conn_at peer me life) (slots life)) taken (item ∷ []) (have life) in
    record {
      parked = lanes_of_queues start taken s.wanted (conn_at peer me life) (slots life) s.queues both.0 (all_weaker (Fits start taken s.wanted) (AllStand start taken s.wanted) s.queues (λ q f. f.stands) k.sound.fits);
      item_is = both.1.0;
    }

pub on_step : (start : Settled) (slots : ℕ → ℕ → ℕ) (me peer : NodeId) (peers : List NodeId) (taken : List Inbound) (s : Settled) (out : List Ready) (item : Inbound) → is_some (position (λ p. same_node p peer) peers) ≡ true → ((life : ℕ) → HaveSlots (conn_at peer me life) (slots life) (taken ++ item ∷ [])) → AreInOrder peer me nothing_came (of_peer peer (taken ++ item ∷ [])) → OnLine start slots me peer peers taken s out → OnLine start slots me peer peers (taken ++ item ∷ []) (rules s item) (out ++ releases s item)
on_step start slots me peer peers taken s out item there have shape k =
    let on : OnLink me peer s = record { is_me = k.is_me; is_peer = ap (λ (ps : List NodeId). is_some (position (λ p. same_node p peer) ps)) k.are_peers ∙ there; to_me = k.to_me; single = k.sound.single; mine = mine_all start taken s.wanted s.queues k.sound.fits } in
    record {
      sound = sound_step start taken s out item k.sound;
      is_me = frame_step (λ m ps. m ≡ me) s item k.is_me;
      are_peers = frame_step (λ m ps. ps ≡ peers) s item k.are_peers;
      to_me = conns_step (λ (c : ConnId). same_node c.to me ≡ true) s item (λ d e. subst (λ (m : NodeId). same_node d.to m ≡ true) k.is_me (second (is_some (link_of d.from s)) (same_node d.to s.me) (not (is_link_open d.from s.queues)) e)) k.to_me;
      told = λ n. told_step slots n me peer taken s out item on (lanes_on start slots me peer peers taken s out item have k) shape (k.told n);
    }

on_along : (start : Settled) (slots : ℕ → ℕ → ℕ) (me peer : NodeId) (peers : List NodeId) (taken items : List Inbound) (s : Settled) (out : List Ready) → is_some (position (λ p. same_node p peer) peers) ≡ true → ((life : ℕ) → HaveSlots (conn_at peer me life) (slots life) (taken ++ items)) → AreInOrder peer me nothing_came (of_peer peer (taken ++ items)) → OnLine start slots me peer peers taken s out → OnLine start slots me peer peers (taken ++ items) (settled_by s items) (out ++ released_by s items)
on_along start slots me peer peers taken [] s out there have shape k = rw (append_nil taken, append_nil out) k
on_along start slots me peer peers taken (item ∷ items) s out there have shape k =
    let all : (life : ℕ) → HaveSlots (conn_at peer me life) (slots life) ((taken ++ item ∷ []) ++ items) = λ life. subst (HaveSlots (conn_at peer me life) (slots life)) (sym (append_assoc taken (item ∷ []) items)) (have life) in
    let whole : AreInOrder peer me nothing_came (of_peer peer ((taken ++ item ∷ []) ++ items)) = subst (λ (l : List Inbound). AreInOrder peer me nothing_came (of_peer peer l)) (sym (append_assoc taken (item ∷ []) items)) shape in
    rw (← append_assoc taken (item ∷ []) items, ← append_assoc out (releases s item) (released_by (rules s item) items))
    (on_along start slots me peer peers (taken ++ item ∷ []) items (rules s item) (out ++ releases s item) there all whole (on_step start slots me peer peers taken s out item there (λ life. (all_left (HasSlot (conn_at peer me life) (slots life)) (taken ++ item ∷ []) items (all life)).0) (shape_front peer me (taken ++ item ∷ []) items whole) k))

-- one of the peers has a place among them
peer_there : (peers : List NodeId) (link : ℕ) (peer : NodeId) → slice_get peers link ≡ Some peer → position_or_len (λ p. same_node p peer) peers < length peers
peer_there [] link peer e = absurd cc
peer_there (p ∷ ps) zero peer e = (let same : p ≡ peer = some_is p peer e in rw (same, same_node-refl peer) (omega arith))
  where
    some_is : (a b : NodeId) → Some a ≡ Some b → a ≡ b
    some_is a b e = cc
peer_there (p ∷ ps) (suc link) peer e = by_test (same_node p peer) (peer_there ps link peer e)
  where
    by_test : (b : Bool) → position_or_len (λ q. same_node q peer) ps < length ps → cond (not b) (1 + position_or_len (λ q. same_node q peer) ps) 0 < length (p ∷ ps)
    by_test true h = omega arith
    by_test false h = omega (arith, h)

pub is_there : (peers : List NodeId) (link : ℕ) (peer : NodeId) → slice_get peers link ≡ Some peer → is_some (position (λ p. same_node p peer) peers) ≡ true
is_there peers link peer e = rw (lt-ltb (position_or_len (λ p. same_node p peer) peers) (length peers) (peer_there peers link peer e)) refl

-- ---- each delivered message is that of its number

numbered_at : (c : ConnId) (messages : List Message) (before after : List Inbound) (x : Carried) → AllByRecursion (IsNumbered c messages) (before ++ inbound.Carried x ∷ after) → IsNumbered c messages (inbound.Carried x)
numbered_at c messages before after x a = (all_left (IsNumbered c messages) before (inbound.Carried x ∷ after) a).1.0

has_message : (start : Settled) (taken : List Inbound) (c : ConnId) (messages : List Message) → AllByRecursion (IsNumbered c messages) taken → (r : Ready) → HasCause start taken r → HasItsMessage c messages r
has_message start taken c messages a (Deliver d) k = λ e. (
    let right : same_conn k.x.conn c ≡ true → slice_get messages k.x.seq.0 ≡ Some k.x.message = numbered_at c messages k.place.before k.place.after k.x (subst (AllByRecursion (IsNumbered c messages)) k.place.at a) in
    ap (λ s. slice_get messages s.0) (sym k.seq) ∙ right (ap (λ (d : ConnId). same_conn d c) k.conn ∙ e) ∙ ap (λ (m : Message). Some m) k.message)
has_message start taken c messages a (Dropped conn seq cause) k = tt
has_message start taken c messages a (Closed conn cause) k = tt
has_message start taken c messages a (Local command) k = tt

-- these slots for one life, and for the others those of what came
abbrev pub family : NodeId → NodeId → List Inbound → ℕ → (ℕ → ℕ) → ℕ → ℕ → ℕ
family me peer taken life slots g = cond (nat_eq g life) slots (slots_of (messages_in (conn_at peer me g) taken))

pub numbered_of : (me peer : NodeId) (taken : List Inbound) (life : ℕ) → AreInOrder peer me nothing_came (of_peer peer taken) → AllByRecursion (IsNumbered (conn_at peer me life) (messages_in (conn_at peer me life) taken)) taken
numbered_of me peer taken life shape = (let c = conn_at peer me life in numbered_all c (messages_in c taken) taken (subst (λ (ms : List Message). AllByRecursion (IsNumbered c ms) (of_peer peer taken)) (messages_of_peer c taken) (numbered_right peer me life (of_peer peer taken) shape)))

pub family_has : (me peer : NodeId) (taken : List Inbound) (life : ℕ) (slots : ℕ → ℕ) → AreInOrder peer me nothing_came (of_peer peer taken) → HaveSlots (conn_at peer me life) slots taken → (g : ℕ) → HaveSlots (conn_at peer me g) (family me peer taken life slots g) taken
family_has me peer taken life slots shape have g = by_test (nat_eq g life) refl
  where
    by_test : (b : Bool) → nat_eq g life ≡ b → HaveSlots (conn_at peer me g) (cond b slots (slots_of (messages_in (conn_at peer me g) taken))) taken
    by_test true e = subst (λ (k : ℕ). HaveSlots (conn_at peer me k) slots taken) (sym (eqb-true g life e)) have
    by_test false e = slots_are (conn_at peer me g) (messages_in (conn_at peer me g) taken) taken (numbered_of me peer taken g shape)

pub family_own : (me peer : NodeId) (taken : List Inbound) (life : ℕ) (slots : ℕ → ℕ) → family me peer taken life slots life ≡ slots
family_own me peer taken life slots = ap (λ b. cond b slots (slots_of (messages_in (conn_at peer me life) taken))) (same_number life)

pub all_accounts : AllAccounts
all_accounts me peers taken given v p shape link peer at life slots have =
    let start = start_of me peers v in
    let c = conn_at peer me life in
    let slots' = family me peer taken life slots in
    let begun : OnLine start slots' me peer peers [] start [] = record { sound = sound_start me peers v.settled.store.local p.local_is_sane; is_me = refl; are_peers = refl; to_me = tt; told = λ n g. told_start g } in
    let all : OnLine start slots' me peer peers taken (settled_by start taken) (released_by start taken) = on_along start slots' me peer peers [] taken start [] (is_there peers link peer at) (family_has me peer taken life slots (shape link peer at) have) (shape link peer at) begun in
    let here : OnLine start slots' me peer peers taken v.settled (given ++ v.leaving) = subst (λ (t : Settled). OnLine start slots' me peer peers taken t (given ++ v.leaving)) (sym p.settled) (subst (λ (out : List Ready). OnLine start slots' me peer peers taken (settled_by start taken) out) (sym p.left) all) in
    let line : marks_of c given ++ held c v ≡ marks_of c (given ++ v.leaving) ++ marks_parked c v.settled.queues = sym (append_assoc (marks_of c given) (marks_of c v.leaving) (marks_parked c v.settled.queues)) ∙ ap (λ ms. ms ++ marks_parked c v.settled.queues) (sym (marks_of-append c given v.leaving)) in
    let told : (n : ℕ) → Told life (come_of peer taken) (is_open c v.settled.queues) (in_lane slots n (marks_in c taken)) (in_lane slots n (marks_of c given ++ held c v)) = λ n. subst (λ (f : ℕ → ℕ). Told life (come_of peer taken) (is_open c v.settled.queues) (in_lane f n (marks_in c taken)) (in_lane f n (marks_of c given ++ held c v))) (family_own me peer taken life slots) (subst (λ (ms : List Mark). Told life (come_of peer taken) (is_open c v.settled.queues) (in_lane (slots' life) n (marks_in c taken)) (in_lane (slots' life) n ms)) (sym line) (here.told n life)) in
    record {
      whole = λ n. whole_of (in_lane slots n (marks_in c taken)) _ (told n).whole;
      ends = λ n. (told n).ends;
      messages = (all_left (HasItsMessage c (messages_in c taken)) given v.leaving (all_weaker (HasCause start taken) (HasItsMessage c (messages_in c taken)) (given ++ v.leaving) (λ r k. has_message start taken c (messages_in c taken) (numbered_of me peer taken life (shape link peer at)) r k) here.sound.causes)).0;
    }
  where
    whole_of : (sent line : List Mark) → (line ≡ sent) ⊎ IsCutHere sent line → IsWhole sent line
    whole_of sent line (inl e) = inl e
    whole_of sent line (inr k) = inr (record { front = k.front; rest = k.rest; later = []; sent_is = k.sent_is; line_is = k.line_is })
