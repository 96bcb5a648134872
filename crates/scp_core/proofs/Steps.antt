-- One step more.
use Rattle.std.proofs.Common.{◌≡◌, ◌≢◌, ℕ, ◌+◌, Bool, true, false, cond, List, [], ◌∷◌, ◌++◌, refl, sym, ◌∙◌, ap, subst, arith, append_assoc, length, length-append, take, drop, inl, inr}
use Rattle.std.specs.Prelude.{Option, Some, None, slice_get, slice_set, option_to_list}
use Rattle.std.proofs.lemmas.List.{append-nil, length-set, take-append-drop}
use Rattle.scp_theorem.specs.scp_pending.specs.Passes.{Passes}
use Rattle.std.proofs.lemmas.List.Elements.{filter-append}
use Rattle.std.proofs.lemmas.Cmp.{nat_list_eq_equiv}
use Rattle.scp_theorem.specs.scp_driver.specs.Driver.{Says}
use Rattle.scp_theorem.specs.scp_types.specs.declared.names.NodeId.{NodeId}
use Rattle.scp_theorem.specs.scp_wire.specs.declared.link.LinkItem.{LinkItem}
use Rattle.scp_theorem.specs.scp_wire.specs.declared.link.LinkItem.TheVariants as item
use Rattle.scp_theorem.specs.scp_wire.specs.declared.link.Inbound.{Inbound}
use Rattle.scp_theorem.specs.scp_wire.specs.declared.link.Inbound.TheVariants as inbound
use Rattle.scp_theorem.specs.scp_wire.specs.LinkReading.{reading, readings, after}
use Rattle.scp_theorem.specs.scp_wire.specs.Connections.{conn_at, same_node}
use Rattle.scp_theorem.specs.scp_wire.specs.Shape.{Tail, goes, MayGo, Come, comes, AreInOrder, nothing_came, of_peer, is_from}
use Rattle.scp_theorem.specs.scp_pending.specs.declared.ready.Ready.{Ready}
use Rattle.scp_theorem.specs.scp_pending.specs.Pends.{Pends}
use Rattle.scp_theorem.specs.scp_pending.specs.Rules.{PendingView, taken_in}
use Rattle.scp_theorem.specs.scp_ledger.specs.declared.took.Took.{Took}
use Rattle.scp_theorem.specs.scp_ledger.specs.Ledger.{IsLedger}
use Rattle.scp_theorem.specs.scp_wire.specs.declared.message.Message.{Message}
use Rattle.scp_theorem.specs.scp_apply.specs.Applier.{ApplierView, IsApplier, IsRunning}
use Rattle.scp_theorem.specs.scp_apply.specs.Applier.{Takes as ApplierTakes}
use Rattle.scp_theorem.specs.scp_ledger.specs.declared.took.Onward.{Onward}
use Rattle.scp_theorem.proofs.Basics.{there_is, peer_is}
use Rattle.scp_theorem.proofs.Places.{same_node-is}
use Rattle.scp_core.specs.declared.event.Event.{Event}
use Rattle.scp_core.specs.declared.event.Event.TheVariants.{Open, Send, Close, Local, ReaderTake, ReaderPut, PendTake, PendPut, SlotTake, SlotPut, ApplyTake, Drain}
use Rattle.scp_core.proofs.Deciding.{journals_step, applies_step, first_stays}
use Rattle.scp_core.proofs.StageLaws.{StepLaws}
use Rattle.scp_core.specs.History.{OnLink, Past, accepts, moves, tail_of, readings_of, changed, peer_at}
use Rattle.scp_theorem.specs.scp_ledger.specs.Seen.{LedgerView}
use Rattle.scp_theorem.specs.scp_ledger.specs.By.{TakesBy, RunsBy}
use Rattle.scp_theorem.specs.scp_outbox.specs.Outbox.{OutboxView}
use Rattle.scp_core.specs.Node.{SendsOut, LinkView, NodeView, with_link, said_in, Accepts, Moves}
use Rattle.scp_core.specs.Flow.{LinkFlows, Flows}
use Rattle.scp_core.proofs.Queues.{way-fill, way-put, way-take, get_set, at_changed, within}
use Rattle.scp_theorem.proofs.Coming.{from_one}
use Rattle.scp_core.proofs.Links.{link-put, put_same, link-take, link-give, give_more, hand_cut, in_order, more}

-- ---- which link an item is of

from_is : (peer me q : NodeId) (h : Come) (xs : List Inbound) (x : Inbound) (rest : List Inbound) → AreInOrder peer me h (xs ++ x ∷ rest) → is_from q x ≡ same_node peer q
from_is peer me q h [] x rest a = from_one peer me q h x a.0
from_is peer me q h (y ∷ ys) x rest a = from_is peer me q (comes h y) ys x rest a.1

pub same_node-refl : (p : NodeId) → same_node p p ≡ true
same_node-refl p = nat_list_eq_equiv.refl p.0

not_same : (p q : NodeId) → p ≢ q → same_node p q ≡ false
not_same p q ne = by_test (same_node p q) refl
  where
    by_test : (b : Bool) → same_node p q ≡ b → b ≡ false
    by_test true e = absurd (ne (same_node-is p q e))
    by_test false e = refl

of_peer-push : (q : NodeId) (xs : List Inbound) (x : Inbound) (b : Bool) → is_from q x ≡ b → of_peer q (xs ++ x ∷ []) ≡ of_peer q xs ++ cond b (x ∷ []) []
of_peer-push q xs x b e = filter-append (is_from q) xs (x ∷ []) ∙ ap (λ (t : Bool). of_peer q xs ++ cond t (x ∷ []) []) e

-- ---- a link changes

-- what holds of each link of a node
abbrev AllLinks : NodeId → List NodeId → ℕ → (ℕ → OnLink) → List LinkView → Type 0
AllLinks me peers room on links = (l : ℕ) → (k : LinkView) → slice_get links l ≡ Some k → (peer : NodeId) → slice_get peers l ≡ Some peer → LinkFlows me peer room (on l) k

links-set : (me : NodeId) (peers : List NodeId) (room : ℕ) (on : ℕ → OnLink) (links : List LinkView) (l : ℕ) (o : OnLink) (k : LinkView) → ((peer : NodeId) → slice_get peers l ≡ Some peer → LinkFlows me peer room o k) → AllLinks me peers room on links → AllLinks me peers room (changed on l o) (slice_set links l k)
links-set me peers room on links l o k new all m z at peer there = elim (get_set links l k m z at) [
  | inl h ↦ at_changed (λ (x : OnLink). LinkFlows me peer room x z) on l o m (λ e. subst (λ (w : LinkView). LinkFlows me peer room o w) h.1 (new peer (subst (λ n. slice_get peers n ≡ Some peer) e there))) (λ ne. absurd (ne h.0))
  | inr h ↦ at_changed (λ (x : OnLink). LinkFlows me peer room x z) on l o m (λ e. absurd (h.0 e)) (λ _. all m z h.1 peer there)
]

module _ {D : Type 0} (says : Says D) where
  pub Flows-failed : (p : Past) (v : NodeView D) → Flows says p v → Flows says (record p { failed = true }) v
  Flows-failed p v f = record {
    runs = f.runs;
    whole = f.whole;
    rooms = f.rooms;
    count = f.count;
    apart = f.apart;
    links = f.links;
    came = f.came;
    local = f.local;
    arrived = f.arrived;
    inbox = f.inbox;
    given = f.given;
    pending = f.pending;
    took = f.took;
    ready = f.ready;
    onwards = f.onwards;
    journal = f.journal;
    applied = f.applied;
    decided = f.decided;
    applier = f.applier;
    first = f.first;
    ready_count = f.ready_count;
    decided_count = f.decided_count;
  }

  -- one link changes, and nothing is put into the inbox
  on-link : (p : Past) (v : NodeView D) (l : ℕ) (k : LinkView) (o2 : OnLink) (k2 : LinkView) → slice_get v.links l ≡ Some k
      → ((peer : NodeId) → slice_get v.config.peers l ≡ Some peer → LinkFlows v.config.me peer v.config.capacities.link (p.links l) k → LinkFlows v.config.me peer v.config.capacities.link o2 k2)
      → ((peer : NodeId) → slice_get v.config.peers l ≡ Some peer → LinkFlows v.config.me peer v.config.capacities.link (p.links l) k → take o2.given (readings_of o2) ≡ take (p.links l).given (readings_of (p.links l)))
      → Flows says p v → Flows says (record p { links = changed p.links l o2 }) (with_link v l k2)
  on-link p v l k o2 k2 there new same f = record {
    runs = f.runs;
    whole = f.whole;
    rooms = f.rooms;
    count = length-set v.links l k2 ∙ f.count;
    apart = f.apart;
    links = links-set v.config.me v.config.peers v.config.capacities.link p.links v.links l o2 k2 (λ peer at. new peer at (f.links l k there peer at)) f.links;
    came = λ m peer at. at_changed (λ (x : OnLink). of_peer peer p.came ≡ take x.given (readings_of x)) p.links l o2 m
        (λ e. let at2 : slice_get v.config.peers l ≡ Some peer = subst (λ n. slice_get v.config.peers n ≡ Some peer) e at in f.came l peer at2 ∙ sym (same peer at2 (f.links l k there peer at2)))
        (λ _. f.came m peer at);
    local = f.local;
    arrived = f.arrived;
    inbox = f.inbox;
    given = f.given;
    pending = f.pending;
    took = f.took;
    ready = f.ready;
    onwards = f.onwards;
    journal = f.journal;
    applied = f.applied;
    decided = f.decided;
    applier = f.applier;
    first = f.first;
    ready_count = f.ready_count;
    decided_count = f.decided_count;
  }

  module _ (laws : StepLaws says) where
    -- an item more at the tail of a link
    tail-put : (p : Past) (v : NodeView D) (l : ℕ) (k : LinkView) (x : LinkItem) (k2 : LinkView) → slice_get v.links l ≡ Some k
        → ((peer : NodeId) → slice_get v.config.peers l ≡ Some peer → tail_of (p.links l) ≡ record { life = k.life; is_open = k.is_open } → MayGo peer v.config.me (tail_of (p.links l)) x)
        → (tail_of (p.links l) ≡ record { life = k.life; is_open = k.is_open } → goes (tail_of (p.links l)) x ≡ record { life = k2.life; is_open = k2.is_open })
        → k2.queue ≡ k.queue ++ x ∷ [] → k2.room ≡ k.room → k2.reader ≡ k.reader → k2.hand ≡ k.hand
        → Flows says p v → Flows says (record p { links = changed p.links l (more (p.links l) x) }) (with_link v l k2)
    tail-put p v l k x k2 there may tail queue room reader hand f =
        on-link p v l k (more (p.links l) x) k2 there
        (λ peer at g. link-put laws.read v.config.me peer v.config.capacities.link (p.links l) k x k2 (may peer at g.tail) (tail g.tail) queue room reader hand g)
        (λ peer at g. put_same laws.read v.config.me peer v.config.capacities.link (p.links l) k x g)
        f

    -- the tail of a link that is there
    the_tail : (p : Past) (v : NodeView D) (l : ℕ) (k : LinkView) → Flows says p v → slice_get v.links l ≡ Some k → tail_of (p.links l) ≡ record { life = k.life; is_open = k.is_open }
    the_tail p v l k f there = let peer = there_is v.config.peers l (rw (← f.count) (within v.links l k there)) in (f.links l k there peer.0 peer.1).tail

    -- ---- accepted events

    life_is : (t : Tail) (life : ℕ) (is_open : Bool) → t ≡ record { life = life; is_open = is_open } → life ≡ t.life
    life_is t life is_open e = sym (ap (λ (u : Tail). u.life) e)

    Flows-open : (p : Past) (v : NodeView D) (l : ℕ) (k : LinkView) → slice_get v.links l ≡ Some k → k.is_open ≡ false → Flows says p v → Flows says (accepts v.config p (Open l)) (with_link v l (record k { life = k.life + 1; is_open = true; queue = k.queue ++ item.Opened (conn_at (peer_at v.config l) v.config.me (k.life + 1)) ∷ [] }))
    Flows-open p v l k there shut f =
        let o = p.links l in
        let t = the_tail p v l k f there in
        tail-put p v l k (item.Opened (conn_at (peer_at v.config l) v.config.me ((tail_of o).life + 1))) _ there
        (λ peer at t. (ap (λ (u : Tail). u.is_open) t ∙ shut, ap (λ (q : NodeId). conn_at q v.config.me ((tail_of o).life + 1)) (peer_is v.config.peers l v.config.me peer at)))
        (λ t. ap (λ (u : Tail). record { life = u.life + 1; is_open = true }) t)
        (ap (λ n. k.queue ++ item.Opened (conn_at (peer_at v.config l) v.config.me (n + 1)) ∷ []) (life_is (tail_of o) k.life k.is_open t)) refl refl refl f

    Flows-send : (p : Past) (v : NodeView D) (l : ℕ) (bytes : List ℕ) (k : LinkView) → slice_get v.links l ≡ Some k → k.is_open ≡ true → Flows says p v → Flows says (accepts v.config p (Send l bytes)) (with_link v l (record k { queue = k.queue ++ item.Bytes (conn_at (peer_at v.config l) v.config.me k.life) bytes ∷ [] }))
    Flows-send p v l bytes k there open' f =
        let o = p.links l in
        let t = the_tail p v l k f there in
        tail-put p v l k (item.Bytes (conn_at (peer_at v.config l) v.config.me (tail_of o).life) bytes) _ there
        (λ peer at t. (ap (λ (u : Tail). u.is_open) t ∙ open', ap (λ (q : NodeId). conn_at q v.config.me (tail_of o).life) (peer_is v.config.peers l v.config.me peer at)))
        (λ t. t)
        (ap (λ n. k.queue ++ item.Bytes (conn_at (peer_at v.config l) v.config.me n) bytes ∷ []) (life_is (tail_of o) k.life k.is_open t)) refl refl refl f

    Flows-close : (p : Past) (v : NodeView D) (l : ℕ) (k : LinkView) → slice_get v.links l ≡ Some k → k.is_open ≡ true → Flows says p v → Flows says (accepts v.config p (Close l)) (with_link v l (record k { is_open = false; queue = k.queue ++ item.Closed (conn_at (peer_at v.config l) v.config.me k.life) ∷ [] }))
    Flows-close p v l k there open' f =
        let o = p.links l in
        let t = the_tail p v l k f there in
        tail-put p v l k (item.Closed (conn_at (peer_at v.config l) v.config.me (tail_of o).life)) _ there
        (λ peer at t. (ap (λ (u : Tail). u.is_open) t ∙ open', ap (λ (q : NodeId). conn_at q v.config.me (tail_of o).life) (peer_is v.config.peers l v.config.me peer at)))
        (λ t. ap (λ (u : Tail). record { life = u.life; is_open = false }) t)
        (ap (λ n. k.queue ++ item.Closed (conn_at (peer_at v.config l) v.config.me n) ∷ []) (life_is (tail_of o) k.life k.is_open t)) refl refl refl f

    Flows-local : (p : Past) (v : NodeView D) (x : Inbound) → ((peer : NodeId) → is_from peer x ≡ false) → Flows says p v → Flows says (record p { came = p.came ++ x ∷ [] }) (record v { inbox = v.inbox ++ x ∷ [] })
    Flows-local p v x none f = record {
      runs = f.runs;
      whole = f.whole;
      rooms = f.rooms;
      count = f.count;
      apart = f.apart;
      links = f.links;
      came = λ m peer at. of_peer-push peer p.came x false (none peer) ∙ append-nil (of_peer peer p.came) ∙ f.came m peer at;
      local = f.local;
      arrived = f.arrived;
      inbox = ap (λ xs. xs ++ x ∷ []) f.inbox ∙ append_assoc f.arrived v.inbox (x ∷ []);
      given = f.given;
      pending = f.pending;
      took = f.took;
      ready = f.ready;
      onwards = f.onwards;
      journal = f.journal;
      applied = f.applied;
      decided = f.decided;
      applier = f.applier;
      first = f.first;
      ready_count = f.ready_count;
      decided_count = f.decided_count;
    }

    pub Flows-accepts : (p : Past) (old new : NodeView D) (event : Event) → Accepts old event new → Flows says p old → Flows says (accepts old.config p event) new
    Flows-accepts p old new (Open l) a f = subst (λ (v : NodeView D). Flows says (accepts old.config p (Open l)) v) (sym a.2.3) (Flows-open p old l a.0 a.1 a.2.0 f)
    Flows-accepts p old new (Send l bytes) a f = subst (λ (v : NodeView D). Flows says (accepts old.config p (Send l bytes)) v) (sym a.2.2) (Flows-send p old l bytes a.0 a.1 a.2.0 f)
    Flows-accepts p old new (Close l) a f = subst (λ (v : NodeView D). Flows says (accepts old.config p (Close l)) v) (sym a.2.2) (Flows-close p old l a.0 a.1 a.2.0 f)
    Flows-accepts p old new (Local command) a f = subst (λ (v : NodeView D). Flows says (accepts old.config p (Local command)) v) (sym a.2) (Flows-local p old (inbound.Local command) (λ peer. refl) f)
    Flows-accepts p old new event a f = absurd a

    -- ---- outboxes

    -- nothing of this is said of the outboxes
    pub Flows-outboxes : (p : Past) (v : NodeView D) (boxes : List OutboxView) → Flows says p v → Flows says p (record v { outboxes = boxes })
    Flows-outboxes p v boxes f = record {
      runs = f.runs;
      whole = f.whole;
      rooms = f.rooms;
      count = f.count;
      apart = f.apart;
      links = f.links;
      came = f.came;
      local = f.local;
      arrived = f.arrived;
      inbox = f.inbox;
      given = f.given;
      pending = f.pending;
      took = f.took;
      ready = f.ready;
      onwards = f.onwards;
      journal = f.journal;
      applied = f.applied;
      decided = f.decided;
      applier = f.applier;
      first = f.first;
      ready_count = f.ready_count;
      decided_count = f.decided_count;
    }

    -- ---- moves

    Flows-reader-take : (p : Past) (v : NodeView D) (l : ℕ) (k : LinkView) (x : LinkItem) (rest : List LinkItem) → slice_get v.links l ≡ Some k → k.hand ≡ [] → k.queue ≡ x ∷ rest → Flows says p v → Flows says (moves p (ReaderTake l)) (with_link v l (record k { queue = rest; reader = after k.reader x; hand = reading k.reader x }))
    Flows-reader-take p v l k x rest there empty queue f =
        on-link p v l k (record (p.links l) { taken = (p.links l).taken + 1 }) _ there
        (λ peer at g. link-take laws.read v.config.me peer v.config.capacities.link (p.links l) k x rest empty queue g)
        (λ peer at g. refl)
        f

    -- the first in the hand brings one reading more
    Flows-reader-put : (p : Past) (v : NodeView D) (l : ℕ) (k : LinkView) (x : Inbound) (xs : List Inbound) → slice_get v.links l ≡ Some k → k.hand ≡ x ∷ xs → Flows says p v → Flows says (moves p (ReaderPut l)) (record v { links = slice_set v.links l (record k { hand = xs }); inbox = v.inbox ++ x ∷ [] })
    Flows-reader-put p v l k x xs there some f =
        let o = p.links l in
        let o2 = record o { given = o.given + 1 } in
        let at_l = there_is v.config.peers l (rw (← f.count) (within v.links l k there)) in
        let g = f.links l k there at_l.0 at_l.1 in
        let next : take 1 (drop o.given (readings_of o)) ≡ x ∷ [] = ap (take 1) (hand_cut laws.read v.config.me at_l.0 v.config.capacities.link o k x xs some g) in
        let whole' : readings_of o ≡ take o.given (readings_of o) ++ x ∷ (xs ++ readings k.reader k.queue) = sym (take-append-drop o.given (readings_of o)) ∙ ap (λ ys. take o.given (readings_of o) ++ ys) (hand_cut laws.read v.config.me at_l.0 v.config.capacities.link o k x xs some g) in
        let from : (q : NodeId) → is_from q x ≡ same_node at_l.0 q = λ q. from_is at_l.0 v.config.me q nothing_came (take o.given (readings_of o)) x (xs ++ readings k.reader k.queue) (subst (λ (ys : List Inbound). AreInOrder at_l.0 v.config.me nothing_came ys) whole' (in_order laws.read v.config.me at_l.0 v.config.capacities.link o k g)) in
        let came' : (m : ℕ) → (peer : NodeId) → slice_get v.config.peers m ≡ Some peer → of_peer peer (p.came ++ x ∷ []) ≡ take (changed p.links l o2 m).given (readings_of (changed p.links l o2 m)) = λ m peer at.
        at_changed (λ (y : OnLink). of_peer peer (p.came ++ x ∷ []) ≡ take y.given (readings_of y)) p.links l o2 m
        (λ e.
        let at2 : slice_get v.config.peers l ≡ Some peer = subst (λ n. slice_get v.config.peers n ≡ Some peer) e at in
        let same : at_l.0 ≡ peer = some_is at_l.0 peer (sym at_l.1 ∙ at2) in
        of_peer-push peer p.came x true (from peer ∙ ap (λ (q : NodeId). same_node q peer) same ∙ same_node-refl peer) ∙ ap (λ ys. ys ++ x ∷ []) (f.came l peer at2) ∙ sym (give_more laws.read v.config.me at_l.0 v.config.capacities.link o k x xs some g))
        (λ ne.
        let other : at_l.0 ≢ peer = λ e. ne (f.apart m l peer at (at_l.1 ∙ ap (λ (q : NodeId). Some q) e)) in
        of_peer-push peer p.came x false (from peer ∙ not_same at_l.0 peer other) ∙ append-nil (of_peer peer p.came) ∙ f.came m peer at) in
        record {
          runs = f.runs;
          whole = f.whole;
          rooms = f.rooms;
          count = length-set v.links l (record k { hand = xs }) ∙ f.count;
          apart = f.apart;
          links = links-set v.config.me v.config.peers v.config.capacities.link p.links v.links l o2 (record k { hand = xs }) (λ peer at. link-give laws.read v.config.me peer v.config.capacities.link o k x xs some (f.links l k there peer at)) f.links;
          came = λ m peer at. rw next (came' m peer at);
          local = f.local;
          arrived = f.arrived;
          inbox = rw next (ap (λ ys. ys ++ x ∷ []) f.inbox ∙ append_assoc f.arrived v.inbox (x ∷ []));
          given = f.given;
          pending = f.pending;
          took = f.took;
          ready = f.ready;
          onwards = f.onwards;
          journal = f.journal;
          applied = f.applied;
          decided = f.decided;
          applier = f.applier;
          first = f.first;
          ready_count = f.ready_count;
          decided_count = f.decided_count;
        }
      where
        some_is : (a b : NodeId) → Some a ≡ Some b → a ≡ b
        some_is a b e = cc

    Flows-brings : (p : Past) (v : NodeView D) (thing : Ready) (after' : PendingView) → v.pend_hand ≡ None → ((me : NodeId) → (peers : List NodeId) → Passes (Pends me peers) [] (thing ∷ []) v.pending after') → after' ≡ record v.pending { leaving = after'.leaving } → Flows says p v → Flows says p (record v { pending = after'; pend_hand = Some thing })
    Flows-brings p v thing after' empty passes same f = record {
      runs = f.runs;
      whole = f.whole;
      rooms = f.rooms;
      count = f.count;
      apart = f.apart;
      links = f.links;
      came = f.came;
      local = ap (λ (w : PendingView). w.settled.store.local) same ∙ f.local;
      arrived = f.arrived;
      inbox = f.inbox;
      given = f.given ++ thing ∷ [];
      pending = subst (λ (xs : List Inbound). Pends v.config.me v.config.peers xs (f.given ++ thing ∷ []) after') (append-nil f.arrived) (passes v.config.me v.config.peers f.arrived f.given f.pending);
      took = f.took;
      ready = way-fill f.given f.took v.ready v.pend_hand (Some thing) empty f.ready;
      onwards = f.onwards;
      journal = f.journal;
      applied = f.applied;
      decided = f.decided;
      applier = f.applier;
      first = f.first;
      ready_count = f.ready_count;
      decided_count = f.decided_count;
    }

    Flows-pend-take : (p : Past) (v : NodeView D) (x : Inbound) (rest : List Inbound) (between after' : PendingView) (thing : Option Ready) → v.pend_hand ≡ None → v.inbox ≡ x ∷ rest → between ≡ taken_in v.pending x → after' ≡ record between { leaving = after'.leaving } → ((me : NodeId) → (peers : List NodeId) → Passes (Pends me peers) (x ∷ []) [] v.pending between) → ((me : NodeId) → (peers : List NodeId) → Passes (Pends me peers) [] (option_to_list thing) between after') → Flows says p v → Flows says p (record v { inbox = rest; pending = after'; pend_hand = thing })
    Flows-pend-take p v x rest between after' thing empty inbox by_rules same takes gives f =
        let local : after'.settled.store.local ≡ v.config.set = ap (λ (w : PendingView). w.settled.store.local) same ∙ ap (λ (w : PendingView). w.settled.store.local) by_rules ∙ (laws.stays v.pending.settled (x ∷ [])).local ∙ f.local in
        let one : Pends v.config.me v.config.peers (f.arrived ++ x ∷ []) f.given between = subst (λ (ys : List Ready). Pends v.config.me v.config.peers (f.arrived ++ x ∷ []) ys between) (append-nil f.given) (takes v.config.me v.config.peers f.arrived f.given f.pending) in
        record {
          runs = f.runs;
          whole = f.whole;
          rooms = f.rooms;
          count = f.count;
          apart = f.apart;
          links = f.links;
          came = f.came;
          local = local;
          arrived = f.arrived ++ x ∷ [];
          inbox = f.inbox ∙ ap (λ xs. f.arrived ++ xs) inbox ∙ sym (append_assoc f.arrived (x ∷ []) rest);
          given = f.given ++ option_to_list thing;
          pending = subst (λ (xs : List Inbound). Pends v.config.me v.config.peers xs (f.given ++ option_to_list thing) after') (append-nil (f.arrived ++ x ∷ [])) (gives v.config.me v.config.peers (f.arrived ++ x ∷ []) f.given one);
          took = f.took;
          ready = way-fill f.given f.took v.ready v.pend_hand thing empty f.ready;
          onwards = f.onwards;
          journal = f.journal;
          applied = f.applied;
          decided = f.decided;
          applier = f.applier;
          first = f.first;
          ready_count = f.ready_count;
          decided_count = f.decided_count;
        }

    Flows-pend-put : (p : Past) (v : NodeView D) (x : Ready) → v.pend_hand ≡ Some x → Flows says p v → Flows says (moves p PendPut) (record v { pend_hand = None; ready = v.ready ++ x ∷ [] })
    Flows-pend-put p v x some f = record {
      runs = f.runs;
      whole = f.whole;
      rooms = f.rooms;
      count = f.count;
      apart = f.apart;
      links = f.links;
      came = f.came;
      local = f.local;
      arrived = f.arrived;
      inbox = f.inbox;
      given = f.given;
      pending = f.pending;
      took = f.took;
      ready = way-put f.given f.took v.ready v.pend_hand x some f.ready;
      onwards = f.onwards;
      journal = f.journal;
      applied = f.applied;
      decided = f.decided;
      applier = f.applier;
      first = f.first;
      ready_count = omega (arith, f.ready_count, length-append v.ready (x ∷ []));
      decided_count = f.decided_count;
    }

    Flows-slot-take : (p : Past) (v : NodeView D) (x : Ready) (rest : List Ready) (after' : LedgerView D) (took : Took) → v.slot_hand ≡ None → v.ready ≡ x ∷ rest → TakesBy says v.ledger x took after' → IsLedger after' → RunsBy says after' → Flows says p v → Flows says (moves p SlotTake) (record v { ready = rest; ledger = after'; slot_hand = took.onward; last_command = took.command; last_said = said_in took.outgoing })
    Flows-slot-take p v x rest after' took empty queue takes known running f = record {
      runs = f.runs;
      whole = f.whole;
      rooms = f.rooms;
      count = f.count;
      apart = f.apart;
      links = f.links;
      came = f.came;
      local = f.local;
      arrived = f.arrived;
      inbox = f.inbox;
      given = f.given;
      pending = f.pending;
      took = f.took ++ x ∷ [];
      ready = way-take f.given f.took v.ready rest v.pend_hand x queue f.ready;
      onwards = f.onwards ++ option_to_list took.onward;
      journal = journals_step says laws.journals v.config.me v.config.set v.config.peers f.took f.onwards v.ledger x took after' takes known running f.journal;
      applied = f.applied;
      decided = way-fill f.onwards f.applied v.decided v.slot_hand took.onward empty f.decided;
      applier = f.applier;
      first = f.first ∙ sym (laws.grows v.ledger x took after' takes).first;
      ready_count = omega (arith, f.ready_count, ap length queue);
      decided_count = f.decided_count;
    }

    Flows-slot-put : (p : Past) (v : NodeView D) (x : Onward) → v.slot_hand ≡ Some x → Flows says p v → Flows says (moves p SlotPut) (record v { slot_hand = None; decided = v.decided ++ x ∷ [] })
    Flows-slot-put p v x some f = record {
      runs = f.runs;
      whole = f.whole;
      rooms = f.rooms;
      count = f.count;
      apart = f.apart;
      links = f.links;
      came = f.came;
      local = f.local;
      arrived = f.arrived;
      inbox = f.inbox;
      given = f.given;
      pending = f.pending;
      took = f.took;
      ready = f.ready;
      onwards = f.onwards;
      journal = f.journal;
      applied = f.applied;
      decided = way-put f.onwards f.applied v.decided v.slot_hand x some f.decided;
      applier = f.applier;
      first = f.first;
      ready_count = f.ready_count;
      decided_count = omega (arith, f.decided_count, length-append v.decided (x ∷ []));
    }

    Flows-apply-take : (p : Past) (v : NodeView D) (x : Onward) (rest : List Onward) (after' : ApplierView) (answer : Option (ℕ × Message)) → v.decided ≡ x ∷ rest → ApplierTakes v.applier x answer after' → IsApplier after' → IsRunning after' → Flows says p v → Flows says (moves p ApplyTake) (record v { decided = rest; applier = after' })
    Flows-apply-take p v x rest after' answer queue takes known running f = record {
      runs = f.runs;
      whole = f.whole;
      rooms = f.rooms;
      count = f.count;
      apart = f.apart;
      links = f.links;
      came = f.came;
      local = f.local;
      arrived = f.arrived;
      inbox = f.inbox;
      given = f.given;
      pending = f.pending;
      took = f.took;
      ready = f.ready;
      onwards = f.onwards;
      journal = f.journal;
      applied = f.applied ++ x ∷ [];
      decided = way-take f.onwards f.applied v.decided rest v.slot_hand x queue f.decided;
      applier = applies_step laws.applies f.applied v.applier x answer after' takes known running f.applier;
      first = first_stays v.applier x answer after' takes ∙ f.first;
      ready_count = f.ready_count;
      decided_count = omega (arith, f.decided_count, ap length queue);
    }

    pub Flows-moves : (p : Past) (old new : NodeView D) (event : Event) → Moves says old event new → Flows says p old → Flows says (moves p event) new
    Flows-moves p old new (ReaderTake l) a f = subst (λ (v : NodeView D). Flows says (moves p (ReaderTake l)) v) (sym a.2.4) (Flows-reader-take p old l a.0 a.2.1 a.2.2 a.1 a.2.0 a.2.3 f)
    Flows-moves p old new (ReaderPut l) a f = subst (λ (v : NodeView D). Flows says (moves p (ReaderPut l)) v) (sym a.2.4) (Flows-reader-put p old l a.0 a.2.1 a.2.2 a.1 a.2.3 f)
    Flows-moves p old new PendTake a f = elim a.1 [
      | inl b ↦ subst (λ (v : NodeView D). Flows says p v) (sym b.is) (Flows-brings p old b.thing b.after' a.0 b.passes b.same f)
      | inr b ↦ subst (λ (v : NodeView D). Flows says p v) (sym b.is) (Flows-outboxes p (record old { inbox = b.rest; pending = b.after'; pend_hand = b.thing }) new.outboxes (Flows-pend-take p old b.x b.rest b.between b.after' b.thing a.0 b.inbox b.rules b.same b.takes b.gives f))
    ]
    Flows-moves p old new PendPut a f = subst (λ (v : NodeView D). Flows says (moves p PendPut) v) (sym a.3) (Flows-pend-put p old a.1 a.2 f)
    Flows-moves p old new SlotTake a f = let b = a.1 in subst (λ (v : NodeView D). Flows says (moves p SlotTake) v) (sym b.is) (Flows-outboxes (moves p SlotTake) (record old { ready = b.rest; ledger = b.after'; slot_hand = b.took.onward; last_command = b.took.command; last_said = said_in b.took.outgoing }) new.outboxes (Flows-slot-take p old b.x b.rest b.after' b.took a.0 b.ready b.takes b.known b.running f))
    Flows-moves p old new SlotPut a f = subst (λ (v : NodeView D). Flows says (moves p SlotPut) v) (sym a.3) (Flows-slot-put p old a.1 a.2 f)
    Flows-moves p old new ApplyTake b f = subst (λ (v : NodeView D). Flows says (moves p ApplyTake) v) (sym b.is) (Flows-outboxes (moves p ApplyTake) (record old { decided = b.rest; applier = b.after' }) new.outboxes (Flows-apply-take p old b.x b.rest b.after' b.answer b.decided b.takes b.known b.running f))
    Flows-moves p old new event a f = absurd a

    -- ---- drains

    pub Flows-sends : (p : Past) (old new : NodeView D) (event : Event) (bytes : List ℕ) → SendsOut old event bytes new → Flows says p old → Flows says p new
    Flows-sends p old new (Drain l) bytes d f = subst (λ (v : NodeView D). Flows says p v) (sym d.is) (Flows-outboxes p old new.outboxes f)
    Flows-sends p old new event bytes d f = absurd d
