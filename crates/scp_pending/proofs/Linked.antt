-- Each queue is of a connection of a peer's link.
use Rattle.std.proofs.Common.{◌≡◌, ℕ, zero, suc, Bool, true, false, not, List, [], ◌∷◌, refl, sym, ◌∙◌, ap, subst}
use Rattle.std.specs.Prelude.{◌||◌, Some, is_some, slice_get}
use Rattle.std.specs.List.{list_any}
use Rattle.scp_wire.specs.scp_types.specs.declared.names.ConnId.{ConnId}
use Rattle.scp_wire.specs.scp_types.specs.declared.names.NodeId.{NodeId}
use Rattle.scp_wire.specs.declared.link.Inbound.{Inbound}
use Rattle.scp_wire.specs.Connections.{conn_at, same_node}
use Rattle.scp_pending.specs.declared.ready.Ready.{Ready}
use Rattle.scp_pending.specs.Queues.{is_link_open}
use Rattle.scp_pending.specs.Rules.{Settled, PendingView, link_of, opens, rules, settled_by}
use Rattle.scp_pending.specs.Pends.{Pends, start_of}
use Rattle.scp_pending.proofs.Basics.{same_node-true}
use Rattle.scp_pending.proofs.Following.{AllConns, conns_step, frame_step}
use Rattle.scp_pending.proofs.Strangers.{first, second, there_is_one}

pub record IsLinked (me : NodeId) (peers : List NodeId) (c : ConnId) : Type 0 where
  pub link : ℕ
  pub from : slice_get peers link ≡ Some c.from
  pub to : c.to ≡ me

pub linked_is : (me : NodeId) (c : ConnId) → c.to ≡ me → c ≡ conn_at c.from me c.life
linked_is me c to = ap (λ (n : NodeId). conn_of n) to
  where
    conn_of : NodeId → ConnId
    conn_of n = record { from = c.from; to = n; life = c.life }

-- ---- the node and its peers stay

frame_all : (P : NodeId → List NodeId → Type 0) (s : Settled) (items : List Inbound) → P s.me s.peers → P (settled_by s items).me (settled_by s items).peers
frame_all P s [] k = k
frame_all P s (item ∷ items) k = frame_all P (rules s item) items (frame_step P s item k)

pub its_node : (me : NodeId) (peers : List NodeId) (taken : List Inbound) (given : List Ready) (v : PendingView) → Pends me peers taken given v → (v.settled.me ≡ me) × (v.settled.peers ≡ peers)
its_node me peers taken given v p = subst (λ (s : Settled). (s.me ≡ me) × (s.peers ≡ peers)) (sym p.settled) (frame_all (λ n ps. (n ≡ me) × (ps ≡ peers)) (start_of me peers v) taken (refl, refl))

-- ---- a connection that opens

link_among : (node : NodeId) (peers : List NodeId) → list_any (λ peer. same_node peer node) peers ≡ true → (link : ℕ) × (slice_get peers link ≡ Some node)
link_among node [] e = absurd cc
link_among node (p ∷ ps) e = by_test (same_node p node) refl e (link_among node ps)
  where
    by_test : (b : Bool) → same_node p node ≡ b → (b || list_any (λ peer. same_node peer node) ps) ≡ true → (list_any (λ peer. same_node peer node) ps ≡ true → (link : ℕ) × (slice_get ps link ≡ Some node)) → (link : ℕ) × (slice_get (p ∷ ps) link ≡ Some node)
    by_test true k h rest = (zero, ap (λ (n : NodeId). Some n) (same_node-true p node k))
    by_test false k h rest = let r = rest h in (suc r.0, r.1)

new_linked : (me : NodeId) (peers : List NodeId) (s : Settled) (d : ConnId) → s.me ≡ me → s.peers ≡ peers → opens d s ≡ true → IsLinked me peers d
new_linked me peers s d m q e =
    let found = link_among d.from s.peers (there_is_one (λ peer. same_node peer d.from) s.peers (first (is_some (link_of d.from s)) (same_node d.to s.me) (not (is_link_open d.from s.queues)) e)) in
    record {
      link = found.0;
      from = ap (λ (ps : List NodeId). slice_get ps found.0) (sym q) ∙ found.1;
      to = same_node-true d.to s.me (second (is_some (link_of d.from s)) (same_node d.to s.me) (not (is_link_open d.from s.queues)) e) ∙ m;
    }

-- ---- along a list of takes

linked_along : (me : NodeId) (peers : List NodeId) (s : Settled) (items : List Inbound) → s.me ≡ me → s.peers ≡ peers → AllConns (IsLinked me peers) s.queues → AllConns (IsLinked me peers) (settled_by s items).queues
linked_along me peers s [] m q a = a
linked_along me peers s (item ∷ items) m q a =
    let same = frame_step (λ n ps. (n ≡ me) × (ps ≡ peers)) s item (m, q) in
    linked_along me peers (rules s item) items same.0 same.1 (conns_step (IsLinked me peers) s item (λ d e. new_linked me peers s d m q e) a)

pub all_linked : (me : NodeId) (peers : List NodeId) (taken : List Inbound) (given : List Ready) (v : PendingView) → Pends me peers taken given v → AllConns (IsLinked me peers) v.settled.queues
all_linked me peers taken given v p = subst (λ (s : Settled). AllConns (IsLinked me peers) s.queues) (sym p.settled) (linked_along me peers (start_of me peers v) taken refl refl tt)
