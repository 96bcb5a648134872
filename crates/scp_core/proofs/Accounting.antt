-- A node that runs keeps its account: each stage took, in order, what the one before it gave.
use Rattle.std.proofs.Common.{◌≡◌, ℕ, List, ◌++◌, sym, ◌∙◌, ap, append_assoc, take, drop}
use Rattle.std.specs.Prelude.{Some, slice_get, option_to_list}
use Rattle.std.proofs.lemmas.List.{take-append-drop}
use Rattle.scp_theorem.specs.scp_driver.specs.Driver.{Says}
use Rattle.scp_theorem.specs.scp_types.specs.declared.names.NodeId.{NodeId}
use Rattle.scp_theorem.specs.scp_wire.specs.declared.link.Inbound.{Inbound}
use Rattle.scp_theorem.specs.scp_wire.specs.LinkReading.{readings}
use Rattle.scp_theorem.specs.scp_wire.specs.Shape.{of_peer}
use Rattle.scp_theorem.specs.Account.{Account, Ran}
use Rattle.scp_theorem.specs.Kept.{KeepsLedger}
use Rattle.scp_core.specs.Flow.{Flows}
use Rattle.scp_core.specs.History.{Past, readings_of, read_so_far}
use Rattle.scp_core.specs.Ledger.{upcoming_of}
use Rattle.scp_core.specs.Node.{LinkView, NodeView}
use Rattle.scp_core.proofs.StageLaws.{ReadLaws, Laws}
use Rattle.scp_core.proofs.Links.{whole, front}
use Rattle.scp_theorem.proofs.Basics.{there_is}
use Rattle.scp_core.proofs.Queues.{within}

module _ {D : Type 0} where
  abbrev pub account_at : Past → NodeView D → List Inbound → Account D
  account_at p v came = record {
    me = v.config.me;
    set = v.config.set;
    peers = v.config.peers;
    sent = λ l. (p.links l).items;
    upcoming = λ l. upcoming_of (slice_get v.links l);
    inbox = v.inbox;
    came = came;
    pending = v.pending;
    on_way = v.ready ++ option_to_list v.pend_hand;
    ledger = v.ledger;
    onward = v.decided ++ option_to_list v.slot_hand;
    applier = v.applier;
  }

module _ {D : Type 0} (says : Says D) where
  -- the link of a peer
  link_at : (p : Past) (v : NodeView D) (f : Flows says p v) (l : ℕ) (peer : NodeId) → slice_get v.config.peers l ≡ Some peer → (k : LinkView) × (slice_get v.links l ≡ Some k)
  link_at p v f l peer at = there_is v.links l (rw f.count (within v.config.peers l peer at))

  -- what is read of all that was sent over a link: what came of it, and then what comes yet
  read_at : ReadLaws → (p : Past) (v : NodeView D) (f : Flows says p v) (l : ℕ) (peer : NodeId) → slice_get v.config.peers l ≡ Some peer → readings_of (p.links l) ≡ of_peer peer (f.arrived ++ v.inbox) ++ upcoming_of (slice_get v.links l)
  read_at read p v f l peer at =
      let link = link_at p v f l peer at in
      let k = link.0 in
      let o = p.links l in
      let g = f.links l k link.1 peer at in
      let came : List Inbound = of_peer peer (f.arrived ++ v.inbox) in
      let given : take o.given (read_so_far o) ≡ came = sym (front read v.config.me peer v.config.capacities.link o k g) ∙ sym (f.came l peer at) ∙ ap (of_peer peer) f.inbox in
      let far : read_so_far o ≡ came ++ k.hand = sym (take-append-drop o.given (read_so_far o)) ∙ ap (λ (xs : List Inbound). xs ++ drop o.given (read_so_far o)) given ∙ ap (λ (xs : List Inbound). came ++ xs) (sym g.hand) in
      whole read v.config.me peer v.config.capacities.link o k g
      ∙ ap (λ (xs : List Inbound). xs ++ readings k.reader k.queue) far
      ∙ append_assoc came k.hand (readings k.reader k.queue)
      ∙ ap (λ (xs : List Inbound). came ++ xs) (sym (ap upcoming_of link.1))

  ran : ReadLaws → (p : Past) (v : NodeView D) (f : Flows says p v) → Ran says.level says.extracted says.combined says.place (account_at p v f.arrived)
  ran laws p v f = record {
    links = λ l peer at. let link = link_at p v f l peer at in (f.links l link.0 link.1 peer at).shape;
    read = λ l peer at. read_at laws p v f l peer at;
    local = f.local;
    given = f.given;
    pends = f.pending;
    took = f.took;
    ready = f.ready;
    onwards = f.onwards;
    journals = f.journal;
    applied = f.applied;
    decided = f.decided;
    applies = f.applier;
    first = f.first;
  }

  -- so it keeps the ledger
  pub kept_at : Laws says → (p : Past) (v : NodeView D) (f : Flows says p v) → KeepsLedger says.level says.extracted says.combined says.place (account_at p v f.arrived)
  kept_at law p v f = law.ran (account_at p v f.arrived) (ran law.read p v f)
