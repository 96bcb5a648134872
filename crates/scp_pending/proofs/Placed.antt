-- What is live at each place of what was taken.
use Rattle.std.proofs.Common.{◌≡◌, false, List, [], ◌++◌, refl, sym, ap, subst}
use Rattle.std.proofs.lemmas.List.Elements.{filter-append}
use Rattle.scp_wire.specs.scp_types.specs.declared.names.NodeId.{NodeId}
use Rattle.scp_wire.specs.scp_quorum.specs.QuorumTree.{QuorumTree}
use Rattle.scp_wire.specs.scp_quorum.specs.Sane.{IsSane}
use Rattle.scp_wire.specs.declared.link.Inbound.{Inbound}
use Rattle.scp_wire.specs.Parts.{FrontsAreInOrder}
use Rattle.scp_wire.specs.Shape.{AreInOrder, nothing_came, is_from, of_peer, HasShape}
use Rattle.scp_pending.specs.Living.{OpenAtEachPlace}
use Rattle.scp_pending.specs.Pends.{Pends, start_of}
use Rattle.scp_pending.specs.Rules.{PendingView, Settled, fresh, settled_by, released_by}
use Rattle.scp_pending.proofs.Living.{open_by_place}
use Rattle.scp_pending.proofs.Strangers.{who_it_is}

front_shape : FrontsAreInOrder → (me : NodeId) (peers : List NodeId) (before rest : List Inbound) → HasShape me peers (before ++ rest) → HasShape me peers before
front_shape front me peers before rest shape link peer at =
    front peer me nothing_came (of_peer peer before) (of_peer peer rest)
    (subst (λ (xs : List Inbound). AreInOrder peer me nothing_came xs) (filter-append (is_from peer) before rest) (shape link peer at))

-- a stage that took what came before
abbrev stage_at : NodeId → List NodeId → QuorumTree → List Inbound → PendingView
stage_at me peers local before = record { failed = false; settled = settled_by (fresh me peers local) before; leaving = released_by (fresh me peers local) before }

pends_at : (me : NodeId) (peers : List NodeId) (local : QuorumTree) (before : List Inbound) → IsSane local → Pends me peers before [] (stage_at me peers local before)
pends_at me peers local before sane =
    let start = fresh me peers local in
    let stays : (settled_by start before).store.local ≡ local = (who_it_is start before).local in
    let same : start_of me peers (stage_at me peers local before) ≡ start = ap (λ (q : QuorumTree). fresh me peers q) stays in
    record {
      runs = refl;
      local_is_sane = subst IsSane (sym stays) sane;
      settled = ap (λ (s : Settled). settled_by s before) (sym same);
      left = ap (λ (s : Settled). released_by s before) (sym same);
    }

pub open_at_each_place : FrontsAreInOrder → OpenAtEachPlace
open_at_each_place front me peers local before rest sane shape link peer at life = open_by_place me peers before [] (stage_at me peers local before) (pends_at me peers local before sane) (front_shape front me peers before rest shape) link peer at life
