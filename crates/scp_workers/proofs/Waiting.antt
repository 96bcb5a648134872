-- What the pending stage took and replied, with one item more.
use Rattle.std.proofs.Common.{◌≡◌, List, [], ◌∷◌, ◌++◌, sym, ◌∙◌, ap, append-nil, append_assoc}
use Rattle.std.specs.Prelude.{ℕ, Option}
use Rattle.scp_theorem.specs.scp_types.specs.declared.names.NodeId.{NodeId}
use Rattle.scp_theorem.specs.scp_quorum.specs.QuorumTree.{QuorumTree}
use Rattle.scp_theorem.specs.scp_wire.specs.declared.link.Inbound.{Inbound}
use Rattle.scp_theorem.specs.scp_wire.specs.declared.message.Message.{Message}
use Rattle.scp_theorem.specs.scp_pending.specs.declared.ready.Ready.{Ready}
use Rattle.scp_theorem.specs.scp_pending.specs.Linked.{WhoItIsStays}
use Rattle.scp_theorem.specs.scp_pending.specs.Passes.{Passes}
use Rattle.scp_theorem.specs.scp_pending.specs.Pends.{Pends}
use Rattle.scp_theorem.specs.scp_pending.specs.Rules.{PendingView, Settled, fresh, rules, reply, settled_by, taken_in}
use Rattle.scp_theorem.specs.scp_ledger.specs.declared.took.Outgoing.{Outgoing}
use Rattle.scp_theorem.specs.Handed.{out_of, replies_from}
use Rattle.scp_workers.specs.Pending.{PendsFrom}

-- the reply to the last item comes at last
replies_one : (s : Settled) (took : List Inbound) (x : Inbound) → replies_from s (took ++ x ∷ []) ≡ replies_from s took ++ out_of (reply (settled_by s took) x)
replies_one s [] x = append-nil (out_of (reply s x))
replies_one s (y ∷ took) x = ap (λ (outs : List Outgoing). out_of (reply s y) ++ outs) (replies_one (rules s y) took x) ∙ sym (append_assoc (out_of (reply s y)) (replies_from (rules s y) took) (out_of (reply (settled_by (rules s y) took) x)))

pub pends_one : WhoItIsStays → (x : Inbound) (old new : PendingView) (answer : Option (ℕ × Message)) (outs : List Outgoing) → ((me : NodeId) → (peers : List NodeId) → Passes (Pends me peers) (x ∷ []) [] old new) → new ≡ taken_in old x → answer ≡ reply old.settled x → outs ≡ out_of answer
    → (first : PendingView) (took : List Inbound) (gave : List Ready) (out : List Outgoing) → PendsFrom first took gave out old → PendsFrom first (took ++ x ∷ []) (gave ++ []) (out ++ outs) new
pends_one stays x old new answer outs passes e replies is first took gave out h =
    let me = first.settled.me in
    let peers = first.settled.peers in
    let start : Settled = fresh me peers first.settled.store.local in
    let stands : old.settled ≡ settled_by start took = h.pends.settled ∙ ap (λ (local : QuorumTree). settled_by (fresh me peers local) took) h.local_is in
    let last : outs ≡ out_of (reply (settled_by start took) x) = is ∙ ap out_of (replies ∙ ap (λ (s : Settled). reply s x) stands) in
    record {
      pends = passes me peers took gave h.pends;
      local_is = ap (λ (v : PendingView). v.settled.store.local) e ∙ (stays old.settled (x ∷ [])).local ∙ h.local_is;
      out_is = ap (λ (os : List Outgoing). os ++ outs) h.out_is ∙ ap (λ (os : List Outgoing). replies_from start took ++ os) last ∙ sym (replies_one start took x);
    }
