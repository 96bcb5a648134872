-- What the ledger theorem asks of a run can be met.
use Rattle.std.specs.Prelude.{ℕ, ◌≡◌, List, [], Option}
use Rattle.scp_outbox.specs.scp_types.specs.declared.names.NodeId.{NodeId}
use Rattle.scp_outbox.specs.scp_quorum.specs.QuorumTree.{QuorumTree}
use Rattle.scp_apply.specs.scp_driver.specs.declared.driver.Level.{Level}
use Rattle.scp_apply.specs.scp_pending.specs.Pends.{Pends}
use Rattle.scp_apply.specs.scp_pending.specs.Rules.{PendingView}
use Rattle.scp_apply.specs.scp_ledger.specs.Journals.{Journals}
use Rattle.scp_apply.specs.scp_ledger.specs.Seen.{LedgerView}
use Rattle.scp_apply.specs.Applier.{ApplierView}
use Rattle.scp_apply.specs.Applies.{Applies}
use Rattle.scp_theorem.specs.Account.{Account, Ran}

-- a node to which nothing was sent, with nothing between its stages
abbrev pub nothing_sent : {D : Type 0} → NodeId → QuorumTree → List NodeId → PendingView → LedgerView D → ApplierView → Account D
nothing_sent me set peers pending ledger applier = record {
  me = me;
  set = set;
  peers = peers;
  sent = λ l. [];
  upcoming = λ l. [];
  inbox = [];
  came = [];
  pending = pending;
  on_way = [];
  ledger = ledger;
  onward = [];
  applier = applier;
}

-- `Ran` holds of it, if its stages are as their calls promise for empty lists, and the applier begins with the slot stage's first slot
abbrev pub NothingSentRan : {D : Type 0} → (D → ℕ → List ℕ → Level) → (D → ℕ → List ℕ → Option (List ℕ)) → (D → ℕ → List (List ℕ) → List ℕ) → (D → ℕ → ℕ → ℕ → ℕ) → Type 0
NothingSentRan {D} level extracted combined place = (me : NodeId) (set : QuorumTree) (peers : List NodeId) (pending : PendingView) (ledger : LedgerView D) (applier : ApplierView) → pending.settled.store.local ≡ set → Pends me peers [] [] pending → Journals level extracted combined place me set peers [] [] ledger → Applies [] applier → applier.first ≡ ledger.first → Ran level extracted combined place (nothing_sent me set peers pending ledger applier)
