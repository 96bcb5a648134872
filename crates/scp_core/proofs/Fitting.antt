-- Whatever the pending stage replies fits a link: the quorum sets that it stores are sane.
use Rattle.std.proofs.Common.{◌≡◌, ℕ, Option, Some, None, sym, subst}
use Rattle.std.specs.Prelude.{IfSome}
use Rattle.scp_theorem.specs.scp_quorum.specs.QuorumTree.{QuorumTree}
use Rattle.scp_theorem.specs.scp_quorum.specs.Sane.{IsSane}
use Rattle.scp_theorem.specs.scp_types.specs.declared.names.Hash.{Hash}
use Rattle.scp_theorem.specs.scp_wire.specs.declared.message.Message.{Message}
use Rattle.scp_theorem.specs.scp_wire.specs.declared.message.Message.TheVariants.{Envelope, GetSet, Set, NoSet, GetRecord, Record, Records}
use Rattle.scp_theorem.specs.scp_wire.specs.declared.link.Inbound.{Inbound}
use Rattle.scp_theorem.specs.scp_wire.specs.Fitting.{IsFitting, NamesFit, SaneSetsFit}
use Rattle.scp_theorem.specs.scp_fetch.specs.Store.{lookup}
use Rattle.scp_theorem.specs.scp_pending.specs.Fetching.{IsReplied, IfReplied, RepliesAreAskedFor, TheLastAreStored}
use Rattle.scp_theorem.specs.scp_pending.specs.Pends.{start_of}
use Rattle.scp_theorem.specs.scp_pending.specs.Queues.{hash_of}
use Rattle.scp_theorem.specs.scp_pending.specs.Rules.{Settled, settled_by, reply}
use Rattle.scp_core.specs.Handed.{RepliesFit}

module _ (names : NamesFit) (sets : SaneSetsFit) where
  replied_fits : (s : Settled) (item : Inbound) (link : ℕ) (m : Message) → ((hash : Hash) (set : QuorumTree) → lookup hash s.store ≡ Some set → IsSane set × (hash_of set ≡ hash)) → IsReplied s item link m → IsFitting m
  replied_fits s item link (Envelope e) found w = absurd w
  replied_fits s item link (GetSet hash) found w = (names hash (record { 0 = 0 })).0
  replied_fits s item link (Set set) found w = sets set (found (hash_of set) set w.1).0
  replied_fits s item link (NoSet hash) found w = (names hash (record { 0 = 0 })).1
  replied_fits s item link (GetRecord slot) found w = absurd w
  replied_fits s item link (Record slot value) found w = absurd w
  replied_fits s item link (Records first values) found w = absurd w

  if_replied : (s : Settled) (item : Inbound) (o : Option (ℕ × Message)) → ((hash : Hash) (set : QuorumTree) → lookup hash s.store ≡ Some set → IsSane set × (hash_of set ≡ hash)) → IfReplied s item o → IfSome o (λ sent. IsFitting sent.1)
  if_replied s item None found w = tt
  if_replied s item (Some r) found w = replied_fits s item r.0 r.1 found w

  pub replies_fit_always : RepliesAreAskedFor → TheLastAreStored → RepliesFit
  replies_fit_always asked stored = λ me peers taken given v pends item.
      let local = v.settled.store.local in
      let now : Settled = settled_by (start_of me peers v) taken in
      subst (λ (s : Settled). IfSome (reply s item) (λ sent. IsFitting sent.1)) (sym pends.settled)
      (if_replied now item (reply now item) (stored me peers local taken pends.local_is_sane).found (asked me peers local taken item))
