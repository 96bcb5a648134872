-- The last fresh statement of a slot, a kind and a node, with the quorum set that came with it.
use Rattle.std.specs.Prelude.{ℕ, Bool, true, false, ◌&&◌, List, [], ◌∷◌, ◌++◌, Option, Some, None, nat_eq, if◌then◌else◌, filter, fold, option_to_list}
use Rattle.std.specs.BTreeMap.{is_at}
use Rattle.scp_slot.specs.scp_types.specs.declared.names.NodeId.{NodeId}
use Rattle.scp_slot.specs.scp_quorum.specs.NodeSet.{node_cmp}
use Rattle.scp_slot.specs.scp_quorum.specs.QuorumTree.{QuorumTree}
use Rattle.scp_slot.specs.scp_quorum.specs.SharedSet.{SharedSet}
use Rattle.scp_slot.specs.scp_envelope.specs.declared.statement.Statement.{Statement}
use Rattle.scp_slot.specs.scp_vote.specs.Board.{kind_of_pledges}
use Rattle.scp_slot.specs.scp_vote.specs.declared.claim.StatementKind.{StatementKind}
use Rattle.scp_slot.specs.scp_vote.specs.declared.claim.StatementKind.TheVariants.{Nomination, Balloting}
use Rattle.scp_pending.specs.scp_wire.specs.declared.message.Message.{Message}
use Rattle.scp_pending.specs.scp_wire.specs.declared.message.Message.TheVariants.{Envelope, GetSet, Set, NoSet, GetRecord, Record, Records}
use Rattle.scp_ledger.specs.declared.journal.Fate.{Fate}
use Rattle.scp_ledger.specs.declared.journal.Fate.TheVariants.{Taken, Dropped, Closed}
use Rattle.scp_ledger.specs.declared.journal.Verdict.{Verdict}
use Rattle.scp_ledger.specs.declared.journal.Verdict.TheVariants.{OldSlot, FarSlot, Already, Unasked, Own, BadStatement, BadValue, Stale, Idle, Fresh, Forwarded, Decided}

-- a statement, and the quorum set that came with it
pub record Heard : Type 0 where
  pub statement : Statement
  pub set : QuorumTree

-- the verdict Fresh
abbrev pub is_fresh : Verdict → Bool
is_fresh OldSlot = false
is_fresh FarSlot = false
is_fresh Already = false
is_fresh Unasked = false
is_fresh Own = false
is_fresh BadStatement = false
is_fresh BadValue = false
is_fresh Stale = false
is_fresh Idle = false
is_fresh Fresh = true
is_fresh Forwarded = false
is_fresh Decided = false

-- an envelope's statement, with the set that came with it
abbrev pub heard_in : Message → Option SharedSet → Option Heard
heard_in (Envelope envelope) (Some set) = Some (record { statement = envelope.value.statement; set = set.value })
heard_in (Envelope envelope) None = None
heard_in (GetSet hash) set = None
heard_in (Set inside) set = None
heard_in (NoSet hash) set = None
heard_in (GetRecord slot) set = None
heard_in (Record slot value) set = None
heard_in (Records first values) set = None

-- the statement of an entry that was taken as fresh
abbrev pub fresh_heard : Fate → Option Heard
fresh_heard (Taken conn seq message set verdict) = if is_fresh verdict then heard_in message set else None
fresh_heard (Dropped conn seq cause) = None
fresh_heard (Closed conn cause) = None

-- the statements of all entries that were taken as fresh, in order
abbrev pub fresh_in : List Fate → List Heard
fresh_in [] = []
fresh_in (fate ∷ fates) = option_to_list (fresh_heard fate) ++ fresh_in fates

-- the last of some statements that were heard
abbrev pub last_of : List Heard → Option Heard
last_of hs = fold (λ earlier h. Some h) None hs

-- both are nominations, or both are ballot statements
abbrev pub same_kind : StatementKind → StatementKind → Bool
same_kind Nomination Nomination = true
same_kind Nomination Balloting = false
same_kind Balloting Nomination = false
same_kind Balloting Balloting = true

-- it is a statement of that kind and node
abbrev pub is_its : StatementKind → NodeId → Heard → Bool
is_its kind v h = same_kind (kind_of_pledges h.statement.pledges) kind && is_at (node_cmp h.statement.node) v

-- it is of that slot, kind and node
abbrev pub is_of : ℕ → StatementKind → NodeId → Heard → Bool
is_of slot kind v h = nat_eq h.statement.slot.0 slot && is_its kind v h

-- the last fresh statement of that slot, kind and node
abbrev pub newest : ℕ → StatementKind → NodeId → List Fate → Option Heard
newest slot kind v journal = last_of (filter (is_of slot kind v) (fresh_in journal))
