-- The ballot statements of slots, in a map.
-- No public clause reaches these definitions, so nothing here needs to be believed.
use Rattle.std.specs.Prelude.{ℕ, ◌≡◌, Bool, false, List, [], Option, Some, None, map, filter, nat_eq, if◌then◌else◌}
use Rattle.std.specs.Ordering.{nat_cmp}
use Rattle.std.specs.BTreeMap.{BTreeMap, get, is_at}
use Rattle.std.proofs.Common.{Bor, Vec}
use Rattle.scp_line.specs.scp_types.specs.declared.names.NodeId.{NodeId}
use Rattle.scp_line.specs.scp_quorum.specs.NodeSet.{node_cmp}
use Rattle.scp_line.specs.scp_envelope.specs.declared.statement.Statement.{Statement}
use Rattle.scp_line.specs.scp_vote.specs.Board.{kind_of_pledges}
use Rattle.scp_line.specs.scp_vote.specs.declared.claim.StatementKind.TheVariants.{Balloting}
use Rattle.scp_line.specs.scp_ledger.specs.declared.journal.Fate.{Fate}
use Rattle.scp_line.specs.scp_ledger.specs.Journal.{Heard, fresh_heard, same_kind}
use Rattle.scp_account.specs.Fits.{FitsEntry}

-- The statement of what was heard, if it is a ballot statement.
abbrev pub ballot_in : Option Heard → Option Statement
ballot_in None = None
ballot_in (Some h) = if same_kind (kind_of_pledges h.statement.pledges) Balloting then Some h.statement else None

-- There is a statement, and it is of this slot.
abbrev pub is_slots : ℕ → Option Statement → Bool
is_slots slot None = false
is_slots slot (Some s) = nat_eq s.slot.0 slot

-- What was heard is a ballot statement of this slot.
abbrev pub is_in_slot : ℕ → Option Heard → Bool
is_in_slot slot heard = is_slots slot (ballot_in heard)

-- There is a statement, and it is of this node.
abbrev pub is_nodes : NodeId → Option Statement → Bool
is_nodes node None = false
is_nodes node (Some s) = is_at (node_cmp s.node) node

-- What was heard is a ballot statement of this node.
abbrev pub is_its : NodeId → Option Heard → Bool
is_its node heard = is_nodes node (ballot_in heard)

-- The entries of a journal with fresh ballot statements of a slot.
abbrev pub spoken : List Fate → ℕ → List Fate
spoken journal slot = filter (λ fate. is_in_slot slot (fresh_heard fate)) journal

-- The entries that an option holds, without borrows; none if it holds nothing.
abbrev pub entries_or_none : {Z : Type 0} → Option (Vec (Bor Fate) Z) → List Fate
entries_or_none {Z} None = []
entries_or_none {Z} (Some entries) = map (λ fate. fate.now) entries.items

-- The entries that the map has for a slot.
abbrev pub spoken_at : {Z : Type 0} → BTreeMap ℕ (Vec (Bor Fate) Z) → ℕ → List Fate
spoken_at spoken slot = entries_or_none (get nat_cmp spoken slot)

-- These entries are those of a journal with fresh ballot statements of a slot.
abbrev pub AreSpoken : List (Bor Fate) → List Fate → ℕ → Type 0
AreSpoken entries journal slot = map (λ fate. fate.now) entries ≡ spoken journal slot

-- The entry breaks no limit, if there is one.
abbrev pub FitsIf : Option Fate → Type 0
FitsIf None = Unit {0}
FitsIf (Some fate) = FitsEntry fate
