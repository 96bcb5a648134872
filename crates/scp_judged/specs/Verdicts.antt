-- Which messages of a ledger count (this project's profile).
use Rattle.std.specs.Prelude.{◌≡◌, ◌≢◌, ◌++◌, ℕ, List, [], ◌∷◌, Option, None, IsSomeAnd, filter, option_to_list}
use Rattle.std.specs.Option.{option_map, ForSome}
use Rattle.scp_ledger.specs.scp_types.specs.declared.names.Hash.{Hash}
use Rattle.scp_ledger.specs.scp_types.specs.declared.names.NodeId.{NodeId}
use Rattle.scp_ledger.specs.scp_quorum.specs.QuorumTree.{QuorumTree}
use Rattle.scp_ledger.specs.scp_quorum.specs.Sane.{IsSane as IsSaneSet}
use Rattle.scp_ledger.specs.scp_envelope.specs.declared.statement.Statement.{Statement}
use Rattle.scp_ledger.specs.scp_envelope.specs.Kinds.{set_hash_of}
use Rattle.scp_ledger.specs.scp_envelope.specs.Sane.{IsSane}
use Rattle.scp_ledger.specs.scp_envelope.specs.Newer.{IsNewer}
use Rattle.scp_ledger.specs.scp_vote.specs.Board.{kind_of_pledges}
use Rattle.scp_ledger.specs.scp_vote.specs.declared.claim.StatementKind.{StatementKind}
use Rattle.scp_ledger.specs.scp_vote.specs.declared.claim.StatementKind.TheVariants.{Balloting}
use Rattle.scp_ledger.specs.Journal.{Heard, last_of, is_its}
use Rattle.scp_judged.specs.declared.verdict.Said.{Said}
use Rattle.scp_judged.specs.declared.verdict.Verdict.{Verdict}
use Rattle.scp_judged.specs.declared.verdict.Verdict.TheVariants.{Counts, OtherSlot, Insane, MissingSet, BadSet, NotNewer}

-- the last statement of a kind and a node, of those that count, with its set
abbrev pub last_said : StatementKind → NodeId → List Heard → Option Heard
last_said kind v counting = last_of (filter (is_its kind v) counting)

-- the last ballot statement of a node, of those that count, with its set
abbrev pub heard_by : List Heard → NodeId → Option Heard
heard_by counting v = last_said Balloting v counting

-- the last statement of a kind and a node, of those that count
abbrev pub last_statement : List Heard → StatementKind → NodeId → Option Statement
last_statement counting kind v = option_map (λ h. h.statement) (last_said kind v counting)

-- its slot is the ledger's, and its pledges are sane
pub record IsFit (at : ℕ) (s : Statement) : Type 0 where
  pub slot : s.slot.0 ≡ at
  pub sane : IsSane s.pledges

-- it is newer than the last one of its node and kind, if there is one
abbrev pub IsNext : (StatementKind → NodeId → Option Statement) → Statement → Type 0
IsNext last s = ForSome (last (kind_of_pledges s.pledges) s.node) (λ t. IsNewer t s)

-- The verdict on a message is the first that fits: its slot isn't the ledger's; its pledges aren't sane; its hash names no set so far; that set
-- isn't sane; an earlier one of its node and kind counts, and it isn't newer. Else it counts.
abbrev pub IsVerdict : (Hash → Option QuorumTree) → ℕ → (StatementKind → NodeId → Option Statement) → Statement → Verdict → Type 0
IsVerdict sets at last s OtherSlot = s.slot.0 ≢ at
IsVerdict sets at last s Insane = (s.slot.0 ≡ at) × (¬ IsSane s.pledges)
IsVerdict sets at last s MissingSet = IsFit at s × (sets (set_hash_of s.pledges) ≡ None)
IsVerdict sets at last s BadSet = IsFit at s × IsSomeAnd (sets (set_hash_of s.pledges)) (λ q. ¬ IsSaneSet q)
IsVerdict sets at last s NotNewer = IsFit at s × IsSomeAnd (sets (set_hash_of s.pledges)) IsSaneSet × (¬ IsNext last s)
IsVerdict sets at last s Counts = IsFit at s × IsSomeAnd (sets (set_hash_of s.pledges)) IsSaneSet × IsNext last s

-- a statement with the set that it names
abbrev pub heard_with : Statement → QuorumTree → Heard
heard_with s q = record { statement = s; set = q }

-- what a message adds to what counts: itself with the set that it names if it counts, else nothing
abbrev pub added : (Hash → Option QuorumTree) → Statement → Verdict → List Heard
added sets s Counts = option_to_list (option_map (heard_with s) (sets (set_hash_of s.pledges)))
added sets s OtherSlot = []
added sets s Insane = []
added sets s MissingSet = []
added sets s BadSet = []
added sets s NotNewer = []

-- Each message in turn has its verdict, by what counts before it: from what counts first to what counts in the end.
abbrev pub AreVerdicts : (Hash → Option QuorumTree) → ℕ → List Heard → List Statement → List Verdict → List Heard → Type 0
AreVerdicts sets at first [] [] last = last ≡ first
AreVerdicts sets at first [] (v ∷ vs) last = ⊥
AreVerdicts sets at first (s ∷ ss) [] last = ⊥
AreVerdicts sets at first (s ∷ ss) (v ∷ vs) last = IsVerdict sets at (last_statement first) s v × AreVerdicts sets at (first ++ added sets s v) ss vs last

-- messages have one list of verdicts at most, and one list of what counts
abbrev pub VerdictsAreOne : Type 0
VerdictsAreOne = (sets : Hash → Option QuorumTree) (at : ℕ) (first : List Heard) (ss : List Statement) (vs ws : List Verdict) (x y : List Heard) → AreVerdicts sets at first ss vs x → AreVerdicts sets at first ss ws y → (vs ≡ ws) × (x ≡ y)

-- a message that counts, as it is heard
abbrev pub heard_of : Said → Heard
heard_of s = record { statement = s.envelope.statement; set = s.set.value }
