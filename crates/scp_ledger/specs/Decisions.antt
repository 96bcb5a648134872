-- Decisions, the slots that have one, and what each rests on.
use Rattle.std.specs.Prelude.{ℕ, ◌+◌, ◌<◌, ◌≤◌, ◌≡◌, ◌≢◌, Bool, true, false, List, ◌∷◌, [], ◌++◌, nat_eq, Option, Some, None, Contains, IfSome}
use Rattle.std.specs.List.{list_any, AllPairs}
use Rattle.scp_slot.specs.scp_types.specs.declared.limits.TheConstants.{WINDOW}
use Rattle.scp_slot.specs.scp_types.specs.declared.names.ConnId.{ConnId}
use Rattle.scp_slot.specs.scp_types.specs.declared.names.NodeId.{NodeId}
use Rattle.scp_slot.specs.scp_types.specs.declared.names.Seq.{Seq}
use Rattle.scp_slot.specs.scp_types.specs.declared.names.Slot.{Slot}
use Rattle.scp_slot.specs.scp_quorum.specs.QuorumTree.{QuorumTree}
use Rattle.scp_slot.specs.scp_quorum.specs.SharedSet.{SharedSet}
use Rattle.scp_slot.specs.scp_vote.specs.declared.claim.StatementKind.TheVariants.{Balloting}
use Rattle.scp_pending.specs.scp_wire.specs.declared.message.Message.TheVariants.{Record}
use Rattle.scp_ledger.specs.declared.journal.Asking.{Asking}
use Rattle.scp_ledger.specs.declared.journal.Fate.{Fate}
use Rattle.scp_ledger.specs.declared.journal.Fate.TheVariants.{Taken}
use Rattle.scp_ledger.specs.declared.journal.Verdict.TheVariants.{Decided}
use Rattle.scp_ledger.specs.declared.journal.Decision.{Decision}
use Rattle.scp_ledger.specs.declared.journal.Origin.{Origin}
use Rattle.scp_ledger.specs.declared.journal.Origin.TheVariants.{Machine, Named}
use Rattle.scp_ledger.specs.Seen.{is_asked}
use Rattle.scp_ledger.specs.Journal.{newest}
use Rattle.scp_ledger.specs.Certificate.{IsCertificate, IsOwnExternalize}

-- the decision is for the slot
abbrev pub is_at : ℕ → Decision → Bool
is_at slot decision = nat_eq decision.slot.0 slot

-- the slot has a decision
abbrev pub is_decided : ℕ → List Decision → Bool
is_decided slot decisions = list_any (is_at slot) decisions

-- no slot has two decisions
abbrev pub OnePerSlot : List Decision → Type 0
OnePerSlot decisions = AllPairs (λ d e. d.slot.0 ≢ e.slot.0) decisions

-- the decision that a record names, by its number on its connection
abbrev pub named_by : ConnId → Seq → Slot → List ℕ → Decision
named_by conn seq slot value = record { slot = slot; value = value; origin = Named conn seq }

-- the decision that an entry names: that of a record taken with the verdict Decided; no other entry names one
abbrev pub decision_by : Fate → Option Decision
decision_by (Taken conn seq (Record slot value) set Decided) = Some (named_by conn seq slot value)
decision_by fate = None

-- an entry with the verdict Decided has its decision
abbrev pub HasItsDecision : List Decision → Fate → Type 0
HasItsDecision decisions fate = IfSome (decision_by fate) (Contains decisions)

-- the entry of a taken record of that slot and value, with the verdict Decided, whose link was asked for the slot
abbrev pub IsNamed : (ConnId → ℕ) → List Asking → List Fate → Decision → ConnId → Seq → Type 0
IsNamed link_of asked journal d conn seq =
    ((set : Option SharedSet) × Contains journal (Taken conn seq (Record d.slot d.value) set Decided)) × (is_asked asked (record { link = link_of conn; slot = d.slot }) ≡ true)

-- what a decision rests on: a certificate over the last fresh ballot statements of its slot in the journal and the own
-- EXTERNALIZE, or a record that was asked for
abbrev pub RestsOn : NodeId → QuorumTree → (ConnId → ℕ) → List Asking → List Fate → Decision → Origin → Type 0
RestsOn me local link_of asked journal d (Machine n quorum own) =
    IsCertificate me local (λ v. newest d.slot.0 Balloting v journal) d.value n quorum × IsOwnExternalize me local d.slot.0 d.value n own
RestsOn me local link_of asked journal d (Named conn seq) = IsNamed link_of asked journal d conn seq

-- the decision has what it rests on
abbrev pub IsFounded : NodeId → QuorumTree → (ConnId → ℕ) → List Asking → List Fate → Decision → Type 0
IsFounded me local link_of asked journal d = RestsOn me local link_of asked journal d d.origin

-- the lowest slot from a first one on that has no decision
pub record IsLowest (first : ℕ) (decisions : List Decision) (lowest : ℕ) : Type 0 where
  pub from_first : first ≤ lowest
  pub decided : (slot : ℕ) → first ≤ slot → slot < lowest → is_decided slot decisions ≡ true
  pub undecided : is_decided lowest decisions ≡ false

-- A decision after these, of slots from a first one on, is for a slot that has none yet, one of the 16 from the lowest such slot on
-- (this project's profile).
pub record IsNext (first : ℕ) (earlier : List Decision) (d : Decision) : Type 0 where
  pub undecided : is_decided d.slot.0 earlier ≡ false
  pub lowest : ℕ
  pub is_lowest : IsLowest first earlier lowest
  pub from : lowest ≤ d.slot.0
  pub near : d.slot.0 < lowest + WINDOW

-- each decision is so after those before it
abbrev pub AreInWindow : ℕ → List Decision → List Decision → Type 0
AreInWindow first earlier [] = Unit {0}
AreInWindow first earlier (d ∷ ds) = IsNext first earlier d × AreInWindow first (earlier ++ d ∷ []) ds
