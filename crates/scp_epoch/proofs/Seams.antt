-- A seam between two epochs: what the old node said, the new one knows of.
use Rattle.std.proofs.Common.{◌≡◌, ◌+◌, ◌<◌, ◌≤◌, ℕ, Bool, true, false, List, [], ◌∷◌, refl, sym, ◌∙◌, ap, subst, inl, inr}
use Rattle.std.specs.Prelude.{Option, Some, None, Contains, ◌||◌, if◌then◌else◌}
use Rattle.std.proofs.lemmas.Bool.{eqb-true}
use Rattle.std.proofs.lemmas.List.Elements.{Contains-push, Contains-append_left, Contains-append_right}
use Rattle.scp_again.specs.scp_types.specs.declared.limits.TheConstants.{WINDOW}
use Rattle.scp_again.specs.scp_envelope.specs.declared.statement.Envelope.{Envelope}
use Rattle.scp_again.specs.scp_envelope.specs.declared.statement.Pledges.{Pledges}
use Rattle.scp_again.specs.scp_envelope.specs.declared.statement.Pledges.TheVariants.{Prepare, Confirm, Externalize, Nominate}
use Rattle.scp_again.specs.scp_envelope.specs.declared.statement.Statement.{Statement}
use Rattle.scp_again.specs.scp_outbox.specs.Outbox.{is_nomination}
use Rattle.scp_again.specs.scp_slot.specs.declared.machine.SlotMachine.{SlotMachine}
use Rattle.scp_again.specs.scp_slot.specs.Slot.{slot_view}
use Rattle.scp_again.specs.scp_ledger.specs.declared.journal.Decision.{Decision}
use Rattle.scp_again.specs.scp_ledger.specs.declared.journal.Origin.{Origin}
use Rattle.scp_again.specs.scp_ledger.specs.declared.journal.Origin.TheVariants.{Machine, Named}
use Rattle.scp_again.specs.scp_ledger.specs.Decisions.{is_at, is_decided}
use Rattle.scp_again.specs.scp_ledger.specs.Seen.{LedgerView, machine_at}
use Rattle.scp_again.specs.scp_theorem.specs.Grounds.{Who}
use Rattle.scp_again.specs.scp_theorem.proofs.Basics.{true_isnt, some_same}
use Rattle.scp_again.specs.scp_theorem.proofs.Machines.{said, IsBehind}
use Rattle.scp_again.specs.Again.{own_of, enveloped}
use Rattle.scp_again.proofs.Current.{IsOwnOf, IsOwnAt, HasDecision, IsWell, IsSaid}
use Rattle.scp_again.proofs.Lists.{there_decided}
use Rattle.scp_epoch.specs.Saying.{Saying, decided_by, externalized_by, nominated_by, balloted_by, decision_at, saying_at, SaysTheSame}
use Rattle.scp_epoch.proofs.Equal.{first_in}
use Rattle.scp_epoch.proofs.Windows.{IsWithin, decided_within}

-- ---- the decision of a slot

-- a decided slot has one
decided_found : (ds : List Decision) (slot : ℕ) → is_decided slot ds ≡ true → (d : Decision) × (decision_at ds slot ≡ Some d)
decided_found [] slot e = absurd (true_isnt (sym e))
decided_found (d ∷ ds) slot e = by_test (is_at slot d) (λ k. decided_found ds slot k) e
  where
    by_test : (b : Bool) → (is_decided slot ds ≡ true → (x : Decision) × (decision_at ds slot ≡ Some x)) → (b || is_decided slot ds) ≡ true → (x : Decision) × ((if b then Some d else decision_at ds slot) ≡ Some x)
    by_test true rest k = (d, refl)
    by_test false rest k = rest k

found_decided : (ds : List Decision) (slot : ℕ) (x : Decision) → decision_at ds slot ≡ Some x → is_decided slot ds ≡ true
found_decided [] slot x e = absurd cc
found_decided (d ∷ ds) slot x e = by_test (is_at slot d) (λ k. found_decided ds slot x k) e
  where
    by_test : (b : Bool) → (decision_at ds slot ≡ Some x → is_decided slot ds ≡ true) → (if b then Some d else decision_at ds slot) ≡ Some x → (b || is_decided slot ds) ≡ true
    by_test true rest k = refl
    by_test false rest k = rest k

-- it is one of them, and of that slot
found_there : (ds : List Decision) (slot : ℕ) (x : Decision) → decision_at ds slot ≡ Some x → Contains ds x × (x.slot.0 ≡ slot)
found_there [] slot x e = absurd cc
found_there (d ∷ ds) slot x e = by_test (is_at slot d) refl (λ k. found_there ds slot x k) e
  where
    by_test : (b : Bool) → is_at slot d ≡ b → (decision_at ds slot ≡ Some x → Contains ds x × (x.slot.0 ≡ slot)) → (if b then Some d else decision_at ds slot) ≡ Some x → Contains (d ∷ ds) x × (x.slot.0 ≡ slot)
    by_test true at rest k =
        let same : d ≡ x = some_same (Some d) d x refl k in
        (subst (λ (y : Decision). Contains (d ∷ ds) y) same (Contains-append_left (d ∷ []) ds d (Contains-push [] d)), ap (λ (y : Decision). y.slot.0) (sym same) ∙ eqb-true d.slot.0 slot at)
    by_test false at rest k = let more = rest k in (Contains-append_right (d ∷ []) ds x more.0, more.1)

-- ---- what is said of a slot

abbrev said_by : {D : Type 0} → Bool → Option (SlotMachine D) → Option Pledges
said_by true o = nominated_by o
said_by false o = balloted_by o

module _ {D : Type 0} where
  said_of : (kind : Bool) (m : SlotMachine D) → said kind (slot_view m) ≡ said_by kind (Some m)
  said_of true m = refl
  said_of false m = refl

  -- a machine that said something is there
  sayer : (kind : Bool) (o : Option (SlotMachine D)) (p : Pledges) → said_by kind o ≡ Some p → (m : SlotMachine D) × (o ≡ Some m) × (said kind (slot_view m) ≡ Some p)
  sayer true None p e = absurd cc
  sayer false None p e = absurd cc
  sayer true (Some m) p e = (m, refl, e)
  sayer false (Some m) p e = (m, refl, e)

  module _ (who : Who) (old new : LedgerView D) (well : IsWell who old) (s : Statement) (same : saying_at old s.slot.0 ≡ saying_at new s.slot.0) where
    -- the slot is decided there too
    decided_too : is_decided s.slot.0 old.decisions ≡ true → is_decided s.slot.0 new.decisions ≡ true
    decided_too e =
        let d = decided_found old.decisions s.slot.0 e in
        by_there (decision_at new.decisions s.slot.0) refl (ap (λ (x : Saying). x.decided) (sym same) ∙ ap decided_by d.1)
      where
        by_there : {v : List ℕ} → (o : Option Decision) → decision_at new.decisions s.slot.0 ≡ o → decided_by o ≡ Some v → is_decided s.slot.0 new.decisions ≡ true
        by_there None is k = absurd cc
        by_there (Some x) is k = found_decided new.decisions s.slot.0 x is

    -- what its machine said last the other one said last
    said_too : (kind : Bool) → said_by kind (machine_at old.machines s.slot.0) ≡ said_by kind (machine_at new.machines s.slot.0)
    said_too true = ap (λ (x : Saying). x.nominated) same
    said_too false = ap (λ (x : Saying). x.balloted) same

    behind_too : IsBehind old s → IsBehind new s
    behind_too h = elim h [
      | inl done ↦ inl (decided_too done)
      | inr b ↦ (
          let kind = is_nomination s.pledges in
          let was : said_by kind (machine_at old.machines s.slot.0) ≡ Some b.2.last = ap (said_by kind) b.1 ∙ sym (said_of kind b.0) ∙ b.2.there in
          let m = sayer kind (machine_at new.machines s.slot.0) b.2.last (sym (said_too kind) ∙ was) in
          inr (m.0, m.1, record { last = b.2.last; there = m.2; upto = b.2.upto })
          )
    ]

    -- its decision's own statement is there too
    own_found : (d : Decision) (o : Origin) → d.origin ≡ o → Contains old.decisions d → IsOwnOf s o → d.slot.0 ≡ s.slot.0 → (x : Decision) × Contains new.decisions x × IsOwnOf s x.origin
    own_found d (Named conn seq) is there own at = absurd own
    own_found d (Machine n quorum own) is there same_own at =
        let first = decided_found old.decisions s.slot.0 (there_decided old.decisions d s.slot.0 there at) in
        let found = found_there old.decisions s.slot.0 first.0 first.1 in
        let it : first.0 ≡ d = well.one first.0 d found.0 there (found.1 ∙ sym at) in
        let said_then : externalized_by (decision_at new.decisions s.slot.0) ≡ enveloped own ∷ []
        = ap (λ (x : Saying). x.externalized) (sym same) ∙ ap externalized_by (first.1 ∙ ap (λ (x : Decision). Some x) it) ∙ ap own_of is in
        by_there (decision_at new.decisions s.slot.0) refl said_then
      where
        by_origin : (x : Decision) (o : Origin) → x.origin ≡ o → own_of o ≡ enveloped own ∷ [] → IsOwnOf s x.origin
        by_origin x (Named conn seq) same_origin k = absurd cc
        by_origin x (Machine m others own') same_origin k = (let e : own' ≡ own = ap (first_in own) k in subst (λ (y : Origin). IsOwnOf s y) (sym same_origin) (ap (λ (y : Envelope). y.statement) e ∙ same_own))

        by_there : (o : Option Decision) → decision_at new.decisions s.slot.0 ≡ o → externalized_by o ≡ enveloped own ∷ [] → (x : Decision) × Contains new.decisions x × IsOwnOf s x.origin
        by_there None e k = absurd cc
        by_there (Some x) e k = (x, (found_there new.decisions s.slot.0 x e).0, by_origin x x.origin refl k)

    own_slot : (o : Origin) (slot : ℕ) → IsOwnOf s o → IsOwnAt who.me slot o → slot ≡ s.slot.0
    own_slot (Machine n quorum own) slot is at = sym at.1 ∙ ap (λ (t : Statement). t.slot.0) is
    own_slot (Named conn seq) slot is at = absurd is

    has_too : (p : Pledges) → HasDecision old.decisions s p → HasDecision new.decisions s p
    has_too (Prepare p) h = tt
    has_too (Confirm p) h = tt
    has_too (Nominate p) h = tt
    has_too (Externalize p) h = own_found h.0 h.0.origin refl h.1 h.2 (own_slot h.0.origin h.0.slot.0 h.2 (well.own h.0 h.1))

    pub said_known : IsSaid who old s → IsSaid who new s
    said_known h = record { node = h.node; behind = behind_too h.behind; decided = has_too s.pledges h.decided }

  -- ---- where what is said is

  -- a statement that was said is of a slot from the first one on, and before the 16th after the lowest undecided one
  pub said_within : (who : Who) (v : LedgerView D) → IsWithin v → (s : Statement) → IsSaid who v s → (v.first ≤ s.slot.0) × (s.slot.0 < v.lowest + WINDOW)
  said_within who v w s h = elim h.behind [
    | inl done ↦ decided_within v w s.slot.0 done
    | inr b ↦ w.machines s.slot.0 b.0 b.1
  ]

  -- what the old one said of a slot from the new one's first on, the new one knows of
  pub over_seam : (who : Who) (first : ℕ) (old new : LedgerView D) → IsWell who old → IsWithin old → SaysTheSame first old new → (s : Statement) → IsSaid who old s → first ≤ s.slot.0 → IsSaid who new s
  over_seam who first old new well w same s h from =
      let near : s.slot.0 < first + WINDOW = subst (λ (n : ℕ). s.slot.0 < n + WINDOW) same.lowest (said_within who old w s h).1 in
      said_known who old new well s (same.same s.slot.0 from near) h
