-- A step of the slot stage at one open slot: its machine goes on, or is dropped with a decision.
use Rattle.std.proofs.Common.{◌≡◌, ℕ, Bool, true, false, cond, List, [], ◌∷◌, ◌++◌, refl, sym, ◌∙◌, ap, subst, inl, inr, ◌⊎◌, append-nil, nat_eq}
use Rattle.std.specs.Prelude.{Option, Some, None, Contains, option_to_list}
use Rattle.std.specs.BTreeMap as tree
use Rattle.std.specs.Ordering.{nat_cmp}
use Rattle.std.specs.Cmp.{unsigned_tied}
use Rattle.std.proofs.lemmas.Bool.{eq-eqb}
use Rattle.std.proofs.lemmas.List.Elements.{Contains-append_left, Contains-push, Contains-push_cases}
use Rattle.scp_core.specs.scp_envelope.specs.declared.statement.Pledges.{Pledges}
use Rattle.scp_core.specs.scp_envelope.specs.declared.statement.Pledges.TheVariants.{Prepare, Confirm, Externalize, Nominate}
use Rattle.scp_core.specs.scp_envelope.specs.declared.statement.Statement.{Statement}
use Rattle.scp_core.specs.scp_outbox.specs.Outbox.{is_nomination}
use Rattle.scp_core.specs.scp_pending.specs.Queues.{hash_of}
use Rattle.scp_core.specs.scp_slot.specs.declared.machine.SlotMachine.{SlotMachine}
use Rattle.scp_core.specs.scp_slot.specs.Slot.{slot_view}
use Rattle.scp_core.specs.scp_ledger.specs.declared.journal.Decision.{Decision}
use Rattle.scp_core.specs.scp_ledger.specs.Decisions.{is_decided}
use Rattle.scp_core.specs.scp_ledger.specs.Seen.{LedgerView, machine_at}
use Rattle.scp_core.specs.scp_theorem.specs.Grounds.{Who}
use Rattle.scp_core.specs.scp_theorem.proofs.Basics.{none_some, some_same, which, at_is}
use Rattle.scp_core.specs.scp_theorem.proofs.Machines.{said, AreMine, IsBehind, decided_then}
use Rattle.scp_again.proofs.Lists.{there_decided, still_undecided}
use Rattle.scp_again.proofs.Current.{true_false, IsOwnIf, IsOwnAt, HasDecision, HasKinds, IsWell, IsSaid, AtMachine, IsEnded, IsLast}

at_itself : (n : ℕ) → tree.is_at (nat_cmp n) n ≡ true
at_itself n = unsigned_tied n n ∙ eq-eqb n n refl

pub decision_more : (old new more : List Decision) (s : Statement) (p : Pledges) → new ≡ old ++ more → HasDecision old s p → HasDecision new s p
decision_more old new more s (Prepare p) is h = tt
decision_more old new more s (Confirm p) is h = tt
decision_more old new more s (Nominate p) is h = tt
decision_more old new more s (Externalize p) is h = (h.0, subst (λ (ds : List Decision). Contains ds h.0) (sym is) (Contains-append_left old more h.0 h.1), h.2)

module _ {D : Type 0} where
  -- the machine goes on, with no decision
  pub record GoesOn (now : Option (SlotMachine D)) (added : Option Decision) : Type 0 where
    pub machine : SlotMachine D
    pub now_is : now ≡ Some machine
    pub none : added ≡ None
    pub kinds : HasKinds (slot_view machine)

  -- it is dropped with a decision
  pub record IsOver (who : Who) (at : ℕ) (now : Option (SlotMachine D)) (added : Option Decision) : Type 0 where
    pub decision : Decision
    pub added_is : added ≡ Some decision
    pub none : now ≡ None
    pub slot : decision.slot.0 ≡ at
    pub own : IsOwnAt who.me at decision.origin

  -- what is there of the slot then, and the decision that is added; the others stay
  pub record IsAtSlot (who : Who) (old : LedgerView D) (at : ℕ) (new : LedgerView D) : Type 0 where
    pub now : Option (SlotMachine D)
    pub added : Option Decision
    pub undecided : is_decided at old.decisions ≡ false
    pub me : new.me ≡ old.me
    pub local : new.local ≡ old.local
    pub machines : (s : ℕ) → machine_at new.machines s ≡ cond (tree.is_at (nat_cmp at) s) now (machine_at old.machines s)
    pub decisions : new.decisions ≡ old.decisions ++ option_to_list added
    pub goes : GoesOn now added ⊎ IsOver who at now added
    pub mine : AreMine who.me (hash_of who.set) new
    pub behind : (s : Statement) → IsBehind old s → IsBehind new s

  module _ (who : Who) (old : LedgerView D) (at : ℕ) (new : LedgerView D) (well : IsWell who old) (h : IsAtSlot who old at new) where
    here : machine_at new.machines at ≡ h.now
    here = h.machines at ∙ ap (λ (b : Bool). cond b h.now (machine_at old.machines at)) (at_itself at)

    elsewhere : (s : ℕ) → tree.is_at (nat_cmp at) s ≡ false → machine_at new.machines s ≡ machine_at old.machines s
    elsewhere s e = h.machines s ∙ ap (λ (b : Bool). cond b h.now (machine_at old.machines s)) e

    -- of a decision that is there then: it was there, or was added
    was_there : (d : Decision) → Contains new.decisions d → Contains old.decisions d ⊎ ((w : IsOver who at h.now h.added) × (d ≡ w.decision))
    was_there d there = elim h.goes [
      | inl g ↦ inl (subst (λ (ds : List Decision). Contains ds d) (h.decisions ∙ ap (λ (o : Option Decision). old.decisions ++ option_to_list o) g.none ∙ append-nil old.decisions) there)
      | inr w ↦ elim (Contains-push_cases old.decisions w.decision d (subst (λ (ds : List Decision). Contains ds d) (h.decisions ∙ ap (λ (o : Option Decision). old.decisions ++ option_to_list o) w.added_is) there)) [
        | inl was ↦ inl was
        | inr is ↦ inr (w, sym is)
      ]
    ]

    -- none that was there is of the slot
    not_at : {A : Type 0} (d : Decision) → Contains old.decisions d → d.slot.0 ≡ at → A
    not_at d there is = true_false (is_decided at old.decisions) (there_decided old.decisions d at there is) h.undecided

    kinds_then : (s : ℕ) (m : SlotMachine D) → machine_at new.machines s ≡ Some m → HasKinds (slot_view m)
    kinds_then s m there = elim (which (tree.is_at (nat_cmp at) s)) [
      | inr other ↦ well.kinds s m (sym (elsewhere s other) ∙ there)
      | inl same ↦ (
          let now : h.now ≡ Some m = sym here ∙ ap (λ (n : ℕ). machine_at new.machines n) (at_is at s same) ∙ there in
          elim h.goes [
            | inl g ↦ subst (λ (x : SlotMachine D). HasKinds (slot_view x)) (some_same h.now g.machine m g.now_is now) g.kinds
            | inr w ↦ none_some h.now m w.none now
          ]
          )
    ]

    undecided_then : (s : ℕ) (m : SlotMachine D) → machine_at new.machines s ≡ Some m → is_decided s new.decisions ≡ false
    undecided_then s m there = elim h.goes [
      | inl g ↦ ap (λ (ds : List Decision). is_decided s ds) (h.decisions ∙ ap (λ (o : Option Decision). old.decisions ++ option_to_list o) g.none ∙ append-nil old.decisions) ∙ before
      | inr w ↦ elim (which (tree.is_at (nat_cmp at) s)) [
        | inl same ↦ none_some h.now m w.none (sym here ∙ ap (λ (n : ℕ). machine_at new.machines n) (at_is at s same) ∙ there)
        | inr other ↦ ap (λ (ds : List Decision). is_decided s ds) (h.decisions ∙ ap (λ (o : Option Decision). old.decisions ++ option_to_list o) w.added_is) ∙ still_undecided old.decisions w.decision s before (ap (λ (n : ℕ). nat_eq n s) w.slot ∙ sym (unsigned_tied at s) ∙ other)
      ]
    ]
      where
        before : is_decided s old.decisions ≡ false
        before = elim (which (tree.is_at (nat_cmp at) s)) [
          | inl same ↦ ap (λ (n : ℕ). is_decided n old.decisions) (sym (at_is at s same)) ∙ h.undecided
          | inr other ↦ well.undecided s m (sym (elsewhere s other) ∙ there)
        ]

    own_then : (d : Decision) → Contains new.decisions d → IsOwnAt who.me d.slot.0 d.origin
    own_then d there = elim (was_there d there) [
      | inl was ↦ well.own d was
      | inr w ↦ subst (λ (x : Decision). IsOwnAt who.me x.slot.0 x.origin) (sym w.1) (subst (λ (n : ℕ). IsOwnAt who.me n w.0.decision.origin) (sym w.0.slot) w.0.own)
    ]

    at_slot : (d : Decision) (w : IsOver who at h.now h.added) → d ≡ w.decision → d.slot.0 ≡ at
    at_slot d w is = ap (λ (x : Decision). x.slot.0) is ∙ w.slot

    same_added : (v w : IsOver who at h.now h.added) → v.decision ≡ w.decision
    same_added v w = some_same h.added v.decision w.decision v.added_is w.added_is

    one_then : (d e : Decision) → Contains new.decisions d → Contains new.decisions e → d.slot.0 ≡ e.slot.0 → d ≡ e
    one_then d e a b slots = elim (was_there d a) [
      | inl x ↦ elim (was_there e b) [
        | inl y ↦ well.one d e x y slots
        | inr y ↦ not_at d x (slots ∙ at_slot e y.0 y.1)
      ]
      | inr x ↦ elim (was_there e b) [
        | inl y ↦ not_at e y (sym slots ∙ at_slot d x.0 x.1)
        | inr y ↦ x.1 ∙ same_added x.0 y.0 ∙ sym y.1
      ]
    ]

    pub well_then : IsWell who new
    well_then = record { me_is = h.me ∙ well.me_is; set_is = h.local ∙ well.set_is; machines = h.mine; kinds = kinds_then; undecided = undecided_then; own = own_then; one = one_then }

    pub said_then : (s : Statement) → IsSaid who old s → IsSaid who new s
    said_then s x = record { node = x.node; behind = h.behind s x.behind; decided = decision_more old.decisions new.decisions (option_to_list h.added) s s.pledges h.decisions x.decided }

    -- ---- the last statement of a slot and kind

    -- of the slot itself: what the machine said last, or a decision of it
    pub last_here : (s : Statement) → s.slot.0 ≡ at
        → ((g : GoesOn h.now h.added) → said (is_nomination s.pledges) (slot_view g.machine) ≡ Some s.pledges)
        → ((w : IsOver who at h.now h.added) → is_nomination s.pledges ≡ false → IsOwnIf s w.decision.origin) → IsLast new s
    last_here s is on over = elim h.goes [
      | inl g ↦ inl (record { machine = g.machine; there = ap (λ (n : ℕ). machine_at new.machines n) is ∙ here ∙ g.now_is; is = on g })
      | inr w ↦ inr (record { decided = done w; own = own_here w })
    ]
      where
        done : IsOver who at h.now h.added → is_decided s.slot.0 new.decisions ≡ true
        done w =
            let grown : new.decisions ≡ old.decisions ++ w.decision ∷ [] = h.decisions ∙ ap (λ (o : Option Decision). old.decisions ++ option_to_list o) w.added_is in
            there_decided new.decisions w.decision s.slot.0 (subst (λ (ds : List Decision). Contains ds w.decision) (sym grown) (Contains-push old.decisions w.decision)) (w.slot ∙ sym is)

        own_here : IsOver who at h.now h.added → is_nomination s.pledges ≡ false → (d : Decision) → Contains new.decisions d → d.slot.0 ≡ s.slot.0 → IsOwnIf s d.origin
        own_here w kind d there slots = elim (was_there d there) [
          | inl was ↦ not_at d was (slots ∙ is)
          | inr x ↦ subst (λ (e : Decision). IsOwnIf s e.origin) (sym x.1) (over x.0 kind)
        ]

    -- of another slot
    last_elsewhere : (s : Statement) → tree.is_at (nat_cmp at) s.slot.0 ≡ false → IsLast old s → IsLast new s
    last_elsewhere s other l = elim l [
      | inl m ↦ inl (record { machine = m.machine; there = elsewhere s.slot.0 other ∙ m.there; is = m.is })
      | inr e ↦ inr (record { decided = decided_then s.slot.0 old.decisions new.decisions (option_to_list h.added) h.decisions e.decided; own = own_there e })
    ]
      where
        own_there : IsEnded old s → is_nomination s.pledges ≡ false → (d : Decision) → Contains new.decisions d → d.slot.0 ≡ s.slot.0 → IsOwnIf s d.origin
        own_there e kind d there slots = elim (was_there d there) [
          | inl was ↦ e.own kind d was slots
          | inr x ↦ true_false (tree.is_at (nat_cmp at) s.slot.0) (ap (λ (n : ℕ). tree.is_at (nat_cmp at) n) (sym slots ∙ at_slot d x.0 x.1) ∙ at_itself at) other
        ]

    -- where the machine that was there said it last, and what becomes of it then
    pub last_then : (s : Statement) → IsLast old s
        → ((m : AtMachine old s) → s.slot.0 ≡ at → (g : GoesOn h.now h.added) → said (is_nomination s.pledges) (slot_view g.machine) ≡ Some s.pledges)
        → ((m : AtMachine old s) → s.slot.0 ≡ at → (w : IsOver who at h.now h.added) → is_nomination s.pledges ≡ false → IsOwnIf s w.decision.origin) → IsLast new s
    last_then s l on over = elim (which (tree.is_at (nat_cmp at) s.slot.0)) [
      | inr other ↦ last_elsewhere s other l
      | inl same ↦ (
          let is : s.slot.0 ≡ at = sym (at_is at s.slot.0 same) in
          elim l [
            | inl m ↦ last_here s is (on m is) (over m is)
            | inr e ↦ true_false (is_decided at old.decisions) (ap (λ (n : ℕ). is_decided n old.decisions) (sym is) ∙ e.decided) h.undecided
          ]
          )
    ]
