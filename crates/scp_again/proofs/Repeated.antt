-- What is sent once more is what the ledger says at that moment.
use Rattle.std.proofs.Common.{◌≡◌, ℕ, ◌+◌, ◌-◌, ◌^◌, Bool, true, false, [], ◌∷◌, ◌++◌, length, refl, sym, ◌∙◌, ap, subst, All, get_or, inl, inr, zero, suc}
use Rattle.std.specs.Prelude.{Option, Some, None, Contains, drop, nat_lt, if◌then◌else◌}
use Rattle.std.specs.Option.{ForSome}
use Rattle.std.proofs.lemmas.List.Elements.{All-nil, All-append}
use Rattle.scp_core.specs.scp_types.specs.declared.limits.TheConstants.{WINDOW}
use Rattle.scp_core.specs.scp_envelope.specs.declared.statement.Pledges.{Pledges}
use Rattle.scp_core.specs.scp_envelope.specs.declared.statement.Statement.{Statement}
use Rattle.scp_core.specs.scp_wire.specs.declared.message.Message.{Message}
use Rattle.scp_core.specs.scp_wire.specs.declared.message.Message.TheVariants.{GetRecord}
use Rattle.scp_core.specs.scp_outbox.specs.Outbox.{is_nomination}
use Rattle.scp_core.specs.scp_outbox.specs.Sent.{statement_of}
use Rattle.scp_core.specs.scp_nominate.specs.Nomination as nominate
use Rattle.scp_core.specs.scp_slot.specs.declared.machine.SlotMachine.{SlotMachine}
use Rattle.scp_core.specs.scp_slot.specs.Slot.{slot_view}
use Rattle.scp_core.specs.scp_ledger.specs.declared.journal.Decision.{Decision}
use Rattle.scp_core.specs.scp_ledger.specs.declared.journal.Origin.{Origin}
use Rattle.scp_core.specs.scp_ledger.specs.declared.journal.Origin.TheVariants.{Machine, Named}
use Rattle.scp_core.specs.scp_ledger.specs.Seen.{LedgerView, machine_at, is_asked}
use Rattle.scp_core.specs.scp_theorem.specs.Grounds.{Who}
use Rattle.scp_core.specs.scp_theorem.proofs.Basics.{none_some, some_same}
use Rattle.scp_core.specs.scp_theorem.proofs.Machines.{said}
use Rattle.scp_again.specs.Again.{enveloped, own_of, decided_again, own_message, own_messages, emitted_by, asked_for, again_at, slots_again, again_of}
use Rattle.scp_again.proofs.Lists.{all_flat, all_one, dropped_is_there}
use Rattle.scp_again.proofs.Current.{IsOwnOf, IsOwnAt, HasKinds, IsWell, IsCurrent, open_is_ballot}

module _ {D : Type 0} (who : Who) (v : LedgerView D) (well : IsWell who v) where
  -- a message's statement is what the ledger says
  abbrev Says : Message → Type 0
  Says m = ForSome (statement_of m) (IsCurrent who v)

  says_one : (m : Message) (s : Statement) → statement_of m ≡ Some s → IsCurrent who v s → Says m
  says_one m s is current t there = subst (IsCurrent who v) (some_same (statement_of m) s t is there) current

  says_none : (m : Message) → statement_of m ≡ None → Says m
  says_none m none t there = none_some (statement_of m) t none there

  -- ---- decisions

  own_says : (d : Decision) → Contains v.decisions d → (o : Origin) → d.origin ≡ o → All Says (own_of o)
  own_says d there (Named conn seq) is = All-nil Says
  own_says d there (Machine n quorum own) is = all_one Says (enveloped own) (says_one (enveloped own) own.statement refl (at.0, inr (d, there, subst (λ (o : Origin). IsOwnOf own.statement o) (sym is) refl)))
    where
      at : IsOwnAt who.me d.slot.0 (Machine n quorum own)
      at = subst (IsOwnAt who.me d.slot.0) is (well.own d there)

  decided_says : All Says (decided_again v.decisions)
  decided_says = all_flat Says (λ (d : Decision). own_of d.origin) (drop (length v.decisions - WINDOW) v.decisions) (λ k e below. own_says (get_or (drop (length v.decisions - WINDOW) v.decisions) k e) (dropped_is_there (length v.decisions - WINDOW) v.decisions k e below) (get_or (drop (length v.decisions - WINDOW) v.decisions) k e).origin refl)

  -- ---- open slots

  -- a statement of this kind, if the machine said one
  messages_say : (slot : ℕ) (m : SlotMachine D) (kind : Bool) → machine_at v.machines slot ≡ Some m → ((p : Pledges) → said kind (slot_view m) ≡ Some p → is_nomination p ≡ kind) → (o : Option Pledges) → said kind (slot_view m) ≡ o → All Says (own_messages v.me slot o)
  messages_say slot m kind there kinds None is = All-nil Says
  messages_say slot m kind there kinds (Some p) is =
      all_one Says (own_message v.me slot p) (says_one (own_message v.me slot p) (record { node = v.me; slot = record { 0 = slot }; pledges = p }) refl (well.me_is, inl (record { machine = m; there = there; is = ap (λ (k : Bool). said k (slot_view m)) (kinds p is) ∙ is })))

  emitted_says : (slot : ℕ) (o : Option (SlotMachine D)) → machine_at v.machines slot ≡ o → All Says (emitted_by v.me slot o)
  emitted_says slot None is = All-nil Says
  emitted_says slot (Some m) is =
      let kinds : HasKinds (slot_view m) = well.kinds slot m is in
      All-append Says (own_messages v.me slot (nominate.own (slot_view m).nomination)) (own_messages v.me slot (slot_view m).ballots.emitted)
      (messages_say slot m true is (λ p e. kinds.nomination p e) (nominate.own (slot_view m).nomination) refl)
      (messages_say slot m false is (λ p e. open_is_ballot p (kinds.ballots p e)) (slot_view m).ballots.emitted refl)

  asked_says : (link slot : ℕ) → All Says (asked_for v.asked link slot)
  asked_says link slot = by_test (is_asked v.asked (record { slot = record { 0 = slot }; link = link }))
    where
      by_test : (b : Bool) → All Says (if b then GetRecord (record { 0 = slot }) ∷ [] else [])
      by_test true = all_one Says (GetRecord (record { 0 = slot })) (says_none (GetRecord (record { 0 = slot })) refl)
      by_test false = All-nil Says

  at_says : (link slot : ℕ) → All Says (again_at v link slot)
  at_says link slot = by_test (nat_lt slot (2 ^ 64))
    where
      by_test : (b : Bool) → All Says (if b then asked_for v.asked link slot ++ emitted_by v.me slot (machine_at v.machines slot) else [])
      by_test true = All-append Says (asked_for v.asked link slot) (emitted_by v.me slot (machine_at v.machines slot)) (asked_says link slot) (emitted_says slot (machine_at v.machines slot) refl)
      by_test false = All-nil Says

  slots_say : (link n : ℕ) → All Says (slots_again v link n)
  slots_say link zero = All-nil Says
  slots_say link (suc k) = All-append Says (slots_again v link k) (again_at v link (v.lowest + k)) (slots_say link k) (at_says link (v.lowest + k))

  pub again_current : (link : ℕ) → All (λ m. ForSome (statement_of m) (IsCurrent who v)) (again_of v link)
  again_current link = All-append Says (decided_again v.decisions) (slots_again v link WINDOW) decided_says (slots_say link WINDOW)
