-- What a ledger says of each slot and kind: the statement that its machine emitted last, or that of its own decision; and that this is the newest.
use Rattle.std.proofs.Common.{◌≡◌, ℕ, Bool, true, false, List, refl, sym, ◌∙◌, ap, subst, inl, inr, ◌⊎◌, nat_eq}
use Rattle.std.specs.Prelude.{Some, Contains, ◌&&◌}
use Rattle.std.specs.Option.{ForSome}
use Rattle.std.proofs.lemmas.Bool.{eqb-true, eq-eqb}
use Rattle.scp_core.specs.scp_types.specs.declared.names.NodeId.{NodeId}
use Rattle.scp_core.specs.scp_types.specs.declared.names.Slot.{Slot}
use Rattle.scp_core.specs.scp_envelope.specs.Newer.{ArePledgesNewer, IsNewer}
use Rattle.scp_core.specs.scp_envelope.specs.declared.statement.Pledges.{Pledges}
use Rattle.scp_core.specs.scp_envelope.specs.declared.statement.Pledges.TheVariants.{Prepare, Confirm, Externalize, Nominate}
use Rattle.scp_core.specs.scp_envelope.specs.declared.statement.Statement.{Statement}
use Rattle.scp_core.specs.scp_vote.specs.Licence.{IsExternalize}
use Rattle.scp_core.specs.scp_outbox.specs.Outbox.{is_nomination, same_bool, are_alike}
use Rattle.scp_core.specs.scp_nominate.specs.Nomination as nominate
use Rattle.scp_core.specs.scp_pending.specs.Queues.{hash_of}
use Rattle.scp_core.specs.scp_slot.specs.declared.machine.SlotMachine.{SlotMachine}
use Rattle.scp_core.specs.scp_slot.specs.Slot.{SlotView, slot_view}
use Rattle.scp_core.specs.scp_ledger.specs.declared.journal.Decision.{Decision}
use Rattle.scp_core.specs.scp_ledger.specs.declared.journal.Origin.{Origin}
use Rattle.scp_core.specs.scp_ledger.specs.declared.journal.Origin.TheVariants.{Machine, Named}
use Rattle.scp_core.specs.scp_ledger.specs.Decisions.{is_decided}
use Rattle.scp_core.specs.scp_ledger.specs.Seen.{LedgerView, machine_at}
use Rattle.scp_core.specs.scp_theorem.specs.Grounds.{Who}
use Rattle.scp_core.specs.scp_theorem.proofs.Basics.{true_isnt, and_first, and_second, some_same}
use Rattle.scp_core.specs.scp_theorem.proofs.Emitted.{statement_is}
use Rattle.scp_core.specs.scp_theorem.proofs.Machines.{said, AreMine, IsBehind}
use Rattle.scp_again.proofs.Lists.{there_decided}

-- ---- statements of one slot and kind

pub true_false : {A : Type 0} (b : Bool) → b ≡ true → b ≡ false → A
true_false b x y = absurd (true_isnt (sym x ∙ y))

same_kind : (a b : Bool) → same_bool a b ≡ true → a ≡ b
same_kind true b e = sym e
same_kind false true e = absurd (true_isnt (sym e))
same_kind false false e = refl

kinds_same : (a b : Bool) → a ≡ b → same_bool a b ≡ true
kinds_same true b e = sym e
kinds_same false true e = absurd (true_isnt (sym e))
kinds_same false false e = refl

both : (a b : Bool) → a ≡ true → b ≡ true → (a && b) ≡ true
both true b x y = y
both false b x y = absurd (true_isnt (sym x))

-- what are alike have one slot and one kind
pub slots_are : (s t : Statement) → are_alike s t ≡ true → s.slot.0 ≡ t.slot.0
slots_are s t e = eqb-true s.slot.0 t.slot.0 (and_first (nat_eq s.slot.0 t.slot.0) (same_bool (is_nomination s.pledges) (is_nomination t.pledges)) e)

pub kinds_are : (s t : Statement) → are_alike s t ≡ true → is_nomination s.pledges ≡ is_nomination t.pledges
kinds_are s t e = same_kind (is_nomination s.pledges) (is_nomination t.pledges) (and_second (nat_eq s.slot.0 t.slot.0) (same_bool (is_nomination s.pledges) (is_nomination t.pledges)) e)

pub alike : (s t : Statement) → s.slot.0 ≡ t.slot.0 → is_nomination s.pledges ≡ is_nomination t.pledges → are_alike s t ≡ true
alike s t slots kinds = both (nat_eq s.slot.0 t.slot.0) (same_bool (is_nomination s.pledges) (is_nomination t.pledges)) (eq-eqb s.slot.0 t.slot.0 slots) (kinds_same (is_nomination s.pledges) (is_nomination t.pledges) kinds)

newer_is : (s t : Statement) → s.node ≡ t.node → s.slot.0 ≡ t.slot.0 → ArePledgesNewer s.pledges t.pledges → IsNewer s t
newer_is s t n k p = record { same_node = n; same_slot = ap (λ (x : ℕ). let y : Slot = record { 0 = x } in y) k; newer = p }

-- ---- decisions

-- the statement is the own one that the decision came from
abbrev pub IsOwnOf : Statement → Origin → Type 0
IsOwnOf s (Machine n quorum own) = own.statement ≡ s
IsOwnOf s (Named conn seq) = ⊥

-- or the decision rests on a record
abbrev pub IsOwnIf : Statement → Origin → Type 0
IsOwnIf s (Machine n quorum own) = own.statement ≡ s
IsOwnIf s (Named conn seq) = Unit {0}

-- its own statement is an EXTERNALIZE of this node and slot
abbrev pub IsOwnAt : NodeId → ℕ → Origin → Type 0
IsOwnAt me slot (Machine n quorum own) = (own.statement.node ≡ me) × (own.statement.slot.0 ≡ slot) × IsExternalize own.statement.pledges
IsOwnAt me slot (Named conn seq) = Unit {0}

own_at : (me : NodeId) (slot : ℕ) (s : Statement) (o : Origin) → IsOwnOf s o → IsOwnAt me slot o → (s.node ≡ me) × (s.slot.0 ≡ slot) × IsExternalize s.pledges
own_at me slot s (Machine n quorum own) is at = subst (λ (t : Statement). (t.node ≡ me) × (t.slot.0 ≡ slot) × IsExternalize t.pledges) is at
own_at me slot s (Named conn seq) is at = absurd is

own_same : (s t : Statement) (o : Origin) → IsOwnOf s o → IsOwnIf t o → s ≡ t
own_same s t (Machine n quorum own) x y = sym x ∙ y
own_same s t (Named conn seq) x y = absurd x

own_if : (s : Statement) (o : Origin) → IsOwnOf s o → IsOwnIf s o
own_if s (Machine n quorum own) x = x
own_if s (Named conn seq) x = absurd x

-- an EXTERNALIZE is that of a decision
abbrev pub HasDecision : List Decision → Statement → Pledges → Type 0
HasDecision ds s (Prepare p) = Unit {0}
HasDecision ds s (Confirm p) = Unit {0}
HasDecision ds s (Externalize p) = (d : Decision) × Contains ds d × IsOwnOf s d.origin
HasDecision ds s (Nominate p) = Unit {0}

-- ---- machines

-- a PREPARE or a CONFIRM
abbrev pub IsOpenBallot : Pledges → Type 0
IsOpenBallot (Prepare p) = Unit {0}
IsOpenBallot (Confirm p) = Unit {0}
IsOpenBallot (Externalize p) = ⊥
IsOpenBallot (Nominate p) = ⊥

pub open_is_ballot : (p : Pledges) → IsOpenBallot p → is_nomination p ≡ false
open_is_ballot (Prepare p) h = refl
open_is_ballot (Confirm p) h = refl
open_is_ballot (Externalize p) h = absurd h
open_is_ballot (Nominate p) h = absurd h

-- what the machine of an open slot said last of each kind
pub record HasKinds (v : SlotView) : Type 0 where
  pub nomination : ForSome (nominate.own v.nomination) (λ p. is_nomination p ≡ true)
  pub ballots : ForSome v.ballots.emitted IsOpenBallot

-- ---- ledgers

module _ {D : Type 0} where
  -- how a ledger always stands
  pub record IsWell (who : Who) (v : LedgerView D) : Type 0 where
    pub me_is : v.me ≡ who.me
    pub set_is : v.local ≡ who.set
    pub machines : AreMine who.me (hash_of who.set) v
    pub kinds : (at : ℕ) (m : SlotMachine D) → machine_at v.machines at ≡ Some m → HasKinds (slot_view m)
    pub undecided : (at : ℕ) (m : SlotMachine D) → machine_at v.machines at ≡ Some m → is_decided at v.decisions ≡ false
    pub own : (d : Decision) → Contains v.decisions d → IsOwnAt who.me d.slot.0 d.origin
    pub one : (d e : Decision) → Contains v.decisions d → Contains v.decisions e → d.slot.0 ≡ e.slot.0 → d ≡ e

  -- the node's own statement, with nothing newer in its ledger than what that says of its slot and kind
  pub record IsSaid (who : Who) (v : LedgerView D) (s : Statement) : Type 0 where
    pub node : s.node ≡ who.me
    pub behind : IsBehind v s
    pub decided : HasDecision v.decisions s s.pledges

  -- the slot's machine said it last
  pub record AtMachine (v : LedgerView D) (s : Statement) : Type 0 where
    pub machine : SlotMachine D
    pub there : machine_at v.machines s.slot.0 ≡ Some machine
    pub is : said (is_nomination s.pledges) (slot_view machine) ≡ Some s.pledges

  -- it is that of a decision
  abbrev pub AtDecision : LedgerView D → Statement → Type 0
  AtDecision v s = (d : Decision) × Contains v.decisions d × IsOwnOf s d.origin

  -- what the ledger says of the statement's slot and kind
  abbrev pub IsCurrent : Who → LedgerView D → Statement → Type 0
  IsCurrent who v s = (s.node ≡ who.me) × (AtMachine v s ⊎ AtDecision v s)

  -- its slot is decided, and a ballot statement is that of the decision, unless that rests on a record
  pub record IsEnded (v : LedgerView D) (s : Statement) : Type 0 where
    pub decided : is_decided s.slot.0 v.decisions ≡ true
    pub own : is_nomination s.pledges ≡ false → (d : Decision) → Contains v.decisions d → d.slot.0 ≡ s.slot.0 → IsOwnIf s d.origin

  -- the last statement of its slot and kind that was handed out
  abbrev pub IsLast : LedgerView D → Statement → Type 0
  IsLast v s = AtMachine v s ⊎ IsEnded v s

  -- ---- nothing is newer

  module _ (who : Who) (v : LedgerView D) (well : IsWell who v) where
    -- a decision's statement
    ending : (s : Statement) → AtDecision v s → (s.node ≡ who.me) × (is_decided s.slot.0 v.decisions ≡ true) × IsExternalize s.pledges
    ending s w =
        let at = own_at who.me w.0.slot.0 s w.0.origin w.2 (well.own w.0 w.1) in
        (at.0, there_decided v.decisions w.0 s.slot.0 w.1 (sym at.1), at.2)

    -- an open slot has no decision
    open_ended : {A : Type 0} (n m : ℕ) (machine : SlotMachine D) → machine_at v.machines n ≡ Some machine → m ≡ n → is_decided m v.decisions ≡ true → A
    open_ended n m machine there same done = true_false (is_decided n v.decisions) (ap (λ (k : ℕ). is_decided k v.decisions) (sym same) ∙ done) (well.undecided n machine there)

    -- what two statements of one slot and kind are, of which the machine said the second last
    same_said : (s t : Statement) (p : Pledges) (m : SlotMachine D) → are_alike s t ≡ true → machine_at v.machines s.slot.0 ≡ Some m → said (is_nomination s.pledges) (slot_view m) ≡ Some p → (w : AtMachine v t) → p ≡ t.pledges
    same_said s t p m like there is w =
        let same : m ≡ w.machine = some_same (machine_at v.machines t.slot.0) m w.machine (ap (λ (n : ℕ). machine_at v.machines n) (sym (slots_are s t like)) ∙ there) w.there in
        let now : said (is_nomination t.pledges) (slot_view w.machine) ≡ Some p = ap (λ (k : Bool). said k (slot_view w.machine)) (sym (kinds_are s t like)) ∙ ap (λ (x : SlotMachine D). said (is_nomination s.pledges) (slot_view x)) (sym same) ∙ is in
        some_same (said (is_nomination t.pledges) (slot_view w.machine)) p t.pledges now w.is

    by_machine : (s t : Statement) → IsSaid who v s → t.node ≡ who.me → AtMachine v t → are_alike s t ≡ true → (s ≡ t) ⊎ IsNewer s t
    by_machine s t h node w like = elim h.behind [
      | inl done ↦ open_ended t.slot.0 s.slot.0 w.machine w.there (slots_are s t like) done
      | inr b ↦ upto b.2.last (same_said s t b.2.last b.0 like b.1 b.2.there w) b.2.upto
    ]
      where
        upto : (last : Pledges) → last ≡ t.pledges → (s.pledges ≡ last) ⊎ ArePledgesNewer s.pledges last → (s ≡ t) ⊎ IsNewer s t
        upto last is u = elim u [
          | inl same ↦ inl (statement_is s t (h.node ∙ sym node) (slots_are s t like) (same ∙ is))
          | inr less ↦ inr (newer_is s t (h.node ∙ sym node) (slots_are s t like) (subst (λ (p : Pledges). ArePledgesNewer s.pledges p) is less))
        ]

    -- the own statements of one slot's decisions are the same
    decided_same : (s t : Statement) → AtDecision v s → AtDecision v t → s.slot.0 ≡ t.slot.0 → s ≡ t
    decided_same s t a b slots =
        let x = own_at who.me a.0.slot.0 s a.0.origin a.2 (well.own a.0 a.1) in
        let y = own_at who.me b.0.slot.0 t b.0.origin b.2 (well.own b.0 b.1) in
        let same : a.0 ≡ b.0 = well.one a.0 b.0 a.1 b.1 (sym x.1 ∙ slots ∙ y.1) in
        own_same s t a.0.origin a.2 (own_if t a.0.origin (subst (λ (d : Decision). IsOwnOf t d.origin) (sym same) b.2))

    by_decision : (s t : Statement) → IsSaid who v s → AtDecision v t → are_alike s t ≡ true → (s ≡ t) ⊎ IsNewer s t
    by_decision s t h w like = by_kind s.pledges t.pledges refl refl end.2
      where
        end : (t.node ≡ who.me) × (is_decided t.slot.0 v.decisions ≡ true) × IsExternalize t.pledges
        end = ending t w

        newer : (p q : Pledges) → s.pledges ≡ p → t.pledges ≡ q → ArePledgesNewer p q → (s ≡ t) ⊎ IsNewer s t
        newer p q e f less = inr (newer_is s t (h.node ∙ sym end.0) (slots_are s t like) (subst (λ (x : Pledges). ArePledgesNewer x t.pledges) (sym e) (subst (λ (x : Pledges). ArePledgesNewer p x) (sym f) less)))

        by_kind : (p q : Pledges) → s.pledges ≡ p → t.pledges ≡ q → IsExternalize t.pledges → (s ≡ t) ⊎ IsNewer s t
        by_kind p (Prepare q) e f x = absurd (subst IsExternalize f x)
        by_kind p (Confirm q) e f x = absurd (subst IsExternalize f x)
        by_kind p (Nominate q) e f x = absurd (subst IsExternalize f x)
        by_kind (Prepare p) (Externalize q) e f x = newer (Prepare p) (Externalize q) e f tt
        by_kind (Confirm p) (Externalize q) e f x = newer (Confirm p) (Externalize q) e f tt
        by_kind (Nominate p) (Externalize q) e f x = true_false (is_nomination s.pledges) (ap is_nomination e) (kinds_are s t like ∙ ap is_nomination f)
        by_kind (Externalize p) (Externalize q) e f x = inl (decided_same s t (subst (HasDecision v.decisions s) e h.decided) w (slots_are s t like))

    -- what was said is what the ledger says now of its slot and kind, or older
    pub no_older : (s t : Statement) → IsSaid who v s → IsCurrent who v t → are_alike s t ≡ true → (s ≡ t) ⊎ IsNewer s t
    no_older s t h c like = elim c.1 [
      | inl w ↦ by_machine s t h c.0 w like
      | inr w ↦ by_decision s t h w like
    ]

    -- ---- what the ledger says was said

    pub current_said : (s : Statement) → IsCurrent who v s → IsSaid who v s
    current_said s c = elim c.1 [
      | inl w ↦ record { node = c.0; behind = inr (w.machine, w.there, record { last = s.pledges; there = w.is; upto = inl refl }); decided = of_machine w s.pledges refl }
      | inr w ↦ record { node = c.0; behind = inl (ending s w).1; decided = of_decision w s.pledges }
    ]
      where
        of_machine : (w : AtMachine v s) (p : Pledges) → s.pledges ≡ p → HasDecision v.decisions s p
        of_machine w (Prepare p) e = tt
        of_machine w (Confirm p) e = tt
        of_machine w (Nominate p) e = tt
        of_machine w (Externalize p) e = absurd ((well.kinds s.slot.0 w.machine w.there).ballots (Externalize p) (subst (λ (q : Pledges). said (is_nomination q) (slot_view w.machine) ≡ Some q) e w.is))

        of_decision : AtDecision v s → (p : Pledges) → HasDecision v.decisions s p
        of_decision w (Prepare p) = tt
        of_decision w (Confirm p) = tt
        of_decision w (Nominate p) = tt
        of_decision w (Externalize p) = w

    -- what was handed out last is what the ledger says
    pub last_is_current : (s t : Statement) → IsCurrent who v s → t.node ≡ who.me → IsLast v t → are_alike s t ≡ true → s ≡ t
    last_is_current s t c node l like = elim c.1 [
      | inl w ↦ elim l [
        | inl x ↦ statement_is s t (c.0 ∙ sym node) (slots_are s t like) (same_said s t s.pledges w.machine like w.there w.is x)
        | inr x ↦ open_ended s.slot.0 t.slot.0 w.machine w.there (sym (slots_are s t like)) x.decided
      ]
      | inr w ↦ elim l [
        | inl x ↦ open_ended t.slot.0 s.slot.0 x.machine x.there (slots_are s t like) (ending s w).1
        | inr x ↦ (
            let at = own_at who.me w.0.slot.0 s w.0.origin w.2 (well.own w.0 w.1) in
            own_same s t w.0.origin w.2 (x.own (sym (kinds_are s t like) ∙ externalize_is s.pledges at.2) w.0 w.1 (sym at.1 ∙ slots_are s t like))
            )
      ]
    ]
      where
        externalize_is : (p : Pledges) → IsExternalize p → is_nomination p ≡ false
        externalize_is (Prepare p) h = absurd h
        externalize_is (Confirm p) h = absurd h
        externalize_is (Externalize p) h = refl
        externalize_is (Nominate p) h = absurd h
