-- The machines of the open slots, and what was said at each slot: nothing newer than what its machine said last.
use Rattle.std.proofs.Common.{◌≡◌, ℕ, Bool, true, false, cond, List, [], ◌∷◌, ◌++◌, refl, sym, ◌∙◌, ap, subst, inl, inr, ◌⊎◌, nat_eq}
use Rattle.std.specs.Prelude.{Option, Some, None, IsSomeAnd, is_some, option_to_list, ◌||◌, Any}
use Rattle.std.specs.BTreeMap as tree
use Rattle.std.specs.BTreeSet as tree_set
use Rattle.std.specs.Ordering.{nat_cmp}
use Rattle.std.specs.Cmp.{unsigned_tied}
use Rattle.std.proofs.lemmas.Bool.{eqb-true, eq-eqb}
use Rattle.std.proofs.lemmas.List.Quantifiers.{Any-push}
use Rattle.scp_outbox.specs.scp_types.specs.declared.names.Hash.{Hash}
use Rattle.scp_outbox.specs.scp_types.specs.declared.names.NodeId.{NodeId}
use Rattle.scp_outbox.specs.scp_types.specs.declared.names.Slot.{Slot}
use Rattle.scp_outbox.specs.scp_quorum.specs.QuorumTree.{QuorumTree}
use Rattle.scp_outbox.specs.scp_quorum.specs.QuorumKind.{set_hash}
use Rattle.scp_apply.specs.scp_driver.specs.declared.driver.Level.{Level}
use Rattle.scp_outbox.specs.scp_envelope.specs.Newer.{ArePledgesNewer, IsNewer}
use Rattle.scp_outbox.specs.scp_envelope.specs.declared.statement.Envelope.{Envelope as Enveloped}
use Rattle.scp_outbox.specs.scp_envelope.specs.declared.statement.Pledges.{Pledges}
use Rattle.scp_outbox.specs.scp_envelope.specs.declared.statement.Pledges.TheVariants.{Prepare, Confirm, Externalize, Nominate}
use Rattle.scp_outbox.specs.scp_envelope.specs.declared.statement.Statement.{Statement}
use Rattle.scp_outbox.specs.scp_envelope.proofs.NewerLaws.{transitive}
use Rattle.scp_apply.specs.scp_vote.specs.Licence.{IsExternalize}
use Rattle.scp_outbox.specs.Outbox.{is_nomination, same_bool, are_alike}
use Rattle.scp_apply.specs.scp_nominate.specs.Nomination as nominate
use Rattle.scp_apply.specs.scp_ballot.specs.declared.balloted.Certified.{Certified}
use Rattle.scp_apply.specs.scp_ballot.specs.Balloting as ballot
use Rattle.scp_apply.specs.scp_pending.specs.Queues.{hash_of}
use Rattle.scp_apply.specs.scp_slot.specs.declared.machine.SlotMachine.{SlotMachine}
use Rattle.scp_apply.specs.scp_slot.specs.declared.output.SlotInput.{SlotInput}
use Rattle.scp_apply.specs.scp_slot.specs.declared.output.SlotOutput.{SlotOutput}
use Rattle.scp_apply.specs.scp_slot.specs.Slot.{SlotView, slot_view, driver_of, Begins}
use Rattle.scp_apply.specs.scp_ledger.specs.declared.journal.Decision.{Decision}
use Rattle.scp_apply.specs.scp_ledger.specs.declared.journal.Fate.{Fate}
use Rattle.scp_apply.specs.scp_ledger.specs.declared.journal.Origin.TheVariants.{Machine}
use Rattle.scp_apply.specs.scp_ledger.specs.declared.took.Took.{Took}
use Rattle.scp_apply.specs.scp_ledger.specs.Seen.{LedgerView, machine_at}
use Rattle.scp_apply.specs.scp_ledger.specs.Decisions.{is_at, is_decided}
use Rattle.scp_apply.specs.scp_ledger.specs.Takes.{IsMachineFor, decision_of, RunsAt}
use Rattle.scp_theorem.specs.Grounds.{Who, IsOwn, IsOwnOf, IsDecided}
use Rattle.scp_theorem.proofs.Basics.{none_some, some_same, true_isnt, which, and_first, and_second, at_is}
use Rattle.scp_theorem.proofs.Emitted.{IsTold, Tells, HasDecision, IsMine, Says, mine_then, says}

-- ---- the last one said

-- the statement was the last one said, or the last one is newer
pub record IsUpTo (p : Pledges) (now : Option Pledges) : Type 0 where
  pub last : Pledges
  pub there : now ≡ Some last
  pub upto : (p ≡ last) ⊎ ArePledgesNewer p last

-- what a machine said last of a kind
abbrev pub said : Bool → SlotView → Option Pledges
said true v = nominate.own v.nomination
said false v = v.ballots.emitted

newer_trans : (s : Statement) (p q r : Pledges) → ArePledgesNewer p q → ArePledgesNewer q r → ArePledgesNewer p r
newer_trans s p q r a b =
    let one : IsNewer (record s { pledges = p }) (record s { pledges = q }) = record { same_node = refl; same_slot = refl; newer = a } in
    let two : IsNewer (record s { pledges = q }) (record s { pledges = r }) = record { same_node = refl; same_slot = refl; newer = b } in
    let all : IsNewer (record s { pledges = p }) (record s { pledges = r }) = transitive (record s { pledges = p }) (record s { pledges = q }) (record s { pledges = r }) one two in
    all.newer

-- what is said is newer than all that was said
told_ahead : (me : NodeId) (at : ℕ) (hash : Hash) (kind : Bool) (before now : Option Pledges) (e : Enveloped) (p : Pledges) → IsTold me at hash kind before now e → IsUpTo p before → ArePledgesNewer p e.statement.pledges
told_ahead me at hash kind before now e p t h = elim h.upto [
  | inl same ↦ subst (λ (q : Pledges). ArePledgesNewer q e.statement.pledges) (sym same) (t.newer h.last h.there)
  | inr less ↦ newer_trans e.statement p h.last e.statement.pledges less (t.newer h.last h.there)
]

upto_then : (me : NodeId) (at : ℕ) (hash : Hash) (kind : Bool) (before now : Option Pledges) (found : Option Enveloped) (p : Pledges) → Tells me at hash kind before found now → IsUpTo p before → IsUpTo p now
upto_then me at hash kind before now found p t h = by_found found refl
  where
    by_found : (o : Option Enveloped) → found ≡ o → IsUpTo p now
    by_found None e = record { last = h.last; there = t.still e ∙ h.there; upto = h.upto }
    by_found (Some e) is = (let told = t.told e is in record { last = e.statement.pledges; there = told.stands; upto = inr (told_ahead me at hash kind before now e p told h) })

module _ {D : Type 0} where
  -- ---- the ledger's machines

  -- the machine of each open slot is of this node, slot and set, and hasn't decided
  abbrev pub AreMine : NodeId → Hash → LedgerView D → Type 0
  AreMine me hash v = (at : ℕ) (m : SlotMachine D) → machine_at v.machines at ≡ Some m → IsMine me at hash (slot_view m) × (ballot.IsDecided (slot_view m).ballots → ⊥)

  -- of the statement's slot there is a decision, or its machine said last this one or a newer one
  abbrev pub IsBehind : LedgerView D → Statement → Type 0
  IsBehind v s = (is_decided s.slot.0 v.decisions ≡ true) ⊎ ((m : SlotMachine D) × (machine_at v.machines s.slot.0 ≡ Some m) × IsUpTo s.pledges (said (is_nomination s.pledges) (slot_view m)))

  -- a statement that may be sent, newer than all that was behind before
  pub record MayTell (who : Who) (old new : LedgerView D) (e : Enveloped) : Type 0 where
    pub own : IsOwn who e
    pub decided : IsDecided new.decisions e e.statement.pledges
    pub behind : IsBehind new e.statement
    pub ahead : (s : Statement) → s.node ≡ who.me → IsBehind old s → are_alike s e.statement ≡ true → IsNewer s e.statement

-- ---- lists of decisions

pub decided_front : (n : ℕ) (ds more : List Decision) → is_decided n ds ≡ true → is_decided n (ds ++ more) ≡ true
decided_front n [] more e = absurd (true_isnt (sym e))
decided_front n (d ∷ ds) more e = by_test (is_at n d) (decided_front n ds more) e
  where
    by_test : (b : Bool) → (is_decided n ds ≡ true → is_decided n (ds ++ more) ≡ true) → (b || is_decided n ds) ≡ true → (b || is_decided n (ds ++ more)) ≡ true
    by_test true rest k = refl
    by_test false rest k = rest k

pub decided_last : (ds : List Decision) (d : Decision) → is_decided d.slot.0 (ds ++ d ∷ []) ≡ true
decided_last [] d = ap (λ (b : Bool). b || false) (eq-eqb d.slot.0 d.slot.0 refl)
decided_last (e ∷ ds) d = by_test (is_at d.slot.0 e) (decided_last ds d)
  where
    by_test : (b : Bool) → is_decided d.slot.0 (ds ++ d ∷ []) ≡ true → (b || is_decided d.slot.0 (ds ++ d ∷ [])) ≡ true
    by_test true rest = refl
    by_test false rest = rest

pub decided_then : (n : ℕ) (old new more : List Decision) → new ≡ old ++ more → is_decided n old ≡ true → is_decided n new ≡ true
decided_then n old new more e h = ap (λ (ds : List Decision). is_decided n ds) e ∙ decided_front n old more h

-- ---- an input runs the machine of a slot

at_itself : (n : ℕ) → tree.is_at (nat_cmp n) n ≡ true
at_itself n = unsigned_tied n n ∙ eq-eqb n n refl

hash_is : (set : QuorumTree) (h : Hash) → h.0 ≡ set_hash set → h ≡ hash_of set
hash_is set h e = ap (λ (bytes : List ℕ). let x : Hash = record { 0 = bytes } in x) e

pub begins_mine : (me : NodeId) (at : ℕ) (set : QuorumTree) (v : SlotView) → Begins me at set v → IsMine me at (hash_of set) v
begins_mine me at set v b = record {
  nomination_me = b.nomination.me;
  nomination_slot = b.nomination.slot;
  nomination_hash = hash_is set v.nomination.hash b.nomination.hash;
  ballots_me = b.ballots.me;
  ballots_slot = b.ballots.slot;
  ballots_hash = hash_is set v.ballots.hash b.ballots.hash;
}

pub begins_open : (me : NodeId) (at : ℕ) (set : QuorumTree) (v : SlotView) → Begins me at set v → ballot.IsDecided v.ballots → ⊥
begins_open me at set v b h = subst (λ (q : Option Pledges). IsSomeAnd q IsExternalize) (b.ballots.statements v.ballots.board.me) h

-- a nomination needs no decision
nomination_decided : (ds : List Decision) (e : Enveloped) (p : Pledges) → is_nomination p ≡ true → IsDecided ds e p
nomination_decided ds e (Prepare p) k = tt
nomination_decided ds e (Confirm p) k = tt
nomination_decided ds e (Externalize p) k = absurd (true_isnt (sym k))
nomination_decided ds e (Nominate p) k = tt

externalize_decided : (ds : List Decision) (e : Enveloped) (p : Pledges) → (IsExternalize p → Any (λ (d : Decision). IsOwnOf e d.origin) ds) → IsDecided ds e p
externalize_decided ds e (Prepare p) h = tt
externalize_decided ds e (Confirm p) h = tt
externalize_decided ds e (Externalize p) h = h tt
externalize_decided ds e (Nominate p) h = tt

same_kind : (a b : Bool) → same_bool a b ≡ true → a ≡ b
same_kind true true e = refl
same_kind true false e = absurd (true_isnt (sym e))
same_kind false true e = absurd (true_isnt (sym e))
same_kind false false e = refl

module _ {D : Type 0} where
  -- if a machine was there, it ran
  pub machine_was : (old : LedgerView D) (at : Slot) (before m : SlotMachine D) → IsMachineFor old at (machine_at old.machines at.0) before → machine_at old.machines at.0 ≡ Some m → before ≡ m
  machine_was old at before m its e = by_there (machine_at old.machines at.0) e its
    where
      by_there : (o : Option (SlotMachine D)) → o ≡ Some m → IsMachineFor old at o before → before ≡ m
      by_there None k b = none_some None m refl k
      by_there (Some x) k b = b ∙ some_same (Some x) x m refl k

  -- what the ledger tells, and what stays so
  pub record Ran (who : Who) (old : LedgerView D) (out : SlotOutput) (new : LedgerView D) : Type 0 where
    pub machines : AreMine who.me (hash_of who.set) new
    pub behind : (s : Statement) → IsBehind old s → IsBehind new s
    pub nomination : (e : Enveloped) → out.emitted.nomination ≡ Some e → MayTell who old new e × (is_nomination e.statement.pledges ≡ true)
    pub ballots : (e : Enveloped) → out.emitted.ballot ≡ Some e → MayTell who old new e × (is_nomination e.statement.pledges ≡ false)

  module _ (who : Who) (level : D → ℕ → List ℕ → Level) (extracted : D → ℕ → List ℕ → Option (List ℕ)) (combined : D → ℕ → List (List ℕ) → List ℕ) (place : D → ℕ → ℕ → ℕ → ℕ) (old : LedgerView D) (at : Slot) (given : SlotInput) (fates : List Fate) (took : Took) (new : LedgerView D)
      (me_is : old.me ≡ who.me) (set_is : old.local ≡ who.set) (mine : AreMine who.me (hash_of who.set) old) (r : RunsAt level extracted combined place old at given fates took new) where
    abbrev hash : Hash
    hash = hash_of who.set

    abbrev before : SlotView
    before = slot_view r.before

    abbrev after' : SlotView
    after' = slot_view r.after

    is_mine : (o : Option (SlotMachine D)) → machine_at old.machines at.0 ≡ o → IsMachineFor old at o r.before → IsMine who.me at.0 hash before × (ballot.IsDecided before.ballots → ⊥)
    is_mine None e b = (
      subst (λ (q : QuorumTree). IsMine who.me at.0 (hash_of q) before) set_is (subst (λ (n : NodeId). IsMine n at.0 (hash_of old.local) before) me_is (begins_mine old.me at.0 old.local before b.0)),
      begins_open old.me at.0 old.local before b.0,
    )
    is_mine (Some m) e b = (let h = mine at.0 m e in subst (λ (x : SlotMachine D). IsMine who.me at.0 hash (slot_view x) × (ballot.IsDecided (slot_view x).ballots → ⊥)) (sym b) h)

    was : IsMine who.me at.0 hash before × (ballot.IsDecided before.ballots → ⊥)
    was = is_mine (machine_at old.machines at.0) refl r.machine

    tells : Says who.me at.0 hash before r.out after'
    tells = says who.me at.0 hash before r.out after' was.0 was.1 (level (driver_of r.before) before.slot) (combined (driver_of r.before) before.nomination.slot) given r.takes

    -- the machine that was there
    there_before : (m : SlotMachine D) → machine_at old.machines at.0 ≡ Some m → r.before ≡ m
    there_before m e = machine_was old at r.before m r.machine e

    -- it hasn't decided, where it gave no decision
    open_then : r.out.decided ≡ None → ballot.IsDecided after'.ballots → ⊥
    open_then none d = clash (sym (ap is_some none) ∙ r.decides.exactly.1 (was.1, d))
      where
        clash : false ≡ true → ⊥
        clash e = cc

    -- the machine of the slot afterwards
    here : machine_at new.machines at.0 ≡ cond (is_some r.out.decided) None (Some r.after)
    here = r.machines at.0 ∙ ap (λ (b : Bool). cond b (cond (is_some r.out.decided) None (Some r.after)) (machine_at old.machines at.0)) (at_itself at.0)

    abbrev made : Certified → Decision
    made d = record { slot = at; value = d.value; origin = Machine d.n (tree_set.keys d.quorum) d.own }

    grown : (d : Certified) → r.out.decided ≡ Some d → new.decisions ≡ old.decisions ++ made d ∷ []
    grown d some = r.decisions ∙ ap (λ (o : Option Certified). old.decisions ++ option_to_list (decision_of at o)) some

    elsewhere : (s : ℕ) → tree.is_at (nat_cmp at.0) s ≡ false → machine_at new.machines s ≡ machine_at old.machines s
    elsewhere s e = r.machines s ∙ ap (λ (b : Bool). cond b (cond (is_some r.out.decided) None (Some r.after)) (machine_at old.machines s)) e

    -- a decision, or the machine as it is then
    ended_or : (s : Statement) → s.slot.0 ≡ at.0 → IsUpTo s.pledges (said (is_nomination s.pledges) after') → IsBehind new s
    ended_or s e u = by_decided r.out.decided refl
      where
        by_decided : (o : Option Certified) → r.out.decided ≡ o → IsBehind new s
        by_decided None none = inr (r.after, ap (λ (n : ℕ). machine_at new.machines n) e ∙ here ∙ ap (λ (o : Option Certified). cond (is_some o) None (Some r.after)) none, u)
        by_decided (Some d) some = inl (ap (λ (n : ℕ). is_decided n new.decisions) e ∙ ap (λ (ds : List Decision). is_decided at.0 ds) (grown d some) ∙ decided_last old.decisions (made d))

    -- what was said of a kind is followed by what is said of it then
    goes_on : (kind : Bool) (p : Pledges) → IsUpTo p (said kind before) → IsUpTo p (said kind after')
    goes_on true p u = upto_then who.me at.0 hash true (nominate.own before.nomination) (nominate.own after'.nomination) r.out.emitted.nomination p tells.nomination.tells u
    goes_on false p u = upto_then who.me at.0 hash false before.ballots.emitted after'.ballots.emitted r.out.emitted.ballot p tells.ballots.tells u

    behind_then : (s : Statement) → IsBehind old s → IsBehind new s
    behind_then s h = elim h [
      | inl done ↦ inl (decided_then s.slot.0 old.decisions new.decisions (option_to_list (decision_of at r.out.decided)) r.decisions done)
      | inr w ↦ elim (which (tree.is_at (nat_cmp at.0) s.slot.0)) [
        | inl same ↦ (
            let e : s.slot.0 ≡ at.0 = sym (at_is at.0 s.slot.0 same) in
            let m : r.before ≡ w.0 = there_before w.0 (ap (λ (n : ℕ). machine_at old.machines n) (sym e) ∙ w.1) in
            ended_or s e (goes_on (is_nomination s.pledges) s.pledges (subst (λ (x : SlotMachine D). IsUpTo s.pledges (said (is_nomination s.pledges) (slot_view x))) (sym m) w.2))
            )
        | inr other ↦ inr (w.0, elsewhere s.slot.0 other ∙ w.1, w.2)
      ]
    ]

    machines_then : (s : ℕ) (m : SlotMachine D) → machine_at new.machines s ≡ Some m → IsMine who.me s hash (slot_view m) × (ballot.IsDecided (slot_view m).ballots → ⊥)
    machines_then s m there = elim (which (tree.is_at (nat_cmp at.0) s)) [
      | inl same ↦ by_decided (at_is at.0 s same) r.out.decided refl
      | inr other ↦ mine s m (sym (elsewhere s other) ∙ there)
    ]
      where
        by_decided : at.0 ≡ s → (o : Option Certified) → r.out.decided ≡ o → IsMine who.me s hash (slot_view m) × (ballot.IsDecided (slot_view m).ballots → ⊥)
        by_decided e None none =
            let now : machine_at new.machines s ≡ Some r.after = ap (λ (n : ℕ). machine_at new.machines n) (sym e) ∙ here ∙ ap (λ (o : Option Certified). cond (is_some o) None (Some r.after)) none in
            let is : r.after ≡ m = some_same (machine_at new.machines s) r.after m now there in
            let all : IsMine who.me s hash after' × (ballot.IsDecided after'.ballots → ⊥) = (subst (λ (n : ℕ). IsMine who.me n hash after') e (mine_then who.me at.0 hash before r.out after' tells), open_then none) in
            subst (λ (x : SlotMachine D). IsMine who.me s hash (slot_view x) × (ballot.IsDecided (slot_view x).ballots → ⊥)) is all
        by_decided e (Some d) some =
            none_some (machine_at new.machines s) m (ap (λ (n : ℕ). machine_at new.machines n) (sym e) ∙ here ∙ ap (λ (o : Option Certified). cond (is_some o) None (Some r.after)) some) there

    -- a statement of a kind that is said
    may_tell : (kind : Bool) (e : Enveloped) → IsTold who.me at.0 hash kind (said kind before) (said kind after') e → IsDecided new.decisions e e.statement.pledges → MayTell who old new e
    may_tell kind e t decided = record {
      own = record { node = t.node; set = t.set; unsigned = t.unsigned; sane = t.sane };
      decided = decided;
      behind = ended_or e.statement t.slot (subst (λ (k : Bool). IsUpTo e.statement.pledges (said k after')) (sym t.its_kind) (record { last = e.statement.pledges; there = t.stands; upto = inl refl }));
      ahead = λ s node h alike. ahead s node h (eqb-true s.slot.0 e.statement.slot.0 (and_first (nat_eq s.slot.0 e.statement.slot.0) (same_bool (is_nomination s.pledges) (is_nomination e.statement.pledges)) alike)) (same_kind (is_nomination s.pledges) (is_nomination e.statement.pledges) (and_second (nat_eq s.slot.0 e.statement.slot.0) (same_bool (is_nomination s.pledges) (is_nomination e.statement.pledges)) alike));
    }
      where
        ahead : (s : Statement) → s.node ≡ who.me → IsBehind old s → s.slot.0 ≡ e.statement.slot.0 → is_nomination s.pledges ≡ is_nomination e.statement.pledges → IsNewer s e.statement
        ahead s node h slots kinds = record {
          same_node = node ∙ sym t.node;
          same_slot = ap (λ (n : ℕ). let x : Slot = record { 0 = n } in x) slots;
          newer = elim h [
            | inl done ↦ absurd (true_isnt (sym done ∙ ap (λ (n : ℕ). is_decided n old.decisions) (slots ∙ t.slot) ∙ r.is_open.undecided))
            | inr w ↦ (
                let m : r.before ≡ w.0 = there_before w.0 (ap (λ (n : ℕ). machine_at old.machines n) (sym (slots ∙ t.slot)) ∙ w.1) in
                let upto : IsUpTo s.pledges (said (is_nomination s.pledges) before) = subst (λ (x : SlotMachine D). IsUpTo s.pledges (said (is_nomination s.pledges) (slot_view x))) (sym m) w.2 in
                told_ahead who.me at.0 hash kind (said kind before) (said kind after') e s.pledges t (subst (λ (k : Bool). IsUpTo s.pledges (said k before)) (kinds ∙ t.its_kind) upto)
                )
          ];
        }

    -- an EXTERNALIZE has the decision that comes with it
    has_decision : (e : Enveloped) → HasDecision e r.out.decided → Any (λ (d : Decision). IsOwnOf e d.origin) new.decisions
    has_decision e h = subst (λ (ds : List Decision). Any (λ (d : Decision). IsOwnOf e d.origin) ds) (sym (grown h.0 h.1)) (Any-push (λ (d : Decision). IsOwnOf e d.origin) old.decisions (made h.0) h.2)

    pub ran : Ran who old r.out new
    ran = record {
      machines = machines_then;
      behind = behind_then;
      nomination = λ e is. (let t = tells.nomination.tells.told e is in (may_tell true e t (nomination_decided new.decisions e e.statement.pledges t.its_kind), t.its_kind));
      ballots = λ e is. (let t = tells.ballots.tells.told e is in (may_tell false e t (externalize_decided new.decisions e e.statement.pledges (λ x. has_decision e (tells.ballots.ends e is x))), t.its_kind));
    }
