-- A slot's machine runs: what it leaves, and that what it puts was just said.
use Rattle.std.proofs.Common.{◌≡◌, ℕ, Bool, true, false, cond, List, refl, sym, ◌∙◌, ap, subst, inl, inr, ◌⊎◌}
use Rattle.std.specs.Prelude.{Option, Some, None, is_some}
use Rattle.std.specs.Option.{ForSome}
use Rattle.std.specs.BTreeSet as tree_set
use Rattle.scp_core.specs.scp_types.specs.declared.names.Hash.{Hash}
use Rattle.scp_core.specs.scp_types.specs.declared.names.NodeId.{NodeId}
use Rattle.scp_core.specs.scp_types.specs.declared.names.Slot.{Slot}
use Rattle.scp_core.specs.scp_quorum.specs.QuorumTree.{QuorumTree}
use Rattle.scp_core.specs.scp_driver.specs.declared.driver.Level.{Level}
use Rattle.scp_core.specs.scp_envelope.specs.declared.statement.Envelope.{Envelope as Enveloped}
use Rattle.scp_core.specs.scp_envelope.specs.declared.statement.Pledges.{Pledges}
use Rattle.scp_core.specs.scp_envelope.specs.declared.statement.Pledges.TheVariants.{Prepare, Confirm, Externalize, Nominate}
use Rattle.scp_core.specs.scp_envelope.specs.declared.statement.Statement.{Statement}
use Rattle.scp_core.specs.scp_vote.specs.Licence.{IsExternalize}
use Rattle.scp_core.specs.scp_outbox.specs.Outbox.{is_nomination, are_alike}
use Rattle.scp_core.specs.scp_nominate.specs.Nomination as nominate
use Rattle.scp_core.specs.scp_ballot.specs.declared.balloted.Certified.{Certified}
use Rattle.scp_core.specs.scp_ballot.specs.Balloting as ballot
use Rattle.scp_core.specs.scp_pending.specs.Queues.{hash_of}
use Rattle.scp_core.specs.scp_slot.specs.declared.machine.SlotMachine.{SlotMachine}
use Rattle.scp_core.specs.scp_slot.specs.declared.output.SlotInput.{SlotInput}
use Rattle.scp_core.specs.scp_slot.specs.Slot.{SlotView, slot_view, driver_of, Begins}
use Rattle.scp_core.specs.scp_ledger.specs.declared.journal.Decision.{Decision}
use Rattle.scp_core.specs.scp_ledger.specs.declared.journal.Fate.{Fate}
use Rattle.scp_core.specs.scp_ledger.specs.declared.journal.Origin.{Origin}
use Rattle.scp_core.specs.scp_ledger.specs.declared.journal.Origin.TheVariants.{Machine, Named}
use Rattle.scp_core.specs.scp_ledger.specs.declared.took.Outgoing.{Outgoing}
use Rattle.scp_core.specs.scp_ledger.specs.declared.took.Took.{Took}
use Rattle.scp_core.specs.scp_ledger.specs.Seen.{LedgerView, machine_at}
use Rattle.scp_core.specs.scp_ledger.specs.Takes.{IsMachineFor, decision_of, RunsAt}
use Rattle.scp_core.specs.scp_theorem.specs.Grounds.{Who, IsDecided, IsOwnOf as IsEnvelopeOf}
use Rattle.scp_core.specs.scp_theorem.specs.Handed.{handed_by}
use Rattle.scp_core.specs.scp_theorem.proofs.Basics.{none_some, some_same, there_some}
use Rattle.scp_core.specs.scp_theorem.proofs.Emitted.{IsTold, IsMine, Says, says}
use Rattle.scp_core.specs.scp_theorem.proofs.Machines.{said, MayTell, Ran, ran, begins_mine, begins_open, machine_was}
use Rattle.scp_again.proofs.Lists.{any_is_there}
use Rattle.scp_again.proofs.Current.{true_false, alike, IsOwnOf, IsOwnIf, IsOwnAt, HasDecision, IsOpenBallot, HasKinds, IsWell, AtMachine, IsLast}
use Rattle.scp_again.proofs.Ending.{ends}
use Rattle.scp_again.proofs.AtSlot.{GoesOn, IsOver, IsAtSlot, last_here, last_then}
use Rattle.scp_again.proofs.Put.{IsFresh, ArePut, IsApartFrom, put_emitted}

-- ---- a machine that begins

-- how a machine stands before an input
abbrev IsReady : NodeId → ℕ → Hash → SlotView → Type 0
IsReady me at hash v = IsMine me at hash v × (ballot.IsDecided v.ballots → ⊥) × HasKinds v

begins : (me : NodeId) (at : ℕ) (set : QuorumTree) (v : SlotView) → Begins me at set v → IsReady me at (hash_of set) v
begins me at set v b = (
  begins_mine me at set v b,
  begins_open me at set v b,
  record {
    nomination = λ p is. none_some (nominate.own v.nomination) p (b.nomination.statements v.nomination.board.me) is;
    ballots = λ p is. none_some v.ballots.emitted p b.ballots.emitted is;
  },
)

open_by : (q : Pledges) → is_nomination q ≡ false → (IsExternalize q → ⊥) → IsOpenBallot q
open_by (Prepare p) k h = tt
open_by (Confirm p) k h = tt
open_by (Externalize p) k h = h tt
open_by (Nominate p) k h = true_false true refl k

-- the decision of an envelope that was emitted
envelope_own : (e : Enveloped) (o : Origin) → IsEnvelopeOf e o → IsOwnOf e.statement o
envelope_own e (Machine n quorum own) is = ap (λ (x : Enveloped). x.statement) is
envelope_own e (Named conn seq) is = absurd is

has_decision : (ds : List Decision) (e : Enveloped) (p : Pledges) → IsDecided ds e p → HasDecision ds e.statement p
has_decision ds e (Prepare p) h = tt
has_decision ds e (Confirm p) h = tt
has_decision ds e (Nominate p) h = tt
has_decision ds e (Externalize p) h = (let w = any_is_there (λ (d : Decision). IsEnvelopeOf e d.origin) ds h in (w.0, w.1, envelope_own e w.0.origin w.2))

module _ {D : Type 0} where
  module _ (who : Who) (level : D → ℕ → List ℕ → Level) (extracted : D → ℕ → List ℕ → Option (List ℕ)) (combined : D → ℕ → List (List ℕ) → List ℕ) (place : D → ℕ → ℕ → ℕ → ℕ) (old : LedgerView D) (at : Slot) (given : SlotInput) (fates : List Fate) (took : Took) (new : LedgerView D)
      (well : IsWell who old) (r : RunsAt level extracted combined place old at given fates took new) where
    abbrev hash : Hash
    hash = hash_of who.set

    abbrev before : SlotView
    before = slot_view r.before

    abbrev after' : SlotView
    after' = slot_view r.after

    ready_for : (o : Option (SlotMachine D)) → machine_at old.machines at.0 ≡ o → IsMachineFor old at o r.before → IsReady who.me at.0 hash before
    ready_for None e b =
        subst (λ (q : QuorumTree). IsReady who.me at.0 (hash_of q) before) well.set_is (subst (λ (n : NodeId). IsReady n at.0 (hash_of old.local) before) well.me_is (begins old.me at.0 old.local before b.0))
    ready_for (Some m) e b = (let mine = well.machines at.0 m e in subst (λ (x : SlotMachine D). IsReady who.me at.0 hash (slot_view x)) (sym b) (mine.0, mine.1, well.kinds at.0 m e))

    ready : IsReady who.me at.0 hash before
    ready = ready_for (machine_at old.machines at.0) refl r.machine

    tells : Says who.me at.0 hash before r.out after'
    tells = says who.me at.0 hash before r.out after' ready.0 ready.1 (level (driver_of r.before) before.slot) (combined (driver_of r.before) before.nomination.slot) given r.takes

    pub all_ran : Ran who old r.out new
    all_ran = ran who level extracted combined place old at given fates took new well.me_is well.set_is well.machines r

    -- ---- what becomes of the machine

    nomination_then : (o : Option Enveloped) → r.out.emitted.nomination ≡ o → ForSome (nominate.own after'.nomination) (λ p. is_nomination p ≡ true)
    nomination_then None e p is = ready.2.nomination p (sym (tells.nomination.tells.still e) ∙ is)
    nomination_then (Some x) e p is = (let t = tells.nomination.tells.told x e in ap is_nomination (some_same (nominate.own after'.nomination) p x.statement.pledges is t.stands) ∙ t.its_kind)

    ballots_then : r.out.decided ≡ None → (o : Option Enveloped) → r.out.emitted.ballot ≡ o → ForSome after'.ballots.emitted IsOpenBallot
    ballots_then none None e p is = ready.2.ballots p (sym (tells.ballots.tells.still e) ∙ is)
    ballots_then none (Some x) e p is =
        let t = tells.ballots.tells.told x e in
        let not_over : IsExternalize x.statement.pledges → ⊥ = λ k. (let h = tells.ballots.ends x e k in none_some r.out.decided h.0 none h.1) in
        subst IsOpenBallot (some_same after'.ballots.emitted x.statement.pledges p t.stands is) (open_by x.statement.pledges t.its_kind not_over)

    abbrev made : Certified → Decision
    made c = record { slot = at; value = c.value; origin = Machine c.n (tree_set.keys c.quorum) c.own }

    -- the EXTERNALIZE of a decision is emitted with it
    record EndsWith (c : Certified) : Type 0 where
      e : Enveloped
      emitted : r.out.emitted.ballot ≡ Some e
      externalizes : IsExternalize e.statement.pledges
      own : c.own ≡ e

    ended : (c : Certified) → r.out.decided ≡ Some c → EndsWith c
    ended c some =
        let w = ends before r.out after' ready.2.ballots c some (r.decides.exactly.0 (there_some r.out.decided c some)).1 (level (driver_of r.before) before.slot) (combined (driver_of r.before) before.nomination.slot) given r.takes in
        let h = tells.ballots.ends w.0 w.1 w.2 in
        record { e = w.0; emitted = w.1; externalizes = w.2; own = ap (λ (x : Certified). x.own) (some_same r.out.decided c h.0 some h.1) ∙ h.2 }

    own_made : (c : Certified) → r.out.decided ≡ Some c → IsOwnAt who.me at.0 (made c).origin
    own_made c some =
        let w = ended c some in
        let t = tells.ballots.tells.told w.e w.emitted in
        subst (λ (x : Enveloped). (x.statement.node ≡ who.me) × (x.statement.slot.0 ≡ at.0) × IsExternalize x.statement.pledges) (sym w.own) (t.node, t.slot, w.externalizes)

    abbrev now : Option Certified → Option (SlotMachine D)
    now decided = cond (is_some decided) None (Some r.after)

    pub goes : (o : Option Certified) → r.out.decided ≡ o → GoesOn (now r.out.decided) (decision_of at r.out.decided) ⊎ IsOver who at.0 (now r.out.decided) (decision_of at r.out.decided)
    goes None e = inl (record {
      machine = r.after;
      now_is = ap now e;
      none = ap (decision_of at) e;
      kinds = record { nomination = nomination_then r.out.emitted.nomination refl; ballots = ballots_then e r.out.emitted.ballot refl };
    })
    goes (Some c) e = inr (record { decision = made c; added_is = ap (decision_of at) e; none = ap now e; slot = refl; own = own_made c e })

    abbrev pub at_slot : IsAtSlot who old at.0 new
    at_slot = record {
      now = now r.out.decided;
      added = decision_of at r.out.decided;
      undecided = r.is_open.undecided;
      me = ap (λ (v : LedgerView D). v.me) r.same;
      local = ap (λ (v : LedgerView D). v.local) r.same;
      machines = r.machines;
      decisions = r.decisions;
      goes = goes r.out.decided refl;
      mine = all_ran.machines;
      behind = all_ran.behind;
    }

    -- ---- what it says

    goes_on_is : (o : Option Certified) → r.out.decided ≡ o → (g : GoesOn at_slot.now at_slot.added) → r.after ≡ g.machine
    goes_on_is None e g = some_same (now r.out.decided) r.after g.machine (ap now e) g.now_is
    goes_on_is (Some c) e g = none_some (now r.out.decided) g.machine (ap now e) g.now_is

    over_is : (o : Option Certified) → r.out.decided ≡ o → (w : IsOver who at.0 at_slot.now at_slot.added) → (c : Certified) × (r.out.decided ≡ Some c) × (w.decision ≡ made c)
    over_is None e w = none_some (decision_of at r.out.decided) w.decision (ap (decision_of at) e) w.added_is
    over_is (Some c) e w = (c, e, some_same (decision_of at r.out.decided) w.decision (made c) w.added_is (ap (decision_of at) e))

    -- the machine says it then
    said_by : (s : Statement) → said (is_nomination s.pledges) after' ≡ Some s.pledges → (g : GoesOn at_slot.now at_slot.added) → said (is_nomination s.pledges) (slot_view g.machine) ≡ Some s.pledges
    said_by s is g = subst (λ (m : SlotMachine D). said (is_nomination s.pledges) (slot_view m) ≡ Some s.pledges) (goes_on_is r.out.decided refl g) is

    -- where it is that of the decision
    own_by : (s : Statement) → ((c : Certified) → (h : EndsWith c) → h.e.statement ≡ s) → (w : IsOver who at.0 at_slot.now at_slot.added) → IsOwnIf s w.decision.origin
    own_by s is w =
        let d = over_is r.out.decided refl w in
        let h = ended d.0 d.1 in
        subst (λ (x : Decision). IsOwnIf s x.origin) (sym d.2) (ap (λ (x : Enveloped). x.statement) h.own ∙ is d.0 h)

    fresh : (kind : Bool) (e : Enveloped) → MayTell who old new e → IsTold who.me at.0 hash kind (said kind before) (said kind after') e → (kind ≡ false → r.out.emitted.ballot ≡ Some e) → IsFresh who old new e.statement
    fresh kind e m t is = record {
      said = record { node = m.own.node; behind = m.behind; decided = has_decision new.decisions e e.statement.pledges m.decided };
      last = last_here who old at.0 new well at_slot e.statement t.slot
          (said_by e.statement (ap (λ (k : Bool). said k after') t.its_kind ∙ t.stands))
          (λ w no. own_by e.statement (λ c h. ap (λ (x : Enveloped). x.statement) (some_same r.out.emitted.ballot h.e e h.emitted (is (sym t.its_kind ∙ no)))) w);
      ahead = λ s x like. m.ahead s x.node x.behind like;
    }

    -- what it said before, where it says nothing of this kind
    nomination_kept : (s : Statement) → s.slot.0 ≡ at.0 → is_nomination s.pledges ≡ true → nominate.own before.nomination ≡ Some s.pledges → IsApartFrom s r.out.emitted.nomination → nominate.own after'.nomination ≡ Some s.pledges
    nomination_kept s is k was apart = by_found r.out.emitted.nomination refl
      where
        by_found : (o : Option Enveloped) → r.out.emitted.nomination ≡ o → nominate.own after'.nomination ≡ Some s.pledges
        by_found None e = tells.nomination.tells.still e ∙ was
        by_found (Some x) e = (let t = tells.nomination.tells.told x e in true_false (are_alike s x.statement) (alike s x.statement (is ∙ sym t.slot) (k ∙ sym t.its_kind)) (apart x e))

    ballot_kept : (s : Statement) → s.slot.0 ≡ at.0 → is_nomination s.pledges ≡ false → before.ballots.emitted ≡ Some s.pledges → IsApartFrom s r.out.emitted.ballot → after'.ballots.emitted ≡ Some s.pledges
    ballot_kept s is k was apart = by_found r.out.emitted.ballot refl
      where
        by_found : (o : Option Enveloped) → r.out.emitted.ballot ≡ o → after'.ballots.emitted ≡ Some s.pledges
        by_found None e = tells.ballots.tells.still e ∙ was
        by_found (Some x) e = (let t = tells.ballots.tells.told x e in true_false (are_alike s x.statement) (alike s x.statement (is ∙ sym t.slot) (k ∙ sym t.its_kind)) (apart x e))

    kept_by : (s : Statement) (kind : Bool) → s.slot.0 ≡ at.0 → is_nomination s.pledges ≡ kind → said kind before ≡ Some s.pledges → IsApartFrom s r.out.emitted.nomination → IsApartFrom s r.out.emitted.ballot → said kind after' ≡ Some s.pledges
    kept_by s true is k was n b = nomination_kept s is k was n
    kept_by s false is k was n b = ballot_kept s is k was b

    -- a ballot statement makes way for the EXTERNALIZE of the decision
    made_way : (s : Statement) → s.slot.0 ≡ at.0 → is_nomination s.pledges ≡ false → IsApartFrom s r.out.emitted.ballot → (w : IsOver who at.0 at_slot.now at_slot.added) → IsOwnIf s w.decision.origin
    made_way s is k b w =
        let d = over_is r.out.decided refl w in
        let h = ended d.0 d.1 in
        let t = tells.ballots.tells.told h.e h.emitted in
        true_false (are_alike s h.e.statement) (alike s h.e.statement (is ∙ sym t.slot) (k ∙ sym t.its_kind)) (b h.e h.emitted)

    stays : (s : Statement) → IsLast old s → IsApartFrom s r.out.emitted.nomination → IsApartFrom s r.out.emitted.ballot → IsLast new s
    stays s l n b = last_then who old at.0 new well at_slot s l
        (λ m is g. said_by s (kept_by s (is_nomination s.pledges) is refl (was_said m is) n b) g)
        (λ m is w no. made_way s is no b w)
      where
        was_said : (m : AtMachine old s) → s.slot.0 ≡ at.0 → said (is_nomination s.pledges) before ≡ Some s.pledges
        was_said m is = subst (λ (x : SlotMachine D). said (is_nomination s.pledges) (slot_view x) ≡ Some s.pledges) (sym (machine_was old at r.before m.machine r.machine (ap (λ (n : ℕ). machine_at old.machines n) (sym is) ∙ m.there))) m.is

    pub puts : (link : ℕ) → ArePut who old new (handed_by took.outgoing link)
    puts link = subst (λ (out : List Outgoing). ArePut who old new (handed_by out link)) (sym r.outgoing) (put_emitted who old new r.out.emitted link
        (λ e is. (fresh true e (all_ran.nomination e is).0 (tells.nomination.tells.told e is) (λ k. true_false true refl k), (all_ran.nomination e is).1))
        (λ e is. (fresh false e (all_ran.ballots e is).0 (tells.ballots.tells.told e is) (λ k. is), (all_ran.ballots e is).1))
        stays)
