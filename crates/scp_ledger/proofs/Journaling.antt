-- The slot stage: one thing more; and the window of what it gives.
use Rattle.std.proofs.Common.{◌≡◌, ℕ, zero, suc, arith, Bool, true, false, List, [], ◌∷◌, ◌++◌, ◌⊎◌, inl, inr, refl, sym, ◌∙◌, ap, subst, append_assoc}
use Rattle.std.specs.Prelude.{Option, Some, None, Any, slice_index_or, Contains, ◌&&◌, ◌||◌, if◌then◌else◌, cond, map, flat_map, option_map, option_to_list, IfSome}
use Rattle.std.specs.BTreeMap as tree
use Rattle.std.proofs.lemmas.List.{append-nil, map-append}
use Rattle.std.proofs.lemmas.List.Elements.{Contains-append_left, Contains-append_right, Contains-push}
use Rattle.std.proofs.lemmas.Grind.{flat_map-append}
use Rattle.std.specs.Cmp.{tied_then}
use Rattle.std.specs.Ordering.{nat_cmp}
use Rattle.scp_slot.specs.scp_types.specs.declared.names.ConnId.{ConnId}
use Rattle.scp_slot.specs.scp_types.specs.declared.names.NodeId.{NodeId}
use Rattle.scp_slot.specs.scp_types.specs.declared.names.Seq.{Seq}
use Rattle.scp_slot.specs.scp_types.specs.declared.names.Slot.{Slot}
use Rattle.scp_pending.specs.scp_wire.specs.Boxed.{Boxed}
use Rattle.scp_pending.specs.scp_wire.specs.declared.link.Cause.{Cause}
use Rattle.scp_pending.specs.declared.ready.DropCause.{DropCause}
use Rattle.scp_pending.specs.scp_wire.specs.declared.message.Message.{Message}
use Rattle.scp_pending.specs.scp_wire.specs.declared.message.Message.TheVariants.{Envelope, GetSet, Set, NoSet, GetRecord, Record, Records}
use Rattle.scp_pending.specs.scp_wire.specs.declared.link.Command.{Command}
use Rattle.scp_pending.specs.scp_wire.specs.declared.link.Command.TheVariants.{Propose, Round, Timer, Tick, Ask}
use Rattle.scp_pending.specs.declared.ready.Ready.{Ready}
use Rattle.scp_pending.specs.declared.ready.Ready.TheVariants as ready
use Rattle.scp_ledger.specs.declared.journal.Decision.{Decision}
use Rattle.scp_ledger.specs.declared.journal.Fate.{Fate}
use Rattle.scp_ledger.specs.declared.journal.Fate.TheVariants.{Taken, Dropped, Closed}
use Rattle.scp_ledger.specs.declared.journal.Asking.{Asking}
use Rattle.scp_ledger.specs.declared.took.Onward.{Onward}
use Rattle.scp_ledger.specs.declared.took.Onward.TheVariants.{Decided, Asked}
use Rattle.scp_ledger.specs.declared.took.Took.{Took}
use Rattle.scp_ledger.specs.declared.took.Outgoing.{Outgoing}
use Rattle.scp_ledger.specs.declared.took.Outgoing.TheVariants.{To}
use Rattle.scp_ledger.specs.Decisions.{AreInWindow, IsNext, IsLowest}
use Rattle.scp_ledger.specs.Ledger.{IsLedger, IsRunning as LedgerRuns}
use Rattle.scp_ledger.specs.Seen.{LedgerView, is_asked, asking_cmp}
use Rattle.scp_ledger.specs.declared.journal.Verdict.{Verdict}
use Rattle.scp_ledger.specs.declared.journal.Verdict.TheVariants.{OldSlot, FarSlot, Already, Unasked, Own, BadStatement, BadValue, Stale, Idle, Fresh, Forwarded, Decided as Deciding}
use Rattle.scp_ledger.specs.Takes.{Takes, RunsAt, Passes, Decides, Forwards, Asks, Commands, TakesCommand, TakesMessage, decision_of, decided_onward}
use Rattle.scp_ledger.proofs.Ran.{at_is}
use Rattle.scp_slot.specs.scp_driver.specs.declared.driver.Level.{Level}
use Rattle.scp_slot.specs.declared.output.SlotInput.{SlotInput}
use Rattle.scp_slot.specs.declared.output.SlotInput.TheVariants as input
use Rattle.scp_slot.specs.scp_quorum.specs.SharedSet.{SharedSet}
use Rattle.scp_pending.specs.Endings.{passed, commands_of}
use Rattle.scp_slot.specs.scp_quorum.specs.QuorumTree.{QuorumTree}
use Rattle.scp_ledger.specs.Journal.{Heard, is_fresh, fresh_in}
use Rattle.scp_ledger.specs.Onwards.{decision_on, decisions_on, request_on, requests_on, MaySend, KeepsWindow, WindowIsKept}
use Rattle.scp_ledger.specs.Runs.{Taking, thing_of, onward_of, onwards_of, nothing_taken, Leads, was_fresh, heard_beside, freshly_heard, is_asking, freshly_asks, stood_by, IsJudged, AreJudged, verdict_in, verdict_by, IsRun}
use Rattle.scp_ledger.specs.Journals.{Entry, entry_in, entry_of, request_by, IsToAll, TakesGrow, Journals, JournalsPass, LedgerKeepsWindow}
use Rattle.scp_ledger.proofs.Judging.{fresh_in-append, decisions_pushed, heard_pushed, asked_pushed, judged_here, leads_push, judged_push}

-- ---- the slot stage

-- what one thing more does to a ledger, as far as this looks at it
record Goes {D : Type 0} (old : LedgerView D) (x : Ready) (t : Took) (new : LedgerView D) : Type 0 where
  runs : new.failed ≡ old.failed
  me_is : new.me ≡ old.me
  local_is : new.local ≡ old.local
  peers_are : new.peers ≡ old.peers
  fates : List Fate
  journal : new.journal ≡ old.journal ++ fates
  entries : map entry_in fates ≡ entry_of x
  decisions : new.decisions ≡ old.decisions ++ decisions_on (option_to_list t.onward)
  requests : requests_on (option_to_list t.onward) ≡ flat_map (request_by old.peers) fates
  asked : (a : Asking) → is_asked new.asked a ≡ true → (is_asked old.asked a ≡ true) ⊎ Contains (passed x) (Ask a.link a.slot)
  asked_stay : Any IsToAll t.outgoing → new.asked ≡ old.asked
  first : new.first ≡ old.first
  driver : new.driver ≡ old.driver
  heard : fresh_in fates ≡ freshly_heard (record { thing = x; gave = t })
  verdicts : flat_map verdict_in fates ≡ verdict_by (record { thing = x; gave = t })
  asks : (a : Asking) → is_asked new.asked a ≡ (is_asked old.asked a || freshly_asks a (record { thing = x; gave = t }))

-- what the entries of a thing say, and that it asks no link for a slot
record Says (peers : List NodeId) (x : Ready) (t : Took) (fates : List Fate) : Type 0 where
  entries : map entry_in fates ≡ entry_of x
  none : flat_map (request_by peers) fates ≡ []
  heard : fresh_in fates ≡ freshly_heard (record { thing = x; gave = t })
  verdicts : flat_map verdict_in fates ≡ verdict_by (record { thing = x; gave = t })
  asks : (a : Asking) → freshly_asks a (record { thing = x; gave = t }) ≡ false

and_false : (b : Bool) → (b && false) ≡ false
and_false true = refl
and_false false = refl

or_false : (b c : Bool) → c ≡ false → b ≡ (b || c)
or_false true c e = refl
or_false false c e = sym e

or_asked : (b c : Bool) → cond c true b ≡ (b || c)
or_asked true true = refl
or_asked true false = refl
or_asked false true = refl
or_asked false false = refl

-- nothing is heard
unheard : (b : Bool) → fresh_in [] ≡ (if b then [] else [])
unheard true = refl
unheard false = refl

heard_if : (b : Bool) (h : Heard) → option_to_list (if b then Some h else None) ++ [] ≡ (if b then h ∷ [] else [])
heard_if true h = refl
heard_if false h = refl

abbrev nobody : Option Heard
nobody = None

nothing_if : (b : Bool) → option_to_list (if b then nobody else nobody) ++ [] ≡ (if b then [] else [])
nothing_if true = refl
nothing_if false = refl

of_command_says : (peers : List NodeId) (c : Command) (t : Took) → ((a : Asking) → freshly_asks a (record { thing = ready.Local c; gave = t }) ≡ false) → Says peers (ready.Local c) t []
of_command_says peers c t none = record { entries = refl; none = refl; heard = unheard (was_fresh t.verdict); verdicts = refl; asks = none }

-- an entry of nothing taken
of_drop_says : (peers : List NodeId) (conn : ConnId) (seq : Seq) (cause : DropCause) (t : Took) → Says peers (ready.Dropped conn seq cause) t (Dropped conn seq cause ∷ [])
of_drop_says peers conn seq cause t = record { entries = refl; none = refl; heard = unheard (was_fresh t.verdict); verdicts = refl; asks = λ a. and_false (was_fresh t.verdict) }

of_close_says : (peers : List NodeId) (conn : ConnId) (cause : Cause) (t : Took) → Says peers (ready.Closed conn cause) t (Closed conn cause ∷ [])
of_close_says peers conn cause t = record { entries = refl; none = refl; heard = unheard (was_fresh t.verdict); verdicts = refl; asks = λ a. and_false (was_fresh t.verdict) }

abbrev delivered : ConnId → Seq → Message → Option QuorumTree → Ready
delivered conn seq message beside = ready.Deliver (record { conn = conn; seq = seq; message = message; set = beside })

of_envelope_says : (peers : List NodeId) (conn : ConnId) (seq : Seq) (e : Boxed) (set : SharedSet) (beside : Option QuorumTree) (verdict : Verdict) (t : Took) → beside ≡ Some set.value → t.verdict ≡ Some verdict → Says peers (delivered conn seq (Envelope e) beside) t (Taken conn seq (Envelope e) (Some set) verdict ∷ [])
of_envelope_says peers conn seq e set beside verdict t is said = record {
  entries = ap (λ (s : Option QuorumTree). Entry.taken conn seq (Envelope e) s ∷ []) (sym is);
  none = refl;
  heard = heard_if (is_fresh verdict) (record { statement = e.value.statement; set = set.value })
      ∙ ap (λ (s : Option QuorumTree). if is_fresh verdict then heard_beside (Envelope e) s else []) (sym is)
      ∙ ap (λ (o : Option Verdict). if was_fresh o then heard_beside (Envelope e) beside else []) (sym said);
  verdicts = ap option_to_list (sym said);
  asks = λ a. and_false (was_fresh t.verdict);
}

of_record_says : (peers : List NodeId) (conn : ConnId) (seq : Seq) (at : Slot) (value : List ℕ) (set : Option SharedSet) (beside : Option QuorumTree) (verdict : Verdict) (t : Took) → option_map (λ (s : SharedSet). s.value) set ≡ beside → t.verdict ≡ Some verdict → Says peers (delivered conn seq (Record at value) beside) t (Taken conn seq (Record at value) set verdict ∷ [])
of_record_says peers conn seq at value set beside verdict t is said = record {
  entries = ap (λ (s : Option QuorumTree). Entry.taken conn seq (Record at value) s ∷ []) is;
  none = refl;
  heard = nothing_if (is_fresh verdict) ∙ sym (unheard (is_fresh verdict)) ∙ unheard (was_fresh t.verdict);
  verdicts = ap option_to_list (sym said);
  asks = λ a. and_false (was_fresh t.verdict);
}

module _ {D : Type 0} (level : D → ℕ → List ℕ → Level) (extracted : D → ℕ → List ℕ → Option (List ℕ)) (combined : D → ℕ → List (List ℕ) → List ℕ) (place : D → ℕ → ℕ → ℕ → ℕ) where
  its_decision : (d : Option Decision) → decisions_on (option_to_list (option_map decided_onward d)) ≡ option_to_list d
  its_decision None = refl
  its_decision (Some d) = refl

  no_request : (d : Option Decision) → requests_on (option_to_list (option_map decided_onward d)) ≡ []
  no_request None = refl
  no_request (Some d) = refl

  -- a machine ran, and this was the entry, if there was one
  ran : {at given : _} (old : LedgerView D) (x : Ready) (t : Took) (new : LedgerView D) (fates : List Fate) → RunsAt level extracted combined place old at given fates t new → Says old.peers x t fates → Goes old x t new
  ran {at} old x t new fates r says = record {
    runs = ap (λ (v : LedgerView D). v.failed) r.same;
    me_is = ap (λ (v : LedgerView D). v.me) r.same;
    local_is = ap (λ (v : LedgerView D). v.local) r.same;
    peers_are = ap (λ (v : LedgerView D). v.peers) r.same;
    first = ap (λ (v : LedgerView D). v.first) r.same;
    fates = fates;
    journal = r.journal;
    entries = says.entries;
    decisions = r.decisions ∙ ap (λ ds. old.decisions ++ ds) (sym (its_decision (decision_of at r.out.decided)) ∙ ap (λ (o : Option Onward). decisions_on (option_to_list o)) (sym r.onward));
    requests = ap (λ (o : Option Onward). requests_on (option_to_list o)) r.onward ∙ no_request (decision_of at r.out.decided) ∙ sym says.none;
    asked = λ a is. inl (ap (λ (v : LedgerView D). is_asked v.asked a) (sym r.same) ∙ is);
    asked_stay = λ out. ap (λ (v : LedgerView D). v.asked) r.same;
    driver = ap (λ (v : LedgerView D). v.driver) r.same;
    heard = says.heard;
    verdicts = says.verdicts;
    asks = λ a. ap (λ (v : LedgerView D). is_asked v.asked a) r.same ∙ or_false (is_asked old.asked a) _ (says.asks a);
  }

  -- nothing but the entry came of it
  passed_on : {said : _} (old : LedgerView D) (x : Ready) (t : Took) (new : LedgerView D) (fates : List Fate) → Passes old said fates t new → Says old.peers x t fates → Goes old x t new
  passed_on old x t new fates p says = record {
    runs = ap (λ (v : LedgerView D). v.failed) p.same;
    me_is = ap (λ (v : LedgerView D). v.me) p.same;
    local_is = ap (λ (v : LedgerView D). v.local) p.same;
    peers_are = ap (λ (v : LedgerView D). v.peers) p.same;
    first = ap (λ (v : LedgerView D). v.first) p.same;
    fates = fates;
    journal = ap (λ (v : LedgerView D). v.journal) p.same;
    entries = says.entries;
    decisions = ap (λ (v : LedgerView D). v.decisions) p.same ∙ sym (append-nil old.decisions) ∙ ap (λ (o : Option Onward). old.decisions ++ decisions_on (option_to_list o)) (sym p.onward);
    requests = ap (λ (o : Option Onward). requests_on (option_to_list o)) p.onward ∙ sym says.none;
    asked = λ a is. inl (ap (λ (v : LedgerView D). is_asked v.asked a) (sym p.same) ∙ is);
    asked_stay = λ out. ap (λ (v : LedgerView D). v.asked) p.same;
    driver = ap (λ (v : LedgerView D). v.driver) p.same;
    heard = says.heard;
    verdicts = says.verdicts;
    asks = λ a. ap (λ (v : LedgerView D). is_asked v.asked a) p.same ∙ or_false (is_asked old.asked a) _ (says.asks a);
  }

  both_hold : (a b : Bool) → (a && b) ≡ true → (a ≡ true) × (b ≡ true)
  both_hold true true e = (refl, refl)
  both_hold true false e = absurd cc
  both_hold false b e = absurd cc

  same_command : (a b : Asking) → tree.is_at (asking_cmp a) b ≡ true → Ask a.link a.slot ≡ Ask b.link b.slot
  same_command a b e =
      let h = both_hold _ _ (tied_then (nat_cmp b.slot.0 a.slot.0) (nat_cmp a.link b.link) ∙ e) in
      ap (λ l. Ask l a.slot) (at_is a.link b.link h.1) ∙ ap (λ s. Ask b.link (record { 0 = s })) (sym (at_is b.slot.0 a.slot.0 h.0))

  either : (b rest : Bool) → cond b true rest ≡ true → (b ≡ true) ⊎ (rest ≡ true)
  either true rest e = inl refl
  either false rest e = inr e

  -- what goes to one link goes to no others
  only_to : (link : ℕ) (message : Message) → Any IsToAll (To link message ∷ []) → ⊥
  only_to link message out = only link message out.0 out.1 out.3 out.4 (omega (arith, out.2))
    where
      only : (link : ℕ) (message : Message) (k : ℕ) (x : Outgoing) → slice_index_or (To link message ∷ []) k x ≡ x → IsToAll x → k ≡ 0 → ⊥
      only link message zero x e out first = subst IsToAll (sym e) out
      only link message (suc k) x e out first = absurd (omega (arith, first))

  -- a fresh ask
  asked_now : (old : LedgerView D) (link : ℕ) (at : Slot) (t : Took) (new : LedgerView D) → t.verdict ≡ Some Fresh → Asks old link at t new → Goes old (ready.Local (Ask link at)) t new
  asked_now old link at t new said h = record {
    runs = ap (λ (v : LedgerView D). v.failed) h.same;
    me_is = ap (λ (v : LedgerView D). v.me) h.same;
    local_is = ap (λ (v : LedgerView D). v.local) h.same;
    peers_are = ap (λ (v : LedgerView D). v.peers) h.same;
    first = ap (λ (v : LedgerView D). v.first) h.same;
    fates = [];
    journal = ap (λ (v : LedgerView D). v.journal) h.same ∙ sym (append-nil old.journal);
    entries = refl;
    decisions = ap (λ (v : LedgerView D). v.decisions) h.same ∙ sym (append-nil old.decisions) ∙ ap (λ (o : Option Onward). old.decisions ++ decisions_on (option_to_list o)) (sym h.onward);
    requests = ap (λ (o : Option Onward). requests_on (option_to_list o)) h.onward;
    asked = λ a is. elim (either (tree.is_at (asking_cmp (record { link = link; slot = at })) a) (is_asked old.asked a) (sym (h.asked a) ∙ is)) [
      | inl now ↦ inr (subst (λ (c : Command). Contains (Ask link at ∷ []) c) (same_command (record { link = link; slot = at }) a now) (Contains-push [] (Ask link at)))
      | inr was ↦ inl was
    ];
    asked_stay = λ out. absurd (only_to link (GetRecord at) (subst (λ (os : List Outgoing). Any IsToAll os) h.outgoing out));
    driver = ap (λ (v : LedgerView D). v.driver) h.same;
    heard = unheard (was_fresh t.verdict);
    verdicts = refl;
    asks = λ a. h.asked a ∙ or_asked (is_asked old.asked a) (tree.is_at (asking_cmp (record { link = link; slot = at })) a) ∙ ap (λ (o : Option Verdict). is_asked old.asked a || (was_fresh o && tree.is_at (asking_cmp (record { link = link; slot = at })) a)) (sym said);
  }

  -- a verdict other than Fresh
  not_fresh : (verdict : Verdict) → ¬ (verdict ≡ Fresh) → is_fresh verdict ≡ false
  not_fresh OldSlot other = refl
  not_fresh FarSlot other = refl
  not_fresh Already other = refl
  not_fresh Unasked other = refl
  not_fresh Own other = refl
  not_fresh BadStatement other = refl
  not_fresh BadValue other = refl
  not_fresh Stale other = refl
  not_fresh Idle other = refl
  not_fresh Fresh other = absurd (other refl)
  not_fresh Forwarded other = refl
  not_fresh Deciding other = refl

  -- a command of a machine
  commanded : (old : LedgerView D) (at : Slot) (given : SlotInput) (c : Command) (t : Took) (new : LedgerView D) → ((a : Asking) → is_asking a c ≡ false) → Commands level extracted combined place old at given t new → Goes old (ready.Local c) t new
  commanded old at given c t new none h =
      let says : Says old.peers (ready.Local c) t [] = of_command_says old.peers c t (λ a. ap (λ (b : Bool). was_fresh t.verdict && b) (none a) ∙ and_false (was_fresh t.verdict)) in
      elim h [
        | inl p ↦ passed_on old (ready.Local c) t new [] p.2 says
        | inr r ↦ ran old (ready.Local c) t new [] r says
      ]

  of_command : (old : LedgerView D) (c : Command) (t : Took) (new : LedgerView D) → TakesCommand level extracted combined place old c t new → Goes old (ready.Local c) t new
  of_command old (Propose at value) t new h = commanded old at (input.Propose value) (Propose at value) t new (λ a. refl) h
  of_command old (Round at) t new h = commanded old at input.Round (Round at) t new (λ a. refl) h
  of_command old (Timer at) t new h = commanded old at input.Timer (Timer at) t new (λ a. refl) h
  of_command old Tick t new h = passed_on old (ready.Local Tick) t new [] h (of_command_says old.peers Tick t (λ a. and_false (was_fresh t.verdict)))
  of_command old (Ask link at) t new h = elim h.3 [
    | inl p ↦ passed_on old (ready.Local (Ask link at)) t new [] p.1 (of_command_says old.peers (Ask link at) t (λ a. ap (λ (o : Option Verdict). was_fresh o && is_asking a (Ask link at)) h.2 ∙ ap (λ (b : Bool). b && is_asking a (Ask link at)) (not_fresh h.0 p.0)))
    | inr a ↦ asked_now old link at t new (h.2 ∙ ap (λ (x : Verdict). Some x) a.0) a.1
  ]

  -- the record that decides its slot
  decided_now : (old : LedgerView D) (conn : ConnId) (seq : Seq) (at : Slot) (value : List ℕ) (set : Option SharedSet) (beside : Option QuorumTree) (t : Took) (new : LedgerView D) → option_map (λ (s : SharedSet). s.value) set ≡ beside → t.verdict ≡ Some Deciding → Decides old conn seq at value set t new → Goes old (delivered conn seq (Record at value) beside) t new
  decided_now old conn seq at value set beside t new is said h =
      let says : Says old.peers (delivered conn seq (Record at value) beside) t (Taken conn seq (Record at value) set Deciding ∷ []) = of_record_says old.peers conn seq at value set beside Deciding t is said in
      record {
        runs = ap (λ (v : LedgerView D). v.failed) h.same;
        me_is = ap (λ (v : LedgerView D). v.me) h.same;
        local_is = ap (λ (v : LedgerView D). v.local) h.same;
        peers_are = ap (λ (v : LedgerView D). v.peers) h.same;
        first = ap (λ (v : LedgerView D). v.first) h.same;
        fates = Taken conn seq (Record at value) set Deciding ∷ [];
        journal = h.journal;
        entries = ap (λ (s : Option QuorumTree). Entry.taken conn seq (Record at value) s ∷ []) is;
        decisions = h.decisions ∙ ap (λ (o : Option Onward). old.decisions ++ decisions_on (option_to_list o)) (sym h.onward);
        requests = ap (λ (o : Option Onward). requests_on (option_to_list o)) h.onward;
        asked = λ a is. inl (ap (λ (v : LedgerView D). is_asked v.asked a) (sym h.same) ∙ is);
        asked_stay = λ out. ap (λ (v : LedgerView D). v.asked) h.same;
        driver = ap (λ (v : LedgerView D). v.driver) h.same;
        heard = says.heard;
        verdicts = says.verdicts;
        asks = λ a. ap (λ (v : LedgerView D). is_asked v.asked a) h.same ∙ or_false (is_asked old.asked a) _ (says.asks a);
      }

  forwarded : (old : LedgerView D) (conn : ConnId) (seq : Seq) (at : Slot) (set : Option SharedSet) (beside : Option QuorumTree) (t : Took) (new : LedgerView D) → option_map (λ (s : SharedSet). s.value) set ≡ beside → Forwards old conn seq at set t new → Goes old (delivered conn seq (GetRecord at) beside) t new
  forwarded old conn seq at set beside t new is h = record {
    runs = ap (λ (v : LedgerView D). v.failed) h.same;
    me_is = ap (λ (v : LedgerView D). v.me) h.same;
    local_is = ap (λ (v : LedgerView D). v.local) h.same;
    peers_are = ap (λ (v : LedgerView D). v.peers) h.same;
    first = ap (λ (v : LedgerView D). v.first) h.same;
    fates = Taken conn seq (GetRecord at) set Forwarded ∷ [];
    journal = ap (λ (v : LedgerView D). v.journal) h.same;
    entries = ap (λ (s : Option QuorumTree). Entry.taken conn seq (GetRecord at) s ∷ []) is;
    decisions = ap (λ (v : LedgerView D). v.decisions) h.same ∙ sym (append-nil old.decisions) ∙ ap (λ (o : Option Onward). old.decisions ++ decisions_on (option_to_list o)) (sym h.onward);
    requests = ap (λ (o : Option Onward). requests_on (option_to_list o)) h.onward;
    asked = λ a is. inl (ap (λ (v : LedgerView D). is_asked v.asked a) (sym h.same) ∙ is);
    asked_stay = λ out. ap (λ (v : LedgerView D). v.asked) h.same;
    driver = ap (λ (v : LedgerView D). v.driver) h.same;
    heard = nothing_if false ∙ unheard (was_fresh t.verdict);
    verdicts = ap option_to_list (sym h.verdict);
    asks = λ a. ap (λ (v : LedgerView D). is_asked v.asked a) h.same ∙ or_false (is_asked old.asked a) _ (and_false (was_fresh t.verdict));
  }

  of_message : (old : LedgerView D) (conn : ConnId) (seq : Seq) (message : Message) (beside : Option QuorumTree) (t : Took) (new : LedgerView D) → TakesMessage level extracted combined place old conn seq message beside t new → Goes old (delivered conn seq message beside) t new
  of_message old conn seq (Envelope e) beside t new h =
      let says : Says old.peers (delivered conn seq (Envelope e) beside) t (Taken conn seq (Envelope e) (Some h.0) h.2 ∷ []) = of_envelope_says old.peers conn seq e h.0 beside h.2 t h.1 h.4 in
      elim h.5 [
        | inl p ↦ passed_on old (delivered conn seq (Envelope e) beside) t new (Taken conn seq (Envelope e) (Some h.0) h.2 ∷ []) p.1 says
        | inr r ↦ ran old (delivered conn seq (Envelope e) beside) t new (Taken conn seq (Envelope e) (Some h.0) h.2 ∷ []) r.2 says
      ]
  of_message old conn seq (GetSet hash) beside t new h = absurd h
  of_message old conn seq (Set inside) beside t new h = absurd h
  of_message old conn seq (NoSet hash) beside t new h = absurd h
  of_message old conn seq (Records first values) beside t new h = absurd h
  of_message old conn seq (GetRecord at) beside t new h = forwarded old conn seq at h.0 beside t new h.1 h.2
  of_message old conn seq (Record at value) beside t new h = elim h.2.3 [
    | inl p ↦ passed_on old (delivered conn seq (Record at value) beside) t new (Taken conn seq (Record at value) h.0 h.2.0 ∷ []) p.1 (of_record_says old.peers conn seq at value h.0 beside h.2.0 t h.1 h.2.2)
    | inr d ↦ decided_now old conn seq at value h.0 beside t new h.1 (h.2.2 ∙ ap (λ (x : Verdict). Some x) d.0) d.1
  ]

  goes : (old : LedgerView D) (x : Ready) (t : Took) (new : LedgerView D) → Takes level extracted combined place old x t new → Goes old x t new
  goes old (ready.Deliver d) t new takes = of_message old d.conn d.seq d.message d.set t new takes
  goes old (ready.Dropped conn seq cause) t new takes = passed_on old (ready.Dropped conn seq cause) t new (Dropped conn seq cause ∷ []) takes (of_drop_says old.peers conn seq cause t)
  goes old (ready.Closed conn cause) t new takes = passed_on old (ready.Closed conn cause) t new (Closed conn cause ∷ []) takes (of_close_says old.peers conn cause t)
  goes old (ready.Local command) t new takes = of_command old command t new takes

  -- a ledger that runs and takes a thing runs on
  pub runs_on : (old : LedgerView D) (x : Ready) (t : Took) (new : LedgerView D) → old.failed ≡ false → Takes level extracted combined place old x t new → new.failed ≡ false
  runs_on old x t new runs takes = (goes old x t new takes).runs ∙ runs

  -- what is taken, and what is there
  pub takes_grow : TakesGrow level extracted combined place
  takes_grow = λ old x t new takes. (let g = goes old x t new takes in record { runs = g.runs; first = g.first; fates = g.fates; journal = g.journal; decisions = g.decisions; asked = g.asked_stay })

  run_step : (me : NodeId) (local : QuorumTree) (peers : List NodeId) (takes : List Taking) (old : LedgerView D) (x : Ready) (t : Took) (new : LedgerView D) → Takes level extracted combined place old x t new → IsLowest old.first old.decisions old.lowest → old.me ≡ me → old.peers ≡ peers → IsRun level extracted combined place me local peers takes old → IsRun level extracted combined place me local peers (takes ++ record { thing = x; gave = t } ∷ []) new
  run_step me local peers takes old x t new h lowest me_is peers_are r =
      let g = goes old x t new h in
      let one : Taking = record { thing = x; gave = t } in
      let here : IsJudged old.first (level old.driver) me peers (stood_by takes) one =
      subst (λ (ps : List NodeId). IsJudged old.first (level old.driver) me ps (stood_by takes) one) peers_are
      (subst (λ (n : NodeId). IsJudged old.first (level old.driver) n old.peers (stood_by takes) one) me_is
      (judged_here level extracted combined place takes old x t new h lowest r.decided r.heard r.asked)) in
      record {
        leads = subst (λ (f : ℕ). Leads level extracted combined place (nothing_taken me local new.driver peers f) (takes ++ one ∷ []) new) (sym g.first)
            (subst (λ (d : D). Leads level extracted combined place (nothing_taken me local d peers old.first) (takes ++ one ∷ []) new) (sym g.driver) (leads_push level extracted combined place (nothing_taken me local old.driver peers old.first) old takes x t new r.leads h));
        judged = subst (λ (f : ℕ). AreJudged f (level new.driver) me peers [] (takes ++ one ∷ [])) (sym g.first)
            (subst (λ (d : D). AreJudged old.first (level d) me peers [] (takes ++ one ∷ [])) (sym g.driver) (judged_push old.first (level old.driver) me peers [] takes one r.judged here));
        verdicts = ap (flat_map verdict_in) g.journal ∙ flat_map-append verdict_in old.journal g.fates ∙ ap (λ vs. vs ++ flat_map verdict_in g.fates) r.verdicts ∙ ap (λ vs. flat_map verdict_by takes ++ vs) (g.verdicts ∙ sym (append-nil (verdict_by one))) ∙ sym (flat_map-append verdict_by takes (one ∷ []));
        decided = g.decisions ∙ ap (λ ds. ds ++ decisions_on (option_to_list t.onward)) r.decided ∙ sym (decisions_pushed takes one);
        heard = ap fresh_in g.journal ∙ fresh_in-append old.journal g.fates ∙ ap (λ hs. hs ++ fresh_in g.fates) r.heard ∙ ap (λ hs. (stood_by takes).heard ++ hs) g.heard ∙ sym (heard_pushed takes one);
        asked = λ a. g.asks a ∙ ap (λ (b : Bool). b || freshly_asks a one) (r.asked a) ∙ sym (asked_pushed takes one a);
      }

  journals_step : (me : NodeId) (local : QuorumTree) (peers : List NodeId) (took : List Ready) (onwards : List Onward) (old : LedgerView D) (x : Ready) (t : Took) (new : LedgerView D) → Takes level extracted combined place old x t new → IsLedger new → LedgerRuns level place new → Journals level extracted combined place me local peers took onwards old → Journals level extracted combined place me local peers (took ++ x ∷ []) (onwards ++ option_to_list t.onward) new
  journals_step me local peers took onwards old x t new takes known running j =
      let g = goes old x t new takes in
      record {
        runs = g.runs ∙ j.runs;
        me_is = g.me_is ∙ j.me_is;
        local_is = g.local_is ∙ j.local_is;
        peers_are = g.peers_are ∙ j.peers_are;
        entries = ap (map entry_in) g.journal ∙ map-append entry_in old.journal g.fates ∙ ap (λ es. es ++ map entry_in g.fates) j.entries ∙ ap (λ es. flat_map entry_of took ++ es) (g.entries ∙ sym (append-nil (entry_of x))) ∙ sym (flat_map-append entry_of took (x ∷ []));
        decided = flat_map-append decision_on onwards (option_to_list t.onward) ∙ ap (λ ds. ds ++ decisions_on (option_to_list t.onward)) j.decided ∙ sym g.decisions;
        requests =
            flat_map-append request_on onwards (option_to_list t.onward)
            ∙ ap (λ os. os ++ requests_on (option_to_list t.onward)) j.requests
            ∙ ap (λ os. flat_map (request_by peers) old.journal ++ os) (g.requests ∙ ap (λ ps. flat_map (request_by ps) g.fates) j.peers_are)
            ∙ sym (flat_map-append (request_by peers) old.journal g.fates)
            ∙ ap (flat_map (request_by peers)) (sym g.journal);
        asked = λ a is. subst (λ (cs : List Command). Contains cs (Ask a.link a.slot)) (sym (flat_map-append passed took (x ∷ []))) (elim (g.asked a is) [
          | inl was ↦ Contains-append_left (commands_of took) (commands_of (x ∷ [])) (Ask a.link a.slot) (j.asked a was)
          | inr now ↦ Contains-append_right (commands_of took) (commands_of (x ∷ [])) (Ask a.link a.slot) (subst (λ (cs : List Command). Contains cs (Ask a.link a.slot)) (sym (append-nil (passed x))) now)
        ]);
        takes = j.takes ++ record { thing = x; gave = t } ∷ [];
        took_are = map-append thing_of j.takes (record { thing = x; gave = t } ∷ []) ∙ ap (λ xs. xs ++ x ∷ []) j.took_are;
        onwards_are = flat_map-append onward_of j.takes (record { thing = x; gave = t } ∷ []) ∙ ap (λ os. onwards_of j.takes ++ os) (append-nil (option_to_list t.onward)) ∙ ap (λ os. os ++ option_to_list t.onward) j.onwards_are;
        run = run_step me local peers j.takes old x t new takes j.running.lowest j.me_is j.peers_are j.run;
        known = known;
        running = running;
      }

  begins : (me : NodeId) (local : QuorumTree) (peers : List NodeId) (v : LedgerView D) → v ≡ nothing_taken me local v.driver peers v.first → IsLedger v → LedgerRuns level place v → Journals level extracted combined place me local peers [] [] v
  begins me local peers v is known running =
      let journal : v.journal ≡ [] = ap (λ (w : LedgerView D). w.journal) is in
      let decisions : v.decisions ≡ [] = ap (λ (w : LedgerView D). w.decisions) is in
      let asked : v.asked ≡ [] = ap (λ (w : LedgerView D). w.asked) is in
      record {
        runs = ap (λ (w : LedgerView D). w.failed) is;
        me_is = ap (λ (w : LedgerView D). w.me) is;
        local_is = ap (λ (w : LedgerView D). w.local) is;
        peers_are = ap (λ (w : LedgerView D). w.peers) is;
        entries = ap (map entry_in) journal;
        decided = sym decisions;
        requests = ap (flat_map (request_by peers)) (sym journal);
        asked = λ a has. absurd (none_asked a (ap (λ (xs : List Asking). is_asked xs a) (sym asked) ∙ has));
        takes = [];
        took_are = refl;
        onwards_are = refl;
        run = record { leads = is; judged = tt; verdicts = ap (flat_map verdict_in) journal; decided = decisions; heard = ap fresh_in journal; asked = λ a. ap (λ (xs : List Asking). is_asked xs a) asked };
        known = known;
        running = running;
      }
    where
      none_asked : (a : Asking) → is_asked [] a ≡ true → ⊥
      none_asked a e = absurd cc

  pub journals_pass : JournalsPass level extracted combined place
  journals_pass = record {
    begins = begins;
    passes = λ me local peers old x t new takes known running took onwards j. journals_step me local peers took onwards old x t new takes known (running (runs_on old x t new j.runs takes)) j;
  }

-- ---- the window

window_at : (first : ℕ) (earlier xs : List Decision) (d : Decision) (more : List Decision) → AreInWindow first earlier (xs ++ d ∷ more) → IsNext first (earlier ++ xs) d
window_at first earlier [] d more a = subst (λ (ds : List Decision). IsNext first ds d) (sym (append-nil earlier)) a.0
window_at first earlier (y ∷ ys) d more a = subst (λ (ds : List Decision). IsNext first ds d) (append_assoc earlier (y ∷ []) ys) (window_at first (earlier ++ y ∷ []) ys d more a.1)

window_front : (first : ℕ) (earlier xs ys : List Decision) → AreInWindow first earlier (xs ++ ys) → AreInWindow first earlier xs
window_front first earlier [] ys a = tt
window_front first earlier (x ∷ xs) ys a = (a.0, window_front first (earlier ++ x ∷ []) xs ys a.1)

window_push : (first : ℕ) (earlier xs : List Decision) (d : Decision) → AreInWindow first earlier xs → IsNext first (earlier ++ xs) d → AreInWindow first earlier (xs ++ d ∷ [])
window_push first earlier [] d a next = (subst (λ (ds : List Decision). IsNext first ds d) (append-nil earlier) next, tt)
window_push first earlier (x ∷ xs) d a next = (a.0, window_push first (earlier ++ x ∷ []) xs d a.1 (subst (λ (ds : List Decision). IsNext first ds d) (sym (append_assoc earlier (x ∷ []) xs)) next))

kept_front : (first : ℕ) (xs ys : List Onward) → KeepsWindow first (xs ++ ys) → KeepsWindow first xs
kept_front first xs ys k = window_front first [] (decisions_on xs) (decisions_on ys) (subst (λ (ds : List Decision). AreInWindow first [] ds) (flat_map-append decision_on xs ys) k)

kept_push : (first : ℕ) (xs : List Onward) (x : Onward) → KeepsWindow first xs → MaySend first xs x → KeepsWindow first (xs ++ x ∷ [])
kept_push first xs (Decided d) k may = subst (λ (ds : List Decision). AreInWindow first [] ds) (sym (flat_map-append decision_on xs (Decided d ∷ []))) (window_push first [] (decisions_on xs) d k may)
kept_push first xs (Asked link slot) k may = subst (λ (ds : List Decision). AreInWindow first [] ds) (sym (append-nil (decisions_on xs)) ∙ sym (flat_map-append decision_on xs (Asked link slot ∷ []))) k

pub kept_last : (first : ℕ) (xs : List Onward) (x : Onward) → KeepsWindow first (xs ++ x ∷ []) → MaySend first xs x
kept_last first xs (Decided d) k = window_at first [] (decisions_on xs) d [] (subst (λ (ds : List Decision). AreInWindow first [] ds) (flat_map-append decision_on xs (Decided d ∷ [])) k)
kept_last first xs (Asked link slot) k = tt

pub window_is_kept : WindowIsKept
window_is_kept = record { begins = kept_front; more = kept_push; last = kept_last }

module _ {D : Type 0} (level : D → ℕ → List ℕ → Level) (extracted : D → ℕ → List ℕ → Option (List ℕ)) (combined : D → ℕ → List (List ℕ) → List ℕ) (place : D → ℕ → ℕ → ℕ → ℕ) where
  sent_next : (first : ℕ) (onwards : List Onward) (o : Option Onward) → KeepsWindow first (onwards ++ option_to_list o) → IfSome o (MaySend first onwards)
  sent_next first onwards None k = tt
  sent_next first onwards (Some x) k = kept_last first onwards x k

  pub ledger_keeps_window : LedgerKeepsWindow level extracted combined place
  ledger_keeps_window = λ me local peers took onwards old x t new takes known j.
      let g = goes level extracted combined place old x t new takes in
      let after : decisions_on (onwards ++ option_to_list t.onward) ≡ new.decisions = flat_map-append decision_on onwards (option_to_list t.onward) ∙ ap (λ ds. ds ++ decisions_on (option_to_list t.onward)) j.decided ∙ sym g.decisions in
      let kept : KeepsWindow new.first (onwards ++ option_to_list t.onward) = subst (λ (ds : List Decision). AreInWindow new.first [] ds) (sym after) known.placed in
      (kept, sent_next new.first onwards t.onward kept)
