-- A step of two nodes that show the same.
use Rattle.std.proofs.Common.{◌≡◌, ◌≢◌, ℕ, ◌+◌, ◌≤◌, Bool, true, false, List, [], ◌∷◌, ◌++◌, length, refl, sym, ◌∙◌, ap, subst, inl, inr, arith, append_assoc}
use Rattle.std.specs.Prelude.{◌⊎◌, Option, None, IsSome, option_to_list, map, flat_map, slice_get}
use Rattle.std.proofs.lemmas.List.{append-nil, length-append, length-map}
use Rattle.std.proofs.lemmas.Grind.{flat_map-append}
use Rattle.scp_theorem.specs.scp_driver.specs.Driver.{Says}
use Rattle.scp_theorem.specs.scp_quorum.specs.Sane.{IsInRange}
use Rattle.scp_theorem.specs.scp_wire.specs.declared.message.Message.{Message}
use Rattle.scp_theorem.specs.scp_pending.specs.declared.ready.Ready.{Ready}
use Rattle.scp_theorem.specs.scp_pending.specs.declared.ready.Ready.TheVariants as ready
use Rattle.scp_theorem.specs.scp_ledger.specs.Journals.{Entry, entry_in, entry_of, JournalsPass}
use Rattle.scp_theorem.specs.scp_ledger.specs.Seen.{LedgerView}
use Rattle.scp_theorem.specs.scp_ledger.specs.By.{TakesBy, TellsBy, RunsBy}
use Rattle.scp_theorem.specs.scp_ledger.specs.Ledger.{IsLedger}
use Rattle.scp_theorem.specs.scp_ledger.specs.Onwards.{KeepsWindow, WindowIsKept}
use Rattle.scp_theorem.specs.scp_ledger.specs.Takes.{adds_entry}
use Rattle.scp_theorem.specs.scp_ledger.specs.declared.journal.Decision.{Decision}
use Rattle.scp_theorem.specs.scp_ledger.specs.declared.took.Onward.{Onward}
use Rattle.scp_theorem.specs.scp_ledger.specs.declared.took.Took.{Took}
use Rattle.scp_theorem.specs.scp_ledger.specs.Decisions.{AreInWindow}
use Rattle.scp_theorem.specs.scp_apply.specs.Applier.{ApplierView, CanTake}
use Rattle.scp_theorem.specs.scp_apply.specs.Applier.{Takes as ApplierTakes}
use Rattle.scp_theorem.specs.scp_apply.specs.Applies.{ApplierKeepsUp}
use Rattle.scp_theorem.specs.scp_apply.specs.Laws.{ShowTheSame, ApplyingIsAFunction}
use Rattle.scp_core.specs.Flow.{Flows}
use Rattle.scp_core.specs.History.{Past}
use Rattle.scp_core.specs.Node.{LinkView, NodeView, said_in, HandsEach, Hands, SlotTakes, ApplyTakes, Step, FillsJournal, Fails, Keeps, life_of, room_of, room_at}
use Rattle.scp_core.specs.declared.event.Event.{Event}
use Rattle.scp_core.specs.declared.event.Event.TheVariants.{Open, Send, Close, Local, ReaderTake, ReaderPut, PendTake, PendPut, SlotTake, SlotPut, ApplyTake, Drain}
use Rattle.scp_core.specs.declared.event.Reply.{Reply}
use Rattle.scp_core.specs.declared.event.Reply.TheVariants.{Failed, Blocked, Idle, Moved, JournalFull, NoMemory}
use Rattle.scp_core.specs.Same.{said, ShowSameLedger, RunAlike}
use Rattle.scp_core.proofs.same.Machines.{SlotLaws}
use Rattle.scp_core.proofs.same.Ledgers.{taking_one}
use Rattle.scp_core.proofs.same.Quiet.{with_stages, QuietStep, opens_alike, sends_alike, closes_alike, enters_alike, reads_alike, gives_alike, pends_alike, puts_alike}
use Rattle.scp_core.proofs.same.Stages.{nil_cons, heads, tails, apart, each_one, answer_one, takes_alike, drains_alike}

module _ {D : Type 0} (says : Says D) where
  -- what the layers below say
  pub record Laws : Type 0 where
    pub slots : SlotLaws D
    pub journals : JournalsPass says.level says.extracted says.combined says.place
    pub window : WindowIsKept
    pub keeps_up : ApplierKeepsUp
    pub applying : ApplyingIsAFunction

-- ---- what is kept, and what is seen while it runs

module _ {D : Type 0} where
  -- what is left of nodes that fail is the same
  pub record KeptAlike (v w : NodeView D) : Type 0 where
    pub config : v.config ≡ w.config
    pub journal : map said v.ledger.journal ≡ map said w.ledger.journal
    pub decisions : v.ledger.decisions ≡ w.ledger.decisions
    pub applied : v.applier.applied ≡ w.applier.applied
    pub last_command : v.last_command ≡ w.last_command
    pub last_said : v.last_said ≡ w.last_said
    pub lives : map life_of v.links ≡ map life_of w.links
    pub rooms : (l : ℕ) → room_at v l ≡ room_at w l

  pub kept_of : (v w : NodeView D) → v.config ≡ w.config → RunAlike v w → KeptAlike v w
  kept_of v w config h = record {
    config = config;
    journal = h.ledger.journal;
    decisions = h.ledger.decisions;
    applied = sym h.applier.applied;
    last_command = h.last_command;
    last_said = h.last_said;
    lives = ap (map life_of) h.links;
    rooms = λ l. ap (λ (links : List LinkView). room_of (slice_get links l)) h.links;
  }

  -- one step of both
  pub record BothStep (reply other : Reply) (new there : NodeView D) : Type 0 where
    pub same : reply ≡ other
    pub runs : reply ≢ JournalFull → RunAlike new there
    pub kept : KeptAlike new there

clash : (b : Bool) → b ≡ false → b ≡ true → ⊥
clash b f t = cc

module _ {D : Type 0} where
  fails_kept : (v w new there : NodeView D) → KeptAlike v w → Keeps v new → Keeps w there → ((l : ℕ) → room_at new l ≡ room_at v l) → ((l : ℕ) → room_at there l ≡ room_at w l) → KeptAlike new there
  fails_kept v w new there h a b room left = record {
    config = a.config ∙ h.config ∙ sym b.config;
    journal = ap (map said) a.journal ∙ h.journal ∙ sym (ap (map said) b.journal);
    decisions = a.decisions ∙ h.decisions ∙ sym b.decisions;
    applied = a.applied ∙ h.applied ∙ sym b.applied;
    last_command = a.command ∙ h.last_command ∙ sym b.command;
    last_said = a.said ∙ h.last_said ∙ sym b.said;
    lives = a.lives ∙ h.lives ∙ sym b.lives;
    rooms = λ l. room l ∙ h.rooms l ∙ sym (left l);
  }

  -- the same node with another ledger and another applier that show the same
  module _ (v : NodeView D) (ledger : LedgerView D) (applier : ApplierView) (ledgers : ShowSameLedger v.ledger ledger) (appliers : ShowTheSame v.applier applier) where
    beside_alike : (f : NodeView D) → f.ledger ≡ v.ledger → f.applier ≡ v.applier → RunAlike f (with_stages f ledger applier)
    beside_alike f same_ledger same_applier = record {
      links = refl;
      inbox = (refl, refl);
      pending = refl;
      ready = (refl, refl, refl);
      ledger = subst (λ (l : LedgerView D). ShowSameLedger l ledger) (sym same_ledger) ledgers;
      last_command = refl;
      last_said = refl;
      decided = (refl, refl, refl);
      applier = subst (λ (a : ApplierView). ShowTheSame a applier) (sym same_applier) appliers;
      outboxes = refl;
    }

    quiet_both : (reply other : Reply) (new there : NodeView D) → QuietStep v ledger applier reply other new there → BothStep reply other new there
    quiet_both reply other new there q =
        let alike : RunAlike new there = subst (λ (z : NodeView D). RunAlike new z) (sym q.alike) (beside_alike new q.ledger_is q.applier_is) in
        record { same = q.same; runs = λ _. alike; kept = kept_of new there (sym (ap (λ (z : NodeView D). z.config) q.alike)) alike }

-- ---- the slot stage

one_entry : (x : Ready) → adds_entry x ≡ true → length (entry_of x) ≡ 1
one_entry (ready.Deliver d) e = refl
one_entry (ready.Dropped conn seq cause) e = refl
one_entry (ready.Closed conn cause) e = refl
one_entry (ready.Local command) e = absurd cc

same_length : {X Y : Type 0} (f : X → Y) (xs ys : List X) → map f xs ≡ map f ys → length xs ≡ length ys
same_length f xs ys e = sym (length-map xs f) ∙ ap length e ∙ length-map ys f

module _ {D : Type 0} (says : Says D) where
  -- where an entry is added, there was room for it
  roomy : Laws says → (p : Past) (v : NodeView D) (f : Flows says p v) (x : Ready) (t : Took) (new : LedgerView D) → TakesBy says v.ledger x t new → IsLedger new → RunsBy says new → adds_entry x ≡ true → length v.ledger.journal + 1 ≤ 1000000
  roomy law p v f x t new takes known running adds =
      let now = law.journals.passes v.config.me v.config.set v.config.peers v.ledger x t new takes known (λ _. running) f.took f.onwards f.journal in
      let before : List Entry = flat_map entry_of f.took in
      let one : List Entry = flat_map entry_of (x ∷ []) in
      let all : length (map entry_in new.journal) ≡ length (before ++ one) = ap length (now.entries ∙ flat_map-append entry_of f.took (x ∷ [])) in
      let first : length before ≡ length v.ledger.journal = ap length (sym f.journal.entries) ∙ length-map v.ledger.journal entry_in in
      let last : length one ≡ 1 = ap length (append-nil (entry_of x)) ∙ one_entry x adds in
      omega (arith, length-map new.journal entry_in, all, length-append before one, first, last, known.few)

  abbrev SlotCase : NodeView D → Reply → NodeView D → Type 0
  SlotCase v reply new =
      (IsSome v.slot_hand × (reply ≡ Blocked) × (new ≡ v))
      ⊎ ((v.slot_hand ≡ None) × (v.ready ≡ []) × (reply ≡ Idle) × (new ≡ v))
      ⊎ ((v.slot_hand ≡ None) × (reply ≡ Moved) × SlotTakes says v new)
      ⊎ ((v.slot_hand ≡ None) × (reply ≡ JournalFull) × Fails v SlotTake new × FillsJournal v SlotTake)

  slot_case : (v new : NodeView D) (reply : Reply) → v.failed ≡ false → reply ≢ NoMemory → Step says v SlotTake reply new → SlotCase v reply new
  slot_case v new Failed runs memory h = absurd (clash v.failed runs h.0)
  slot_case v new Blocked runs memory h = inl (h.1, refl, h.2)
  slot_case v new Idle runs memory h = inr (inl (h.1.0, h.1.1, refl, h.2))
  slot_case v new Moved runs memory h = inr (inr (inl (h.1.0, refl, h.1.1)))
  slot_case v new JournalFull runs memory h = inr (inr (inr (h.1.0, refl, h.0, h.1)))
  slot_case v new NoMemory runs memory h = absurd (memory refl)
  slot_case v new reply runs memory h = absurd h.1

  module _ (law : Laws says) (p : Past) (v : NodeView D) (ledger : LedgerView D) (applier : ApplierView) (ledgers : ShowSameLedger v.ledger ledger) (appliers : ShowTheSame v.applier applier) (reply other : Reply) (new there : NodeView D) (f : Flows says p v) (g : Flows says p (with_stages v ledger applier)) where
    abbrev u : NodeView D
    u = with_stages v ledger applier

    were : KeptAlike v u
    were = kept_of v u refl (beside_alike v ledger applier ledgers appliers v refl refl)

    nothing : reply ≡ other → new ≡ v → there ≡ u → BothStep reply other new there
    nothing same x y =
        let alike : RunAlike new there = subst (λ (z : NodeView D). RunAlike z there) (sym x) (subst (λ (z : NodeView D). RunAlike v z) (sym y) (beside_alike v ledger applier ledgers appliers v refl refl)) in
        record { same = same; runs = λ _. alike; kept = kept_of new there (ap (λ (z : NodeView D). z.config) x ∙ sym (ap (λ (z : NodeView D). z.config) y)) alike }

    range : IsInRange v.ledger.local
    range = subst IsInRange (f.local ∙ sym f.journal.local_is) f.pending.local_is_sane.in_range

    slot_moves : reply ≡ other → SlotTakes says v new → SlotTakes says u there → BothStep reply other new there
    slot_moves same x y =
        let thing : x.x ≡ y.x = heads x.x y.x x.rest y.rest (sym x.ready ∙ y.ready) in
        let rest : x.rest ≡ y.rest = tails x.x y.x x.rest y.rest (sym x.ready ∙ y.ready) in
        let takes : TakesBy says ledger x.x y.took y.after' = subst (λ (z : Ready). TakesBy says ledger z y.took y.after') (sym thing) y.takes in
        let tells : TellsBy says ledger x.x y.took = subst (λ (z : Ready). TellsBy says ledger z y.took) (sym thing) y.tells in
        let one = taking_one says.level says.extracted says.combined says.place law.slots v.ledger ledger x.after' y.after' x.x x.took y.took ledgers f.journal.running range x.takes x.tells takes tells x.running.lowest y.running.lowest in
        let boxes : new.outboxes ≡ there.outboxes = each_one v.outboxes x.took.outgoing new.outboxes there.outboxes x.hands (subst (λ (t : Took). HandsEach v.outboxes t.outgoing there.outboxes) (sym one.took) y.hands) in
        let here : NodeView D = record v { ready = x.rest; ledger = x.after'; slot_hand = x.took.onward; last_command = x.took.command; last_said = said_in x.took.outgoing; outboxes = new.outboxes } in
        let second : NodeView D = record u { ready = x.rest; ledger = y.after'; slot_hand = x.took.onward; last_command = x.took.command; last_said = said_in x.took.outgoing; outboxes = new.outboxes } in
        let is : there ≡ second = y.is ∙ (λ i. record u { ready = sym rest i; ledger = y.after'; slot_hand = (sym one.took i).onward; last_command = (sym one.took i).command; last_said = said_in (sym one.took i).outgoing; outboxes = sym boxes i }) in
        let base : RunAlike here second = record {
          links = refl;
          inbox = (refl, refl);
          pending = refl;
          ready = (refl, refl, refl);
          ledger = one.view;
          last_command = refl;
          last_said = refl;
          decided = (refl, refl, refl);
          applier = appliers;
          outboxes = refl;
        } in
        let alike : RunAlike new there = subst (λ (z : NodeView D). RunAlike z there) (sym x.is) (subst (λ (z : NodeView D). RunAlike here z) (sym is) base) in
        record { same = same; runs = λ _. alike; kept = kept_of new there (ap (λ (z : NodeView D). z.config) x.is ∙ sym (ap (λ (z : NodeView D). z.config) y.is)) alike }

    long : length v.ledger.journal ≡ length ledger.journal
    long = same_length said v.ledger.journal ledger.journal ledgers.journal

    slot_both : SlotCase v reply new → SlotCase u other there → BothStep reply other new there
    slot_both x y = elim x [
      | inl a ↦ elim y [
        | inl b ↦ nothing (a.1 ∙ sym b.1) a.2 b.2
        | inr y2 ↦ elim y2 [
          | inl b ↦ absurd (apart v.slot_hand a.0 b.0)
          | inr y3 ↦ elim y3 [
            | inl b ↦ absurd (apart v.slot_hand a.0 b.0)
            | inr b ↦ absurd (apart v.slot_hand a.0 b.0)
          ]
        ]
      ]
      | inr x2 ↦ elim x2 [
        | inl a ↦ elim y [
          | inl b ↦ absurd (apart v.slot_hand b.0 a.0)
          | inr y2 ↦ elim y2 [
            | inl b ↦ nothing (a.2 ∙ sym b.2) a.3 b.3
            | inr y3 ↦ elim y3 [
              | inl b ↦ absurd (nil_cons b.2.x b.2.rest (sym a.1 ∙ b.2.ready))
              | inr b ↦ absurd (nil_cons b.3.1 b.3.2 (sym a.1 ∙ b.3.3))
            ]
          ]
        ]
        | inr x3 ↦ elim x3 [
          | inl a ↦ elim y [
            | inl b ↦ absurd (apart v.slot_hand b.0 a.0)
            | inr y2 ↦ elim y2 [
              | inl b ↦ absurd (nil_cons a.2.x a.2.rest (sym b.1 ∙ a.2.ready))
              | inr y3 ↦ elim y3 [
                | inl b ↦ slot_moves (a.1 ∙ sym b.1) a.2 b.2
                | inr b ↦ (
                    let thing : a.2.x ≡ b.3.1 = heads a.2.x b.3.1 a.2.rest b.3.2 (sym a.2.ready ∙ b.3.3) in
                    absurd (omega (arith, long, b.3.5, roomy law p v f a.2.x a.2.took a.2.after' a.2.takes a.2.known a.2.running (ap adds_entry thing ∙ b.3.4))))
              ]
            ]
          ]
          | inr a ↦ elim y [
            | inl b ↦ absurd (apart v.slot_hand b.0 a.0)
            | inr y2 ↦ elim y2 [
              | inl b ↦ absurd (nil_cons a.3.1 a.3.2 (sym b.1 ∙ a.3.3))
              | inr y3 ↦ elim y3 [
                | inl b ↦ (
                    let thing : b.2.x ≡ a.3.1 = heads b.2.x a.3.1 b.2.rest a.3.2 (sym b.2.ready ∙ a.3.3) in
                    absurd (omega (arith, long, a.3.5, roomy law p u g b.2.x b.2.took b.2.after' b.2.takes b.2.known b.2.running (ap adds_entry thing ∙ a.3.4))))
                | inr b ↦ record { same = a.1 ∙ sym b.1; runs = λ never. absurd (never a.1); kept = fails_kept v u new there were a.2.keeps b.2.keeps a.2.room b.2.room }
              ]
            ]
          ]
        ]
      ]
    ]

    -- ---- the applier

    in_window : (x : Onward) (rest : List Onward) → v.decided ≡ x ∷ rest → KeepsWindow v.applier.first (f.applied ++ x ∷ [])
    in_window x rest e =
        let all : f.onwards ≡ (f.applied ++ x ∷ []) ++ (rest ++ option_to_list v.slot_hand) = f.decided ∙ ap (λ (os : List Onward). f.applied ++ (os ++ option_to_list v.slot_hand)) e ∙ sym (append_assoc f.applied (x ∷ []) (rest ++ option_to_list v.slot_hand)) in
        subst (λ (first : ℕ). KeepsWindow first (f.applied ++ x ∷ [])) (sym f.first) (law.window.begins v.ledger.first (f.applied ++ x ∷ []) (rest ++ option_to_list v.slot_hand) (subst (KeepsWindow v.ledger.first) all (subst (λ (ds : List Decision). AreInWindow v.ledger.first [] ds) (sym f.journal.decided) f.journal.known.placed)))

    apply_moves : reply ≡ other → ApplyTakes v new → ApplyTakes u there → BothStep reply other new there
    apply_moves same x y =
        let thing : x.x ≡ y.x = heads x.x y.x x.rest y.rest (sym x.decided ∙ y.decided) in
        let rest : x.rest ≡ y.rest = tails x.x y.x x.rest y.rest (sym x.decided ∙ y.decided) in
        let takes : ApplierTakes applier x.x y.answer y.after' = subst (λ (z : Onward). ApplierTakes applier z y.answer y.after') (sym thing) y.takes in
        let can : CanTake v.applier x.x = law.keeps_up f.applied v.applier x.x f.applier (in_window x.x x.rest x.decided) in
        let one = law.applying v.applier applier x.x x.answer y.answer x.after' y.after' appliers f.applier.known f.applier.running can x.takes takes x.known x.running y.known y.running in
        let boxes : new.outboxes ≡ there.outboxes = answer_one v.outboxes x.answer new.outboxes there.outboxes x.hands (subst (λ (a : Option (ℕ × Message)). Hands v.outboxes a there.outboxes) (sym one.0) y.hands) in
        let here : NodeView D = record v { decided = x.rest; applier = x.after'; outboxes = new.outboxes } in
        let second : NodeView D = record u { decided = x.rest; applier = y.after'; outboxes = new.outboxes } in
        let is : there ≡ second = y.is ∙ (λ i. record u { decided = sym rest i; applier = y.after'; outboxes = sym boxes i }) in
        let base : RunAlike here second = record {
          links = refl;
          inbox = (refl, refl);
          pending = refl;
          ready = (refl, refl, refl);
          ledger = ledgers;
          last_command = refl;
          last_said = refl;
          decided = (refl, refl, refl);
          applier = one.1;
          outboxes = refl;
        } in
        let alike : RunAlike new there = subst (λ (z : NodeView D). RunAlike z there) (sym x.is) (subst (λ (z : NodeView D). RunAlike here z) (sym is) base) in
        record { same = same; runs = λ _. alike; kept = kept_of new there (ap (λ (z : NodeView D). z.config) x.is ∙ sym (ap (λ (z : NodeView D). z.config) y.is)) alike }

module _ {D : Type 0} where
  abbrev ApplyCase : NodeView D → Reply → NodeView D → Type 0
  ApplyCase v reply new = ((v.decided ≡ []) × (reply ≡ Idle) × (new ≡ v)) ⊎ ((reply ≡ Moved) × ApplyTakes v new)

module _ {D : Type 0} (says : Says D) where
  apply_case : (v new : NodeView D) (reply : Reply) → v.failed ≡ false → reply ≢ NoMemory → Step says v ApplyTake reply new → ApplyCase v reply new
  apply_case v new Failed runs memory h = absurd (clash v.failed runs h.0)
  apply_case v new Idle runs memory h = inl (h.1, refl, h.2)
  apply_case v new Moved runs memory h = inr (refl, h.1)
  apply_case v new NoMemory runs memory h = absurd (memory refl)
  apply_case v new reply runs memory h = absurd h.1

  apply_both : Laws says → (p : Past) (v : NodeView D) (ledger : LedgerView D) (applier : ApplierView) → ShowSameLedger v.ledger ledger → ShowTheSame v.applier applier → (reply other : Reply) (new there : NodeView D) → Flows says p v → Flows says p (with_stages v ledger applier) → ApplyCase v reply new → ApplyCase (with_stages v ledger applier) other there → BothStep reply other new there
  apply_both law p v ledger applier ledgers appliers reply other new there f g x y = elim x [
    | inl a ↦ elim y [
      | inl b ↦ nothing says law p v ledger applier ledgers appliers reply other new there f g (a.1 ∙ sym b.1) a.2 b.2
      | inr b ↦ absurd (nil_cons b.1.x b.1.rest (sym a.0 ∙ b.1.decided))
    ]
    | inr a ↦ elim y [
      | inl b ↦ absurd (nil_cons a.1.x a.1.rest (sym b.0 ∙ a.1.decided))
      | inr b ↦ apply_moves says law p v ledger applier ledgers appliers reply other new there f g (a.0 ∙ sym b.0) a.1 b.1
    ]
  ]

  -- ---- all events

  module _ (law : Laws says) (p : Past) (v : NodeView D) (ledger : LedgerView D) (applier : ApplierView) (ledgers : ShowSameLedger v.ledger ledger) (appliers : ShowTheSame v.applier applier) (reply other : Reply) (new there : NodeView D) (f : Flows says p v) (g : Flows says p (with_stages v ledger applier)) (memory : reply ≢ NoMemory) (enough : other ≢ NoMemory) where
    abbrev w : NodeView D
    w = with_stages v ledger applier

    abbrev quietly : QuietStep v ledger applier reply other new there → BothStep reply other new there
    quietly q = quiet_both v ledger applier ledgers appliers reply other new there q

    by_event : (event : Event) → Step says v event reply new → Step says w event other there → BothStep reply other new there
    by_event (Open l) x y = quietly (opens_alike says v ledger applier reply other new there f.runs memory enough l x y)
    by_event (Send l bytes) x y = quietly (sends_alike says v ledger applier reply other new there f.runs memory enough l bytes x y)
    by_event (Close l) x y = quietly (closes_alike says v ledger applier reply other new there f.runs memory enough l x y)
    by_event (Local command) x y = quietly (enters_alike says v ledger applier reply other new there f.runs memory enough command x y)
    by_event (ReaderTake l) x y = quietly (reads_alike says v ledger applier reply other new there f.runs memory enough l x y)
    by_event (ReaderPut l) x y = quietly (gives_alike says v ledger applier reply other new there f.runs memory enough l x y)
    by_event PendTake x y = quietly (takes_alike says v ledger applier reply other new there p f g memory enough x y)
    by_event PendPut x y = quietly (pends_alike says v ledger applier reply other new there f.runs memory enough x y)
    by_event SlotTake x y = slot_both says law p v ledger applier ledgers appliers reply other new there f g (slot_case says v new reply f.runs memory x) (slot_case says w there other f.runs enough y)
    by_event SlotPut x y = quietly (puts_alike says v ledger applier reply other new there f.runs memory enough x y)
    by_event ApplyTake x y = apply_both law p v ledger applier ledgers appliers reply other new there f g (apply_case v new reply f.runs memory x) (apply_case w there other f.runs enough y)
    by_event (Drain l) x y = quietly (drains_alike says v ledger applier reply other new there l f.runs memory enough x y)

  pub step_both : Laws says → (p : Past) (v w : NodeView D) (event : Event) (reply other : Reply) (new there : NodeView D) → v.config ≡ w.config → RunAlike v w → Flows says p v → Flows says p w → reply ≢ NoMemory → other ≢ NoMemory → Step says v event reply new → Step says w event other there → BothStep reply other new there
  step_both law p v w event reply other new there config h f g memory enough x y =
      let u : NodeView D = with_stages v w.ledger w.applier in
      let is : w ≡ u = λ i. record {
        config = sym config i;
        failed = (g.runs ∙ sym f.runs) i;
        fault = (g.whole ∙ sym f.whole) i;
        links = sym h.links i;
        inbox = sym h.inbox.0 i;
        inbox_room = sym h.inbox.1 i;
        pending = sym h.pending i;
        pend_hand = sym h.ready.2 i;
        ready = sym h.ready.0 i;
        ready_room = sym h.ready.1 i;
        ledger = w.ledger;
        slot_hand = sym h.decided.2 i;
        last_command = sym h.last_command i;
        last_said = sym h.last_said i;
        decided = sym h.decided.0 i;
        decided_room = sym h.decided.1 i;
        applier = w.applier;
        outboxes = sym h.outboxes i;
      } in
      by_event law p v w.ledger w.applier h.ledger h.applier reply other new there f (subst (λ (z : NodeView D). Flows says p z) is g) memory enough event x (subst (λ (z : NodeView D). Step says z event other there) is y)
