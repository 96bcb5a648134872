-- Steps leave a node's configuration as it is, and only add to its journal.
use Rattle.std.proofs.lemmas.List.{length-append}
use Rattle.std.proofs.Common.{◌≡◌, ◌≤◌, ◌+◌, inl, inr, ℕ, arith, List, [], ◌∷◌, ◌++◌, Option, length, take, refl, sym, ◌∙◌, ap, subst, append_assoc, append-nil}
use Rattle.scp_again.specs.scp_types.specs.declared.names.ConnId.{ConnId}
use Rattle.scp_again.specs.scp_types.specs.declared.names.Seq.{Seq}
use Rattle.scp_again.specs.scp_quorum.specs.QuorumTree.{QuorumTree}
use Rattle.scp_again.specs.scp_driver.specs.Driver.{Says}
use Rattle.scp_again.specs.scp_wire.specs.declared.message.Message.{Message}
use Rattle.scp_again.specs.scp_wire.specs.declared.message.Message.TheVariants.{Envelope, GetSet, Set, NoSet, GetRecord, Record, Records}
use Rattle.scp_again.specs.scp_wire.specs.declared.link.Command.{Command}
use Rattle.scp_again.specs.scp_wire.specs.declared.link.Command.TheVariants.{Propose, Round, Timer, Tick, Ask}
use Rattle.scp_again.specs.scp_pending.specs.declared.ready.Ready.{Ready}
use Rattle.scp_again.specs.scp_pending.specs.declared.ready.Ready.TheVariants as ready
use Rattle.scp_again.specs.scp_ledger.specs.declared.journal.Fate.{Fate}
use Rattle.scp_again.specs.scp_ledger.specs.declared.journal.Verdict.{Verdict}
use Rattle.scp_again.specs.scp_ledger.specs.declared.took.Took.{Took}
use Rattle.scp_again.specs.scp_ledger.specs.Seen.{LedgerView}
use Rattle.scp_again.specs.scp_ledger.specs.By.{TakesBy}
use Rattle.scp_again.specs.scp_ledger.specs.Takes.{Passes, TakesMessage, TakesCommand}
use Rattle.scp_again.specs.scp_core.specs.declared.event.Event.{Event}
use Rattle.scp_again.specs.scp_core.specs.declared.event.Event.TheVariants.{Open, Send, Close, Local, ReaderTake, ReaderPut, PendTake, PendPut, SlotTake, SlotPut, ApplyTake, Drain}
use Rattle.scp_again.specs.scp_core.specs.declared.event.Reply.{Reply}
use Rattle.scp_again.specs.scp_core.specs.declared.event.Reply.TheVariants as reply
use Rattle.scp_again.specs.scp_core.specs.History.{Exchange}
use Rattle.scp_again.specs.scp_core.specs.Node.{NodeView, Accepts, Moves, SendsOut, Step}
use Rattle.scp_turn.specs.Turn.{Does}

-- ---- a journal and more

record More (old new : List Fate) : Type 0 where
  fates : List Fate
  is : new ≡ old ++ fates

more_of : (old new fates : List Fate) → new ≡ old ++ fates → More old new
more_of old new fates e = record { fates = fates; is = e }

no_more : (old new : List Fate) → new ≡ old → More old new
no_more old new e = record { fates = []; is = e ∙ sym (append-nil old) }

more_on : (a b c : List Fate) → More a b → More b c → More a c
more_on a b c p q = record { fates = p.fates ++ q.fates; is = q.is ∙ ap (λ (l : List Fate). l ++ q.fates) p.is ∙ append_assoc a p.fates q.fates }

take_front : {X : Type 0} (xs ys : List X) → take (length xs) (xs ++ ys) ≡ xs
take_front [] ys = refl
take_front (x ∷ xs) ys = ap (λ l. x ∷ l) (take_front xs ys)

module _ {D : Type 0} (says : Says D) where
  -- ---- what the slot stage takes

  -- only these entries come of it
  passes_more : (old new : LedgerView D) (said : Option Verdict) (fates : List Fate) (took : Took) → Passes old said fates took new → More old.journal new.journal
  passes_more old new said fates took p = record { fates = fates; is = ap (λ (v : LedgerView D). v.journal) p.same }

  message_more : (old new : LedgerView D) (conn : ConnId) (seq : Seq) (m : Message) (beside : Option QuorumTree) (took : Took) → TakesMessage says.level says.extracted says.combined says.place old conn seq m beside took new → More old.journal new.journal
  message_more old new conn seq (Envelope e) beside took h = elim h.5 [
    | inl p ↦ passes_more old new _ _ took p.1
    | inr r ↦ more_of old.journal new.journal _ r.2.journal
  ]
  message_more old new conn seq (GetSet hash) beside took h = absurd h
  message_more old new conn seq (Set inside) beside took h = absurd h
  message_more old new conn seq (NoSet hash) beside took h = absurd h
  message_more old new conn seq (GetRecord at) beside took h = more_of old.journal new.journal _ (ap (λ (v : LedgerView D). v.journal) h.2.same)
  message_more old new conn seq (Record at value) beside took h = elim h.2.3 [
    | inl p ↦ passes_more old new _ _ took p.1
    | inr r ↦ more_of old.journal new.journal _ r.1.journal
  ]
  message_more old new conn seq (Records first values) beside took h = absurd h

  command_more : (old new : LedgerView D) (c : Command) (took : Took) → TakesCommand says.level says.extracted says.combined says.place old c took new → More old.journal new.journal
  command_more old new (Propose at value) took h = elim h [
    | inl p ↦ passes_more old new _ _ took p.2
    | inr r ↦ more_of old.journal new.journal _ r.journal
  ]
  command_more old new (Round at) took h = elim h [
    | inl p ↦ passes_more old new _ _ took p.2
    | inr r ↦ more_of old.journal new.journal _ r.journal
  ]
  command_more old new (Timer at) took h = elim h [
    | inl p ↦ passes_more old new _ _ took p.2
    | inr r ↦ more_of old.journal new.journal _ r.journal
  ]
  command_more old new Tick took h = passes_more old new _ _ took h
  command_more old new (Ask link at) took h = elim h.3 [
    | inl p ↦ passes_more old new _ _ took p.1
    | inr r ↦ no_more old.journal new.journal (ap (λ (v : LedgerView D). v.journal) r.1.same)
  ]

  ledger_more : (old new : LedgerView D) (x : Ready) (took : Took) → TakesBy says old x took new → More old.journal new.journal
  ledger_more old new (ready.Deliver d) took h = message_more old new d.conn d.seq d.message d.set took h
  ledger_more old new (ready.Dropped conn seq cause) took h = passes_more old new _ _ took h
  ledger_more old new (ready.Closed conn cause) took h = passes_more old new _ _ took h
  ledger_more old new (ready.Local command) took h = command_more old new command took h

  -- ---- a step

  record Grows (old new : NodeView D) : Type 0 where
    config : new.config ≡ old.config
    more : More old.ledger.journal new.ledger.journal

  -- the new one has this ledger and this configuration
  grows_by : (old new made : NodeView D) → new ≡ made → made.config ≡ old.config → More old.ledger.journal made.ledger.journal → Grows old new
  grows_by old new made e config more = subst (λ (v : NodeView D). Grows old v) (sym e) (record { config = config; more = more })

  stays : (old new made : NodeView D) → new ≡ made → made.config ≡ old.config → made.ledger.journal ≡ old.ledger.journal → Grows old new
  stays old new made e config journal = grows_by old new made e config (no_more old.ledger.journal made.ledger.journal journal)

  accepts_grows : (old new : NodeView D) (e : Event) → Accepts old e new → Grows old new
  accepts_grows old new (Open l) h = stays old new _ h.2.3 refl refl
  accepts_grows old new (Send l bytes) h = stays old new _ h.2.2 refl refl
  accepts_grows old new (Close l) h = stays old new _ h.2.2 refl refl
  accepts_grows old new (Local command) h = stays old new _ h.2 refl refl
  accepts_grows old new (ReaderTake l) h = absurd h
  accepts_grows old new (ReaderPut l) h = absurd h
  accepts_grows old new PendTake h = absurd h
  accepts_grows old new PendPut h = absurd h
  accepts_grows old new SlotTake h = absurd h
  accepts_grows old new SlotPut h = absurd h
  accepts_grows old new ApplyTake h = absurd h
  accepts_grows old new (Drain l) h = absurd h

  moves_grows : (old new : NodeView D) (e : Event) → Moves says old e new → Grows old new
  moves_grows old new (Open l) h = absurd h
  moves_grows old new (Send l bytes) h = absurd h
  moves_grows old new (Close l) h = absurd h
  moves_grows old new (Local command) h = absurd h
  moves_grows old new (ReaderTake l) h = stays old new _ h.2.4 refl refl
  moves_grows old new (ReaderPut l) h = stays old new _ h.2.4 refl refl
  moves_grows old new PendTake h = elim h.1 [
    | inl brings ↦ stays old new _ brings.is refl refl
    | inr takes ↦ stays old new _ takes.is refl refl
  ]
  moves_grows old new PendPut h = stays old new _ h.3 refl refl
  moves_grows old new SlotTake h = grows_by old new _ h.1.is refl (ledger_more old.ledger h.1.after' h.1.x h.1.took h.1.takes)
  moves_grows old new SlotPut h = stays old new _ h.3 refl refl
  moves_grows old new ApplyTake h = stays old new _ h.is refl refl
  moves_grows old new (Drain l) h = absurd h

  sends_grows : (old new : NodeView D) (e : Event) (bytes : List ℕ) → SendsOut old e bytes new → Grows old new
  sends_grows old new (Drain l) bytes h = stays old new _ h.is refl refl
  sends_grows old new (Open l) bytes h = absurd h
  sends_grows old new (Send l sent) bytes h = absurd h
  sends_grows old new (Close l) bytes h = absurd h
  sends_grows old new (Local command) bytes h = absurd h
  sends_grows old new (ReaderTake l) bytes h = absurd h
  sends_grows old new (ReaderPut l) bytes h = absurd h
  sends_grows old new PendTake bytes h = absurd h
  sends_grows old new PendPut bytes h = absurd h
  sends_grows old new SlotTake bytes h = absurd h
  sends_grows old new SlotPut bytes h = absurd h
  sends_grows old new ApplyTake bytes h = absurd h

  step_grows : (old new : NodeView D) (e : Event) (r : Reply) → Step says old e r new → Grows old new
  step_grows old new e reply.Failed h = stays old new old h.1 refl refl
  step_grows old new e reply.Accepted h = accepts_grows old new e h.1
  step_grows old new e reply.Moved h = moves_grows old new e h.1
  step_grows old new e (reply.Sent bytes) h = sends_grows old new e bytes h.1
  step_grows old new e reply.JournalFull h = record { config = h.0.keeps.config; more = no_more old.ledger.journal new.ledger.journal h.0.keeps.journal }
  step_grows old new e reply.NoMemory h = record { config = h.0.keeps.config; more = no_more old.ledger.journal new.ledger.journal h.0.keeps.journal }
  step_grows old new e reply.NoLink h = stays old new old h.2 refl refl
  step_grows old new e reply.AlreadyOpen h = stays old new old h.2 refl refl
  step_grows old new e reply.LivesSpent h = stays old new old h.2 refl refl
  step_grows old new e reply.NotOpen h = stays old new old h.2 refl refl
  step_grows old new e reply.Full h = stays old new old h.2 refl refl
  step_grows old new e reply.Blocked h = stays old new old h.2 refl refl
  step_grows old new e reply.Idle h = stays old new old h.2 refl refl

  -- ---- steps

  does_grows : (heard : List Exchange) (old new : NodeView D) → Does says old heard new → Grows old new
  does_grows [] old new h = stays old new old h refl refl
  does_grows (x ∷ heard) old new h =
      let one = step_grows old h.0 x.0 x.1 h.1 in
      let rest = does_grows heard h.0 new h.2 in
      record { config = rest.config ∙ one.config; more = more_on old.ledger.journal h.0.ledger.journal new.ledger.journal one.more rest.more }

  pub config_stays : (heard : List Exchange) (old new : NodeView D) → Does says old heard new → new.config ≡ old.config
  config_stays heard old new h = (does_grows heard old new h).config

  -- the old journal is the first part of the new one
  pub front_stays : (heard : List Exchange) (old new : NodeView D) → Does says old heard new → take (length old.ledger.journal) new.ledger.journal ≡ old.ledger.journal
  front_stays heard old new h =
      let more = (does_grows heard old new h).more in
      ap (take (length old.ledger.journal)) more.is ∙ take_front old.ledger.journal more.fates

  -- and so the new one is no shorter
  pub not_shorter : (heard : List Exchange) (old new : NodeView D) → Does says old heard new → length old.ledger.journal ≤ length new.ledger.journal
  not_shorter heard old new h =
      let more = (does_grows heard old new h).more in
      let long : length new.ledger.journal ≡ length old.ledger.journal + length more.fates = ap length more.is ∙ length-append old.ledger.journal more.fates in
      omega (arith, long)
