-- What holds of a list of exchanges holds of the list with one more.
use Rattle.std.proofs.Common.{◌≡◌, ℕ, true, false, List, [], ◌∷◌, ◌++◌, refl, sym, ◌∙◌, ap, subst, inl, inr}
use Rattle.std.specs.Prelude.{fold}
use Rattle.std.proofs.lemmas.List.Sums.{fold_push}
use Rattle.scp_theorem.specs.scp_driver.specs.Driver.{Says}
use Rattle.scp_core.specs.declared.config.Config.{Config}
use Rattle.scp_core.specs.declared.event.Event.{Event}
use Rattle.scp_core.specs.declared.event.Event.TheVariants.{Open, Send, Close, Local, ReaderTake, ReaderPut, PendTake, PendPut, SlotTake, SlotPut, ApplyTake, Drain}
use Rattle.scp_core.specs.declared.event.Reply.{Reply}
use Rattle.scp_core.specs.declared.event.Reply.TheVariants.{Failed, NoLink, AlreadyOpen, LivesSpent, NotOpen, Full, Accepted, Blocked, Idle, Moved, Sent, JournalFull, NoMemory}
use Rattle.scp_core.specs.History.{Exchange, Past, hears, accepts, moves, past_of, nothing_heard}
use Rattle.scp_core.specs.Node.{NodeView, Accepts, Moves, SendsOut, Step, Keeps, Fails}
use Rattle.scp_core.specs.Flow.{Flows}
use Rattle.scp_core.specs.Theorem.{begun, IsReply, AreSteps, LedgerTheoremFrom, StepsKeepFrom}
use Rattle.scp_core.proofs.StageLaws.{StepLaws}
use Rattle.scp_core.proofs.Deciding.{first_stays, base_stays}
use Rattle.scp_core.proofs.Steps.{Flows-failed, Flows-accepts, Flows-moves, Flows-sends}

module _ {D : Type 0} where
  abbrev SameConfig : NodeView D → NodeView D → Type 0
  SameConfig old new = new.config ≡ old.config

  same-view : (old new w : NodeView D) → w.config ≡ old.config → new ≡ w → SameConfig old new
  same-view old new w m e = ap (λ (v : NodeView D). v.config) e ∙ m

  -- the node's applier began with this slot and these bytes
  abbrev pub Began : ℕ → List ℕ → NodeView D → Type 0
  Began first base v = (v.applier.first ≡ first) × (v.applier.base ≡ base)

  began-view : (first : ℕ) (base : List ℕ) (old new w : NodeView D) → new ≡ w → (w.applier.first ≡ old.applier.first) × (w.applier.base ≡ old.applier.base) → Began first base old → Began first base new
  began-view first base old new w e same b = (ap (λ (v : NodeView D). v.applier.first) e ∙ same.0 ∙ b.0, ap (λ (v : NodeView D). v.applier.base) e ∙ same.1 ∙ b.1)

  pub accepts-began : (first : ℕ) (base : List ℕ) (old new : NodeView D) (event : Event) → Accepts old event new → Began first base old → Began first base new
  accepts-began first base old new (Open l) a b = began-view first base old new _ a.2.3 (refl, refl) b
  accepts-began first base old new (Send l bytes) a b = began-view first base old new _ a.2.2 (refl, refl) b
  accepts-began first base old new (Close l) a b = began-view first base old new _ a.2.2 (refl, refl) b
  accepts-began first base old new (Local command) a b = began-view first base old new _ a.2 (refl, refl) b
  accepts-began first base old new event a b = absurd a

  accepts-config : (old new : NodeView D) (event : Event) → Accepts old event new → SameConfig old new
  accepts-config old new (Open l) a = same-view old new _ refl a.2.3
  accepts-config old new (Send l bytes) a = same-view old new _ refl a.2.2
  accepts-config old new (Close l) a = same-view old new _ refl a.2.2
  accepts-config old new (Local command) a = same-view old new _ refl a.2
  accepts-config old new event a = absurd a

module _ {D : Type 0} (says : Says D) where
  moves-config : (old new : NodeView D) (event : Event) → Moves says old event new → SameConfig old new
  moves-config old new (ReaderTake l) a = same-view old new _ refl a.2.4
  moves-config old new (ReaderPut l) a = same-view old new _ refl a.2.4
  moves-config old new PendTake a = elim a.1 [ inl b ↦ same-view old new _ refl b.is | inr b ↦ same-view old new _ refl b.is ]
  moves-config old new PendPut a = same-view old new _ refl a.3
  moves-config old new SlotTake a = same-view old new _ refl a.1.is
  moves-config old new SlotPut a = same-view old new _ refl a.3
  moves-config old new ApplyTake a = same-view old new _ refl a.is
  moves-config old new event a = absurd a

  pub moves-began : (first : ℕ) (base : List ℕ) (old new : NodeView D) (event : Event) → Moves says old event new → Began first base old → Began first base new
  moves-began first base old new (ReaderTake l) a b = began-view first base old new _ a.2.4 (refl, refl) b
  moves-began first base old new (ReaderPut l) a b = began-view first base old new _ a.2.4 (refl, refl) b
  moves-began first base old new PendTake a b = elim a.1 [ inl c ↦ began-view first base old new _ c.is (refl, refl) b | inr c ↦ began-view first base old new _ c.is (refl, refl) b ]
  moves-began first base old new PendPut a b = began-view first base old new _ a.3 (refl, refl) b
  moves-began first base old new SlotTake a b = began-view first base old new _ a.1.is (refl, refl) b
  moves-began first base old new SlotPut a b = began-view first base old new _ a.3 (refl, refl) b
  moves-began first base old new ApplyTake a b = began-view first base old new _ a.is (first_stays old.applier a.x a.answer a.after' a.takes, base_stays old.applier a.x a.answer a.after' a.takes) b
  moves-began first base old new event a b = absurd a

module _ {D : Type 0} where
  pub sends-began : (first : ℕ) (base : List ℕ) (old new : NodeView D) (event : Event) (bytes : List ℕ) → SendsOut old event bytes new → Began first base old → Began first base new
  sends-began first base old new (Drain l) bytes d b = began-view first base old new _ d.is (refl, refl) b
  sends-began first base old new event bytes d b = absurd d

  sends-config : (old new : NodeView D) (event : Event) (bytes : List ℕ) → SendsOut old event bytes new → SameConfig old new
  sends-config old new (Drain l) bytes d = same-view old new _ refl d.is
  sends-config old new event bytes d = absurd d

  accepts-runs : (old new : NodeView D) (event : Event) → Accepts old event new → new.failed ≡ old.failed
  accepts-runs old new (Open l) a = ap (λ (v : NodeView D). v.failed) a.2.3
  accepts-runs old new (Send l bytes) a = ap (λ (v : NodeView D). v.failed) a.2.2
  accepts-runs old new (Close l) a = ap (λ (v : NodeView D). v.failed) a.2.2
  accepts-runs old new (Local command) a = ap (λ (v : NodeView D). v.failed) a.2
  accepts-runs old new event a = absurd a

pub past-runs : (c : Config) (p : Past) (event : Event) → (accepts c p event).failed ≡ p.failed
past-runs c p (Open l) = refl
past-runs c p (Send l bytes) = refl
past-runs c p (Close l) = refl
past-runs c p (Local command) = refl
past-runs c p event = refl

pub past-goes : (p : Past) (event : Event) → (moves p event).failed ≡ p.failed
past-goes p (ReaderTake l) = refl
past-goes p (ReaderPut l) = refl
past-goes p PendPut = refl
past-goes p SlotTake = refl
past-goes p SlotPut = refl
past-goes p ApplyTake = refl
past-goes p event = refl

module _ {D : Type 0} where
  pub keeps-refl : (v : NodeView D) → Keeps v v
  keeps-refl v = record { config = refl; journal = refl; decisions = refl; asked = refl; command = refl; said = refl; applied = refl; lives = refl }

module _ {D : Type 0} (says : Says D) where
  steps-push : (c : Config) (p : Past) (v : NodeView D) (past : List Exchange) (x : Exchange) (old new : NodeView D) → AreSteps says c p v past old → IsReply says c (fold (λ q y. hears c q y.0 y.1) p past) old x.0 x.1 new → AreSteps says c p v (past ++ x ∷ []) new
  steps-push c p v [] x old new a r = (new, subst (λ (w : NodeView D). IsReply says c p w x.0 x.1 new) a r, refl)
  steps-push c p v (y ∷ ys) x old new a r = (a.0, a.1, steps-push c (hears c p y.0 y.1) a.0 ys x old new a.2 r)

module _ {D : Type 0} (says : Says D) (first : ℕ) (base : List ℕ) where
  build : (past : List Exchange) (old new : NodeView D) (event : Event) (reply : Reply) → SameConfig old new → LedgerTheoremFrom says first base past old
      → IsReply says old.config (past_of old.config past) old event reply new
      → new.failed ≡ (hears old.config (past_of old.config past) event reply).failed
      → (moment : NodeView D) → Began first base moment → Flows says (hears old.config (past_of old.config past) event reply) moment → (new.failed ≡ false → new ≡ moment) → Keeps moment new
      → LedgerTheoremFrom says first base (past ++ (event, reply) ∷ []) new
  build past old new event reply same h r failed moment began flows now keeps =
      let more : past_of old.config (past ++ (event, reply) ∷ []) ≡ hears old.config (past_of old.config past) event reply = fold_push (λ q y. hears old.config q y.0 y.1) nothing_heard past (event, reply) in
      record {
        driver = h.driver;
        replies = subst (λ (c : Config). AreSteps says c nothing_heard (begun h.driver c first base) (past ++ (event, reply) ∷ []) new) (sym same) (steps-push says old.config nothing_heard (begun h.driver old.config first base) past (event, reply) old new h.replies r);
        failed = rw same (failed ∙ sym (ap (λ (q : Past). q.failed) more));
        moment = moment;
        began = began;
        flows = rw same (subst (λ (q : Past). Flows says q moment) (sym more) flows);
        now = now;
        keeps = keeps;
      }

  -- of a node that ran
  record Ran (p : Past) (old : NodeView D) : Type 0 where
    began : Began first base old
    flows : Flows says p old
    past : p.failed ≡ false

  ran : (past : List Exchange) (old : NodeView D) → old.failed ≡ false → LedgerTheoremFrom says first base past old → Ran (past_of old.config past) old
  ran past old was h = record { began = subst (λ (v : NodeView D). Began first base v) (sym (h.now was)) h.began; flows = subst (λ (v : NodeView D). Flows says (past_of old.config past) v) (sym (h.now was)) h.flows; past = sym h.failed ∙ was }

  is-reply : (p : Past) (old new : NodeView D) (event : Event) (reply : Reply) → Ran p old → Step says old event reply new → IsReply says old.config p old event reply new
  is-reply p old new event reply k s = inr (k.past, record { config = refl; flows = k.flows; step = s })

  -- the node is as it was
  stays : (past : List Exchange) (old new : NodeView D) (event : Event) (reply : Reply) → ((p : Past) → hears old.config p event reply ≡ p) → old.failed ≡ false → new ≡ old → Step says old event reply new → LedgerTheoremFrom says first base past old → LedgerTheoremFrom says first base (past ++ (event, reply) ∷ []) new
  stays past old new event reply none was e s h =
      let k = ran past old was h in
      build past old new event reply (same-view old new old refl e) h (is-reply _ old new event reply k s)
      (ap (λ (v : NodeView D). v.failed) e ∙ h.failed ∙ sym (ap (λ (q : Past). q.failed) (none (past_of old.config past))))
      old k.began (subst (λ (q : Past). Flows says q old) (sym (none (past_of old.config past))) k.flows) (λ _. e) (subst (λ (v : NodeView D). Keeps old v) (sym e) (keeps-refl old))

  -- the node fails
  fails : (past : List Exchange) (old new : NodeView D) (event : Event) (reply : Reply) → ((p : Past) → hears old.config p event reply ≡ record p { failed = true }) → Fails old event new → Step says old event reply new → LedgerTheoremFrom says first base past old → LedgerTheoremFrom says first base (past ++ (event, reply) ∷ []) new
  fails past old new event reply fail f s h =
      let k = ran past old f.was h in
      let is = fail (past_of old.config past) in
      build past old new event reply f.keeps.config h (is-reply _ old new event reply k s)
      (f.failed ∙ sym (ap (λ (q : Past). q.failed) is))
      old k.began (subst (λ (q : Past). Flows says q old) (sym is) (Flows-failed says (past_of old.config past) old k.flows)) (λ n. absurd (true_isnt (sym f.failed ∙ n))) f.keeps
    where
      true_isnt : true ≡ false → ⊥
      true_isnt e = cc

  holds : StepLaws says → (past : List Exchange) (old new : NodeView D) (event : Event) (reply : Reply) → Step says old event reply new → LedgerTheoremFrom says first base past old → LedgerTheoremFrom says first base (past ++ (event, reply) ∷ []) new
  holds laws past old new event Failed s h =
      build past old new event Failed (same-view old new old refl s.1) h (inl (sym h.failed ∙ s.0, refl, s.1)) (ap (λ (v : NodeView D). v.failed) s.1 ∙ h.failed)
      h.moment h.began h.flows (λ n. s.1 ∙ h.now (sym (ap (λ (v : NodeView D). v.failed) s.1) ∙ n)) (subst (λ (v : NodeView D). Keeps h.moment v) (sym s.1) h.keeps)
  holds laws past old new event Accepted s h =
      let k = ran past old s.0 h in
      build past old new event Accepted (accepts-config old new event s.1) h (is-reply _ old new event Accepted k s)
      (accepts-runs old new event s.1 ∙ h.failed ∙ sym (past-runs old.config (past_of old.config past) event))
      new (accepts-began first base old new event s.1 k.began) (Flows-accepts says laws (past_of old.config past) old new event s.1 k.flows) (λ _. refl) (keeps-refl new)
  holds laws past old new event Moved s h =
      let k = ran past old s.0 h in
      let f = Flows-moves says laws (past_of old.config past) old new event s.1 k.flows in
      build past old new event Moved (moves-config says old new event s.1) h (is-reply _ old new event Moved k s)
      (f.runs ∙ sym (past-goes (past_of old.config past) event ∙ k.past))
      new (moves-began says first base old new event s.1 k.began) f (λ _. refl) (keeps-refl new)
  holds laws past old new event (Sent bytes) s h =
      let k = ran past old s.0 h in
      let f = Flows-sends says laws (past_of old.config past) old new event bytes s.1 k.flows in
      build past old new event (Sent bytes) (sends-config old new event bytes s.1) h (is-reply _ old new event (Sent bytes) k s)
      (f.runs ∙ sym k.past)
      new (sends-began first base old new event bytes s.1 k.began) f (λ _. refl) (keeps-refl new)
  holds laws past old new event JournalFull s h = fails past old new event JournalFull (λ p. refl) s.0 s h
  holds laws past old new event NoMemory s h = fails past old new event NoMemory (λ p. refl) s.0 s h
  holds laws past old new event NoLink s h = stays past old new event NoLink (λ p. refl) s.0 s.2 s h
  holds laws past old new event AlreadyOpen s h = stays past old new event AlreadyOpen (λ p. refl) s.0 s.2 s h
  holds laws past old new event LivesSpent s h = stays past old new event LivesSpent (λ p. refl) s.0 s.2 s h
  holds laws past old new event NotOpen s h = stays past old new event NotOpen (λ p. refl) s.0 s.2 s h
  holds laws past old new event Full s h = stays past old new event Full (λ p. refl) s.0 s.2 s h
  holds laws past old new event Blocked s h = stays past old new event Blocked (λ p. refl) s.0 s.2 s h
  holds laws past old new event Idle s h = stays past old new event Idle (λ p. refl) s.0 s.2 s h

  pub steps_keep : StepLaws says → StepsKeepFrom says first base
  steps_keep laws = λ past old new event reply s h. holds laws past old new event reply s h
