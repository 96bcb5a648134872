-- The step at which a node failed, and what was before it.
use Rattle.std.proofs.Common.{◌≡◌, ℕ, Bool, true, false, List, [], ◌∷◌, ◌++◌, refl, sym, ◌∙◌, ap, subst, inl, inr, ◌⊎◌}
use Rattle.std.specs.Prelude.{fold}
use Rattle.std.specs.List.{AllByRecursion}
use Rattle.scp_theorem.specs.scp_driver.specs.Driver.{Says}
use Rattle.scp_core.specs.declared.config.Config.{Config}
use Rattle.scp_core.specs.declared.event.Event.{Event}
use Rattle.scp_core.specs.declared.event.Reply.{Reply}
use Rattle.scp_core.specs.declared.event.Reply.TheVariants.{Failed, NoLink, AlreadyOpen, LivesSpent, NotOpen, Full, Accepted, Blocked, Idle, Moved, Sent, JournalFull, NoMemory}
use Rattle.scp_core.specs.Flow.{Flows}
use Rattle.scp_core.specs.History.{Exchange, Past, hears, past_of, nothing_heard}
use Rattle.scp_core.specs.Ledger.{IsFailure}
use Rattle.scp_core.specs.Node.{NodeView, Step, Fails}
use Rattle.scp_core.specs.Theorem.{begun, WasStep, IsReply, AreSteps, LedgerTheoremFrom}
use Rattle.scp_core.proofs.Holding.{Began, accepts-began, moves-began, sends-began, past-runs, past-goes, keeps-refl}

true_isnt : true ≡ false → ⊥
true_isnt e = cc

pub which : (b : Bool) → (b ≡ true) ⊎ (b ≡ false)
which true = inl refl
which false = inr refl

module _ {D : Type 0} (says : Says D) where
  -- the past says of an exchange that it failed the node: it did
  pub failing : (c : Config) (p : Past) (old new : NodeView D) (event : Event) (reply : Reply) → p.failed ≡ false → (hears c p event reply).failed ≡ true → Step says old event reply new → IsFailure reply × Fails old event new
  failing c p old new event JournalFull was now s = (tt, s.0)
  failing c p old new event NoMemory was now s = (tt, s.0)
  failing c p old new event Accepted was now s = absurd (true_isnt (sym now ∙ past-runs c p event ∙ was))
  failing c p old new event Moved was now s = absurd (true_isnt (sym now ∙ past-goes p event ∙ was))
  failing c p old new event (Sent bytes) was now s = absurd (true_isnt (sym now ∙ was))
  failing c p old new event Failed was now s = absurd (true_isnt (sym now ∙ was))
  failing c p old new event NoLink was now s = absurd (true_isnt (sym now ∙ was))
  failing c p old new event AlreadyOpen was now s = absurd (true_isnt (sym now ∙ was))
  failing c p old new event LivesSpent was now s = absurd (true_isnt (sym now ∙ was))
  failing c p old new event NotOpen was now s = absurd (true_isnt (sym now ∙ was))
  failing c p old new event Full was now s = absurd (true_isnt (sym now ∙ was))
  failing c p old new event Blocked was now s = absurd (true_isnt (sym now ∙ was))
  failing c p old new event Idle was now s = absurd (true_isnt (sym now ∙ was))

  -- an exchange of a node that ran was a step
  was_step : (c : Config) (p : Past) (old new : NodeView D) (event : Event) (reply : Reply) → p.failed ≡ false → IsReply says c p old event reply new → WasStep says c p old event reply new
  was_step c p old new event reply was r = elim r [
    | inl w ↦ absurd (true_isnt (sym w.0 ∙ was))
    | inr w ↦ w.1
  ]

  -- and of one that failed it was answered Failed, and changed nothing
  was_silent : (c : Config) (p : Past) (old new : NodeView D) (event : Event) (reply : Reply) → p.failed ≡ true → IsReply says c p old event reply new → (reply ≡ Failed) × (new ≡ old)
  was_silent c p old new event reply failed r = elim r [
    | inl w ↦ (w.1, w.2)
    | inr w ↦ absurd (true_isnt (sym failed ∙ w.0))
  ]

  silent : (c : Config) (xs : List Exchange) (p : Past) (v last : NodeView D) → p.failed ≡ true → AreSteps says c p v xs last → (last ≡ v) × AllByRecursion (λ (x : Exchange). x.1 ≡ Failed) xs
  silent c [] p v last failed a = (a, tt)
  silent c (x ∷ xs) p v last failed a =
      let none = was_silent c p v a.0 x.0 x.1 failed a.1 in
      let still : (hears c p x.0 x.1).failed ≡ true = ap (λ (r : Reply). (hears c p x.0 r).failed) none.0 ∙ failed in
      let rest = silent c xs (hears c p x.0 x.1) a.0 last still a.2 in
      (rest.0 ∙ none.1, (none.0, rest.1))

  -- an exchange that doesn't fail the node leaves with what it began
  runs_began : (first : ℕ) (base : List ℕ) (c : Config) (p : Past) (old new : NodeView D) (event : Event) (reply : Reply) → (hears c p event reply).failed ≡ false → Step says old event reply new → Began first base old → Began first base new
  runs_began first base c p old new event Accepted stays s b = accepts-began first base old new event s.1 b
  runs_began first base c p old new event Moved stays s b = moves-began says first base old new event s.1 b
  runs_began first base c p old new event (Sent bytes) stays s b = sends-began first base old new event bytes s.1 b
  runs_began first base c p old new event Failed stays s b = subst (λ (v : NodeView D). Began first base v) (sym s.1) b
  runs_began first base c p old new event NoLink stays s b = subst (λ (v : NodeView D). Began first base v) (sym s.2) b
  runs_began first base c p old new event AlreadyOpen stays s b = subst (λ (v : NodeView D). Began first base v) (sym s.2) b
  runs_began first base c p old new event LivesSpent stays s b = subst (λ (v : NodeView D). Began first base v) (sym s.2) b
  runs_began first base c p old new event NotOpen stays s b = subst (λ (v : NodeView D). Began first base v) (sym s.2) b
  runs_began first base c p old new event Full stays s b = subst (λ (v : NodeView D). Began first base v) (sym s.2) b
  runs_began first base c p old new event Blocked stays s b = subst (λ (v : NodeView D). Began first base v) (sym s.2) b
  runs_began first base c p old new event Idle stays s b = subst (λ (v : NodeView D). Began first base v) (sym s.2) b
  runs_began first base c p old new event JournalFull stays s b = absurd (true_isnt stays)
  runs_began first base c p old new event NoMemory stays s b = absurd (true_isnt stays)

module _ {D : Type 0} (says : Says D) (first : ℕ) (base : List ℕ) where
  -- the exchanges before it, and the node that they left; the exchange that failed it; those after it
  record FailsAt (c : Config) (p : Past) (v : NodeView D) (xs : List Exchange) (last : NodeView D) : Type 0 where
    before : List Exchange
    moment : NodeView D
    began : Began first base moment
    steps : AreSteps says c p v before moment
    event : Event
    reply : Reply
    later : List Exchange
    is : xs ≡ before ++ (event, reply) ∷ later
    config : moment.config ≡ c
    past : (fold (λ q y. hears c q y.0 y.1) p before).failed ≡ false
    flows : Flows says (fold (λ q y. hears c q y.0 y.1) p before) moment
    reply_fails : IsFailure reply
    step : Step says moment event reply last
    fails : Fails moment event last
    silent_then : AllByRecursion (λ (x : Exchange). x.1 ≡ Failed) later

  at_first : (c : Config) (x : Exchange) (xs : List Exchange) (p : Past) (v last : NodeView D) → p.failed ≡ false → (hears c p x.0 x.1).failed ≡ true → Began first base v → AreSteps says c p v (x ∷ xs) last → FailsAt c p v (x ∷ xs) last
  at_first c x xs p v last was now b a =
      let w = was_step says c p v a.0 x.0 x.1 was a.1 in
      let f = failing says c p v a.0 x.0 x.1 was now w.step in
      let rest = silent says c xs (hears c p x.0 x.1) a.0 last now a.2 in
      record {
        before = [];
        moment = v;
        began = b;
        steps = refl;
        event = x.0;
        reply = x.1;
        later = xs;
        is = refl;
        config = w.config;
        past = was;
        flows = w.flows;
        reply_fails = f.0;
        step = subst (λ (u : NodeView D). Step says v x.0 x.1 u) (sym rest.0) w.step;
        fails = subst (λ (u : NodeView D). Fails v x.0 u) (sym rest.0) f.1;
        silent_then = rest.1;
      }

  at_later : (c : Config) (x : Exchange) (xs : List Exchange) (p : Past) (v next last : NodeView D) → IsReply says c p v x.0 x.1 next → FailsAt c (hears c p x.0 x.1) next xs last → FailsAt c p v (x ∷ xs) last
  at_later c x xs p v next last r h = record {
    before = x ∷ h.before;
    moment = h.moment;
    began = h.began;
    steps = (next, r, h.steps);
    event = h.event;
    reply = h.reply;
    later = h.later;
    is = ap (λ (ys : List Exchange). x ∷ ys) h.is;
    config = h.config;
    past = h.past;
    flows = h.flows;
    reply_fails = h.reply_fails;
    step = h.step;
    fails = h.fails;
    silent_then = h.silent_then;
  }

  fails_at : (c : Config) (xs : List Exchange) (p : Past) (v last : NodeView D) → p.failed ≡ false → (fold (λ q y. hears c q y.0 y.1) p xs).failed ≡ true → Began first base v → AreSteps says c p v xs last → FailsAt c p v xs last
  fails_at c [] p v last was now b a = absurd (true_isnt (sym now ∙ was))
  fails_at c (x ∷ xs) p v last was now b a = elim (which (hears c p x.0 x.1).failed) [
    | inl fell ↦ at_first c x xs p v last was fell b a
    | inr stays ↦ at_later c x xs p v a.0 last a.1 (fails_at c xs (hears c p x.0 x.1) a.0 last stays now (runs_began says first base c p v a.0 x.0 x.1 stays (was_step says c p v a.0 x.0 x.1 was a.1).step b) a.2)
  ]

  -- what held of the exchanges before, and of the node then
  pub record Failure (past : List Exchange) (v : NodeView D) : Type 0 where
    pub earlier : List Exchange
    pub moment : NodeView D
    pub theorem : LedgerTheoremFrom says first base earlier moment
    pub event : Event
    pub reply : Reply
    pub reply_fails : IsFailure reply
    pub later : List Exchange
    pub is : past ≡ earlier ++ (event, reply) ∷ later
    pub step : Step says moment event reply v
    pub fails : Fails moment event v
    pub silent_then : AllByRecursion (λ (x : Exchange). x.1 ≡ Failed) later

  pub failure_of : (past : List Exchange) (v : NodeView D) → LedgerTheoremFrom says first base past v → v.failed ≡ true → Failure past v
  failure_of past v h failed =
      let x = fails_at v.config past nothing_heard (begun h.driver v.config first base) v refl (sym h.failed ∙ failed) (refl, refl) h.replies in
      record {
        earlier = x.before;
        moment = x.moment;
        theorem = record {
          driver = h.driver;
          replies = subst (λ (d : Config). AreSteps says d nothing_heard (begun h.driver d first base) x.before x.moment) (sym x.config) x.steps;
          failed = x.fails.was ∙ sym (subst (λ (d : Config). (past_of d x.before).failed ≡ false) (sym x.config) x.past);
          moment = x.moment;
          began = x.began;
          flows = subst (λ (d : Config). Flows says (past_of d x.before) x.moment) (sym x.config) x.flows;
          now = λ _. refl;
          keeps = keeps-refl x.moment;
        };
        event = x.event;
        reply = x.reply;
        reply_fails = x.reply_fails;
        later = x.later;
        is = x.is;
        step = x.step;
        fails = x.fails;
        silent_then = x.silent_then;
      }
