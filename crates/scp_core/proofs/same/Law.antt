-- Two runs of one configuration and the same events.
use Rattle.std.proofs.Common.{◌≡◌, ◌≢◌, ℕ, Bool, true, false, List, [], ◌∷◌, refl, sym, ◌∙◌, ap, subst, inl, inr}
use Rattle.std.specs.Prelude.{◌⊎◌, map, fold}
use Rattle.scp_theorem.specs.scp_driver.specs.Driver.{Says}
use Rattle.scp_core.specs.History.{Exchange, Past, hears, past_of, nothing_heard}
use Rattle.scp_core.specs.Node.{NodeView}
use Rattle.scp_core.specs.Theorem.{begun, IsReply, AreSteps}
use Rattle.scp_core.specs.declared.config.Config.{Config}
use Rattle.scp_core.specs.declared.event.Event.{Event}
use Rattle.scp_core.specs.declared.event.Reply.{Reply}
use Rattle.scp_core.specs.declared.event.Reply.TheVariants.{JournalFull, NoMemory}
use Rattle.scp_core.specs.Same.{RunAlike, event_of, NoneLackedMemory, SameEventsSameRepliesFrom}
use Rattle.scp_core.proofs.same.Nodes.{Laws, KeptAlike, kept_of, step_both}
use Rattle.scp_core.proofs.same.Stages.{heads, tails}

module _ {D : Type 0} where
  -- how the nodes compare after the same exchanges
  record Stand (p : Past) (v w : NodeView D) : Type 0 where
    kept : KeptAlike v w
    runs : p.failed ≡ false → RunAlike v w

  at_first : (driver : D) (c : Config) (first : ℕ) (base : List ℕ) → Stand nothing_heard (begun driver c first base) (begun driver c first base)
  at_first driver c first base =
      let alike : RunAlike (begun driver c first base) (begun driver c first base) = record {
        links = refl;
        inbox = (refl, refl);
        pending = refl;
        ready = (refl, refl, refl);
        ledger = record { me = refl; local = refl; driver = refl; peers = refl; first = refl; failed = refl; journal = refl; decisions = refl; lowest = refl; asked = λ a. refl; machines = λ s. tt };
        last_command = refl;
        last_said = refl;
        decided = (refl, refl, refl);
        applier = record { first = refl; base = refl; failed = refl; applied = refl; buffer = λ d. (λ h. h, λ h. h) };
        outboxes = refl;
      } in
      record { kept = kept_of (begun driver c first base) (begun driver c first base) refl alike; runs = λ _. alike }

clash : (b : Bool) → b ≡ false → b ≡ true → ⊥
clash b f t = cc

-- a reply that fails the node is known from the past
full_or : (reply : Reply) → (reply ≡ JournalFull) ⊎ (reply ≢ JournalFull)
full_or JournalFull = inl refl
full_or reply = inr (λ e. cc)

fell : (c : Config) (p : Past) (event : Event) (reply : Reply) → reply ≡ JournalFull → (hears c p event reply).failed ≡ true
fell c p event reply e = ap (λ (r : Reply). (hears c p event r).failed) e

module _ {D : Type 0} (says : Says D) where
  -- one exchange of both
  one_more : Laws says → (c : Config) (p : Past) (v w : NodeView D) (event : Event) (reply other : Reply) (new there : NodeView D) → Stand p v w → reply ≢ NoMemory → other ≢ NoMemory → IsReply says c p v event reply new → IsReply says c p w event other there → (reply ≡ other) × Stand (hears c p event reply) new there
  one_more law c p v w event reply other new there s memory enough x y = elim x [
    | inl a ↦ elim y [
      | inl b ↦ (
        a.1 ∙ sym b.1,
        record {
          kept = subst (λ (z : NodeView D). KeptAlike z there) (sym a.2) (subst (λ (z : NodeView D). KeptAlike v z) (sym b.2) s.kept);
          runs = λ now. absurd (clash p.failed (ap (λ (r : Reply). (hears c p event r).failed) (sym a.1) ∙ now) a.0);
        },
      )
      | inr b ↦ absurd (clash p.failed b.0 a.0)
    ]
    | inr a ↦ elim y [
      | inl b ↦ absurd (clash p.failed a.0 b.0)
      | inr b ↦ (
          let step = step_both says law p v w event reply other new there (a.1.config ∙ sym b.1.config) (s.runs a.0) a.1.flows b.1.flows memory enough a.1.step b.1.step in (
            step.same,
            record {
              kept = step.kept;
              runs = λ now. elim (full_or reply) [
                | inl full ↦ absurd (clash (hears c p event reply).failed now (fell c p event reply full))
                | inr more ↦ step.runs more
              ];
            },
          ))
    ]
  ]

module _ {D : Type 0} where
  record Both (c : Config) (p : Past) (one other : List Exchange) (v w : NodeView D) : Type 0 where
    same : one ≡ other
    stand : Stand (fold (λ q x. hears c q x.0 x.1) p one) v w

module _ {D : Type 0} (says : Says D) where
  along : Laws says → (c : Config) (one other : List Exchange) (p : Past) (v w last end : NodeView D) → AreSteps says c p v one last → AreSteps says c p w other end → map event_of one ≡ map event_of other → NoneLackedMemory one → NoneLackedMemory other → Stand p v w → Both c p one other last end
  along law c [] [] p v w last end x y e m n s = record { same = refl; stand = subst (λ (z : NodeView D). Stand p z end) (sym x) (subst (λ (z : NodeView D). Stand p v z) (sym y) s) }
  along law c [] (b ∷ other) p v w last end x y e m n s = absurd (none b.0 (map event_of other) e)
    where
      none : (event : Event) (events : List Event) → [] ≡ event ∷ events → ⊥
      none event events e = cc
  along law c (a ∷ one) [] p v w last end x y e m n s = absurd (none a.0 (map event_of one) (sym e))
    where
      none : (event : Event) (events : List Event) → [] ≡ event ∷ events → ⊥
      none event events e = cc
  along law c (a ∷ one) (b ∷ other) p v w last end x y e m n s =
      let event : a.0 ≡ b.0 = heads a.0 b.0 (map event_of one) (map event_of other) e in
      let rest : map event_of one ≡ map event_of other = tails a.0 b.0 (map event_of one) (map event_of other) e in
      let theirs : IsReply says c p w a.0 b.1 y.0 = subst (λ (z : Event). IsReply says c p w z b.1 y.0) (sym event) y.1 in
      let step = one_more says law c p v w a.0 a.1 b.1 x.0 y.0 s m.0 n.0 x.1 theirs in
      let exchange : a ≡ b = λ i. (event i, step.0 i) in
      let later : AreSteps says c (hears c p a.0 a.1) y.0 other end = subst (λ (z : Exchange). AreSteps says c (hears c p z.0 z.1) y.0 other end) (sym exchange) y.2 in
      let more = along law c one other (hears c p a.0 a.1) x.0 y.0 last end x.2 later rest m.1 n.1 step.1 in
      record { same = λ i. exchange i ∷ more.same i; stand = more.stand }

  pub same_replies : Laws says → (first : ℕ) (base : List ℕ) → SameEventsSameRepliesFrom says first base
  same_replies law first base = λ one other v w h k driver config events m n.
      let c = v.config in
      let theirs : AreSteps says c nothing_heard (begun h.driver c first base) other w = subst (λ (d : Config). AreSteps says d nothing_heard (begun h.driver d first base) other w) (sym config) (subst (λ (app : D). AreSteps says w.config nothing_heard (begun app w.config first base) other w) (sym driver) k.replies) in
      let both = along law c one other nothing_heard (begun h.driver c first base) (begun h.driver c first base) v w h.replies theirs events m n (at_first h.driver c first base) in
      let failed : v.failed ≡ w.failed = h.failed ∙ (λ i. (past_of (config i) (both.same i)).failed) ∙ sym k.failed in (
        both.same,
        record {
          config = config;
          failed = failed;
          journal = both.stand.kept.journal;
          decisions = both.stand.kept.decisions;
          applied = both.stand.kept.applied;
          last_command = both.stand.kept.last_command;
          last_said = both.stand.kept.last_said;
          lives = both.stand.kept.lives;
          rooms = both.stand.kept.rooms;
          running = λ runs. both.stand.runs (sym h.failed ∙ runs);
        },
      )
