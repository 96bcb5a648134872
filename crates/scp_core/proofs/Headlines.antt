-- A node that holds its ledger holds its headline.
use Rattle.std.proofs.Common.{◌≡◌, ℕ, Bool, true, false, List, [], ◌∷◌, Some, None, refl, sym, ◌∙◌, ap, subst, inl, inr, ◌⊎◌}
use Rattle.std.specs.Prelude.{IfSome, if◌then◌else◌}
use Rattle.std.specs.List.{AllByRecursion}
use Rattle.std.proofs.lemmas.List.{append-nil}
use Rattle.scp_theorem.specs.scp_driver.specs.Driver.{Says}
use Rattle.scp_theorem.specs.scp_apply.specs.Applied.{made_of}
use Rattle.scp_theorem.specs.Books.{LedgerKeepsHeadline}
use Rattle.scp_theorem.specs.Headline.{Headline}
use Rattle.scp_core.specs.declared.config.Config.{Config}
use Rattle.scp_core.specs.declared.event.Reply.{Reply}
use Rattle.scp_core.specs.declared.event.Reply.TheVariants.{Failed}
use Rattle.scp_core.specs.Headline.{books_at, StepsTo, HoldsHeadlineFrom, LedgerGivesHeadlineFrom}
use Rattle.scp_core.specs.History.{Exchange, Past, hears, nothing_heard}
use Rattle.scp_core.specs.Ledger.{FailedAfter, HoldsLedgerFrom}
use Rattle.scp_core.specs.Node.{NodeView, Step}
use Rattle.scp_core.specs.Theorem.{begun, AreSteps}
use Rattle.scp_core.proofs.Failing.{failing}

module _ {D : Type 0} (says : Says D) where
  -- what the theorem says of each exchange makes it a step
  leads : (c : Config) (p : Past) (v last : NodeView D) (xs : List Exchange) → (p.failed ≡ true → v.failed ≡ true) → AreSteps says c p v xs last → StepsTo (Step says) v xs last
  leads c p v last [] fails a = a
  leads c p v last (x ∷ xs) fails a = elim a.1 [
    | inl w ↦
        let still : (hears c p x.0 x.1).failed ≡ p.failed = ap (λ (r : Reply). (hears c p x.0 r).failed) w.1 in
        let there : v.failed ≡ true = fails w.0 in
        (a.0, subst (λ (r : Reply). Step says v x.0 r a.0) (sym w.1) (there, w.2), leads c (hears c p x.0 x.1) a.0 last xs (λ _. ap (λ (u : NodeView D). u.failed) w.2 ∙ there) a.2)
    | inr w ↦ (a.0, w.1.step, leads c (hears c p x.0 x.1) a.0 last xs (λ now. (failing says c p v a.0 x.0 x.1 w.0 now w.1.step).1.failed) a.2)
  ]

  -- a failed node answers Failed, and stays as it is
  stays : (v : NodeView D) (xs : List Exchange) → v.failed ≡ true → AllByRecursion (λ (x : Exchange). x.1 ≡ Failed) xs → StepsTo (Step says) v xs v
  stays v [] failed silent = refl
  stays v (x ∷ xs) failed silent = (v, subst (λ (r : Reply). Step says v x.0 r v) (sym silent.0) (failed, refl), stays v xs failed silent.1)

true_isnt : true ≡ false → ⊥
true_isnt e = cc

-- what fails shows none
shows_none : {S : Type 0} (P : S → Type 0) (s : S) (b : Bool) → b ≡ true → IfSome (if b then None else Some s) P
shows_none P s true e = tt
shows_none P s false e = absurd (true_isnt (sym e))

-- what is shown is so
shows : {S : Type 0} (P : S → Type 0) (s : S) (b : Bool) → P s → IfSome (if b then None else Some s) P
shows P s true h = tt
shows P s false h = h

module _ {D S : Type 0} (says : Says D) (said : List ℕ → S) (after' : S → List ℕ → S) (first : ℕ) (base : List ℕ) where
  at_moment : (past : List Exchange) (v : NodeView D) (h : HoldsLedgerFrom says first base past v) → ((v.failed ≡ false) × (h.earlier ≡ past) × (h.moment ≡ v)) ⊎ FailedAfter says past h.earlier v h.moment → Headline (books_at h.earlier h.moment) → HoldsHeadlineFrom (Step says) said after' first base past v
  at_moment past v h (inl (runs, all, now)) headline = record {
    earlier = h.earlier;
    later = [];
    past_is = sym all ∙ sym (append-nil h.earlier);
    driver = h.driver;
    moment = h.moment;
    before = leads says v.config nothing_heard (begun h.driver v.config first base) h.moment h.earlier (λ e. e) h.steps;
    since = sym now;
    runs = h.runs;
    is = inl refl;
    config = ap (λ (u : NodeView D). u.config) now;
    first = h.first;
    base = h.base;
    headline = record {
      headline = headline;
      state_is =
          let same : v.applier.base ≡ base = ap (λ (u : NodeView D). u.applier.base) (sym now) ∙ h.base in
          shows (λ s. s ≡ made_of (said base) after' h.moment.applier.applied) (made_of (said v.applier.base) after' v.applier.applied) v.failed
          (ap (λ (bytes : List ℕ). made_of (said bytes) after' v.applier.applied) same ∙ ap (λ (u : NodeView D). made_of (said base) after' u.applier.applied) (sym now));
    };
  }
  at_moment past v h (inr f) headline = record {
    earlier = h.earlier;
    later = (f.event, f.reply) ∷ f.later;
    past_is = f.past_is;
    driver = h.driver;
    moment = h.moment;
    before = leads says v.config nothing_heard (begun h.driver v.config first base) h.moment h.earlier (λ e. e) h.steps;
    since = (v, f.step, stays says v f.later f.failed f.silent);
    runs = h.runs;
    is = inr (record { failed = f.failed; silent = f.silent; journal = f.keeps.journal; decisions = f.keeps.decisions; applied = f.keeps.applied });
    config = sym f.keeps.config;
    first = h.first;
    base = h.base;
    headline = record { headline = headline; state_is = shows_none (λ s. s ≡ made_of (said base) after' h.moment.applier.applied) (made_of (said v.applier.base) after' v.applier.applied) v.failed f.failed };
  }

  pub ledger_gives_headline : LedgerKeepsHeadline says.level says.extracted says.combined says.place → LedgerGivesHeadlineFrom says said after' first base
  ledger_gives_headline law = λ past v h. at_moment past v h h.is (law _ h.keeps)
