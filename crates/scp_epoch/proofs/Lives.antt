-- A life is one ledger.
use Rattle.std.proofs.Common.{◌≡◌, ◌≢◌, ◌+◌, ◌<◌, ℕ, Bool, false, List, [], ◌∷◌, ◌++◌, length, refl, sym, ◌∙◌, ap, subst, inl, inr, arith, append-nil}
use Rattle.std.specs.Prelude.{Option, Some, None, if◌then◌else◌, All, AllPairs}
use Rattle.std.specs.List.{AllByRecursion}
use Rattle.std.proofs.lemmas.List.Elements.{All-nil, All-cons}
use Rattle.std.proofs.lemmas.List.Kept.{AllPairs-cons}
use Rattle.scp_again.specs.scp_driver.specs.Driver.{Says}
use Rattle.scp_again.specs.scp_ledger.specs.declared.journal.Decision.{Decision}
use Rattle.scp_again.specs.scp_ledger.specs.Decisions.{OnePerSlot}
use Rattle.scp_again.specs.scp_apply.specs.Applied.{AreInOrder, made_of}
use Rattle.scp_again.specs.scp_apply.specs.Applier.{next_of}
use Rattle.scp_again.specs.scp_core.specs.History.{Exchange}
use Rattle.scp_again.specs.scp_core.specs.Node.{NodeView, Step}
use Rattle.scp_again.specs.scp_core.specs.Theorem.{LedgerTheoremFrom, StepsKeepFrom}
use Rattle.scp_again.specs.scp_core.specs.Ledger.{HoldsLedgerFrom, TheoremGivesLedgerFrom}
use Rattle.scp_again.specs.scp_core.specs.Headline.{HoldsHeadlineFrom, LedgerGivesHeadlineFrom, StepsTo, ShowsStill, state_shown}
use Rattle.scp_turn.specs.Turn.{Does}
use Rattle.scp_epoch.specs.Life.{Epoch, heard_in, applied_in, Follow, IsFirst, IsLife}
use Rattle.scp_epoch.specs.Laws.{LivesApplyInOrder, LivesApplyOnce, LivesShowOneState, LivesHoldTheirLedgers, LivesHoldTheirHeadlines}
use Rattle.scp_epoch.proofs.Steps.{keeps_on}

-- ---- decisions in order

in_order_on : (n : ℕ) (xs ys : List Decision) → AreInOrder n xs → AreInOrder (n + length xs) ys → AreInOrder n (xs ++ ys)
in_order_on n [] ys p q = let e : n + length {A = Decision} [] ≡ n = omega arith in subst (λ (m : ℕ). AreInOrder m ys) e q
in_order_on n (x ∷ xs) ys p q = let e : n + length (x ∷ xs) ≡ (n + 1) + length xs = omega arith in (p.0, in_order_on (n + 1) xs ys p.1 (subst (λ (m : ℕ). AreInOrder m ys) e q))

-- they come after a slot
after : (n m : ℕ) (xs : List Decision) → n < m → AreInOrder m xs → All (λ (e : Decision). n < e.slot.0) xs
after n m [] below p = All-nil (λ (e : Decision). n < e.slot.0)
after n m (x ∷ xs) below p = All-cons (λ (e : Decision). n < e.slot.0) x xs (subst (λ (s : ℕ). n < s) (sym p.0) below) (after n (m + 1) xs (omega arith) p.1)

pub in_order_once : (n : ℕ) (xs : List Decision) → AreInOrder n xs → OnePerSlot xs
in_order_once n [] p = λ i j d lt below. absurd (omega arith)
in_order_once n (x ∷ xs) p =
    let behind = after n (n + 1) xs (omega arith) p.1 in
    AllPairs-cons (λ (d e : Decision). d.slot.0 ≢ e.slot.0) x xs (λ k d below same. let here : x.slot.0 ≡ n = p.0 in let there = behind k d below in absurd (omega arith)) (in_order_once (n + 1) xs p.1)

made_on : {S : Type 0} (start : S) (after' : S → List ℕ → S) (xs ys : List Decision) → made_of start after' (xs ++ ys) ≡ made_of (made_of start after' xs) after' ys
made_on start after' [] ys = refl
made_on start after' (x ∷ xs) ys = made_on (after' start x.value) after' xs ys

all_as : {X : Type 0} (P Q : X → Type 0) → ((x : X) → P x → Q x) → (xs : List X) → AllByRecursion P xs → AllByRecursion Q xs
all_as P Q f [] p = tt
all_as P Q f (x ∷ xs) p = (f x p.0, all_as P Q f xs p.1)

module _ {D S : Type 0} (says : Says D) (said : List ℕ → S) (after' : S → List ℕ → S) where
  -- what is proved of nodes below
  pub record Laws : Type 0 where
    pub keep : (first : ℕ) (base : List ℕ) → StepsKeepFrom says first base
    pub ledger : (first : ℕ) (base : List ℕ) → TheoremGivesLedgerFrom says first base
    pub headline : (first : ℕ) (base : List ℕ) → LedgerGivesHeadlineFrom says said after' first base

  -- ---- one epoch

  abbrev pub HasTheorem : Epoch D → Type 0
  HasTheorem e = LedgerTheoremFrom says e.start.applier.first e.start.applier.base (heard_in e) e.end

  -- a node that runs has the slot and the bytes with which it began
  pub runs_first : (first : ℕ) (base : List ℕ) (past : List Exchange) (v : NodeView D) → LedgerTheoremFrom says first base past v → v.failed ≡ false → v.applier.first ≡ first
  runs_first first base past v t runs = ap (λ (w : NodeView D). w.applier.first) (t.now runs) ∙ t.began.0

  runs_base : (first : ℕ) (base : List ℕ) (past : List Exchange) (v : NodeView D) → LedgerTheoremFrom says first base past v → v.failed ≡ false → v.applier.base ≡ base
  runs_base first base past v t runs = ap (λ (w : NodeView D). w.applier.base) (t.now runs) ∙ t.began.1

  pub first_runs : (first : ℕ) (base : List ℕ) (e : Epoch D) → IsFirst says first base e → e.start.failed ≡ false
  first_runs first base e f = f.begins.failed

  pub first_theorem : Laws → (first : ℕ) (base : List ℕ) (e : Epoch D) → IsFirst says first base e → HasTheorem e
  first_theorem law first base e f =
      let runs = first_runs first base e f in
      let slot : e.start.applier.first ≡ first = runs_first first base [] e.start f.begins runs in
      let bytes : e.start.applier.base ≡ base = runs_base first base [] e.start f.begins runs in
      let past : heard_in e ≡ e.later = ap (λ (h : List Exchange). h ++ e.later) f.nothing_carried.1 in
      let t : LedgerTheoremFrom says first base e.later e.end = keeps_on says first base (law.keep first base) e.later [] e.start e.end f.begins f.goes_on in
      subst (λ (n : ℕ). LedgerTheoremFrom says n e.start.applier.base (heard_in e) e.end) (sym slot)
      (subst (λ (b : List ℕ). LedgerTheoremFrom says first b (heard_in e) e.end) (sym bytes)
      (subst (λ (h : List Exchange). LedgerTheoremFrom says first base h e.end) (sym past) t))

  pub follow_theorem : Laws → (old : NodeView D) (e : Epoch D) (epochs : List (Epoch D)) → Follow says said after' old (e ∷ epochs) → HasTheorem e
  follow_theorem law old e epochs f = keeps_on says e.start.applier.first e.start.applier.base (law.keep e.start.applier.first e.start.applier.base) e.later e.carried e.start e.end f.0.begins.theorem f.1

  follow_theorems : Laws → (old : NodeView D) (epochs : List (Epoch D)) → Follow says said after' old epochs → AllByRecursion HasTheorem epochs
  follow_theorems law old [] f = tt
  follow_theorems law old (e ∷ epochs) f = (follow_theorem law old e epochs f, follow_theorems law e.end epochs f.2)

  life_theorems : Laws → (first : ℕ) (base : List ℕ) (epochs : List (Epoch D)) → IsLife says said after' first base epochs → AllByRecursion HasTheorem epochs
  life_theorems law first base [] l = absurd l
  life_theorems law first base (e ∷ epochs) l = (first_theorem law first base e l.0, follow_theorems law e.end epochs l.1)

  ledger_of : Laws → (e : Epoch D) → HasTheorem e → HoldsLedgerFrom says e.start.applier.first e.start.applier.base (heard_in e) e.end
  ledger_of law e t = law.ledger e.start.applier.first e.start.applier.base (heard_in e) e.end t

  headline_of : Laws → (e : Epoch D) → HasTheorem e → HoldsHeadlineFrom (Step says) said after' e.start.applier.first e.start.applier.base (heard_in e) e.end
  headline_of law e t = law.headline e.start.applier.first e.start.applier.base (heard_in e) e.end (ledger_of law e t)

  pub life_ledgers : Laws → LivesHoldTheirLedgers says said after'
  life_ledgers law = λ first base epochs l.
      all_as HasTheorem (λ (e : Epoch D). HoldsLedgerFrom says e.start.applier.first e.start.applier.base (heard_in e) e.end) (ledger_of law) epochs (life_theorems law first base epochs l)

  pub life_headlines : Laws → LivesHoldTheirHeadlines says said after'
  life_headlines law = λ first base epochs l.
      all_as HasTheorem (λ (e : Epoch D). HoldsHeadlineFrom (Step says) said after' e.start.applier.first e.start.applier.base (heard_in e) e.end) (headline_of law) epochs (life_theorems law first base epochs l)

  -- ---- what is applied

  ends_at : (later : List Exchange) (moment v : NodeView D) → StepsTo (Step says) moment later v → later ≡ [] → v ≡ moment
  ends_at later moment v s e = subst (λ (h : List Exchange). StepsTo (Step says) moment h v) e s

  -- the applied slots of an epoch are in order, from its first one on
  order_of : Laws → (e : Epoch D) → HasTheorem e → AreInOrder e.start.applier.first e.end.applier.applied
  order_of law e t =
      let h = headline_of law e t in
      let same : e.end.applier.applied ≡ h.moment.applier.applied = elim h.is [
        | inl none ↦ ap (λ (v : NodeView D). v.applier.applied) (ends_at h.later h.moment e.end h.since none)
        | inr still ↦ still.applied
      ] in
      subst (λ (ds : List Decision). AreInOrder e.start.applier.first ds) (sym same) (subst (λ (n : ℕ). AreInOrder n h.moment.applier.applied) h.first h.headline.headline.in_order)

  end_next : (e : Epoch D) → HasTheorem e → (n : ℕ) → e.start.applier.first ≡ n → e.end.failed ≡ false → next_of e.end.applier ≡ n + length e.end.applier.applied
  end_next e t n at runs = ap (λ (m : ℕ). m + length e.end.applier.applied) (runs_first e.start.applier.first e.start.applier.base (heard_in e) e.end t runs ∙ at)

  follow_order : Laws → (old : NodeView D) (n : ℕ) (epochs : List (Epoch D)) → Follow says said after' old epochs → (old.failed ≡ false → next_of old.applier ≡ n) → AreInOrder n (applied_in epochs)
  follow_order law old n [] f next = tt
  follow_order law old n (e ∷ epochs) f next =
      let at : e.start.applier.first ≡ n = f.0.begins.first ∙ next f.0.begins.runs in
      let t = follow_theorem law old e epochs f in
      in_order_on n e.end.applier.applied (applied_in epochs) (subst (λ (m : ℕ). AreInOrder m e.end.applier.applied) at (order_of law e t))
      (follow_order law e.end (n + length e.end.applier.applied) epochs f.2 (end_next e t n at))

  pub life_order : Laws → LivesApplyInOrder says said after'
  life_order law = λ first base epochs l. in_life first base epochs l
    where
      in_life : (first : ℕ) (base : List ℕ) (epochs : List (Epoch D)) → IsLife says said after' first base epochs → AreInOrder first (applied_in epochs)
      in_life first base [] l = absurd l
      in_life first base (e ∷ epochs) l =
          let at : e.start.applier.first ≡ first = runs_first first base [] e.start l.0.begins (first_runs first base e l.0) in
          let t = first_theorem law first base e l.0 in
          in_order_on first e.end.applier.applied (applied_in epochs) (subst (λ (m : ℕ). AreInOrder m e.end.applier.applied) at (order_of law e t))
          (follow_order law e.end (first + length e.end.applier.applied) epochs l.1 (end_next e t first at))

  pub life_once : Laws → LivesApplyOnce says said after'
  life_once law = λ first base epochs l. in_order_once first (applied_in epochs) (life_order law first base epochs l)

  -- ---- the state

  -- the state of a node that runs
  abbrev state_of : NodeView D → S
  state_of v = made_of (said v.applier.base) after' v.applier.applied

  -- the epoch's end has what it applied made of the state with which it began
  end_state : (e : Epoch D) → HasTheorem e → (start : S) → said e.start.applier.base ≡ start → e.end.failed ≡ false → state_of e.end ≡ made_of start after' e.end.applier.applied
  end_state e t start is runs = ap (λ (s : S). made_of s after' e.end.applier.applied) (ap said (runs_base e.start.applier.first e.start.applier.base (heard_in e) e.end t runs) ∙ is)

  -- what was followed ran
  follow_runs : (old : NodeView D) (epochs : List (Epoch D)) (last : Epoch D) → Follow says said after' old (epochs ++ last ∷ []) → old.failed ≡ false
  follow_runs old [] last f = f.0.begins.runs
  follow_runs old (e ∷ epochs) last f = f.0.begins.runs

  follow_state : Laws → (old : NodeView D) (epochs : List (Epoch D)) (last : Epoch D) (start : S) → Follow says said after' old (epochs ++ last ∷ []) → state_of old ≡ start → last.end.failed ≡ false → state_of last.end ≡ made_of start after' (applied_in (epochs ++ last ∷ []))
  follow_state law old [] last start f is runs =
      end_state last (follow_theorem law old last [] f) start (f.0.begins.state ∙ is) runs ∙ sym (made_on start after' last.end.applier.applied [])
  follow_state law old (e ∷ epochs) last start f is runs =
      let here = end_state e (follow_theorem law old e (epochs ++ last ∷ []) f) start (f.0.begins.state ∙ is) (follow_runs e.end epochs last f.2) in
      follow_state law e.end epochs last (made_of start after' e.end.applier.applied) f.2 here runs ∙ sym (made_on start after' e.end.applier.applied (applied_in (epochs ++ last ∷ [])))

  life_state : Laws → (first : ℕ) (base : List ℕ) (epochs : List (Epoch D)) (last : Epoch D) → IsLife says said after' first base (epochs ++ last ∷ []) → last.end.failed ≡ false → state_of last.end ≡ made_of (said base) after' (applied_in (epochs ++ last ∷ []))
  life_state law first base [] last l runs =
      let bytes : last.start.applier.base ≡ base = runs_base first base [] last.start l.0.begins (first_runs first base last l.0) in
      end_state last (first_theorem law first base last l.0) (said base) (ap said bytes) runs ∙ sym (made_on (said base) after' last.end.applier.applied [])
  life_state law first base (e ∷ epochs) last l runs =
      let bytes : e.start.applier.base ≡ base = runs_base first base [] e.start l.0.begins (first_runs first base e l.0) in
      let here = end_state e (first_theorem law first base e l.0) (said base) (ap said bytes) (follow_runs e.end epochs last l.1) in
      follow_state law e.end epochs last (made_of (said base) after' e.end.applier.applied) l.1 here runs ∙ sym (made_on (said base) after' e.end.applier.applied (applied_in (epochs ++ last ∷ [])))

  shown : (v : NodeView D) (s : S) → v.failed ≡ false → state_of v ≡ s → state_shown (said v.applier.base) after' v ≡ Some s
  shown v s runs is = ap (λ (b : Bool). if b then None else Some (state_of v)) runs ∙ ap (λ (x : S). Some x) is

  pub life_shows : Laws → LivesShowOneState says said after'
  life_shows law = λ first base epochs last l runs. shown last.end (made_of (said base) after' (applied_in (epochs ++ last ∷ []))) runs (life_state law first base epochs last l runs)
