-- What a slot stage shows, and what it hands out.
use Rattle.std.proofs.Common.{◌≡◌, ◌↔◌, true, false, ℕ, List, [], ◌∷◌, ◌++◌, refl, sym, ◌∙◌, ap, subst, arith, length, get_or, ◌<◌, All}
use Rattle.std.specs.Prelude.{Option, Some, None, Result, Ok, Err, IsErrOf, Any, option_to_list}
use Rattle.std.proofs.lemmas.List.{get_or_append_left, length-append}
use Rattle.std.specs.List.{AllByRecursion}
use Rattle.std.proofs.lemmas.List.Elements.{All-from_recursion, recursion_from_All}
use Rattle.std.proofs.lemmas.List.Quantifiers.{Any-push}
use Rattle.scp_theorem.specs.scp_driver.specs.Driver.{Says}
use Rattle.scp_theorem.specs.scp_types.specs.declared.fault.Fault.{Fault}
use Rattle.scp_theorem.specs.scp_types.specs.declared.fault.Fault.TheVariants.{NoMemory, JournalFull}
use Rattle.scp_theorem.specs.scp_envelope.specs.declared.statement.Envelope.{Envelope}
use Rattle.scp_theorem.specs.scp_outbox.specs.Outbox.{OutboxView}
use Rattle.scp_theorem.specs.scp_pending.specs.declared.ready.Ready.{Ready}
use Rattle.scp_theorem.specs.scp_ledger.specs.declared.took.Outgoing.{Outgoing}
use Rattle.scp_theorem.specs.scp_ledger.specs.declared.took.Took.{Took}
use Rattle.scp_theorem.specs.scp_ledger.specs.Journals.{IsToAll}
use Rattle.scp_theorem.specs.scp_ledger.specs.Ledger.{IsLedger}
use Rattle.scp_theorem.specs.scp_ledger.specs.Takes.{adds_entry}
use Rattle.scp_core.specs.declared.stage.Given.{Given}
use Rattle.scp_core.specs.declared.stage.Shown.{Shown}
use Rattle.scp_theorem.specs.scp_ledger.specs.Seen.{LedgerView}
use Rattle.scp_theorem.specs.scp_ledger.specs.By.{TakesBy, TellsBy, RunsBy}
use Rattle.scp_core.specs.Node.{HandsOne, HandsEach, said_in}
use Rattle.scp_core.specs.inside.Stage.{shown, Shows, TakesOut}
use Rattle.scp_core.proofs.Deciding.{GrowBy, shown_before, runs_on}

true_isnt : true ≡ false → ⊥
true_isnt e = cc

module _ {D : Type 0} where
  -- while it runs it shows all of its ledger, whatever that is
  pub all_is_shown : (cut : Option Shown) (before now : LedgerView D) → (shown cut before).failed ≡ false → shown cut now ≡ now
  all_is_shown None before now runs = refl
  all_is_shown (Some so_much) before now runs = absurd (true_isnt runs)

  -- a refusal of the ledger leaves what is shown
  pub refused_shows : (cut : Option Shown) (before now : LedgerView D) → (shown cut before).failed ≡ false → Shows before now → Shows (shown cut before) (shown cut now)
  refused_shows None before now runs h = h
  refused_shows (Some so_much) before now runs h = absurd (true_isnt runs)

module _ {D : Type 0} (says : Says D) where
  -- where a copy is refused, the ledger is shown as before
  pub cut_shows : GrowBy says → (cut : Option Shown) (before : LedgerView D) (x : Ready) (t : Took) (now : LedgerView D) (journal decisions : ℕ) → (shown cut before).failed ≡ false → journal ≡ length before.journal → decisions ≡ length before.decisions → TakesBy says before x t now → Any IsToAll t.outgoing → Shows (shown cut before) (shown (Some (record { journal = journal; decisions = decisions })) now)
  cut_shows grown cut before x t now journal decisions runs j d takes out =
      subst (λ (v : LedgerView D). Shows v (shown (Some (record { journal = journal; decisions = decisions })) now)) (sym (all_is_shown cut before before runs))
      (subst (λ n. Shows before (shown (Some (record { journal = n; decisions = decisions })) now)) (sym j)
      (subst (λ n. Shows before (shown (Some (record { journal = length before.journal; decisions = n })) now)) (sym d) (shown_before says grown before x t now takes out)))

-- what goes on of what was taken, and what was said
abbrev pub given_by : Took → List Envelope → Given
given_by t said = record { onward = t.onward; command = t.command; said = said }

module _ {D : Type 0} (says : Says D) where
  -- what is taken is taken of all that is shown
  pub takes_out : GrowBy says → (cut : Option Shown) (before : LedgerView D) (boxes : List OutboxView) (x : Ready) (t : Took) (now : LedgerView D) (boxes2 : List OutboxView) (said : List Envelope) → said_in t.outgoing ≡ said → (shown cut before).failed ≡ false → TakesBy says before x t now → TellsBy says before x t → IsLedger now → (now.failed ≡ false → RunsBy says now) → HandsEach boxes t.outgoing boxes2 → TakesOut says (shown cut before) boxes x (given_by t said) (shown cut now) boxes2
  takes_out grown cut before boxes x t now boxes2 said are runs takes tells known running hands =
      let was : shown cut before ≡ before = all_is_shown cut before before runs in
      let is : shown cut now ≡ now = all_is_shown cut before now runs in
      let failed : before.failed ≡ false = ap (λ (v : LedgerView D). v.failed) (sym was) ∙ runs in
      subst (λ (v : LedgerView D). TakesOut says v boxes x (given_by t said) (shown cut now) boxes2) (sym was)
      (subst (λ (v : LedgerView D). TakesOut says before boxes x (given_by t said) v boxes2) (sym is)
      (record { took = t; takes = takes; tells = tells; onward_is = refl; command_is = refl; said_is = are; known = known; running = running (runs_on says grown before x t now failed takes); hands = hands }))

abbrev taken_as : Took → Result Took Fault
taken_as t = Ok t

abbrev given_as : Given → Result Given Fault
given_as o = Ok o

abbrev no_memory : Result Given Fault
no_memory = Err NoMemory

module _ {D : Type 0} where
  -- the same of when a journal is full
  abbrev IsFull : LedgerView D → Ready → Type 0
  IsFull v x = (adds_entry x ≡ true) × (length v.journal ≡ 1000000)

  full_where : (A : Type 0) (cut : Option Shown) (before : LedgerView D) (x : Ready) → (shown cut before).failed ≡ false → (A ↔ ((before.failed ≡ false) × (adds_entry x ≡ true) × (length before.journal ≡ 1000000))) → A ↔ IsFull (shown cut before) x
  full_where A None before x runs f = (λ a. ((f.0 a).1, (f.0 a).2), λ is. f.1 (runs, is.0, is.1))
  full_where A (Some so_much) before x runs f = absurd (true_isnt runs)

abbrev refused_as : (X : Type 0) → Fault → Result X Fault
refused_as X f = Err f

same_fault : (X : Type 0) (f g : Fault) → refused_as X f ≡ refused_as X g → f ≡ g
same_fault X f g e = cc

module _ {D : Type 0} where
  -- a refusal of the ledger is one of the stage
  pub full_as : (X Y : Type 0) (f : Fault) (cut : Option Shown) (before : LedgerView D) (x : Ready) → (shown cut before).failed ≡ false → (IsErrOf (refused_as X f) JournalFull ↔ ((before.failed ≡ false) × (adds_entry x ≡ true) × (length before.journal ≡ 1000000))) → IsErrOf (refused_as Y f) JournalFull ↔ IsFull (shown cut before) x
  full_as X Y f cut before x runs full =
      let g = full_where (IsErrOf (refused_as X f) JournalFull) cut before x runs full in
      (λ e. g.0 (ap (refused_as X) (same_fault Y f JournalFull e)), λ is. ap (refused_as Y) (same_fault X f JournalFull (g.1 is)))

  pub isnt_full : (A B : Type 0) (cut : Option Shown) (before : LedgerView D) (x : Ready) → (shown cut before).failed ≡ false → (A → ⊥) → (B → ⊥) → (A ↔ ((before.failed ≡ false) × (adds_entry x ≡ true) × (length before.journal ≡ 1000000))) → B ↔ IsFull (shown cut before) x
  isnt_full A B cut before x runs not_a not_b f = let g = full_where A cut before x runs f in (λ b. absurd (not_b b), λ is. absurd (not_a (g.1 is)))

pub taken_isnt : (t : Took) → IsErrOf (taken_as t) JournalFull → ⊥
taken_isnt t e = cc

pub given_isnt : (o : Given) → IsErrOf (given_as o) JournalFull → ⊥
given_isnt o e = cc

pub no_memory_isnt : IsErrOf no_memory JournalFull → ⊥
no_memory_isnt e = cc

-- ---- a list of what goes out

hands_more : (old now new : List OutboxView) (outgoing : List Outgoing) (one : Outgoing) → HandsEach old outgoing now → HandsOne now one new → HandsEach old (outgoing ++ one ∷ []) new
hands_more old now new [] one h more = (new, subst (λ (boxes : List OutboxView). HandsOne boxes one new) h more, refl)
hands_more old now new (x ∷ outgoing) one h more = (h.0, h.1, hands_more h.0 now new outgoing one h.2 more)

pub hands_last : (old now new : List OutboxView) (all rest : List Outgoing) (one : Outgoing) → all ≡ rest ++ option_to_list (Some one) → HandsEach old rest now → HandsOne now one new → HandsEach old all new
hands_last old now new all rest one is h more = subst (λ (os : List Outgoing). HandsEach old os new) (sym is) (hands_more old now new rest one h more)

-- what holds of all holds of those before the last, and of the last
front_by : (P : Outgoing → Type 0) (rest : List Outgoing) (one : Outgoing) → AllByRecursion P (rest ++ one ∷ []) → AllByRecursion P rest
front_by P [] one h = tt
front_by P (x ∷ xs) one h = (h.0, front_by P xs one h.1)

last_by : (P : Outgoing → Type 0) (rest : List Outgoing) (one : Outgoing) → AllByRecursion P (rest ++ one ∷ []) → P one
last_by P [] one h = h.0
last_by P (x ∷ xs) one h = last_by P xs one h.1

pub all_before : (P : Outgoing → Type 0) (all rest : List Outgoing) (one : Outgoing) → all ≡ rest ++ option_to_list (Some one) → All P all → All P rest
all_before P all rest one is h = All-from_recursion P rest (front_by P rest one (recursion_from_All P (rest ++ one ∷ []) (subst (All P) is h)))

pub all_last : (P : Outgoing → Type 0) (all rest : List Outgoing) (one : Outgoing) → all ≡ rest ++ option_to_list (Some one) → All P all → P one
all_last P all rest one is h = last_by P rest one (recursion_from_All P (rest ++ one ∷ []) (subst (All P) is h))

-- ---- what goes to all among them

pub any_before : (all rest : List Outgoing) (one : Outgoing) → all ≡ rest ++ option_to_list (Some one) → Any IsToAll rest → Any IsToAll all
any_before all rest one is h = subst (λ (os : List Outgoing). Any IsToAll os) (sym is) (h.0, h.1, omega (arith, h.2, length-append rest (one ∷ [])), get_or_append_left rest (one ∷ []) h.1 h.0 h.2 ∙ h.3, h.4)

pub any_last : (all rest : List Outgoing) (one : Outgoing) → all ≡ rest ++ option_to_list (Some one) → IsToAll one → Any IsToAll all
any_last all rest one is p = subst (λ (os : List Outgoing). Any IsToAll os) (sym is) (Any-push IsToAll rest one p)

-- one of a list that goes to all
pub any_at : (all : List Outgoing) (one : Outgoing) (i : ℕ) → i < length all → one ≡ get_or all i one → IsToAll one → Any IsToAll all
any_at all one i within is p = (i, one, within, sym is, p)
