-- What an event, a question or a bad line adds to a batch.
use Rattle.std.proofs.Common.{◌≡◌, ℕ, true, false, List, [], ◌∷◌, ◌++◌, refl, sym, ◌∙◌, ap, subst, arith, inl, inr, ⊎_elim}
use Rattle.std.specs.Prelude.{◌⊎◌, ◌↔◌, Option, None, Some, IfNone, Result, Ok, Err, IfSome, OnOk, IfErr, IsErrOf, IsOkUnless}
use Rattle.scp_stand_node.specs.scp_types.specs.declared.fault.Fault.{Fault}
use Rattle.scp_stand_node.specs.scp_types.specs.declared.fault.Fault.TheVariants.{NoMemory, TooLong, JournalFull, Device}
use Rattle.scp_stand_node.specs.scp_types.specs.declared.names.Hash.{Hash}
use Rattle.scp_stand_node.specs.scp_core.specs.declared.event.Event.{Event as Happening}
use Rattle.scp_stand_node.specs.scp_core.specs.History.{Exchange}
use Rattle.scp_stand_node.specs.scp_core.specs.Kv.{NodeView}
use Rattle.scp_stand_node.specs.scp_turn.specs.Kv.{Goes, Noting}
use Rattle.scp_stand_node.specs.scp_turn.specs.Episode.{finds_full}
use Rattle.scp_batches.specs.scp_live_log.specs.Log.{EntryView}
use Rattle.scp_stand_node.specs.scp_wire.specs.declared.message.Message.{Message}
use Rattle.scp_live.specs.scp_live_lines.specs.Sent.{again_line}
use Rattle.std.specs.Prelude.{flat_map}
use Rattle.scp_live.specs.Live.{LiveView, IsTold}
use Rattle.scp_live.specs.Again.{SaysAgain}
use Rattle.scp_live.specs.scp_live_lines.specs.declared.asked.Asked.{Asked}
use Rattle.scp_live.specs.scp_live_lines.specs.declared.asked.Asked.TheVariants.{Event, Again, State, Report, Stand, Applied, Nothing}
use Rattle.scp_stand_node.specs.scp_device.specs.declared.bad.WordFault.{WordFault}
use Rattle.scp_stand_node.specs.scp_device.specs.declared.bad.WordFault.TheVariants.{Bad}
use Rattle.scp_stand_node.specs.scp_device.specs.declared.bad.BadWord.{BadWord}
use Rattle.scp_live.specs.scp_live_lines.specs.Results.{IfRefusal}
use Rattle.scp_live_process.specs.Answers.{IsPlayed, IsDone, Replies}
use Rattle.scp_live_process.specs.Stands.{TellsStand}
use Rattle.scp_live.specs.Living.{IsLive}
use Rattle.scp_live_process.specs.Adding.{BatchView, TellsMore, Adds, Asks}
use Rattle.scp_live_process.specs.inside.Texts.{AddsText}
use Rattle.scp_live.proofs.Going.{found_later, found_behind, none_found}
use Rattle.scp_live_process.proofs.Going.{Seen, seen_nothing, seen_as}
use Rattle.scp_live.proofs.Replaying.{told_apart}
use Rattle.scp_live_process.proofs.Answering.{replied}
use Rattle.scp_live.proofs.Living.{live_on}

-- a full journal is reported exactly if one was found
abbrev pub TellsFull : {T : Type 0} → Result T Fault → List Exchange → Type 0
TellsFull r heard = IsErrOf r JournalFull ↔ (finds_full heard ≡ true)

-- what is told if it isn't refused, and whether the journal was full
abbrev pub Told : {T : Type 0} → Result T Fault → List Exchange → Type 0 → Type 0
Told r heard P = OnOk r P × TellsFull r heard

-- if it isn't refused, none was found
pub unfilled : {T : Type 0} (x : T) (heard : List Exchange) → TellsFull {T = T} (Ok x) heard → finds_full heard ≡ true → ⊥
unfilled {T} x heard told found = let e : IsErrOf {T = T} (Ok x) JournalFull = told.1 found in cc

-- a refusal is the same of any result
pub err_as : {T U : Type 0} (f e : Fault) → IsErrOf {T = T} (Err f) e → IsErrOf {T = U} (Err f) e
err_as f e is = let same : f ≡ e = cc in ap (λ (x : Fault). Err x) same

pub full_as : {T U : Type 0} (f : Fault) (heard : List Exchange) → TellsFull {T = T} (Err f) heard → TellsFull {T = U} (Err f) heard
full_as {T} {U} f heard told = (λ full. told.0 (err_as {T = U} {U = T} f JournalFull full), λ found. err_as {T = T} {U = U} f JournalFull (told.1 found))

-- one that was found later, after what a node heard that ran
pub full_behind : {T U : Type 0} (f : Fault) (x y : List Exchange) → (finds_full x ≡ true → ⊥) → TellsFull {T = T} (Err f) y → TellsFull {T = U} (Err f) (x ++ y)
full_behind {T} {U} f x y none told = (λ full. found_later x y (told.0 (err_as {T = U} {U = T} f JournalFull full)), λ found. err_as {T = T} {U = U} f JournalFull (told.1 (found_behind x y none found)))

memory_not_full : (f : Fault) → IsOkUnless {T = Unit {0}} (Err f) NoMemory → IsErrOf {T = Unit {0}} (Err f) JournalFull → ⊥
memory_not_full f only err = cc

-- an event
played_more : (event : Happening) (line : List ℕ) (u v : LiveView) (x : List Exchange) (before mid after' : BatchView) (entry : EntryView) (text longer digest : List ℕ) → after' ≡ record mid { entries = mid.entries ++ entry ∷ [] } → mid.entries ≡ before.entries → before.text ≡ text → mid.text ≡ longer → entry ≡ record { line = line; sent = digest } → v.names ≡ u.names → v.nodes ≡ u.nodes → IsTold event u.names u.timers v.timers u.node x v.node text longer digest → Adds (IsPlayed event line) u x v before after'
played_more event line u v x before mid after' entry text longer digest kept entries old new is names nodes t =
    let a = told_apart event u.names u.timers v.timers u.node v.node x text longer digest t in
    record {
      kept = entry ∷ [];
      told = a.0;
      is = record { digest = digest; tells = a.1; names = names; nodes = nodes; entry = ap (λ (e : EntryView). e ∷ []) is };
      text = ap (λ (b : BatchView). b.text) kept ∙ new ∙ a.2 ∙ ap (λ (l : List ℕ). l ++ a.0) (sym old);
      entries = ap (λ (b : BatchView). b.entries) kept ∙ ap (λ (l : List EntryView). l ++ entry ∷ []) entries;
    }

pub plays : {W : Type 0} (Note : Noting W) (w z : W) (r : Result (Unit {0}) Fault) (event : Happening) (line : List ℕ) (u v : LiveView) (before mid after' : BatchView) (entry : EntryView) (text longer digest : List ℕ) (sent : Hash) → IsOkUnless r NoMemory → OnOk r (after' ≡ record mid { entries = mid.entries ++ entry ∷ [] }) → mid.entries ≡ before.entries → before.text ≡ text → mid.text ≡ longer → entry ≡ record { line = line; sent = digest } → v.names ≡ u.names → v.nodes ≡ u.nodes
    → Seen Note w z u.node v.node (λ heard. IsTold event u.names u.timers v.timers u.node heard v.node text longer digest × TellsFull {T = Hash} (Ok sent) heard) → Seen Note w z u.node v.node (λ heard. Told r heard (Adds (IsPlayed event line) u heard v before after'))
plays {W} Note w z r event line u v before mid after' entry text longer digest sent only kept entries old new is names nodes g =
    seen_as Note w z u.node v.node (λ heard. IsTold event u.names u.timers v.timers u.node heard v.node text longer digest × TellsFull {T = Hash} (Ok sent) heard) (λ heard. Told r heard (Adds (IsPlayed event line) u heard v before after'))
    (λ heard p. by r heard only kept p.0 (unfilled sent heard p.1)) g
  where
    by : (r : Result (Unit {0}) Fault) (heard : List Exchange) → IsOkUnless r NoMemory → OnOk r (after' ≡ record mid { entries = mid.entries ++ entry ∷ [] }) → IsTold event u.names u.timers v.timers u.node heard v.node text longer digest → (finds_full heard ≡ true → ⊥) → Told r heard (Adds (IsPlayed event line) u heard v before after')
    by (Ok tt) heard only kept t none = (played_more event line u v heard before mid after' entry text longer digest kept entries old new is names nodes t, (λ e. absurd cc, λ found. absurd (none found)))
    by (Err f) heard only kept t none = (tt, (λ e. absurd (memory_not_full f only e), λ found. absurd (none found)))

-- where it isn't refused the node runs still
pub lives : {T : Type 0} (r : Result T Fault) (a b : NodeView) (P : NodeView → List Exchange → NodeView → Type 0) → IsLive a → Goes a b P → b.failed ≡ false → OnOk r (IsLive b)
lives (Ok x) a b P live g runs = live_on a b P live g runs
lives (Err f) a b P live g runs = tt

-- ---- questions

says_apart : (name : List ℕ) (messages : List Message) (text longer : List ℕ) (before after' : BatchView) → SaysAgain name messages text longer → before.text ≡ text → after'.text ≡ longer → after'.entries ≡ before.entries → TellsMore (SaysAgain name messages []) before after'
says_apart name messages text longer before after' s old new entries = record {
  told = flat_map (again_line name) s.spelled;
  is = record { spelled = s.spelled; spelt = s.spelt; lines = refl };
  text = new ∙ s.lines ∙ ap (λ (l : List ℕ). l ++ flat_map (again_line name) s.spelled) (sym old);
  entries = entries;
}

pub says_again : (r : Result (Unit {0}) Fault) (name : List ℕ) (messages : List Message) (text longer : List ℕ) (before after' : BatchView) → OnOk r (SaysAgain name messages text longer) → before.text ≡ text → after'.text ≡ longer → after'.entries ≡ before.entries → OnOk r (TellsMore (SaysAgain name messages []) before after')
says_again (Ok tt) name messages text longer before after' s old new entries = says_apart name messages text longer before after' s old new entries
says_again (Err f) name messages text longer before after' s old new entries = tt

pub tells : (told text longer : List ℕ) (before after' : BatchView) → longer ≡ text ++ told → before.text ≡ text → after'.text ≡ longer → after'.entries ≡ before.entries → TellsMore (λ t. t ≡ told) before after'
tells told text longer before after' is old new entries = record { told = told; is = refl; text = new ∙ is ∙ ap (λ (l : List ℕ). l ++ told) (sym old); entries = entries }

-- ---- a question

no_journal : (f : Fault) → IfErr {T = Unit {0}} (Err f) (λ g. (g ≡ NoMemory) ⊎ (g ≡ TooLong)) → IsErrOf {T = Unit {0}} (Err f) JournalFull → ⊥
no_journal f only err = grind arith

pub asked_quietly : (r : Result (Unit {0}) Fault) (asked : Asked) (line : List ℕ) (v : LiveView) (before after' : BatchView) → Asks asked → OnOk r (TellsMore (Replies asked v) before after') → IfErr r (λ f. (f ≡ NoMemory) ⊎ (f ≡ TooLong)) → Told r [] (Adds (IsDone asked line) v [] v before after')
asked_quietly (Ok tt) asked line v before after' asks t only = (replied asked line v before after' asks t, (λ e. absurd cc, λ found. absurd (none_found found)))
asked_quietly (Err f) asked line v before after' asks t only = (tt, (λ e. absurd (no_journal f only e), λ found. absurd (none_found found)))

pub no_event : (asked : Asked) → ((event : Happening) → asked ≡ Event event → ⊥) → Asks asked
no_event (Event event) other = absurd (other event refl)
no_event (Again link) other = tt
no_event State other = tt
no_event Report other = tt
no_event Stand other = tt
no_event (Applied slot) other = tt
no_event Nothing other = tt

pub on_any : {T P : Type 0} (r : Result T Fault) → P → OnOk r P
on_any (Ok x) p = p
on_any (Err f) p = tt

pub one_of_three : (r : Result (Unit {0}) Fault) → IfErr r (λ f. (f ≡ NoMemory) ⊎ (f ≡ TooLong)) → IfErr r (λ f. (f ≡ NoMemory) ⊎ ((f ≡ JournalFull) ⊎ (f ≡ TooLong)))
one_of_three (Ok x) only = tt
one_of_three (Err f) only = ⊎_elim (λ e. inl e) (λ e. inr (inr e)) only

-- ---- one line

memory_only : (f : Fault) → IsOkUnless {T = Unit {0}} (Err f) NoMemory → IsErrOf {T = Unit {0}} (Err f) JournalFull → ⊥
memory_only f only err = cc

-- what is told where nothing else happens
pub told_only : {W : Type 0} (Note : Noting W) (w : W) (r : Result (Unit {0}) Fault) (v : LiveView) (P : List Exchange → Type 0) → IsOkUnless r NoMemory → OnOk r (P []) → Seen Note w w v.node v.node (λ heard. Told r heard (P heard))
told_only {W} Note w r v P only t = seen_nothing Note w v.node (λ heard. Told r heard (P heard)) (by r only t)
  where
    by : (r : Result (Unit {0}) Fault) → IsOkUnless r NoMemory → OnOk r (P []) → Told r [] (P [])
    by (Ok tt) only t = (t, (λ e. absurd cc, λ found. absurd (none_found found)))
    by (Err f) only t = (tt, (λ e. absurd (memory_only f only e), λ found. absurd (none_found found)))

-- what is told behind what was done
pub told_behind : {W T : Type 0} (Note : Noting W) (w z : W) (r : Result (Unit {0}) Fault) (x : T) (u v : LiveView) (P Q : List Exchange → Type 0) → IsOkUnless r NoMemory → ((heard : List Exchange) → P heard → OnOk r (Q heard)) → Seen Note w z u.node v.node (λ heard. P heard × TellsFull {T = T} (Ok x) heard) → Seen Note w z u.node v.node (λ heard. Told r heard (Q heard))
told_behind {W} {T} Note w z r x u v P Q only f g =
    seen_as Note w z u.node v.node (λ heard. P heard × TellsFull {T = T} (Ok x) heard) (λ heard. Told r heard (Q heard)) (λ heard p. (f heard p.0, (λ e. absurd (no r only e), λ found. absurd (unfilled x heard p.1 found)))) g
  where
    no : (r : Result (Unit {0}) Fault) → IsOkUnless r NoMemory → IsErrOf r JournalFull → ⊥
    no (Ok tt) only e = cc
    no (Err f) only e = memory_only f only e

-- out of memory, and nothing else happened
pub told_none : {W : Type 0} (Note : Noting W) (w : W) (v : LiveView) → Seen Note w w v.node v.node (λ heard. Unit {0} × TellsFull {T = Unit {0}} (Err NoMemory) heard)
told_none {W} Note w v = seen_nothing Note w v.node (λ heard. Unit {0} × TellsFull {T = Unit {0}} (Err NoMemory) heard) (tt, (λ e. absurd cc, λ found. absurd (none_found found)))

pub if_ok : {P Q : Type 0} (r : Result (Unit {0}) Fault) → (P → Q) → OnOk r P → OnOk r Q
if_ok (Ok tt) f p = f p
if_ok (Err e) f p = tt

-- ---- the same of what was asked

pub reply_as : (asked other : Asked) (v : LiveView) (before after' : BatchView) → asked ≡ other → TellsMore (Replies other v) before after' → TellsMore (Replies asked v) before after'
reply_as asked other v before after' is t = subst (λ (a : Asked). TellsMore (Replies a v) before after') (sym is) t

pub reply_if : (r : Result (Unit {0}) Fault) (asked other : Asked) (v : LiveView) (before after' : BatchView) → asked ≡ other → OnOk r (TellsMore (Replies other v) before after') → OnOk r (TellsMore (Replies asked v) before after')
reply_if r asked other v before after' is t = subst (λ (a : Asked). OnOk r (TellsMore (Replies a v) before after')) (sym is) t

pub stands : (r : Result (Unit {0}) Fault) (v : LiveView) (text longer : List ℕ) (before after' : BatchView) → OnOk r (AddsText text longer (TellsStand v)) → before.text ≡ text → after'.text ≡ longer → after'.entries ≡ before.entries → OnOk r (TellsMore (Replies Stand v) before after')
stands (Ok tt) v text longer before after' t old new entries = record {
  told = t.0;
  is = t.2;
  text = new ∙ t.1 ∙ ap (λ (l : List ℕ). l ++ t.0) (sym old);
  entries = entries;
}
stands (Err f) v text longer before after' t old new entries = tt

-- a line that is bad at a word
pub told_at : (bad : WordFault) (refusal : BadWord) (Is : BadWord → Type 0) → bad ≡ Bad refusal → IfRefusal bad Is → Is refusal
told_at bad refusal Is at told = subst (λ (b : WordFault). IfRefusal b Is) at told

-- a device that failed, or that memory ran out, is no full journal
pub no_full : {T : Type 0} (f : Fault) → (f ≡ Device) ⊎ (f ≡ NoMemory) → IsErrOf {T = T} (Err f) JournalFull → ⊥
no_full f cause full = let same : f ≡ JournalFull = cc in ⊎_elim (λ (e : f ≡ Device). absurd cc) (λ (e : f ≡ NoMemory). absurd cc) cause

pub told_some : {X : Type 0} (o : Option X) (x : X) (Is : X → Type 0) → o ≡ Some x → IfSome o Is → Is x
told_some o x Is at told = subst (λ p. IfSome p Is) at told

pub told_nothing : {X : Type 0} (o : Option X) (P : Type 0) → o ≡ None → IfNone o P → P
told_nothing o P at told = subst (λ p. IfNone p P) at told

-- no full journal is reported, and none was found
pub unfilled_yet : {T : Type 0} (f : Fault) (heard : List Exchange) → (f ≡ Device) ⊎ (f ≡ NoMemory) → (finds_full heard ≡ true → ⊥) → TellsFull {T = T} (Err f) heard
unfilled_yet f heard cause none = (λ full. absurd (no_full f cause full), λ found. absurd (none found))
