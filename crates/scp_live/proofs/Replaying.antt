-- Entries that are played again, one behind the other.
use Rattle.std.proofs.Common.{◌≡◌, ◌<◌, ◌+◌, ℕ, suc, Bool, true, false, List, [], ◌∷◌, ◌++◌, take, get_or, refl, sym, ◌∙◌, ap, subst, append_assoc, append-nil, arith, inl, inr, ⊎_elim}
use Rattle.std.specs.Prelude.{◌≢◌, ◌≤◌, ◌⊎◌, ◌↔◌, length, nat_eq, Option, Some, None, Result, Ok, Err, OnOk, IfSome, IfNone, IsErrOf}
use Rattle.std.proofs.lemmas.List.{take_all}
use Rattle.std.proofs.lemmas.Option.{slice_get_read}
use Rattle.std.specs.Cmp.Lexicographic.{pointwise, bytes_decides}
use Rattle.std.proofs.Math.Seq.{take-suc}
use Rattle.scp_turn.specs.Kv.{Goes, Noting, Watched}
use Rattle.scp_again.specs.scp_core.specs.declared.event.Event.{Event as Happening}
use Rattle.scp_again.specs.scp_core.specs.History.{Exchange}
use Rattle.scp_again.specs.scp_core.specs.Kv.{NodeView}
use Rattle.scp_again.specs.scp_types.specs.declared.fault.Fault.{Fault}
use Rattle.scp_again.specs.scp_types.specs.declared.fault.Fault.TheVariants.{NoMemory, JournalFull}
use Rattle.scp_again.specs.scp_types.specs.declared.fault.Fault.TheVariants as faults
use Rattle.scp_again.specs.scp_types.specs.declared.names.Hash.{Hash}
use Rattle.scp_turn.specs.Episode.{finds_full}
use Rattle.scp_live_log.specs.Log.{EntryView}
use Rattle.scp_live_log.specs.declared.kept.LogFault.{LogFault}
use Rattle.scp_live_log.specs.declared.kept.LogFault.TheVariants.{Another, Unbegun, Count, Damaged, Moved, Failed}
use Rattle.scp_live_log.specs.declared.wanted.Unfit.{Unfit}
use Rattle.scp_live_log.specs.declared.wanted.Unfit.TheVariants.{NoEvent, SendsOtherwise}
use Rattle.scp_live_lines.specs.declared.asked.Asked.{Asked}
use Rattle.scp_report.specs.scp_device.specs.declared.bad.WordFault.{WordFault}
use Rattle.scp_report.specs.scp_device.specs.declared.bad.WordFault.TheVariants.{Bad}
use Rattle.scp_report.specs.scp_device.specs.declared.bad.BadWord.{BadWord}
use Rattle.scp_live_lines.specs.Results.{IfRefusal}
use Rattle.scp_again.specs.scp_slot.specs.declared.timers.Timer.{Timer}
use Rattle.scp_live_lines.specs.declared.asked.Asked.TheVariants.{Event, Again, State, Report, Stand, Applied, Nothing}
use Rattle.scp_live_lines.specs.Says.{Says}
use Rattle.scp_live.specs.Live.{LiveView, IsTold, told_of}
use Rattle.scp_live.specs.Replays.{IsReplayed, AreReplayed, IsNoEvent, SaysNoEvent, IsUnfit, IsUnfitAt, IsPlayFault}
use Rattle.scp_live.specs.inside.Replaying.{IsReplayFault}
use Rattle.scp_turn.proofs.Causes.{clash}
use Rattle.scp_live.proofs.Going.{Heard, heard_as, heard_then, watched_on, heard_running, found_later, found_behind, none_found}
use Rattle.scp_live.proofs.Texts.{ok_isnt, same_fault}

pub replayed_none : (v : LiveView) → AreReplayed [] v [] v
replayed_none v = (refl, refl)

pub replayed_one : (entry : EntryView) (a b : LiveView) (x : List Exchange) → IsReplayed entry a x b → AreReplayed (entry ∷ []) a x b
replayed_one entry a b x is = record { mid = b; heard_first = x; heard_next = []; heard_is = sym (append-nil x); first = is; next = (refl, refl) }

pub replayed_on : (entries more : List EntryView) (a b c : LiveView) (x y : List Exchange) → AreReplayed entries a x b → AreReplayed more b y c → AreReplayed (entries ++ more) a (x ++ y) c
replayed_on [] more a b c x y p q =
    let r : AreReplayed more a y c = subst (λ (v : LiveView). AreReplayed more v y c) p.1 q in
    subst (λ (h : List Exchange). AreReplayed more a (h ++ y) c) (sym p.0) r
replayed_on (entry ∷ entries) more a b c x y p q = record {
  mid = p.mid;
  heard_first = p.heard_first;
  heard_next = p.heard_next ++ y;
  heard_is = ap (λ (h : List Exchange). h ++ y) p.heard_is ∙ append_assoc p.heard_first p.heard_next y;
  first = p.first;
  next = replayed_on entries more p.mid b c p.heard_next y p.next q;
}

-- ---- one entry, and one more

-- what is told of an event is told behind any text
pub told_apart : (event : Happening) (names : List (List ℕ)) (before after' : List Timer) (old new : NodeView) (heard : List Exchange) (text longer digest : List ℕ) → IsTold event names before after' old heard new text longer digest → (told : List ℕ) × IsTold event names before after' old heard new [] told digest × (longer ≡ text ++ told)
told_apart event names before after' old new heard text longer digest t =
    (told_of event names before after' t.reply old heard new, record { reply = t.reply; episode = t.episode; lines = refl; digest_is = t.digest_is }, t.lines)

-- a full journal is reported exactly if one was found: of an entry, and of an event
abbrev pub EntryFull : Result (Unit {0}) LogFault → List Exchange → Type 0
EntryFull r heard = (r ≡ Err (Failed JournalFull)) ↔ (finds_full heard ≡ true)

abbrev pub EventFull : Result Hash Fault → List Exchange → Type 0
EventFull r heard = IsErrOf r JournalFull ↔ (finds_full heard ≡ true)

-- an event that was played, of which exactly that was sent whose digest an entry has; and of what was heard this holds besides
pub replays : (entry : EntryView) (event : Happening) (u v : LiveView) (text longer digest other : List ℕ) (b : Bool) (hash : Hash) (E : NodeView → List Exchange → NodeView → Type 0) → b ≡ true → b ≡ pointwise nat_eq digest other → other ≡ entry.sent → Says u.names entry.line (Event event) → v.names ≡ u.names → v.nodes ≡ u.nodes
    → Goes u.node v.node (λ a heard n. IsTold event u.names u.timers v.timers a heard n text longer digest × E a heard n × EventFull (Ok hash) heard) → Heard u.node v.node (λ heard. IsReplayed entry u heard v × E u.node heard v.node × EventFull (Ok hash) heard)
replays entry event u v text longer digest other b hash E holds eq is says names nodes g =
    let same : digest ≡ entry.sent = (bytes_decides digest other).0 (sym eq ∙ holds) ∙ is in
    let t = told_apart event u.names u.timers v.timers u.node v.node g.heard text longer digest g.is.0 in
    record {
      heard = g.heard;
      is = (record { event = event; says = says; told = t.0; tells = subst (λ (d : List ℕ). IsTold event u.names u.timers v.timers u.node g.heard v.node [] t.0 d) same t.1; names = names; nodes = nodes }, g.is.1, g.is.2);
      does = g.does;
      theorem = g.theorem;
    }

-- one entry more
pub one_replayed : {W : Type 0} (Note : Noting W) (entries : List EntryView) (place : ℕ) (entry : EntryView) (u v w : LiveView) (first mid last : W) → place < length entries → entry ≡ get_or entries place entry
    → Heard u.node v.node (λ heard. AreReplayed (take place entries) u heard v × Watched Note 1 first u.node heard v.node mid) → Heard v.node w.node (λ heard. IsReplayed entry v heard w × Watched Note 1 mid v.node heard w.node last)
    → Heard u.node w.node (λ heard. AreReplayed (take (place + 1) entries) u heard w × Watched Note 1 first u.node heard w.node last)
one_replayed {W} Note entries place entry u v w first mid last lt is f g =
    let more : take (place + 1) entries ≡ take place entries ++ entry ∷ [] = take_more entries place entry lt is in
    heard_then u.node v.node w.node (λ heard. AreReplayed (take place entries) u heard v × Watched Note 1 first u.node heard v.node mid) (λ heard. IsReplayed entry v heard w × Watched Note 1 mid v.node heard w.node last)
    (λ heard. AreReplayed (take (place + 1) entries) u heard w × Watched Note 1 first u.node heard w.node last)
    (λ x y p q. (
      subst (λ (l : List EntryView). AreReplayed l u (x ++ y) w) (sym more) (replayed_on (take place entries) (entry ∷ []) u v w x y p.0 (replayed_one entry v w y q.0)),
      watched_on Note 1 first mid last u.node v.node w.node x y p.1 q.1,
    )) f g
  where
    take_more : (entries : List EntryView) (place : ℕ) (entry : EntryView) → place < length entries → entry ≡ get_or entries place entry → take (place + 1) entries ≡ take place entries ++ entry ∷ []
    take_more entries place entry lt is =
        let e : place + 1 ≡ suc place = omega arith in
        ap (λ (n : ℕ). take n entries) e ∙ take-suc entries place entry lt ∙ ap (λ (x : EntryView). take place entries ++ x ∷ []) (sym is)

-- ---- what is there, or isn't

pub some_there : {X : Type 0} (o : Option X) (x : X) (Is : X → Type 0) → o ≡ Some x → IfSome o Is → Is x
some_there o x Is at told = subst (λ p. IfSome p Is) at told

pub none_there : {X : Type 0} (o : Option X) (P : Type 0) → o ≡ None → IfNone o P → P
none_there o P at none = subst (λ p. IfNone p P) at none

-- ---- a line that says no event

no_event : (asked : Asked) → ((event : Happening) → asked ≡ Event event → ⊥) → IsNoEvent asked
no_event (Event event) other = absurd (other event refl)
no_event (Again link) other = tt
no_event State other = tt
no_event Report other = tt
no_event Stand other = tt
no_event (Applied slot) other = tt
no_event Nothing other = tt

pub asks_else : (asked : Asked) (names same : List (List ℕ)) (line : List ℕ) → names ≡ same → Says names line asked → ((event : Happening) → asked ≡ Event event → ⊥) → SaysNoEvent same line
asks_else asked names same line is says other = inl (asked, subst (λ (n : List (List ℕ)). Says n line asked) is says, no_event asked other)

pub says_nothing : (bad : WordFault) (refusal : BadWord) (names same : List (List ℕ)) (line : List ℕ) → bad ≡ Bad refusal → names ≡ same → IfRefusal bad (λ r. (asked : Asked) → ¬ (Says names line asked)) → SaysNoEvent same line
says_nothing bad refusal names same line at is nothing =
    let none : (asked : Asked) → ¬ (Says names line asked) = subst (λ (b : WordFault). IfRefusal b (λ r. (asked : Asked) → ¬ (Says names line asked))) at nothing in
    inr (subst (λ (n : List (List ℕ)). (asked : Asked) → ¬ (Says n line asked)) is none)

-- ---- an entry that can't be played

-- what comes of an entry: it is played, it is unfit, or the journal was full
abbrev pub Comes : Result (Unit {0}) LogFault → ℕ → EntryView → LiveView → List Exchange → LiveView → Type 0
Comes r place entry u heard v = OnOk r (IsReplayed entry u heard v) × ((why : Unfit) → r ≡ Err (Damaged place why) → IsUnfit why entry u heard v) × EntryFull r heard

-- where an event was played, no full journal was found
none_in : (hash : Hash) (heard : List Exchange) → EventFull (Ok hash) heard → finds_full heard ≡ true → ⊥
none_in hash heard told found = ok_isnt (Ok hash) hash JournalFull refl (told.1 found)

failed_same : (f g : Fault) → IsErrOf {T = Unit {0}} (Err (Failed f)) (Failed g) → f ≡ g
failed_same f g e = cc

-- why no event was read
pub event_fault : (f : LogFault) (place : ℕ) → (f ≡ Failed NoMemory) ⊎ (f ≡ Damaged place NoEvent) → IsReplayFault place f
event_fault f place only =
    ⊎_elim
    (λ (e : f ≡ Failed NoMemory). subst (λ (g : LogFault). IsReplayFault place g) (sym e) (inl refl))
    (λ (e : f ≡ Damaged place NoEvent). subst (λ (g : LogFault). IsReplayFault place g) (sym e) refl)
    only

pub event_isnt_full : (f : LogFault) (place : ℕ) → (f ≡ Failed NoMemory) ⊎ (f ≡ Damaged place NoEvent) → f ≡ Failed JournalFull → ⊥
event_isnt_full f place only full =
    ⊎_elim
    (λ (e : f ≡ Failed NoMemory). let no : Failed NoMemory ≡ Failed JournalFull = sym e ∙ full in absurd cc)
    (λ (e : f ≡ Damaged place NoEvent). let no : Damaged place NoEvent ≡ Failed JournalFull = sym e ∙ full in absurd cc)
    only

-- why an event wasn't played at a node that ran
pub act_fault : (f : Fault) (a : NodeView) → a.failed ≡ false → (IsErrOf {T = Hash} (Err f) faults.Failed ↔ (a.failed ≡ true)) → (f ≡ NoMemory) ⊎ ((f ≡ JournalFull) ⊎ (f ≡ faults.Failed)) → (f ≡ NoMemory) ⊎ (f ≡ JournalFull)
act_fault f a runs failed only =
    ⊎_elim
    (λ (e : f ≡ NoMemory). inl e)
    (λ (more : (f ≡ JournalFull) ⊎ (f ≡ faults.Failed)).
    ⊎_elim
    (λ (e : f ≡ JournalFull). inr e)
    (λ (e : f ≡ faults.Failed). absurd (clash a.failed runs (failed.0 (ap (λ (x : Fault). Err x) e))))
    more)
    only

-- an entry from which no event was read says none
unsaid_why : (f : LogFault) (place : ℕ) (why : Unfit) → f ≡ Damaged place why → (f ≡ Failed NoMemory) ⊎ (f ≡ Damaged place NoEvent) → why ≡ NoEvent
unsaid_why f place why is only =
    ⊎_elim
    (λ (e : f ≡ Failed NoMemory). let no : Damaged place why ≡ Failed NoMemory = sym is ∙ e in absurd cc)
    (λ (e : f ≡ Damaged place NoEvent). let same : Damaged place why ≡ Damaged place NoEvent = sym is ∙ e in cc)
    only

pub no_event_said : (f : LogFault) (place : ℕ) (entry : EntryView) (u : LiveView) → (f ≡ Damaged place NoEvent → SaysNoEvent u.names entry.line) → (f ≡ Failed NoMemory) ⊎ (f ≡ Damaged place NoEvent) → (f ≡ Failed JournalFull → ⊥) → Comes (Err f) place entry u [] u
no_event_said f place entry u unsaid only never = (
  tt,
  λ why is.
      let same : f ≡ Damaged place why = cc in
      let here : why ≡ NoEvent = unsaid_why f place why same only in
      subst (λ (w : Unfit). IsUnfit w entry u [] u) (sym here) (unsaid (same ∙ ap (λ (w : Unfit). Damaged place w) here)),
  (λ full. absurd (never (let same : f ≡ Failed JournalFull = cc in same)), λ found. absurd (none_found found)),
)

pub not_played : (f : Fault) (place : ℕ) (entry : EntryView) (u v : LiveView) (E P : NodeView → List Exchange → NodeView → Type 0) → Goes u.node v.node (λ a heard n. P a heard n × E a heard n × EventFull (Err f) heard) → Heard u.node v.node (λ heard. Comes (Err (Failed f)) place entry u heard v × E u.node heard v.node)
not_played f place entry u v E P g = record {
  heard = g.heard;
  is = (
    (
      tt,
      λ why is. absurd cc,
      (
        λ full. g.is.2.0 (ap (λ (x : Fault). Err x) (failed_same f JournalFull full)),
        λ found. ap (λ (x : Fault). Err (Failed x)) (same_fault f JournalFull (g.is.2.1 found)),
      ),
    ),
    g.is.1,
  );
  does = g.does;
  theorem = g.theorem;
}

pub is_played : (place : ℕ) (entry : EntryView) (u v : LiveView) (hash : Hash) (E : NodeView → List Exchange → NodeView → Type 0) → Heard u.node v.node (λ heard. IsReplayed entry u heard v × E u.node heard v.node × EventFull (Ok hash) heard) → Heard u.node v.node (λ heard. Comes (Ok tt) place entry u heard v × E u.node heard v.node)
is_played place entry u v hash E g = record {
  heard = g.heard;
  is = ((g.is.0, λ why is. absurd cc, (λ full. absurd cc, λ found. absurd (none_in hash g.heard g.is.2 found))), g.is.1);
  does = g.does;
  theorem = g.theorem;
}

-- an event that was played, of which something else was sent
pub plays_otherwise : (place : ℕ) (entry : EntryView) (event : Happening) (u v : LiveView) (text longer digest other : List ℕ) (b : Bool) (hash : Hash) (E : NodeView → List Exchange → NodeView → Type 0) → b ≡ false → b ≡ pointwise nat_eq digest other → other ≡ entry.sent → Says u.names entry.line (Event event)
    → Goes u.node v.node (λ a heard n. IsTold event u.names u.timers v.timers a heard n text longer digest × E a heard n × EventFull (Ok hash) heard) → Heard u.node v.node (λ heard. Comes (Err (Damaged place SendsOtherwise)) place entry u heard v × E u.node heard v.node)
plays_otherwise place entry event u v text longer digest other b hash E differs eq is says g =
    let t = told_apart event u.names u.timers v.timers u.node v.node g.heard text longer digest g.is.0 in
    let differ : digest ≢ entry.sent = λ same. absurd (let e : true ≡ false = sym ((bytes_decides digest other).1 (same ∙ sym is)) ∙ sym eq ∙ differs in cc) in
    record {
      heard = g.heard;
      is = (
        (
          tt,
          λ why e.
              let here : why ≡ SendsOtherwise = cc in
              subst (λ (w : Unfit). IsUnfit w entry u g.heard v) (sym here) (record { event = event; says = says; told = t.0; digest = digest; tells = t.1; other = differ }),
          (λ full. absurd cc, λ found. absurd (none_in hash g.heard g.is.2 found)),
        ),
        g.is.1,
      );
      does = g.does;
      theorem = g.theorem;
    }

-- entries were played, and then one failed
unfit_at : (f : LogFault) (entries : List EntryView) (place n : ℕ) (why : Unfit) (entry : EntryView) (u v w : LiveView) (x y : List Exchange) → place < length entries → entry ≡ get_or entries place entry → IsReplayFault place f → f ≡ Damaged n why → AreReplayed (take place entries) u x v → (f ≡ Damaged place why → IsUnfit why entry v y w) → IsUnfitAt entries n why u (x ++ y) w
unfit_at f entries place n why entry u v w x y lt is fault same played unfit =
    let here : n ≡ place = subst (λ (g : LogFault). IsReplayFault place g) same fault in
    subst (λ (m : ℕ). IsUnfitAt entries m why u (x ++ y) w) (sym here) (record {
      entry = entry;
      there = slice_get_read entries (length entries) place entry refl lt is;
      played = record { mid = v; heard_first = x; heard_next = y; heard_is = refl; first = played; next = unfit (same ∙ ap (λ (m : ℕ). Damaged m why) here) };
    })

pub refused_at : {W : Type 0} (Note : Noting W) (f : LogFault) (entries : List EntryView) (place : ℕ) (entry : EntryView) (u v w : LiveView) (first mid last : W) → place < length entries → entry ≡ get_or entries place entry → IsReplayFault place f → v.node.failed ≡ false
    → Heard u.node v.node (λ heard. AreReplayed (take place entries) u heard v × Watched Note 1 first u.node heard v.node mid) → Heard v.node w.node (λ heard. Comes (Err f) place entry v heard w × Watched Note 1 mid v.node heard w.node last)
    → Heard u.node w.node (λ heard. (Unit {0} × ((n : ℕ) (why : Unfit) → IsErrOf {T = Unit {0}} (Err f) (Damaged n why) → IsUnfitAt entries n why u heard w) × EntryFull (Err f) heard) × Watched Note 1 first u.node heard w.node last)
refused_at {W} Note f entries place entry u v w first mid last lt is fault runs p q =
    heard_then u.node v.node w.node (λ heard. (AreReplayed (take place entries) u heard v × Watched Note 1 first u.node heard v.node mid) × (finds_full heard ≡ true → ⊥)) (λ heard. Comes (Err f) place entry v heard w × Watched Note 1 mid v.node heard w.node last)
    (λ heard. (Unit {0} × ((n : ℕ) (why : Unfit) → IsErrOf {T = Unit {0}} (Err f) (Damaged n why) → IsUnfitAt entries n why u heard w) × EntryFull (Err f) heard) × Watched Note 1 first u.node heard w.node last)
    (λ x y a b. (
      (
        tt,
        λ n why e. unfit_at f entries place n why entry u v w x y lt is fault (let same : f ≡ Damaged n why = cc in same) a.0.0 (λ same. b.0.1 why (ap (λ (g : LogFault). Err g) same)),
        (λ full. found_later x y (b.0.2.0 full), λ found. b.0.2.1 (found_behind x y a.1 found)),
      ),
      watched_on Note 1 first mid last u.node v.node w.node x y a.0.1 b.1,
    ))
    (heard_running u.node v.node (λ heard. AreReplayed (take place entries) u heard v × Watched Note 1 first u.node heard v.node mid) runs p) q

-- all of them were played
pub all_replayed : {W : Type 0} (Note : Noting W) (entries : List EntryView) (place : ℕ) (u v : LiveView) (first last : W) → length entries ≤ place → v.node.failed ≡ false
    → Heard u.node v.node (λ heard. AreReplayed (take place entries) u heard v × Watched Note 1 first u.node heard v.node last)
    → Heard u.node v.node (λ heard. (AreReplayed entries u heard v × ((n : ℕ) (why : Unfit) → IsErrOf {T = Unit {0}} (Ok tt) (Damaged n why) → IsUnfitAt entries n why u heard v) × EntryFull (Ok tt) heard) × Watched Note 1 first u.node heard v.node last)
all_replayed {W} Note entries place u v first last le runs p =
    heard_as u.node v.node (λ heard. (AreReplayed (take place entries) u heard v × Watched Note 1 first u.node heard v.node last) × (finds_full heard ≡ true → ⊥))
    (λ heard. (AreReplayed entries u heard v × ((n : ℕ) (why : Unfit) → IsErrOf {T = Unit {0}} (Ok tt) (Damaged n why) → IsUnfitAt entries n why u heard v) × EntryFull (Ok tt) heard) × Watched Note 1 first u.node heard v.node last)
    (λ heard a. (
      (
        subst (λ (l : List EntryView). AreReplayed l u heard v) (take_all place entries le) a.0.0,
        λ n why is. absurd cc,
        (λ full. absurd cc, λ found. absurd (a.1 found)),
      ),
      a.0.1,
    ))
    (heard_running u.node v.node (λ heard. AreReplayed (take place entries) u heard v × Watched Note 1 first u.node heard v.node last) runs p)

-- an entry that isn't played refuses the replay
pub play_fault : (f : LogFault) (place : ℕ) → IsReplayFault place f → IsPlayFault f
play_fault Another place fault = absurd fault
play_fault Unbegun place fault = absurd fault
play_fault (Count n wanted) place fault = absurd fault
play_fault (Damaged at why) place fault = tt
play_fault Moved place fault = absurd fault
play_fault (Failed f) place fault = fault
