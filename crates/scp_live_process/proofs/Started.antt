-- A node that starts with a log, and then serves its host.
use Rattle.std.proofs.Common.{◌≡◌, ℕ, Bool, true, false, List, [], ◌∷◌, ◌++◌, Option, None, Some, refl, sym, ◌∙◌, ap, subst, append_assoc, append-nil, arith, ◌+◌, length-append, ⊎_elim}
use Rattle.std.specs.Prelude.{◌<◌, ◌⊎◌, ◌-◌, ◌&&◌, length, map, nat_lt, slice_get, if◌then◌else◌, Err, IsErrOf}
use Rattle.std.proofs.lemmas.List.{map-append}
use Rattle.std.proofs.lemmas.Bool.Decides.{nat_tests}
use Rattle.scp_stand_node.specs.scp_types.specs.declared.fault.Fault.{Fault}
use Rattle.scp_stand_node.specs.scp_types.specs.declared.fault.Fault.TheVariants.{NoMemory, JournalFull, BadConfig}
use Rattle.scp_stand_node.specs.scp_core.specs.declared.event.Event.{Event as Happening}
use Rattle.scp_stand_node.specs.scp_core.specs.History.{Exchange}
use Rattle.scp_stand_node.specs.scp_core.specs.Node.{LinkView, accepts_at, accepts_of, room_at, room_of}
use Rattle.scp_stand_node.specs.scp_core.specs.Kv.{NodeView}
use Rattle.scp_stand_node.specs.scp_turn.specs.Turn.{links_of}
use Rattle.scp_batches.specs.scp_live_log.specs.declared.kept.Kept.{Kept}
use Rattle.scp_batches.specs.scp_live_log.specs.declared.wanted.Wanted.{Wanted}
use Rattle.scp_batches.specs.scp_live_log.specs.declared.wanted.Wanted.TheVariants.{New}
use Rattle.scp_batches.specs.scp_live_log.specs.Disk.{StartsWith}
use Rattle.scp_batches.specs.scp_live_log.specs.Wanted.{Fits}
use Rattle.scp_batches.specs.scp_live_log.specs.Kept.{IsSettled, IsRecovered, IsTornBy}
use Rattle.scp_batches.specs.scp_live_log.specs.Log.{EntryView, Marked, marked_from, batch_of, entries_of}
use Rattle.scp_live.specs.scp_live_lines.specs.declared.asked.Asked.TheVariants.{Event}
use Rattle.scp_live.specs.scp_live_lines.specs.Says.{Says}
use Rattle.scp_stand_node.specs.scp_device.specs.Device.{Gains}
use Rattle.scp_live.specs.Live.{LiveView}
use Rattle.scp_live_process.specs.declared.starting.Restarted.{Restarted}
use Rattle.scp_live_process.specs.Answers.{IsPlayed}
use Rattle.scp_live.specs.Replays.{AreReplayed}
use Rattle.scp_live_process.specs.Closing.{is_open_in, is_open_at, open_links, close_line, AreClosed}
use Rattle.scp_live_process.specs.Serving.{HasServed}
use Rattle.scp_live_process.specs.Starting.{HasRead, IsRestarted, HasRun, greeting}
use Rattle.scp_live_process.specs.Adding.{BatchView, Adds}
use Rattle.scp_live_process.specs.inside.Replaying.{AddsClose, AddsCloses}
use Rattle.scp_live.proofs.Replaying.{replayed_none, replayed_one, replayed_on}

-- ---- closes

-- an event that a link's line says, and that was played
pub close_added : (event : Happening) (link : ℕ) (line : List ℕ) (u v : LiveView) (x : List Exchange) (a b : BatchView) → line ≡ close_line u.names link → Says u.names line (Event event) → Adds (IsPlayed event line) u x v a b → AddsClose link u x v a b × (v.names ≡ u.names)
close_added event link line u v x a b is says p =
    let entry : EntryView = record { line = line; sent = p.is.digest } in (
      record {
        entry = entry;
        line = is;
        replayed = record { event = event; says = says; told = p.told; tells = p.is.tells; names = p.is.names; nodes = p.is.nodes };
        entries = p.entries ∙ ap (λ (l : List EntryView). a.entries ++ l) p.is.entry;
      },
      p.is.names,
    )

pub none_closed : (v : LiveView) (b : BatchView) → AddsCloses [] v [] v b b
none_closed v b = record { kept = []; lines = refl; replayed = replayed_none v; entries = sym (append-nil b.entries) }

pub one_closed : (links : List ℕ) (link : ℕ) (u v w : LiveView) (x y : List Exchange) (a b c : BatchView) → AddsCloses links u x v a b → v.names ≡ u.names → AddsClose link v y w b c → AddsCloses (links ++ link ∷ []) u (x ++ y) w a c
one_closed links link u v w x y a b c p names q = record {
  kept = p.kept ++ q.entry ∷ [];
  lines = map-append (λ (e : EntryView). e.line) p.kept (q.entry ∷ []) ∙ ap (λ (l : List (List ℕ)). l ++ q.entry.line ∷ []) p.lines
      ∙ ap (λ (l : List ℕ). map (close_line u.names) links ++ l ∷ []) (q.line ∙ ap (λ (n : List (List ℕ)). close_line n link) names)
      ∙ sym (map-append (close_line u.names) links (link ∷ []));
  replayed = replayed_on p.kept (q.entry ∷ []) u v w x y p.replayed (replayed_one q.entry v w y q.replayed);
  entries = q.entries ∙ ap (λ (l : List EntryView). l ++ q.entry ∷ []) p.entries ∙ append_assoc a.entries p.kept (q.entry ∷ []);
}

pub are_closed : (links : List ℕ) (u v : LiveView) (x : List Exchange) (empty after' : BatchView) (closes : List EntryView) → empty ≡ record { text = []; entries = [] } → closes ≡ after'.entries → links ≡ open_links u.node (links_of u.node) → ((l : ℕ) → l < links_of v.node → is_open_at v.node l ≡ false) → AddsCloses links u x v empty after' → AreClosed closes u x v
are_closed links u v x empty after' closes none es are shut a =
    let kept : closes ≡ a.kept = es ∙ a.entries ∙ ap (λ (b : BatchView). b.entries ++ a.kept) none in
    record {
      lines = ap (λ (l : List EntryView). map (λ (e : EntryView). e.line) l) kept ∙ a.lines ∙ ap (λ (l : List ℕ). map (close_line u.names) l) are;
      replayed = subst (λ (l : List EntryView). AreReplayed l u x v) (sym kept) a.replayed;
      closed = shut;
    }

-- ---- links that are open

pub not_added : (b : Bool) (link : ℕ) (links : List ℕ) → b ≡ false → links ≡ links ++ (if b then link ∷ [] else [])
not_added b link links is = sym (append-nil links) ∙ ap (λ (c : Bool). links ++ (if c then link ∷ [] else [])) (sym is)

pub is_added : (b : Bool) (link : ℕ) (links more : List ℕ) → b ≡ true → more ≡ links ++ link ∷ [] → more ≡ links ++ (if b then link ∷ [] else [])
is_added b link links more is added = added ∙ ap (λ (c : Bool). links ++ (if c then link ∷ [] else [])) (sym is)

-- a link that has room and takes no message isn't open
shut_by : (opened room : Bool) → (opened && room) ≡ false → room ≡ true → opened ≡ false
shut_by true true never some = absurd (let e : true ≡ false = never in cc)
shut_by true false never some = absurd (let e : false ≡ true = some in cc)
shut_by false room never some = refl

has_room : (queued room : ℕ) → 0 < room - queued → nat_lt queued room ≡ true
has_room queued room some = let fits : queued < room = omega arith in grind (arith, nat_tests)

shut_in : (o : Option LinkView) → accepts_of o ≡ false → 0 < room_of o → is_open_in o ≡ false
shut_in None never some = refl
shut_in (Some k) never some = shut_by k.is_open (nat_lt (length k.queue) k.room) never (has_room (length k.queue) k.room some)

accepts_alive : (failed accepts : Bool) → failed ≡ false → (if failed then false else accepts) ≡ false → accepts ≡ false
accepts_alive true accepts runs never = absurd (let e : true ≡ false = runs in cc)
accepts_alive false accepts runs never = never

pub shut_at : (v : NodeView) (l : ℕ) → v.failed ≡ false → accepts_at v l ≡ false → 0 < room_at v l → is_open_at v l ≡ false
shut_at v l runs never some = shut_in (slice_get v.links l) (accepts_alive v.failed (accepts_of (slice_get v.links l)) runs never) some

pub event_not_full : (f : Fault) → (f ≡ NoMemory) ⊎ (f ≡ BadConfig) → IsErrOf {T = Unit {0}} (Err f) JournalFull → ⊥
event_not_full f cause full = let same : f ≡ JournalFull = cc in ⊎_elim (λ (e : f ≡ NoMemory). absurd cc) (λ (e : f ≡ BadConfig). absurd cc) cause

-- ---- the log

entries_from : (begins : Bool) (entries : List EntryView) → entries_of (marked_from begins entries) ≡ entries
entries_from begins [] = refl
entries_from begins (e ∷ entries) = ap (λ (l : List EntryView). e ∷ l) (entries_from false entries)

map_on : (ms ns : List Marked) → entries_of (ms ++ ns) ≡ entries_of ms ++ entries_of ns
map_on [] ns = refl
map_on (m ∷ ms) ns = ap (λ (l : List EntryView). m.entry ∷ l) (map_on ms ns)

recovered_more : {L : Type 0} (holds may_leave : L → List ℕ → Type 0) (header : List ℕ) (entries closes : List EntryView) (kept kept' : Kept L) → IsRecovered holds may_leave header entries kept → ((header : List ℕ) (ms : List Marked) → IsSettled holds may_leave header ms kept → IsSettled holds may_leave header (ms ++ batch_of closes) kept') → IsRecovered holds may_leave header (entries ++ closes) kept'
recovered_more holds may_leave header entries closes kept kept' r more = record {
  marked = r.marked ++ batch_of closes;
  are = map_on r.marked (batch_of closes) ∙ ap (λ (l : List EntryView). l ++ entries_of (batch_of closes)) r.are ∙ ap (λ (l : List EntryView). entries ++ l) (entries_from true closes);
  settled = more header r.marked r.settled;
}

length_on : (xs ys : List EntryView) (n m : ℕ) → n ≡ length xs → m ≡ length ys → n + m ≡ length (xs ++ ys)
length_on xs ys n m p q = grind (arith, length-append)

pub restarted : {L : Type 0} {wanted : Wanted} (holds may_leave : L → List ℕ → Type 0) (header : List ℕ) (log mid log' : Kept L) (u v w : LiveView) (x y : List Exchange) (entries closes : List EntryView) (n m torn : ℕ)
    → AreReplayed entries u x v → AreClosed closes v y w → n ≡ length entries → m ≡ length closes → HasRead holds may_leave header entries log mid
    → Fits wanted (length entries) → ((c : List ℕ) → holds log.log c → StartsWith header c ⊎ ((wanted ≡ New) × StartsWith c header)) → ((c : List ℕ) → holds log.log c → IsTornBy header entries torn c)
    → ((header : List ℕ) (ms : List Marked) → IsSettled holds may_leave header ms mid → IsSettled holds may_leave header (ms ++ batch_of closes) log')
    → IsRestarted holds may_leave wanted header log log' u (x ++ y) w (record { count = n + m; torn = torn; behind = n })
restarted holds may_leave header log mid log' u v w x y entries closes n m torn played shut count counts read fits begun cut more = record {
  entries = entries;
  closes = closes;
  played = record { mid = v; heard_first = x; heard_next = y; heard_is = refl; first = played; next = shut };
  count_is = length_on entries closes n m count counts;
  wanted_is = fits;
  begun = begun;
  behind_is = count;
  torn = cut;
  all = read.all;
  recovered = λ c h. recovered_more holds may_leave header entries closes mid log' (read.recovered c h) more;
}

-- ---- the whole

pub has_run : {L : Type 0} {wanted : Wanted} (holds may_leave : L → List ℕ → Type 0) (header : List ℕ) (left written greeted longer : Option (List ℕ)) (log ready log' : Kept L) (u v w : LiveView) (x y : List Exchange) (found : Restarted) (text : List ℕ) → IsRestarted holds may_leave wanted header log ready u x v found → text ≡ greeting found v → Gains written text greeted → HasServed holds may_leave left greeted longer ready log' v y w → HasRun holds may_leave wanted header left written longer log log' u (x ++ y) w
has_run holds may_leave header left written greeted longer log ready log' u v w x y found text restarted is wrote served = record {
  started = v;
  ready = ready;
  found = found;
  greeted = greeted;
  heard_first = x;
  heard_next = y;
  heard_is = refl;
  restarted = restarted;
  greets = subst (λ (t : List ℕ). Gains written t greeted) is wrote;
  served = served;
}
