-- Why a node doesn't start, and what stays of its log.
use Rattle.std.proofs.Common.{◌≡◌, ℕ, true, List, [], ◌++◌, refl, sym, ◌∙◌, ap, subst, append-nil, inl, inr, ⊎_elim}
use Rattle.std.specs.Prelude.{◌≤◌, ◌≢◌, ◌⊎◌, ◌↔◌, Ok, Err, IsErrOf}
use Rattle.scp_stand_node.specs.scp_types.specs.declared.fault.Fault.{Fault}
use Rattle.scp_stand_node.specs.scp_types.specs.declared.fault.Fault.TheVariants as fault
use Rattle.scp_stand_node.specs.scp_device.specs.Device.{Fails}
use Rattle.scp_stand_node.specs.scp_core.specs.History.{Exchange}
use Rattle.scp_stand_node.specs.scp_turn.specs.Turn.{links_of}
use Rattle.scp_stand_node.specs.scp_turn.specs.Episode.{finds_full}
use Rattle.scp_batches.specs.scp_live_log.specs.declared.kept.Kept.{Kept}
use Rattle.scp_batches.specs.scp_live_log.specs.declared.kept.LogFault.{LogFault}
use Rattle.scp_batches.specs.scp_live_log.specs.declared.kept.LogFault.TheVariants.{Another, Unbegun, Count, Damaged, Moved, Failed}
use Rattle.scp_batches.specs.scp_live_log.specs.declared.wanted.Unfit.{Unfit}
use Rattle.scp_batches.specs.scp_live_log.specs.declared.wanted.Unfit.TheVariants.{Chain, NoEvent, SendsOtherwise}
use Rattle.scp_batches.specs.scp_live_log.specs.declared.wanted.Wanted.{Wanted}
use Rattle.scp_batches.specs.scp_live_log.specs.declared.wanted.Wanted.TheVariants.{New}
use Rattle.scp_batches.specs.scp_live_log.specs.Wanted.{Fits}
use Rattle.scp_batches.specs.scp_live_log.specs.Disk.{StartsWith, Only, LeavesOnly}
use Rattle.scp_batches.specs.scp_live_log.specs.Kept.{IsAnother, IsUnbegun, HasEntries, IsDamaged}
use Rattle.scp_batches.specs.scp_live_log.specs.Log.{EntryView, Marked, AreEntries, entries_of, log_of}
use Rattle.scp_live.specs.Live.{LiveView}
use Rattle.scp_live.specs.Replays.{AreReplayed, IsUnfitAt, IsPlayFault}
use Rattle.scp_live_process.specs.Closing.{open_links, MayBeOpen, HasNoCloseLine}
use Rattle.scp_live_process.specs.Ending.{IsStartFault, StaysKept}
use Rattle.scp_live_process.specs.Starting.{HasRead}
use Rattle.scp_live_process.specs.inside.Batches.{StaysDurable}
use Rattle.scp_live.proofs.Going.{found_later, found_behind}

-- ---- what stays

pub stays_unread : {L : Type 0} (holds may_leave : L → List ℕ → Type 0) (moment : L → ℕ) (left_since : L → ℕ → List ℕ → Type 0) (header : List ℕ) (log log' : Kept L)
    → ((file : L) (t : ℕ) (c : List ℕ) → t ≤ moment file → may_leave file c → left_since file t c)
    → ((ms : List Marked) (rest : List ℕ) → AreEntries ms → holds log.log (log_of header ms ++ rest) → Only (log_of header ms ++ rest) (may_leave log.log) → LeavesOnly moment left_since log.log log'.log (StartsWith (log_of header ms)))
    → StaysKept holds may_leave header log log'
stays_unread holds may_leave moment left_since header log log' counts each ms rest are h only c may =
    let leaves = each ms rest are h only in
    record {
      marked = ms;
      more = [];
      are = sym (append-nil (entries_of ms));
      starts = leaves.each c (counts log'.log (moment log.log) c leaves.later may);
    }

pub stays_read : {L : Type 0} (holds may_leave : L → List ℕ → Type 0) (header : List ℕ) (log mid log' : Kept L) (entries : List EntryView) → HasRead holds may_leave header entries log mid → StaysDurable holds may_leave mid log' → StaysKept holds may_leave header log log'
stays_read holds may_leave header log mid log' entries read still ms rest are h only c may =
    let r = read.recovered (log_of header ms ++ rest) h in
    let a = read.all ms rest are h in
    record { marked = r.marked; more = a.more; are = r.are ∙ a.all; starts = still header r.marked r.settled c may }

-- ---- why it doesn't start

-- the log isn't read
pub recover_fault : {L T : Type 0} (wanted : Wanted) (holds may_leave : L → List ℕ → Type 0) (faults : L → ℕ) (header : List ℕ) (log log' : Kept L) (u : LiveView) (f : LogFault)
    → (IsErrOf {T = T} (Err f) Another → (c : List ℕ) → holds log.log c → IsAnother header c)
    → (IsErrOf {T = T} (Err f) Unbegun → (wanted ≢ New) × ((c : List ℕ) → holds log.log c → IsUnbegun header c))
    → ((n : ℕ) (w : Wanted) → IsErrOf {T = T} (Err f) (Count n w) → (w ≡ wanted) × ¬ (Fits wanted n) × ((c : List ℕ) → holds log.log c → HasEntries header n c))
    → ((n : ℕ) (why : Unfit) → IsErrOf {T = T} (Err f) (Damaged n why) → (why ≡ Chain) × ((c : List ℕ) → holds log.log c → IsDamaged header n c))
    → (IsErrOf {T = T} (Err f) Moved → ⊥)
    → (IsErrOf {T = T} (Err f) (Failed fault.Device) → Fails (faults log.log) (faults log'.log)) → (IsErrOf {T = T} (Err f) (Failed fault.NoMemory) → faults log'.log ≡ faults log.log)
    → ((x : Fault) → IsErrOf {T = T} (Err f) (Failed x) → (x ≡ fault.Device) ⊎ (x ≡ fault.NoMemory)) → IsStartFault holds may_leave faults wanted header log log' u [] u f
recover_fault {L} {T} wanted holds may_leave faults header log log' u Another another unbegun count damaged moved device memory only = another refl
recover_fault {L} {T} wanted holds may_leave faults header log log' u Unbegun another unbegun count damaged moved device memory only = unbegun refl
recover_fault {L} {T} wanted holds may_leave faults header log log' u (Count n w) another unbegun count damaged moved device memory only = count n w refl
recover_fault {L} {T} wanted holds may_leave faults header log log' u (Damaged n why) another unbegun count damaged moved device memory only =
    let found = damaged n why refl in
    subst (λ (w : Unfit). IsStartFault holds may_leave faults wanted header log log' u [] u (Damaged n w)) (sym found.0) found.1
recover_fault {L} {T} wanted holds may_leave faults header log log' u Moved another unbegun count damaged moved device memory only = absurd (moved refl)
recover_fault {L} {T} wanted holds may_leave faults header log log' u (Failed x) another unbegun count damaged moved device memory only =
    ⊎_elim
    (λ (e : x ≡ fault.Device). subst (λ (y : Fault). IsStartFault holds may_leave faults wanted header log log' u [] u (Failed y)) (sym e) (device (ap (λ (y : Fault). Err (Failed y)) e)))
    (λ (e : x ≡ fault.NoMemory). subst (λ (y : Fault). IsStartFault holds may_leave faults wanted header log log' u [] u (Failed y)) (sym e) (memory (ap (λ (y : Fault). Err (Failed y)) e)))
    (only x refl)

-- its entries aren't all played
unplayed : {L : Type 0} (wanted : Wanted) (holds may_leave : L → List ℕ → Type 0) (faults : L → ℕ) (header : List ℕ) (log log' : Kept L) (u v : LiveView) (heard : List Exchange) (entries : List EntryView) (n : ℕ) (why : Unfit) → HasRead holds may_leave header entries log log' → IsUnfitAt entries n why u heard v → IsStartFault holds may_leave faults wanted header log log' u heard v (Damaged n why)
unplayed wanted holds may_leave faults header log log' u v heard entries n Chain read unfit = absurd unfit.played.next
unplayed wanted holds may_leave faults header log log' u v heard entries n NoEvent read unfit = record { entries = entries; read = read; at = unfit }
unplayed wanted holds may_leave faults header log log' u v heard entries n SendsOtherwise read unfit = record { entries = entries; read = read; at = unfit }

pub replay_fault : {L : Type 0} (wanted : Wanted) (holds may_leave : L → List ℕ → Type 0) (faults : L → ℕ) (header : List ℕ) (log log' : Kept L) (u v : LiveView) (heard : List Exchange) (entries : List EntryView) (f : LogFault) → HasRead holds may_leave header entries log log' → faults log'.log ≡ faults log.log
    → ((n : ℕ) (why : Unfit) → IsErrOf {T = Unit {0}} (Err f) (Damaged n why) → IsUnfitAt entries n why u heard v) → (IsErrOf {T = Unit {0}} (Err f) (Failed fault.JournalFull) → finds_full heard ≡ true)
    → IsPlayFault f → IsStartFault holds may_leave faults wanted header log log' u heard v f
replay_fault {L} wanted holds may_leave faults header log log' u v heard entries Another read quiet unfit full only = absurd only
replay_fault {L} wanted holds may_leave faults header log log' u v heard entries Unbegun read quiet unfit full only = absurd only
replay_fault {L} wanted holds may_leave faults header log log' u v heard entries (Count n w) read quiet unfit full only = absurd only
replay_fault {L} wanted holds may_leave faults header log log' u v heard entries (Damaged n why) read quiet unfit full only = unplayed wanted holds may_leave faults header log log' u v heard entries n why read (unfit n why refl)
replay_fault {L} wanted holds may_leave faults header log log' u v heard entries Moved read quiet unfit full only = absurd only
replay_fault {L} wanted holds may_leave faults header log log' u v heard entries (Failed x) read quiet unfit full only =
    ⊎_elim
    (λ (e : x ≡ fault.NoMemory). subst (λ (y : Fault). IsStartFault holds may_leave faults wanted header log log' u heard v (Failed y)) (sym e) quiet)
    (λ (e : x ≡ fault.JournalFull). subst (λ (y : Fault). IsStartFault holds may_leave faults wanted header log log' u heard v (Failed y)) (sym e) (full (ap (λ (y : Fault). Err (Failed y)) e)))
    only

-- ---- whether the journal was full

pub log_err_as : {T U : Type 0} (f e : LogFault) → IsErrOf {T = T} (Err f) e → IsErrOf {T = U} (Err f) e
log_err_as f e is = let same : f ≡ e = cc in ap (λ (x : LogFault). Err x) same

-- a log that isn't read finds no full journal
pub recover_not_full : {T : Type 0} (f : LogFault) → ((x : Fault) → IsErrOf {T = T} (Err f) (Failed x) → (x ≡ fault.Device) ⊎ (x ≡ fault.NoMemory)) → IsErrOf {T = T} (Err f) (Failed fault.JournalFull) → ⊥
recover_not_full f only full =
    ⊎_elim
    (λ (e : fault.JournalFull ≡ fault.Device). absurd cc)
    (λ (e : fault.JournalFull ≡ fault.NoMemory). absurd cc)
    (only fault.JournalFull full)

-- if a call of the log isn't refused, none was found
pub log_unfilled : {T : Type 0} (x : T) (heard : List Exchange) → (IsErrOf {T = T} {E = LogFault} (Ok x) (Failed fault.JournalFull) ↔ (finds_full heard ≡ true)) → finds_full heard ≡ true → ⊥
log_unfilled {T} x heard told found = let e : IsErrOf {T = T} (Ok x) (Failed fault.JournalFull) = told.1 found in cc

-- one that was found later, after what a node heard that ran
pub fault_behind : {T : Type 0} (f : Fault) (x y : List Exchange) → (finds_full x ≡ true → ⊥) → (IsErrOf {T = T} (Err f) fault.JournalFull ↔ (finds_full y ≡ true)) → ((Failed f ≡ Failed fault.JournalFull) ↔ (finds_full (x ++ y) ≡ true))
fault_behind {T} f x y none told = (
  λ full. found_later x y (told.0 (let same : f ≡ fault.JournalFull = cc in ap (λ (z : Fault). Err z) same)),
  λ found.
      let err : IsErrOf {T = T} (Err f) fault.JournalFull = told.1 (found_behind x y none found) in
      let same : f ≡ fault.JournalFull = cc in
      ap (λ (z : Fault). Failed z) same,
)

pub log_behind : {T U : Type 0} (f : Fault) (x y : List Exchange) → (finds_full x ≡ true → ⊥) → (IsErrOf {T = T} (Err f) fault.JournalFull ↔ (finds_full y ≡ true)) → (IsErrOf {T = U} (Err (Failed f)) (Failed fault.JournalFull) ↔ (finds_full (x ++ y) ≡ true))
log_behind {T} {U} f x y none told =
    let both = fault_behind {T = T} f x y none told in (
      λ full. both.0 (let same : Failed f ≡ Failed fault.JournalFull = cc in same),
      λ found. ap (λ (z : LogFault). Err z) (both.1 found),
    )

-- the fault that is reported, by what the start says of it
pub fault_full : {T : Type 0} (f : LogFault) (heard : List Exchange) → (IsErrOf {T = T} (Err f) (Failed fault.JournalFull) ↔ (finds_full heard ≡ true)) → ((f ≡ Failed fault.JournalFull) ↔ (finds_full heard ≡ true))
fault_full {T} f heard told = (
  λ e. told.0 (ap (λ (z : LogFault). Err z) e),
  λ found.
      let err : IsErrOf {T = T} (Err f) (Failed fault.JournalFull) = told.1 found in
      let same : f ≡ Failed fault.JournalFull = cc in
      same,
)

-- a node that started found none, and another fault is reported
pub fault_else : {T : Type 0} (x : T) (f : LogFault) (heard : List Exchange) → (f ≡ Failed fault.JournalFull → ⊥) → (IsErrOf {T = T} {E = LogFault} (Ok x) (Failed fault.JournalFull) ↔ (finds_full heard ≡ true)) → ((f ≡ Failed fault.JournalFull) ↔ (finds_full heard ≡ true))
fault_else x f heard other told = (λ e. absurd (other e), λ found. absurd (log_unfilled x heard told found))

-- a link isn't closed
pub close_fault : {L T : Type 0} (wanted : Wanted) (holds may_leave : L → List ℕ → Type 0) (faults : L → ℕ) (header : List ℕ) (log mid log' : Kept L) (u v w : LiveView) (x y : List Exchange) (entries : List EntryView) (f : Fault) → HasRead holds may_leave header entries log mid → faults mid.log ≡ faults log.log → AreReplayed entries u x v
    → (IsErrOf {T = T} (Err f) fault.Device → Fails (faults mid.log) (faults log'.log)) → (IsErrOf {T = T} (Err f) fault.NoMemory → faults log'.log ≡ faults mid.log) → (IsErrOf {T = T} (Err f) fault.JournalFull → finds_full y ≡ true)
    → (IsErrOf {T = T} (Err f) fault.BadConfig → HasNoCloseLine v.names (open_links v.node (links_of v.node)) × (log' ≡ mid)) → (IsErrOf {T = T} (Err f) fault.AlreadyOpen → MayBeOpen w.node)
    → (f ≡ fault.NoMemory) ⊎ ((f ≡ fault.JournalFull) ⊎ ((f ≡ fault.Device) ⊎ ((f ≡ fault.BadConfig) ⊎ (f ≡ fault.AlreadyOpen)))) → IsStartFault holds may_leave faults wanted header log log' u (x ++ y) w (Failed f)
close_fault {L} {T} wanted holds may_leave faults header log mid log' u v w x y entries f read quiet played device memory full unsaid still only =
    let Is : Fault → Type 0 = λ g. IsStartFault holds may_leave faults wanted header log log' u (x ++ y) w (Failed g) in
    let err : (g : Fault) → f ≡ g → IsErrOf {T = T} (Err f) g = λ g e. ap (λ (h : Fault). Err h) e in
    ⊎_elim
    (λ (e : f ≡ fault.NoMemory). subst Is (sym e) (memory (err fault.NoMemory e) ∙ quiet))
    (λ (more : (f ≡ fault.JournalFull) ⊎ ((f ≡ fault.Device) ⊎ ((f ≡ fault.BadConfig) ⊎ (f ≡ fault.AlreadyOpen)))).
    ⊎_elim
    (λ (e : f ≡ fault.JournalFull). subst Is (sym e) (found_later x y (full (err fault.JournalFull e))))
    (λ (more : (f ≡ fault.Device) ⊎ ((f ≡ fault.BadConfig) ⊎ (f ≡ fault.AlreadyOpen))).
    ⊎_elim
    (λ (e : f ≡ fault.Device). subst Is (sym e) (subst (λ (n : ℕ). Fails n (faults log'.log)) quiet (device (err fault.Device e))))
    (λ (more : (f ≡ fault.BadConfig) ⊎ (f ≡ fault.AlreadyOpen)).
    ⊎_elim
    (λ (e : f ≡ fault.BadConfig).
    let none = unsaid (err fault.BadConfig e) in
    subst Is (sym e) (record {
      entries = entries;
      read = subst (λ (k : Kept L). HasRead holds may_leave header entries log k) (sym none.1) read;
      played = record { mid = v; heard_first = x; heard_next = y; heard_is = refl; first = played; next = none.0 };
    }))
    (λ (e : f ≡ fault.AlreadyOpen). subst Is (sym e) (still (err fault.AlreadyOpen e)))
    more)
    more)
    more)
    only
