-- What stands at the front of a file.
use Rattle.std.proofs.Common.{◌≡◌, ◌≤◌, ◌<◌, ◌+◌, ℕ, List, [], ◌∷◌, ◌++◌, length, take, drop, sym, ◌∙◌, ap, subst, refl, arith, append_assoc, length-append, length-drop, inl}
use Rattle.std.specs.Prelude.{◌-◌}
use Rattle.scp_device.specs.scp_types.specs.declared.fault.Fault.{Fault}
use Rattle.scp_device.specs.scp_types.specs.declared.fault.Fault.TheVariants.{NoMemory}
use Rattle.std.proofs.lemmas.List.{append_cancel_left, map-append, take_at, drop-drop, length-map}
use Rattle.sha2.specs.Sha256.{sha256}
use Rattle.scp_live_log.specs.declared.kept.Kept.{Kept}
use Rattle.scp_live_log.specs.declared.kept.LogFault.{LogFault}
use Rattle.scp_live_log.specs.declared.kept.LogFault.TheVariants.{Another, Unbegun, Count, Damaged, Moved, Failed}
use Rattle.scp_live_log.specs.Disk.{StartsWith, Only}
use Rattle.scp_live_log.specs.Log.{EntryView, Marked, AreEntries, HasNoEntry, HasBatch, log_of, spelled, spelled_entry, chained, last_digest, entries_of}
use Rattle.scp_live_log.specs.Kept.{IsRecovered, IsAllAndMore, IsTornBy, HasEntries, IsDamaged}
use Rattle.scp_live_log.specs.inside.Front.{IsFront, IsLogFront, IsFrontFault, IsWantedFault}
use Rattle.scp_live_log.proofs.Entries.{got_all, spelled_some}
use Rattle.scp_live_log.proofs.Keeping.{log_more}

-- how many bytes stand in front of those that are dropped
pub size_front : (a file : List ℕ) (n : ℕ) → n ≤ length file → file ≡ a ++ drop n file → length a ≡ n
size_front a file n le is =
    let long : length file ≡ length a + length (drop n file) = ap length is ∙ length-append a (drop n file) in
    omega (arith, long, length-drop n file, le)

behind_are : (ms ns : List Marked) → AreEntries (ms ++ ns) → AreEntries ns
behind_are [] ns h = h
behind_are (m ∷ ms) ns h = behind_are ms ns h.1

no_more_left : (before : List ℕ) (ms : List Marked) (rest tail : List ℕ) → AreEntries ms → rest ≡ spelled before ms ++ tail → HasNoEntry before rest → ms ≡ []
no_more_left before [] rest tail are is none = refl
no_more_left before (m ∷ ms) rest tail are is none =
    absurd (none m.begins m.entry (spelled (chained before m.entry) ms ++ tail) are.0 (is ∙ append_assoc (spelled_entry before m.begins m.entry) (spelled (chained before m.entry) ms) tail))

module _ (header file : List ℕ) (entries : List EntryView) (last : List ℕ) (size : ℕ) (f : IsLogFront header file entries last size) where
  front_all : (ms : List Marked) (rest : List ℕ) → AreEntries ms → file ≡ log_of header ms ++ rest → (more : List Marked) × (f.marked ≡ ms ++ more) × (rest ≡ spelled (last_digest (sha256 header) ms) more ++ drop size file)
  front_all ms rest are is =
      let both : header ++ (spelled (sha256 header) ms ++ rest) ≡ header ++ (spelled (sha256 header) f.marked ++ drop size file) =
      sym (append_assoc header (spelled (sha256 header) ms) rest) ∙ sym is ∙ f.splits ∙ append_assoc header (spelled (sha256 header) f.marked) (drop size file) in
      got_all (sha256 header) ms f.marked rest (drop size file) are f.each (subst (λ d. HasNoEntry d (drop size file)) f.ends f.no_more) (append_cancel_left header _ _ both)

  -- all that was kept is found
  pub found_all : (ms : List Marked) (rest : List ℕ) → AreEntries ms → file ≡ log_of header ms ++ rest → IsAllAndMore (entries_of ms) rest entries
  found_all ms rest are is =
      let got = front_all ms rest are is in
      record {
        more = entries_of got.0;
        all = sym f.are ∙ ap entries_of got.1 ∙ map-append (λ (m : Marked). m.entry) ms got.0;
        none = λ nothing. ap entries_of (spelled_some (last_digest (sha256 header) ms) got.0 (drop size file) (sym nothing ∙ got.2));
      }

  -- and lies in front of the cut
  pub found_before : (ms : List Marked) (rest : List ℕ) → AreEntries ms → file ≡ log_of header ms ++ rest → length (log_of header ms) ≤ size
  found_before ms rest are is =
      let got = front_all ms rest are is in
      let whole : log_of header f.marked ≡ log_of header ms ++ spelled (last_digest (sha256 header) ms) got.0 = ap (log_of header) got.1 ∙ sym (log_more header ms got.0) in
      let long : length (log_of header f.marked) ≡ length (log_of header ms) + length (spelled (last_digest (sha256 header) ms) got.0) = ap length whole ∙ length-append (log_of header ms) (spelled (last_digest (sha256 header) ms) got.0) in
      omega (arith, f.long, long)

  -- where nothing stands behind what was kept, what is cut off is all that stood behind it
  pub cut_off : (ms : List Marked) (rest : List ℕ) → AreEntries ms → file ≡ log_of header ms ++ rest → HasNoEntry (last_digest (sha256 header) ms) rest → rest ≡ drop size file
  cut_off ms rest are is none =
      let got = front_all ms rest are is in
      let marked_are : AreEntries (ms ++ got.0) = subst AreEntries got.1 f.each in
      got.2 ∙ ap (λ (l : List Marked). spelled (last_digest (sha256 header) ms) l ++ drop size file) (no_more_left (last_digest (sha256 header) ms) got.0 rest (drop size file) (behind_are ms got.0 marked_are) got.2 none)

  -- the file behind the cut
  pub cut_file : take size file ≡ log_of header f.marked
  cut_file = ap (take size) f.splits ∙ take_at (log_of header f.marked) (drop size file) size f.long

  pub recovered_by : {L : Type 0} (holds may_leave : L → List ℕ → Type 0) (kept : Kept L) → kept.last.0 ≡ last → holds kept.log (take size file) → Only (take size file) (may_leave kept.log) → IsRecovered holds may_leave header entries kept
  recovered_by holds may_leave kept is there only = record {
    marked = f.marked;
    are = f.are;
    settled = record {
      file = subst (holds kept.log) cut_file there;
      entries = f.each;
      last = is ∙ f.ends;
      durable = subst (λ (l : List ℕ). Only l (may_leave kept.log)) cut_file only;
    };
  }

-- from the front behind the first line to that of the file
pub whole_front : (header file : List ℕ) (entries : List EntryView) (last : List ℕ) (size : ℕ) → length header ≤ length file → file ≡ header ++ drop (length header) file → size ≤ length (drop (length header) file)
    → IsFront (sha256 header) (drop (length header) file) entries last size → IsLogFront header file entries last (length header + size)
whole_front header file entries last size fits begins few f =
    let rest = drop (length header) file in
    let behind : drop (length header + size) file ≡ drop size rest = sym (drop-drop size (length header) file) in
    let front = spelled (sha256 header) f.marked in
    record {
      marked = f.marked;
      are = f.are;
      each = f.each;
      long = length-append header front ∙ ap (λ (n : ℕ). length header + n) (size_front front rest size few f.splits);
      splits = begins ∙ ap (λ (l : List ℕ). header ++ l) f.splits ∙ sym (append_assoc header front (drop size rest)) ∙ ap (λ (l : List ℕ). (header ++ front) ++ l) (sym behind);
      ends = f.ends;
      no_more = subst (λ (l : List ℕ). HasNoEntry last l) (sym behind) f.no_more;
    }

pub damaged_by : (header file : List ℕ) (entries : List EntryView) (last : List ℕ) (size : ℕ) → file ≡ header ++ drop (length header) file
    → IsFront (sha256 header) (drop (length header) file) entries last size → HasBatch (drop size (drop (length header) file)) → IsDamaged header (length entries) file
damaged_by header file entries last size begins f batch =
    let rest = drop (length header) file in
    let front = spelled (sha256 header) f.marked in
    record {
      marked = f.marked;
      tail = drop size rest;
      count = sym (length-map f.marked (λ (m : Marked). m.entry)) ∙ ap length f.are;
      splits = begins ∙ ap (λ (l : List ℕ). header ++ l) f.splits ∙ sym (append_assoc header front (drop size rest));
      unfit = subst (λ d. HasNoEntry d (drop size rest)) f.ends f.no_more;
      batch = batch;
    }

-- a beginning of the first line, and not all of it, is no log
pub no_log_so_short : (header bytes : List ℕ) (ms : List Marked) (rest : List ℕ) → length bytes < length header → bytes ≡ log_of header ms ++ rest → ⊥
no_log_so_short header bytes ms rest short is =
    let long : length bytes ≡ length header + length (spelled (sha256 header) ms ++ rest) = ap length (is ∙ append_assoc header (spelled (sha256 header) ms) rest) ∙ length-append header (spelled (sha256 header) ms ++ rest) in
    absurd (omega (arith, short, long))

-- a log begins with its first line
pub log_starts : (header file : List ℕ) (entries : List EntryView) (last : List ℕ) (size : ℕ) → IsLogFront header file entries last size → StartsWith header file
log_starts header file entries last size f =
    (spelled (sha256 header) f.marked ++ drop size file, f.splits ∙ append_assoc header (spelled (sha256 header) f.marked) (drop size file))

pub whole_front_at : (header file rest first : List ℕ) (entries : List EntryView) (last : List ℕ) (size : ℕ) → first ≡ sha256 header → rest ≡ drop (length header) file → length header ≤ length file → file ≡ header ++ drop (length header) file → size ≤ length rest
    → IsFront first rest entries last size → IsLogFront header file entries last (length header + size)
whole_front_at header file rest first entries last size is at fits begins few f =
    whole_front header file entries last size fits begins (subst (λ (l : List ℕ). size ≤ length l) at few)
    (subst (λ (l : List ℕ). IsFront (sha256 header) l entries last size) at (subst (λ (d : List ℕ). IsFront d rest entries last size) is f))

pub damaged_at : (header file rest first tail : List ℕ) (entries : List EntryView) (last : List ℕ) (size n : ℕ) → first ≡ sha256 header → rest ≡ drop (length header) file → tail ≡ drop size rest → file ≡ header ++ drop (length header) file → length entries ≡ n
    → IsFront first rest entries last size → HasBatch tail → IsDamaged header n file
damaged_at header file rest first tail entries last size n is at behind begins count f batch =
    subst (λ (k : ℕ). IsDamaged header k file) count
    (damaged_by header file entries last size begins
    (subst (λ (l : List ℕ). IsFront (sha256 header) l entries last size) at (subst (λ (d : List ℕ). IsFront d rest entries last size) is f))
    (subst (λ (l : List ℕ). HasBatch (drop size l)) at (subst HasBatch behind batch)))

pub tail_at : (file rest tail : List ℕ) (n size : ℕ) → rest ≡ drop n file → tail ≡ drop size rest → drop (n + size) file ≡ tail
tail_at file rest tail n size at behind = sym (behind ∙ ap (drop size) at ∙ drop-drop size n file)

-- what is behind the entries is cut off
pub torn_behind : (header file : List ℕ) (entries : List EntryView) (last : List ℕ) (size : ℕ) → IsLogFront header file entries last size → (torn : ℕ) → torn ≡ length file - size → IsTornBy header entries torn file
torn_behind header file entries last size f torn is =
    let long : length file ≡ length (log_of header f.marked) + length (drop size file) = ap length f.splits ∙ length-append (log_of header f.marked) (drop size file) in
    inl (f.marked, drop size file, f.are, f.splits, omega (arith, long, f.long, is))

pub has_entries : (header file : List ℕ) (entries : List EntryView) (last : List ℕ) (size n : ℕ) → length entries ≡ n → IsLogFront header file entries last size → HasEntries header n file
has_entries header file entries last size n count f = record {
  marked = f.marked;
  tail = drop size file;
  count = sym (length-map f.marked (λ (m : Marked). m.entry)) ∙ ap length f.are ∙ count;
  splits = f.splits;
  unfit = subst (λ d. HasNoEntry d (drop size file)) f.ends f.no_more;
}

-- why a front isn't what is wanted
pub front_wanted : (f : LogFault) → IsFrontFault f → IsWantedFault f
front_wanted Another why = tt
front_wanted Unbegun why = absurd why
front_wanted (Count n wanted) why = absurd why
front_wanted (Damaged n unfit) why = tt
front_wanted Moved why = absurd why
front_wanted (Failed fault) why = why

pub wanted_failed : (f : LogFault) (x : Fault) → IsWantedFault f → f ≡ Failed x → x ≡ NoMemory
wanted_failed f x why is = subst (λ (e : LogFault). IsWantedFault e) is why
