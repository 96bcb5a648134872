-- What is kept, and what was kept before.
use Rattle.std.proofs.Common.{◌≡◌, ℕ, List, [], ◌++◌, sym, ◌∙◌, ap, subst, append_assoc}
use Rattle.std.proofs.lemmas.List.{append-nil}
use Rattle.std.specs.List.{AllByRecursion}
use Rattle.sha2.specs.Sha256.{sha256}
use Rattle.scp_live_log.specs.declared.kept.Kept.{Kept}
use Rattle.scp_live_log.specs.Disk.{StartsWith, Only, Elapses}
use Rattle.scp_live_log.specs.Log.{EntryView, Marked, IsEntry, log_of, spelled, last_digest, batch_of}
use Rattle.scp_live_log.specs.Kept.{IsSettled, IsUntouched}
use Rattle.scp_live_log.proofs.Entries.{spelled-append, last_digest-append, are_both, are_marked}
use Rattle.scp_live_log.proofs.Moments.{started, goes_on}

-- more entries behind those of a log
pub log_more : (header : List ℕ) (ms ns : List Marked) → log_of header ms ++ spelled (last_digest (sha256 header) ms) ns ≡ log_of header (ms ++ ns)
log_more header ms ns =
    append_assoc header (spelled (sha256 header) ms) (spelled (last_digest (sha256 header) ms) ns) ∙ ap (λ (l : List ℕ). header ++ l) (sym (spelled-append (sha256 header) ms ns))

-- a crash leaves a settled log, which begins with itself
pub settled_starts : {L : Type 0} (holds may_leave : L → List ℕ → Type 0) (header : List ℕ) (ms : List Marked) (kept : Kept L) → IsSettled holds may_leave header ms kept → (c : List ℕ) → may_leave kept.log c → StartsWith (log_of header ms) c
settled_starts holds may_leave header ms kept s c left = ([], s.durable c left ∙ sym (append-nil (log_of header ms)))

-- a batch behind a settled log makes one
pub settled_more : {L : Type 0} (holds may_leave : L → List ℕ → Type 0) (header : List ℕ) (ms : List Marked) (es : List EntryView) (bytes : List ℕ) (old new : Kept L)
    → AllByRecursion IsEntry es → IsSettled holds may_leave header ms old → bytes ≡ spelled old.last.0 (batch_of es) → new.last.0 ≡ last_digest old.last.0 (batch_of es)
    → ((c : List ℕ) → holds old.log c → holds new.log (c ++ bytes) × Only (c ++ bytes) (may_leave new.log))
    → IsSettled holds may_leave header (ms ++ batch_of es) new
settled_more holds may_leave header ms es bytes old new are s is last added =
    let file = added (log_of header ms) s.file in
    let whole : log_of header ms ++ bytes ≡ log_of header (ms ++ batch_of es) =
    ap (λ (l : List ℕ). log_of header ms ++ l) (is ∙ ap (λ (d : List ℕ). spelled d (batch_of es)) s.last) ∙ log_more header ms (batch_of es) in
    record {
      file = subst (λ (l : List ℕ). holds new.log l) whole file.0;
      entries = are_both ms (batch_of es) s.entries (are_marked _ es are);
      last = last ∙ ap (λ (d : List ℕ). last_digest d (batch_of es)) s.last ∙ sym (last_digest-append (sha256 header) ms (batch_of es));
      durable = subst (λ (l : List ℕ). Only l (may_leave new.log)) whole file.1;
    }

-- a file that is only read
pub untouched_by : {L : Type 0} (holds may_leave : L → List ℕ → Type 0) (moment : L → ℕ) (left_since : L → ℕ → List ℕ → Type 0) (file : List ℕ) (old new : L) → holds new file → ((f : List ℕ) → left_since old (moment old) f → may_leave old f)
    → ((f : List ℕ) → may_leave new f → may_leave old f) → Elapses (moment old) (moment new) (left_since old) (left_since new) (may_leave new) → IsUntouched holds may_leave moment left_since file old new
untouched_by holds may_leave moment left_since file old new there at_once crash time = record {
  there = there;
  crash = λ only.
      goes_on moment left_since old old new (λ f. f ≡ file) (may_leave new) (started moment left_since old (λ f. f ≡ file) (λ f left. only f (at_once f left))) time (λ f now. only f (crash f now));
}

-- a log that was put in the place of another
pub settled_anew : {L : Type 0} (holds may_leave : L → List ℕ → Type 0) (header : List ℕ) (es : List EntryView) (new : Kept L)
    → AllByRecursion IsEntry es → new.last.0 ≡ last_digest (sha256 header) (batch_of es) → holds new.log (log_of header (batch_of es)) → Only (log_of header (batch_of es)) (may_leave new.log)
    → IsSettled holds may_leave header (batch_of es) new
settled_anew holds may_leave header es new are last file durable = record { file = file; entries = are_marked _ es are; last = last; durable = durable }
