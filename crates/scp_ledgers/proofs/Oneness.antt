-- Files have one report.
use Rattle.std.proofs.Common.{◌≡◌, ◌+◌, ℕ, suc, Bool, true, false, cond, List, [], ◌∷◌, ◌++◌, length, map, fold, flat_map, refl, sym, ap, subst, ◌∙◌}
use Rattle.std.specs.Prelude.{◌&&◌, filter, nat_eq, nat_le}
use Rattle.std.specs.Ordering.{nat_cmp}
use Rattle.std.specs.BTreeSet.{insert_key}
use Rattle.scp_shown.specs.scp_audit.specs.Laws.{AuditsAreOne, SameRecord, SameRecords}
use Rattle.scp_shown.specs.scp_audit.specs.declared.archive.Archive.{Archive}
use Rattle.scp_shown.specs.scp_audit.specs.declared.archive.Record.{Record}
use Rattle.scp_shown.specs.scp_audit.specs.declared.archive.Record.TheVariants.{Ledger, Unread}
use Rattle.scp_shown.specs.scp_audit.specs.declared.ledger.Ledger.{Ledger as Judged}
use Rattle.scp_shown.specs.scp_archive.specs.declared.entries.Unread.{Unread as Reason}
use Rattle.scp_shown.specs.scp_history.specs.Records.{unread_line, unread_lines, cut_line, archive_lines}
use Rattle.scp_shown.specs.scp_history.specs.declared.line.Line.{Line}
use Rattle.scp_shown.specs.scp_history.specs.declared.line.Line.TheVariants as line
use Rattle.scp_shown.specs.Parts.{Entry}
use Rattle.scp_shown.specs.Laws.{SameEntry, SameEntries, LinesAreOne}
use Rattle.scp_ledgers.specs.Entries.{is_within, record_entries, entries_from, entries_of, numbers_of, of_ledger}
use Rattle.scp_ledgers.specs.Report.{record_lines, AreEach, is_for_all, end_lines, IsReport, report_text}
use Rattle.scp_ledgers.specs.Laws.{AreRead}
use Rattle.scp_ledgers.specs.declared.span.Span.{Span}

-- ---- the same records have the same entries

one_or_none : (b c : Bool) (e f : Entry) → b ≡ c → SameEntry e f → SameEntries (cond b (e ∷ []) []) (cond c (f ∷ []) [])
one_or_none true true e f is same = (same, tt)
one_or_none true false e f is same = absurd cc
one_or_none false true e f is same = absurd cc
one_or_none false false e f is same = tt

both : (xs ys cs ds : List Entry) → SameEntries xs ys → SameEntries cs ds → SameEntries (xs ++ cs) (ys ++ ds)
both [] [] cs ds p q = q
both [] (y ∷ ys) cs ds p q = absurd p
both (x ∷ xs) [] cs ds p q = absurd p
both (x ∷ xs) (y ∷ ys) cs ds p q = (p.0, both xs ys cs ds p.1 q)

of_record : (s : Span) (file : ℕ) (r t : Record) → SameRecord r t → SameEntries (record_entries s file r) (record_entries s file t)
of_record s file (Ledger l) (Ledger m) same =
    one_or_none (is_within s l) (is_within s m) (file, l) (file, m) (ap (λ (n : ℕ). nat_le s.first n && nat_le n s.last) same.0)
    (record { file = refl; number = same.0; messages = same.1; verdicts = same.2; counting = same.3 })
of_record s file (Ledger l) (Unread why) same = absurd same
of_record s file (Unread why) (Ledger m) same = absurd same
of_record s file (Unread why) (Unread other) same = tt

of_records : (s : Span) (file : ℕ) (rs ts : List Record) → SameRecords rs ts → SameEntries (flat_map (record_entries s file) rs) (flat_map (record_entries s file) ts)
of_records s file [] [] same = tt
of_records s file [] (t ∷ ts) same = absurd same
of_records s file (r ∷ rs) [] same = absurd same
of_records s file (r ∷ rs) (t ∷ ts) same =
    both (record_entries s file r) (record_entries s file t) (flat_map (record_entries s file) rs) (flat_map (record_entries s file) ts) (of_record s file r t same.0) (of_records s file rs ts same.1)

-- ---- the same archives

entries_same : AuditsAreOne → (s : Span) (k : ℕ) (files : List (List ℕ)) (a b : List Archive) → AreRead files a → AreRead files b → SameEntries (entries_from s k a) (entries_from s k b)
entries_same one s k [] [] [] p q = tt
entries_same one s k [] [] (y ∷ ys) p q = absurd q
entries_same one s k [] (x ∷ xs) b p q = absurd p
entries_same one s k (f ∷ files) [] b p q = absurd p
entries_same one s k (f ∷ files) (x ∷ xs) [] p q = absurd q
entries_same one s k (f ∷ files) (x ∷ xs) (y ∷ ys) p q =
    both (flat_map (record_entries s k) x.records.items) (flat_map (record_entries s k) y.records.items) (entries_from s (k + 1) xs) (entries_from s (k + 1) ys) (of_records s k x.records.items y.records.items (one f x y p.0 q.0).1) (entries_same one s (k + 1) files xs ys p.1 q.1)

-- ---- the lines of records

unread_one : (file k : ℕ) (r t : Record) → SameRecord r t → unread_line file k r ≡ unread_line file k t
unread_one file k (Ledger l) (Ledger m) same = refl
unread_one file k (Ledger l) (Unread why) same = absurd same
unread_one file k (Unread why) (Ledger m) same = absurd same
unread_one file k (Unread why) (Unread other) same = ap (λ (w : Reason). line.Unread file k w ∷ []) same

unread_same : (file k : ℕ) (rs ts : List Record) → SameRecords rs ts → unread_lines file k rs ≡ unread_lines file k ts
unread_same file k [] [] same = refl
unread_same file k [] (t ∷ ts) same = absurd same
unread_same file k (r ∷ rs) [] same = absurd same
unread_same file k (r ∷ rs) (t ∷ ts) same = ap (λ (l : List Line). l ++ unread_lines file (k + 1) rs) (unread_one file k r t same.0) ∙ ap (λ (l : List Line). unread_line file k t ++ l) (unread_same file (k + 1) rs ts same.1)

length_same : (rs ts : List Record) → SameRecords rs ts → length rs ≡ length ts
length_same [] [] same = refl
length_same [] (t ∷ ts) same = absurd same
length_same (r ∷ rs) [] same = absurd same
length_same (r ∷ rs) (t ∷ ts) same = ap suc (length_same rs ts same.1)

archive_same : (file : ℕ) (a b : Archive) → (a.is_cut ≡ b.is_cut) × SameRecords a.records.items b.records.items → archive_lines file a ≡ archive_lines file b
archive_same file a b same =
    ap (λ (l : List Line). l ++ cut_line file (length a.records.items + 1) a.is_cut) (unread_same file 1 a.records.items b.records.items same.1)
    ∙ ap (λ (n : ℕ). unread_lines file 1 b.records.items ++ cut_line file (n + 1) a.is_cut) (length_same a.records.items b.records.items same.1)
    ∙ ap (λ (t : Bool). unread_lines file 1 b.records.items ++ cut_line file (length b.records.items + 1) t) same.0

records_same : AuditsAreOne → (k : ℕ) (files : List (List ℕ)) (a b : List Archive) → AreRead files a → AreRead files b → record_lines k a ≡ record_lines k b
records_same one k [] [] [] p q = refl
records_same one k [] [] (y ∷ ys) p q = absurd q
records_same one k [] (x ∷ xs) b p q = absurd p
records_same one k (f ∷ files) [] b p q = absurd p
records_same one k (f ∷ files) (x ∷ xs) [] p q = absurd q
records_same one k (f ∷ files) (x ∷ xs) (y ∷ ys) p q = ap (λ (l : List Line). l ++ record_lines (k + 1) xs) (archive_same k x y (one f x y p.0 q.0)) ∙ ap (λ (l : List Line). archive_lines k y ++ l) (records_same one (k + 1) files xs ys p.1 q.1)

-- ---- ledger by ledger

numbers_same : (es fs : List Entry) → SameEntries es fs → map (λ (e : Entry). e.1.number) es ≡ map (λ (e : Entry). e.1.number) fs
numbers_same [] [] same = refl
numbers_same [] (f ∷ fs) same = absurd same
numbers_same (e ∷ es) [] same = absurd same
numbers_same (e ∷ es) (f ∷ fs) same = ap (λ (n : ℕ). n ∷ map (λ (d : Entry). d.1.number) es) same.0.number ∙ ap (λ (l : List ℕ). f.1.number ∷ l) (numbers_same es fs same.1)

kept_one : (b c : Bool) (e f : Entry) (es fs : List Entry) → b ≡ c → SameEntry e f → SameEntries es fs → SameEntries (cond b (e ∷ es) es) (cond c (f ∷ fs) fs)
kept_one true true e f es fs is one same = (one, same)
kept_one true false e f es fs is one same = absurd cc
kept_one false true e f es fs is one same = absurd cc
kept_one false false e f es fs is one same = same

of_ledger_same : (n : ℕ) (es fs : List Entry) → SameEntries es fs → SameEntries (of_ledger es n) (of_ledger fs n)
of_ledger_same n [] [] same = tt
of_ledger_same n [] (f ∷ fs) same = absurd same
of_ledger_same n (e ∷ es) [] same = absurd same
of_ledger_same n (e ∷ es) (f ∷ fs) same = kept_one (nat_eq e.1.number n) (nat_eq f.1.number n) e f (of_ledger es n) (of_ledger fs n) (ap (λ (m : ℕ). nat_eq m n) same.0.number) same.0 (of_ledger_same n es fs same.1)

each_one : LinesAreOne → (f g : ℕ → List Entry) → ((n : ℕ) → SameEntries (f n) (g n)) → (ns : List ℕ) (a b : List (List Line)) → AreEach f ns a → AreEach g ns b → a ≡ b
each_one one f g same [] a b d e = d ∙ sym e
each_one one f g same (n ∷ ns) a b d e =
    d.4
    ∙ ap (λ (l : List Line). l ∷ d.1) (one n (f n) (g n) d.0 e.0 (same n) d.2 e.2)
    ∙ ap (λ (l : List (List Line)). e.0 ∷ l) (each_one one f g same ns d.1 e.1 d.3 e.3)
    ∙ sym e.4

pub one_report : AuditsAreOne → LinesAreOne → (span : Span) (files : List (List ℕ)) (a b : List Archive) (ls ms : List Line) → AreRead files a → AreRead files b → IsReport span a ls → IsReport span b ms → (ls ≡ ms) × ((by_number : Bool) → report_text by_number ls ≡ report_text by_number ms)
one_report audits lines span files a b ls ms p q d e =
    let es = entries_of span a in
    let fs = entries_of span b in
    let entries : SameEntries es fs = entries_same audits span 1 files a b p q in
    let numbers : numbers_of es ≡ numbers_of fs = ap (λ (l : List ℕ). fold (insert_key nat_cmp) [] l) (numbers_same es fs entries) in
    let each : d.each ≡ e.each = each_one lines (of_ledger es) (of_ledger fs) (λ n. of_ledger_same n es fs entries) (numbers_of es) d.each e.each d.of_ledgers (subst (λ (ns : List ℕ). AreEach (of_ledger fs) ns e.each) (sym numbers) e.of_ledgers) in
    let same : ls ≡ ms =
    d.all
    ∙ ap (λ (l : List Line). (l ++ flat_map (λ (x : List Line). x) d.each) ++ end_lines (numbers_of es) (length (filter is_for_all d.each))) (records_same audits 1 files a b p q)
    ∙ ap (λ (l : List (List Line)). (record_lines 1 b ++ flat_map (λ (x : List Line). x) l) ++ end_lines (numbers_of es) (length (filter is_for_all l))) each
    ∙ ap (λ (ns : List ℕ). (record_lines 1 b ++ flat_map (λ (x : List Line). x) e.each) ++ end_lines ns (length (filter is_for_all e.each))) numbers
    ∙ sym e.all
    in
    (same, λ by_number. ap (λ (l : List Line). report_text by_number l) same)
