-- The lines of a report, ledger after ledger.
use Rattle.std.proofs.Common.{◌≡◌, ◌+◌, ◌<◌, ◌≤◌, ℕ, Bool, true, false, cond, List, [], ◌∷◌, ◌++◌, length, take, drop, get_or, flat_map, refl, sym, ap, subst, ◌∙◌, append-nil, append_assoc, arith}
use Rattle.std.specs.Prelude.{filter}
use Rattle.std.proofs.lemmas.List.{at_drop_more, at_drop_all, length_push}
use Rattle.scp_shown.specs.scp_audit.specs.declared.archive.Archive.{Archive}
use Rattle.scp_shown.specs.scp_history.specs.Records.{archive_lines}
use Rattle.scp_shown.specs.scp_history.specs.declared.line.Line.{Line}
use Rattle.scp_shown.specs.Parts.{Entry}
use Rattle.scp_shown.specs.LedgerLines.{AreLedgerLines}
use Rattle.scp_ledgers.specs.Report.{record_lines, AreEach, is_for_all, end_lines}

pub records_more : (k : ℕ) (archives : List Archive) (i : ℕ) (a : Archive) (old new all : List Line) → i < length archives → a ≡ get_or archives i a → new ≡ old ++ archive_lines k a → old ++ record_lines k (drop i archives) ≡ all → new ++ record_lines (k + 1) (drop (i + 1) archives) ≡ all
records_more k archives i a old new all lt e added so_far =
    let rest = record_lines (k + 1) (drop (i + 1) archives) in
    let splits : record_lines k (drop i archives) ≡ archive_lines k a ++ rest = at_drop_more (λ (l : List Archive). record_lines k l) archives i a lt ∙ ap (λ (b : Archive). archive_lines k b ++ rest) (sym e) in
    ap (λ (l : List Line). l ++ rest) added ∙ append_assoc old (archive_lines k a) rest ∙ ap (λ (l : List Line). old ++ l) (sym splits) ∙ so_far

pub records_all : (k : ℕ) (archives : List Archive) (i : ℕ) (old all : List Line) → length archives ≤ i → old ++ record_lines k (drop i archives) ≡ all → old ≡ all
records_all k archives i old all long so_far = sym (append-nil old) ∙ ap (λ (l : List Line). old ++ l) (sym (at_drop_all (λ (l : List Archive). record_lines k l) archives i long)) ∙ so_far

-- the lines of all of them, one ledger after another
abbrev pub joined : List (List Line) → List Line
joined each = flat_map (λ (l : List Line). l) each

-- how many of them are certified for all
abbrev pub whole : List (List Line) → ℕ
whole each = length (filter is_for_all each)

-- what is left of the ledgers leads to all of them
abbrev pub LedgersLead : (ℕ → List Entry) → List ℕ → List Line → List ℕ → List ℕ → List Line → Type 0
LedgersLead f left lines certified all old = (rest : List (List Line)) → AreEach f left rest → (each : List (List Line)) × AreEach f all each × (lines ++ joined rest ≡ old ++ joined each) × (length certified + whole rest ≡ whole each)

pub ledgers_first : (f : ℕ → List Entry) (all certified : List ℕ) (old : List Line) → certified ≡ [] → LedgersLead f all old certified all old
ledgers_first f all certified old none = λ rest d. (rest, d, refl, (let e : length certified ≡ 0 = ap (λ (l : List ℕ). length l) none in omega (arith, e)))

counted : (b : Bool) (certified new : List ℕ) (n : ℕ) (here : List Line) (rest : List (List Line)) → new ≡ certified ++ cond b (n ∷ []) [] → length new + length rest ≡ length certified + length (cond b (here ∷ rest) rest)
counted true certified new n here rest e = (let one : length new ≡ length certified + 1 = ap length e ∙ length_push certified n in omega (arith, one))
counted false certified new n here rest e = (let same : length new ≡ length certified = ap length (e ∙ append-nil certified) in omega (arith, same))

pub ledgers_more : (f : ℕ → List Entry) (n : ℕ) (left all certified more : List ℕ) (lines new old : List Line)
    → ((here : List Line) × AreLedgerLines n (f n) here × (new ≡ lines ++ here) × (more ≡ certified ++ cond (is_for_all here) (n ∷ []) []))
    → LedgersLead f (n ∷ left) lines certified all old → LedgersLead f left new more all old
ledgers_more f n left all certified more lines new old h inv = λ rest d. (
    let it = inv (h.0 ∷ rest) (h.0, rest, h.1, d, refl) in (
      it.0,
      it.1,
      ap (λ (l : List Line). l ++ joined rest) h.2 ∙ append_assoc lines h.0 (joined rest) ∙ it.2,
      counted (is_for_all h.0) certified more n h.0 (filter is_for_all rest) h.3 ∙ it.3,
    ))

pub ledgers_last : (f : ℕ → List Entry) (all certified : List ℕ) (lines old : List Line) → LedgersLead f [] lines certified all old → (each : List (List Line)) × AreEach f all each × (lines ≡ old ++ joined each) × (length certified ≡ whole each)
ledgers_last f all certified lines old inv = (let it = inv [] refl in (it.0, it.1, sym (append-nil lines) ∙ it.2, (let e : length certified + 0 ≡ whole it.0 = it.3 in omega (arith, e))))

pub left_more : (f : ℕ → List Entry) (ns : List ℕ) (i : ℕ) (n : ℕ) (lines : List Line) (certified all : List ℕ) (old : List Line) → i < length ns → n ≡ get_or ns i n → LedgersLead f (drop i ns) lines certified all old → LedgersLead f (n ∷ drop (i + 1) ns) lines certified all old
left_more f ns i n lines certified all old lt e inv =
    subst (λ (l : List ℕ). LedgersLead f l lines certified all old) (at_drop_more (λ (l : List ℕ). l) ns i n lt ∙ ap (λ (m : ℕ). m ∷ drop (i + 1) ns) (sym e)) inv

pub left_none : (f : ℕ → List Entry) (ns : List ℕ) (i : ℕ) (lines : List Line) (certified all : List ℕ) (old : List Line) → length ns ≤ i → LedgersLead f (drop i ns) lines certified all old → LedgersLead f [] lines certified all old
left_none f ns i lines certified all old long inv = subst (λ (l : List ℕ). LedgersLead f l lines certified all old) (at_drop_all (λ (l : List ℕ). l) ns i long) inv

-- the entries of each ledger are the same
pub each_same : (f g : ℕ → List Entry) (ns : List ℕ) (each : List (List Line)) → ((n : ℕ) → f n ≡ g n) → AreEach f ns each → AreEach g ns each
each_same f g [] each same are = are
each_same f g (n ∷ ns) each same are = (are.0, are.1, subst (λ (es : List Entry). AreLedgerLines n es are.0) (same n) are.2, each_same f g ns are.1 same are.3, are.4)

-- three parts are added to nothing
pub added_three : (none one two three a b c : List Line) → none ≡ [] → one ≡ none ++ a → two ≡ one ++ b → three ≡ two ++ c → three ≡ (a ++ b) ++ c
added_three none one two three a b c z p q r = r ∙ ap (λ (l : List Line). l ++ c) (q ∙ ap (λ (l : List Line). l ++ b) (p ∙ ap (λ (l : List Line). l ++ a) z))
