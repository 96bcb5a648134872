-- The entries of archives, one after another.
use Rattle.std.proofs.Common.{◌≡◌, ◌+◌, ◌<◌, ◌≤◌, ℕ, Bool, true, false, cond, List, [], ◌∷◌, ◌++◌, length, take, drop, get_or, map, fold, flat_map, refl, sym, ap, ◌∙◌, append-nil, append_assoc}
use Rattle.std.specs.Prelude.{filter, nat_eq, if◌then◌else◌}
use Rattle.std.specs.Ordering.{nat_cmp}
use Rattle.std.specs.BTreeSet.{insert_key}
use Rattle.std.proofs.lemmas.List.{at_drop_more, at_drop_all}
use Rattle.scp_shown.specs.scp_audit.specs.declared.archive.Archive.{Archive}
use Rattle.scp_shown.specs.Parts.{Entry, entry_of}
use Rattle.scp_shown.specs.declared.part.Part.{Part}
use Rattle.scp_shown.proofs.Listing.{map_push, fold_push, taken}
use Rattle.scp_ledgers.specs.Entries.{record_entries, entries_from, numbers_of, of_ledger}
use Rattle.scp_ledgers.specs.declared.span.Span.{Span}

-- a thing that is asked for or not
pub cond_not : {X : Type 0} (xs ys : List X) (b w : Bool) → b ≡ w → b ≡ false → xs ≡ xs ++ cond w ys []
cond_not xs ys b w is isnt = sym (append-nil xs) ∙ ap (λ (t : Bool). xs ++ cond t ys []) (sym isnt ∙ is)

pub cond_is : {X : Type 0} (xs ys new : List X) (b w : Bool) → b ≡ w → b ≡ true → new ≡ xs ++ ys → new ≡ xs ++ cond w ys []
cond_is xs ys new b w is holds added = added ∙ ap (λ (t : Bool). xs ++ cond t ys []) (sym holds ∙ is)

pub archive_more : (s : Span) (k : ℕ) (archives : List Archive) (i : ℕ) (a : Archive) (old new all : List Entry) → i < length archives → a ≡ get_or archives i a → new ≡ old ++ flat_map (record_entries s k) a.records.items → old ++ entries_from s k (drop i archives) ≡ all → new ++ entries_from s (k + 1) (drop (i + 1) archives) ≡ all
archive_more s k archives i a old new all lt e added so_far =
    let rest = entries_from s (k + 1) (drop (i + 1) archives) in
    let here : Archive → List Entry = λ b. flat_map (record_entries s k) b.records.items in
    let splits : entries_from s k (drop i archives) ≡ here a ++ rest = at_drop_more (λ (l : List Archive). entries_from s k l) archives i a lt ∙ ap (λ (b : Archive). here b ++ rest) (sym e) in
    ap (λ (l : List Entry). l ++ rest) added ∙ append_assoc old (here a) rest ∙ ap (λ (l : List Entry). old ++ l) (sym splits) ∙ so_far

pub archive_all : (s : Span) (k : ℕ) (archives : List Archive) (i : ℕ) (old all : List Entry) → length archives ≤ i → old ++ entries_from s k (drop i archives) ≡ all → old ≡ all
archive_all s k archives i old all long so_far = sym (append-nil old) ∙ ap (λ (l : List Entry). old ++ l) (sym (at_drop_all (λ (l : List Archive). entries_from s k l) archives i long)) ∙ so_far

entries_taken : (ps : List Part) (i : ℕ) (p : Part) → i < length ps → p ≡ get_or ps i p → map entry_of (take (i + 1) ps) ≡ map entry_of (take i ps) ++ entry_of p ∷ []
entries_taken ps i p lt e = ap (λ (l : List Part). map entry_of l) (taken ps i p lt e) ∙ map_push entry_of (take i ps) p

numbers_push : (es : List Entry) (e : Entry) → numbers_of (es ++ e ∷ []) ≡ insert_key nat_cmp (numbers_of es) e.1.number
numbers_push es e = ap (λ (l : List ℕ). fold (insert_key nat_cmp) [] l) (map_push (λ (d : Entry). d.1.number) es e) ∙ fold_push (insert_key nat_cmp) [] (map (λ (d : Entry). d.1.number) es) e.1.number

-- the numbers of the entries so far, with one entry more
pub numbers_more : (ps : List Part) (i : ℕ) (p : Part) (old new : List ℕ) → i < length ps → p ≡ get_or ps i p → old ≡ numbers_of (map entry_of (take i ps)) → new ≡ insert_key nat_cmp old (entry_of p).1.number → new ≡ numbers_of (map entry_of (take (i + 1) ps))
numbers_more ps i p old new lt e so_far added =
    added
    ∙ ap (λ (l : List ℕ). insert_key nat_cmp l (entry_of p).1.number) so_far
    ∙ sym (numbers_push (map entry_of (take i ps)) (entry_of p))
    ∙ ap (λ (l : List Entry). numbers_of l) (sym (entries_taken ps i p lt e))

-- ---- entries of one ledger

filter_push : (keep : Entry → Bool) (done : List Entry) (x : Entry) → filter keep (done ++ x ∷ []) ≡ (if keep x then filter keep done ++ x ∷ [] else filter keep done)
filter_push keep [] x = refl
filter_push keep (y ∷ done) x = by (keep y) (keep x) (filter_push keep done x)
  where
    by : (k b : Bool) → filter keep (done ++ x ∷ []) ≡ (if b then filter keep done ++ x ∷ [] else filter keep done) → cond k (y ∷ filter keep (done ++ x ∷ [])) (filter keep (done ++ x ∷ [])) ≡ (if b then cond k (y ∷ filter keep done) (filter keep done) ++ x ∷ [] else cond k (y ∷ filter keep done) (filter keep done))
    by true true rest = ap (λ (l : List Entry). y ∷ l) rest
    by true false rest = ap (λ (l : List Entry). y ∷ l) rest
    by false true rest = rest
    by false false rest = rest

-- lists that have the entries so far have those with one more
pub grouped_more : (ps : List Part) (i : ℕ) (p : Part) (new old : ℕ → List Entry) → i < length ps → p ≡ get_or ps i p
    → ((n : ℕ) → new n ≡ (if nat_eq (entry_of p).1.number n then old n ++ entry_of p ∷ [] else old n))
    → ((n : ℕ) → old n ≡ of_ledger (map entry_of (take i ps)) n) → (n : ℕ) → new n ≡ of_ledger (map entry_of (take (i + 1) ps)) n
grouped_more ps i p new old lt e step is n =
    step n
    ∙ ap (λ (l : List Entry). if nat_eq (entry_of p).1.number n then l ++ entry_of p ∷ [] else l) (is n)
    ∙ sym (filter_push (λ (d : Entry). nat_eq d.1.number n) (map entry_of (take i ps)) (entry_of p))
    ∙ ap (λ (l : List Entry). of_ledger l n) (sym (entries_taken ps i p lt e))
