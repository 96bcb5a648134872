-- Pairs of statements, with one statement more.
use Rattle.std.proofs.Common.{◌≡◌, ◌+◌, ◌<◌, ◌≤◌, ℕ, Bool, true, false, List, [], ◌∷◌, ◌++◌, length, take, drop, get_or, map, flat_map, refl, sym, ap, subst, ◌∙◌, inl, inr, append-nil, append_assoc}
use Rattle.std.specs.Prelude.{◌↔◌, IsTrue}
use Rattle.std.proofs.lemmas.List.{at_drop_more, at_drop_all, take_all}
use Rattle.scp_history.specs.scp_envelope.specs.declared.statement.Statement.{Statement}
use Rattle.scp_history.specs.scp_judged.specs.Contradicts.{Contradict}
use Rattle.scp_history.specs.scp_judged.specs.declared.messages.Message.{Message}
use Rattle.scp_history.specs.Records.{place_at}
use Rattle.scp_history.specs.declared.line.Line.{Line}
use Rattle.scp_shown.specs.Listed.{Picks}
use Rattle.scp_shown.specs.Contradictions.{Placed, Pair, placed_from, pairs_with, pairs_from, DoContradict, contradicts_line, AreContradictLines}
use Rattle.scp_shown.specs.Parts.{Entry, entry_of}
use Rattle.scp_shown.specs.declared.contradictions.Placed.{Placed as There}
use Rattle.scp_shown.specs.declared.part.Part.{Part}
use Rattle.scp_shown.specs.inside.Placing.{placed}
use Rattle.scp_shown.proofs.Listing.{picks_both, map_push, flat_push, taken}

-- one pair, by whether its statements contradict each other
pub one_pair : (ledger : ℕ) (p : Pair) (b : Bool) (old new : List Line) → IsTrue b ↔ DoContradict p → b ≡ true → new ≡ old ++ contradicts_line ledger p ∷ [] → (pairs : List Pair) × Picks DoContradict (p ∷ []) pairs × (new ≡ old ++ map (contradicts_line ledger) pairs)
one_pair ledger p b old new tells is added = (p ∷ [], inl ([], tells.0 is, refl, refl), added)

pub no_pair : (ledger : ℕ) (p : Pair) (b : Bool) (old : List Line) → IsTrue b ↔ DoContradict p → b ≡ false → (pairs : List Pair) × Picks DoContradict (p ∷ []) pairs × (old ≡ old ++ map (contradicts_line ledger) pairs)
no_pair ledger p b old tells isnt = ([], inr ((λ n. (let t : false ≡ true = sym isnt ∙ tells.1 n in absurd cc)), refl), sym (append-nil old))

map_both : {X Y : Type 0} (f : X → Y) (xs ys : List X) → map f (xs ++ ys) ≡ map f xs ++ map f ys
map_both f [] ys = refl
map_both f (x ∷ xs) ys = ap (λ l. f x ∷ l) (map_both f xs ys)

-- what is left of some pairs leads to all of them
abbrev pub PairsLead : ℕ → List Pair → List Line → List Pair → List Line → Type 0
PairsLead ledger left lines all old = (rest : List Pair) → Picks DoContradict left rest → (pairs : List Pair) × Picks DoContradict all pairs × (lines ++ map (contradicts_line ledger) rest ≡ old ++ map (contradicts_line ledger) pairs)

pub lead_first : (ledger : ℕ) (all : List Pair) (old : List Line) → PairsLead ledger all old all old
lead_first ledger all old = λ rest d. (rest, d, refl)

pub lead_more : (ledger : ℕ) (here left all : List Pair) (lines new old : List Line) → ((pairs : List Pair) × Picks DoContradict here pairs × (new ≡ lines ++ map (contradicts_line ledger) pairs)) → PairsLead ledger (here ++ left) lines all old → PairsLead ledger left new all old
lead_more ledger here left all lines new old h inv = λ rest d. (
    let line = contradicts_line ledger in
    let it = inv (h.0 ++ rest) (picks_both DoContradict here left h.0 rest h.1 d) in
    (it.0, it.1, ap (λ (l : List Line). l ++ map line rest) h.2 ∙ append_assoc lines (map line h.0) (map line rest) ∙ ap (λ (l : List Line). lines ++ l) (sym (map_both line h.0 rest)) ∙ it.2))

pub lead_last : (ledger : ℕ) (all : List Pair) (lines old : List Line) → PairsLead ledger [] lines all old → (pairs : List Pair) × Picks DoContradict all pairs × (lines ≡ old ++ map (contradicts_line ledger) pairs)
lead_last ledger all lines old inv = (let it = inv [] refl in (it.0, it.1, sym (append-nil lines) ∙ it.2))

-- ---- statements with their places

pub placed_more : (file k : ℕ) (ms : List Message) (i : ℕ) (m : Message) (old new all : List Placed) → i < length ms → m ≡ get_or ms i m → new ≡ old ++ (place_at file k, m.envelope.statement) ∷ [] → old ++ placed_from file k (drop i ms) ≡ all → new ++ placed_from file (k + 1) (drop (i + 1) ms) ≡ all
placed_more file k ms i m old new all lt e added so_far =
    let rest = placed_from file (k + 1) (drop (i + 1) ms) in
    let here : Message → Placed = λ n. (place_at file k, n.envelope.statement) in
    let splits : placed_from file k (drop i ms) ≡ here m ∷ rest = at_drop_more (λ (l : List Message). placed_from file k l) ms i m lt ∙ ap (λ (n : Message). here n ∷ rest) (sym e) in
    ap (λ (l : List Placed). l ++ rest) added ∙ append_assoc old (here m ∷ []) rest ∙ ap (λ (l : List Placed). old ++ l) (sym splits) ∙ so_far

pub placed_all : (file k : ℕ) (ms : List Message) (i : ℕ) (old all : List Placed) → length ms ≤ i → old ++ placed_from file k (drop i ms) ≡ all → old ≡ all
placed_all file k ms i old all long so_far = sym (append-nil old) ∙ ap (λ (l : List Placed). old ++ l) (sym (at_drop_all (λ (l : List Message). placed_from file k l) ms i long)) ∙ so_far

-- what is made of the entries so far, with one entry more
pub mapped_taken : {Y : Type 0} (g : Entry → List Y) (ps : List Part) (i : ℕ) (p : Part) (old new : List Y) → i < length ps → p ≡ get_or ps i p → old ≡ flat_map g (map entry_of (take i ps)) → new ≡ old ++ g (entry_of p) → new ≡ flat_map g (map entry_of (take (i + 1) ps))
mapped_taken {Y = Y} g ps i p old new lt e so_far added =
    added
    ∙ ap (λ (l : List Y). l ++ g (entry_of p)) so_far
    ∙ sym (flat_push g (map entry_of (take i ps)) (entry_of p))
    ∙ ap (λ (l : List Entry). flat_map g l) (sym (map_push entry_of (take i ps) p))
    ∙ ap (λ (l : List Part). flat_map g (map entry_of l)) (sym (taken ps i p lt e))

-- ---- pairs with one statement more

-- what is left of a row of pairs
pub row_more : (ps : List There) (i : ℕ) (p : There) (last : Placed) → i < length ps → p ≡ get_or ps i p → pairs_with (map placed (drop i ps)) last ≡ (placed p, last) ∷ pairs_with (map placed (drop (i + 1) ps)) last
row_more ps i p last lt e = at_drop_more (λ (l : List There). pairs_with (map placed l) last) ps i p lt ∙ ap (λ (q : There). (placed q, last) ∷ pairs_with (map placed (drop (i + 1) ps)) last) (sym e)

pub row_none : (ps : List There) (i : ℕ) (last : Placed) → length ps ≤ i → pairs_with (map placed (drop i ps)) last ≡ []
row_none ps i last long = at_drop_all (λ (l : List There). pairs_with (map placed l) last) ps i long

-- what is left of all pairs
abbrev pub pairs_left : List There → ℕ → List Pair
pairs_left ps i = pairs_from (map placed (take i ps)) (map placed (drop i ps))

pub rows_more : (ps : List There) (i : ℕ) (p : There) → i < length ps → p ≡ get_or ps i p → pairs_left ps i ≡ pairs_with (map placed (take i ps)) (placed p) ++ pairs_left ps (i + 1)
rows_more ps i p lt e =
    let before = map placed (take i ps) in
    let now : map placed (take (i + 1) ps) ≡ before ++ placed p ∷ [] = ap (λ (l : List There). map placed l) (taken ps i p lt e) ∙ map_push placed (take i ps) p in
    at_drop_more (λ (l : List There). pairs_from before (map placed l)) ps i p lt
    ∙ ap (λ (q : There). pairs_with before (placed q) ++ pairs_from (before ++ placed q ∷ []) (map placed (drop (i + 1) ps))) (sym e)
    ∙ ap (λ (l : List Placed). pairs_with before (placed p) ++ pairs_from l (map placed (drop (i + 1) ps))) (sym now)

pub rows_none : (ps : List There) (i : ℕ) → length ps ≤ i → pairs_left ps i ≡ []
rows_none ps i long = at_drop_all (λ (l : List There). pairs_from (map placed (take i ps)) (map placed l)) ps i long

-- the lines of all pairs
pub pair_lines : (ledger : ℕ) (all : List Placed) (lines old : List Line) → ((pairs : List Pair) × Picks DoContradict (pairs_from [] all) pairs × (lines ≡ old ++ map (contradicts_line ledger) pairs)) → (more : List Line) × AreContradictLines ledger all more × (lines ≡ old ++ more)
pair_lines ledger all lines old h = (map (contradicts_line ledger) h.0, record { pairs = h.0; contradict = h.1; all = refl }, h.2)

-- the lines of the same statements
pub lines_of_same : (ledger : ℕ) (some all : List Placed) (old new : List Line) → some ≡ all → ((more : List Line) × AreContradictLines ledger some more × (new ≡ old ++ more)) → (more : List Line) × AreContradictLines ledger all more × (new ≡ old ++ more)
lines_of_same ledger some all old new e h = (h.0, subst (λ (l : List Placed). AreContradictLines ledger l h.0) e h.1, h.2)
