-- The same entries have the same lines.
use Rattle.std.proofs.Common.{◌≡◌, ◌⊎◌, ◌+◌, ℕ, List, [], ◌∷◌, ◌++◌, map, flat_map, refl, sym, ap, subst, ◌∙◌, inl, inr}
use Rattle.std.specs.Prelude.{Some}
use Rattle.scp_history.specs.scp_types.specs.declared.names.NodeId.{NodeId}
use Rattle.scp_history.specs.scp_envelope.specs.Kinds.{set_hash_of}
use Rattle.scp_history.specs.scp_envelope.specs.declared.statement.Envelope.{Envelope}
use Rattle.scp_history.specs.scp_ledger.specs.Journal.{Heard}
use Rattle.scp_history.specs.scp_judged.specs.Verdicts.{heard_by}
use Rattle.scp_history.specs.scp_judged.specs.Backed.{IsBacked}
use Rattle.scp_history.specs.scp_judged.specs.declared.messages.Message.{Message as Judged}
use Rattle.scp_history.specs.scp_judged.specs.declared.verdict.Verdict.{Verdict}
use Rattle.scp_history.specs.Records.{place_at, unless_counts, message_lines}
use Rattle.scp_history.specs.declared.line.Line.{Line}
use Rattle.scp_history.specs.declared.line.Line.TheVariants.{Value, Uncertified, Unbacked, Message, Silent}
use Rattle.scp_history.specs.declared.line.StatementWord.{StatementWord}
use Rattle.scp_history.specs.declared.line.StatementWord.TheVariants.{Externalize, Confirm, Prepare}
use Rattle.scp_history.specs.declared.side.Side.{Side}
use Rattle.scp_shown.specs.Listed.{Picks, AddsEach}
use Rattle.scp_shown.specs.Parts.{Entry, counting_of, all_counting}
use Rattle.scp_shown.specs.Joined.{JoinsOne, Joins}
use Rattle.scp_shown.specs.Spoken.{spoken_last, AreSayers, nodes_heard, values_heard}
use Rattle.scp_shown.specs.ValueLines.{IsCertified, IsNotCertified, IsNotBacked, if_any, counts_of, AreValueLines}
use Rattle.scp_shown.specs.Sides.{IsSide, side_of, side_lines}
use Rattle.scp_shown.specs.Silent.{IsSilent, nodes_named, AreSilentLines}
use Rattle.scp_shown.specs.Contradictions.{Placed, Pair, placed_from, placed_in, placed_of, pairs_from, DoContradict, contradicts_line, AreContradictLines}
use Rattle.scp_shown.specs.LedgerLines.{entry_lines, AreHeardLines, AreLedgerLines}
use Rattle.scp_shown.specs.Laws.{SameEntry, SameEntries}

-- ---- relations that have one answer

picks_one : {X : Type 0} (P : X → Type 0) (xs ys zs : List X) → Picks P xs ys → Picks P xs zs → ys ≡ zs
picks_one P [] ys zs d e = d ∙ sym e
picks_one P (x ∷ xs) ys zs (inl d) (inl e) = d.2 ∙ ap (λ l. x ∷ l) (picks_one P xs d.0 e.0 d.3 e.3) ∙ sym e.2
picks_one P (x ∷ xs) ys zs (inl d) (inr e) = absurd (e.0 d.1)
picks_one P (x ∷ xs) ys zs (inr d) (inl e) = absurd (d.0 e.1)
picks_one P (x ∷ xs) ys zs (inr d) (inr e) = picks_one P xs ys zs d.1 e.1

-- what is picked of the same list
picks_same : {X : Type 0} (P : X → Type 0) (xs ws ys zs : List X) → xs ≡ ws → Picks P xs ys → Picks P ws zs → ys ≡ zs
picks_same P xs ws ys zs same d e = picks_one P xs ys zs d (subst (λ l. Picks P l zs) (sym same) e)

adds_one : {X Y : Type 0} (R : X → List Y → Type 0) → ((x : X) (a b : List Y) → R x a → R x b → a ≡ b) → (xs : List X) (a b : List Y) → AddsEach R xs a → AddsEach R xs b → a ≡ b
adds_one R one [] a b d e = d ∙ sym e
adds_one R one (x ∷ xs) a b d e =
    d.4
    ∙ ap (λ l. l ++ d.1) (one x d.0 e.0 d.2 e.2)
    ∙ ap (λ l. e.0 ++ l) (adds_one R one xs d.1 e.1 d.3 e.3)
    ∙ sym e.4

join_one : (first : List Heard) (h : Heard) (a b : List Heard) → JoinsOne first h a → JoinsOne first h b → a ≡ b
join_one first h a b (inl d) (inl e) = d.1 ∙ sym e.1
join_one first h a b (inl d) (inr e) = absurd (e.0 d.0)
join_one first h a b (inr d) (inl e) = absurd (d.0 e.0)
join_one first h a b (inr d) (inr e) = d.1 ∙ sym e.1

joins_one : (first hs a b : List Heard) → Joins first hs a → Joins first hs b → a ≡ b
joins_one first [] a b d e = d ∙ sym e
joins_one first (h ∷ hs) a b d e = joins_one d.0 hs a b d.2 (subst (λ (l : List Heard). Joins l hs b) (sym (join_one first h d.0 e.0 d.1 e.1)) e.2)

sayers_one : (hs : List Heard) (w : StatementWord) (x : List ℕ) (nodes a b : List NodeId) → AreSayers hs w x nodes a → AreSayers hs w x nodes b → a ≡ b
sayers_one hs w x nodes a b d e = picks_one (λ (v : NodeId). spoken_last hs v ≡ Some (w, x)) nodes a b d e

sayers_same : (hs : List Heard) (w : StatementWord) (x : List ℕ) (nodes others a b : List NodeId) → nodes ≡ others → AreSayers hs w x nodes a → AreSayers hs w x others b → a ≡ b
sayers_same hs w x nodes others a b same d e = picks_same (λ (v : NodeId). spoken_last hs v ≡ Some (w, x)) nodes others a b same d e

-- ---- the lines of what is heard

value_one : (ledger : ℕ) (hs : List Heard) (nodes : List NodeId) (x : List ℕ) (a b : List Line) → AreValueLines ledger hs nodes x a → AreValueLines ledger hs nodes x b → a ≡ b
value_one ledger hs nodes x a b d e =
    let externalize = sayers_one hs Externalize x nodes d.externalize e.externalize d.externalize_it e.externalize_it in
    let confirm = sayers_one hs Confirm x nodes d.confirm e.confirm d.confirm_it e.confirm_it in
    let prepare = sayers_one hs Prepare x nodes d.prepare e.prepare d.prepare_it e.prepare_it in
    let certified = picks_same (IsCertified (heard_by hs)) d.externalize e.externalize d.certified e.certified externalize d.are_certified e.are_certified in
    let uncertified = picks_same (IsNotCertified (heard_by hs)) d.externalize e.externalize d.uncertified e.uncertified externalize d.are_uncertified e.are_uncertified in
    let backed = picks_one (IsBacked (heard_by hs) x) nodes d.backed e.backed d.are_backed e.are_backed in
    let others = picks_one (IsNotBacked (heard_by hs) x) nodes d.others e.others d.are_others e.are_others in
    let unbacked = sayers_same hs Externalize x d.others e.others d.unbacked e.unbacked others d.are_unbacked e.are_unbacked in
    d.all
    ∙ ap (λ (l : List NodeId). (Value ledger x (counts_of l d.confirm d.prepare d.certified d.backed) ∷ if_any (λ vs. Uncertified ledger vs) d.uncertified) ++ if_any (λ vs. Unbacked ledger vs) d.unbacked) externalize
    ∙ ap (λ (l : List NodeId). (Value ledger x (counts_of e.externalize l d.prepare d.certified d.backed) ∷ if_any (λ vs. Uncertified ledger vs) d.uncertified) ++ if_any (λ vs. Unbacked ledger vs) d.unbacked) confirm
    ∙ ap (λ (l : List NodeId). (Value ledger x (counts_of e.externalize e.confirm l d.certified d.backed) ∷ if_any (λ vs. Uncertified ledger vs) d.uncertified) ++ if_any (λ vs. Unbacked ledger vs) d.unbacked) prepare
    ∙ ap (λ (l : List NodeId). (Value ledger x (counts_of e.externalize e.confirm e.prepare l d.backed) ∷ if_any (λ vs. Uncertified ledger vs) d.uncertified) ++ if_any (λ vs. Unbacked ledger vs) d.unbacked) certified
    ∙ ap (λ (l : List NodeId). (Value ledger x (counts_of e.externalize e.confirm e.prepare e.certified l) ∷ if_any (λ vs. Uncertified ledger vs) d.uncertified) ++ if_any (λ vs. Unbacked ledger vs) d.unbacked) backed
    ∙ ap (λ (l : List NodeId). (Value ledger x (counts_of e.externalize e.confirm e.prepare e.certified e.backed) ∷ if_any (λ vs. Uncertified ledger vs) l) ++ if_any (λ vs. Unbacked ledger vs) d.unbacked) uncertified
    ∙ ap (λ (l : List NodeId). (Value ledger x (counts_of e.externalize e.confirm e.prepare e.certified e.backed) ∷ if_any (λ vs. Uncertified ledger vs) e.uncertified) ++ if_any (λ vs. Unbacked ledger vs) l) unbacked
    ∙ sym e.all

side_one : (hs : List Heard) (nodes : List NodeId) (x : List ℕ) (a b : List Side) → IsSide hs nodes x a → IsSide hs nodes x b → a ≡ b
side_one hs nodes x a b d e =
    let externalize = sayers_one hs Externalize x nodes d.are_certified.externalize e.are_certified.externalize d.are_certified.externalize_it e.are_certified.externalize_it in
    let certified = picks_same (IsCertified (heard_by hs)) d.are_certified.externalize e.are_certified.externalize d.certified e.certified externalize d.are_certified.are_certified e.are_certified.are_certified in
    d.all ∙ ap (λ (l : List NodeId). side_of x l) certified ∙ sym e.all

heard_one : (ledger : ℕ) (hs : List Heard) (nodes : List NodeId) (a b : List Line) → AreHeardLines ledger hs nodes a → AreHeardLines ledger hs nodes b → a ≡ b
heard_one ledger hs nodes a b d e =
    let values = adds_one (AreValueLines ledger hs nodes) (value_one ledger hs nodes) (values_heard hs nodes) d.of_values e.of_values d.values e.values in
    let sides = adds_one (IsSide hs nodes) (side_one hs nodes) (values_heard hs nodes) d.sides e.sides d.certified e.certified in
    d.all
    ∙ ap (λ (l : List Line). l ++ side_lines ledger hs nodes d.sides) values
    ∙ ap (λ (l : List Side). e.of_values ++ side_lines ledger hs nodes l) sides
    ∙ sym e.all

silent_one : (ledger : ℕ) (hs : List Heard) (nodes : List NodeId) (a b : List Line) → AreSilentLines ledger hs nodes a → AreSilentLines ledger hs nodes b → a ≡ b
silent_one ledger hs nodes a b d e =
    d.all ∙ ap (λ (l : List NodeId). if_any (λ vs. Silent ledger vs) l) (picks_one (IsSilent hs) (nodes_named hs nodes) d.silent e.silent d.are_silent e.are_silent) ∙ sym e.all

contradict_one : (ledger : ℕ) (placed : List Placed) (a b : List Line) → AreContradictLines ledger placed a → AreContradictLines ledger placed b → a ≡ b
contradict_one ledger placed a b d e =
    d.all ∙ ap (λ (l : List Pair). map (contradicts_line ledger) l) (picks_one DoContradict (pairs_from [] placed) d.pairs e.pairs d.contradict e.contradict) ∙ sym e.all

-- ---- entries by their messages and verdicts

abbrev placed_by : ℕ → ℕ → List Envelope → List Placed
placed_by file number [] = []
placed_by file number (m ∷ ms) = (place_at file number, m.statement) ∷ placed_by file (number + 1) ms

placed_is : (file number : ℕ) (ms : List Judged) → placed_from file number ms ≡ placed_by file number (map (λ (m : Judged). m.envelope) ms)
placed_is file number [] = refl
placed_is file number (m ∷ ms) = ap (λ (l : List Placed). (place_at file number, m.envelope.statement) ∷ l) (placed_is file (number + 1) ms)

abbrev lines_by : ℕ → ℕ → ℕ → List Envelope → List Verdict → List Line
lines_by ledger file number [] vs = []
lines_by ledger file number (m ∷ ms) [] = []
lines_by ledger file number (m ∷ ms) (v ∷ vs) = unless_counts v (Message ledger (place_at file number) v (set_hash_of m.statement.pledges) m.statement.node) ++ lines_by ledger file (number + 1) ms vs

lines_are : (ledger file number : ℕ) (ms : List Judged) → message_lines ledger file number ms ≡ lines_by ledger file number (map (λ (m : Judged). m.envelope) ms) (map (λ (m : Judged). m.verdict) ms)
lines_are ledger file number [] = refl
lines_are ledger file number (m ∷ ms) =
    ap (λ (l : List Line). unless_counts m.verdict (Message ledger (place_at file number) m.verdict (set_hash_of m.envelope.statement.pledges) m.envelope.statement.node) ++ l) (lines_are ledger file (number + 1) ms)

placed_same : (e f : Entry) → SameEntry e f → placed_in e ≡ placed_in f
placed_same e f same =
    placed_is e.0 1 e.1.judged.messages.items
    ∙ ap (λ (file : ℕ). placed_by file 1 (map (λ (m : Judged). m.envelope) e.1.judged.messages.items)) same.file
    ∙ ap (λ (ms : List Envelope). placed_by f.0 1 ms) same.messages
    ∙ sym (placed_is f.0 1 f.1.judged.messages.items)

lines_same : (e f : Entry) → SameEntry e f → entry_lines e ≡ entry_lines f
lines_same e f same =
    lines_are e.1.number e.0 1 e.1.judged.messages.items
    ∙ ap (λ (n : ℕ). lines_by n e.0 1 (map (λ (m : Judged). m.envelope) e.1.judged.messages.items) (map (λ (m : Judged). m.verdict) e.1.judged.messages.items)) same.number
    ∙ ap (λ (file : ℕ). lines_by f.1.number file 1 (map (λ (m : Judged). m.envelope) e.1.judged.messages.items) (map (λ (m : Judged). m.verdict) e.1.judged.messages.items)) same.file
    ∙ ap (λ (ms : List Envelope). lines_by f.1.number f.0 1 ms (map (λ (m : Judged). m.verdict) e.1.judged.messages.items)) same.messages
    ∙ ap (λ (vs : List Verdict). lines_by f.1.number f.0 1 (map (λ (m : Judged). m.envelope) f.1.judged.messages.items) vs) same.verdicts
    ∙ sym (lines_are f.1.number f.0 1 f.1.judged.messages.items)

-- what is made of the same entries is the same
all_same : {Y : Type 0} (g : Entry → List Y) → ((e f : Entry) → SameEntry e f → g e ≡ g f) → (es fs : List Entry) → SameEntries es fs → flat_map g es ≡ flat_map g fs
all_same g one [] [] same = refl
all_same g one [] (f ∷ fs) same = absurd same
all_same g one (e ∷ es) [] same = absurd same
all_same g one (e ∷ es) (f ∷ fs) same = ap (λ l. l ++ flat_map g es) (one e f same.0) ∙ ap (λ l. g f ++ l) (all_same g one es fs same.1)

-- the same entries have the same lines
pub ledger_one : (ledger : ℕ) (es fs : List Entry) (ls ms : List Line) → SameEntries es fs → AreLedgerLines ledger es ls → AreLedgerLines ledger fs ms → ls ≡ ms
ledger_one ledger es fs ls ms same d e =
    let counting : all_counting es ≡ all_counting fs = all_same counting_of (λ a b s. s.counting) es fs same in
    let placed : placed_of es ≡ placed_of fs = all_same placed_in placed_same es fs same in
    let told : flat_map entry_lines es ≡ flat_map entry_lines fs = all_same entry_lines lines_same es fs same in
    let heard : d.heard ≡ e.heard = joins_one [] (all_counting es) d.heard e.heard d.joined (subst (λ (l : List Heard). Joins [] l e.heard) (sym counting) e.joined) in
    let of_heard : d.of_heard ≡ e.of_heard = heard_one ledger d.heard (nodes_heard d.heard) d.of_heard e.of_heard d.shown (subst (λ (hs : List Heard). AreHeardLines ledger hs (nodes_heard hs) e.of_heard) (sym heard) e.shown) in
    let of_silent : d.of_silent ≡ e.of_silent = silent_one ledger d.heard (nodes_heard d.heard) d.of_silent e.of_silent d.silent (subst (λ (hs : List Heard). AreSilentLines ledger hs (nodes_heard hs) e.of_silent) (sym heard) e.silent) in
    let of_pairs : d.of_pairs ≡ e.of_pairs = contradict_one ledger (placed_of es) d.of_pairs e.of_pairs d.contradictions (subst (λ (l : List Placed). AreContradictLines ledger l e.of_pairs) (sym placed) e.contradictions) in
    d.all
    ∙ ap (λ (l : List Line). ((l ++ flat_map entry_lines es) ++ d.of_silent) ++ d.of_pairs) of_heard
    ∙ ap (λ (l : List Line). ((e.of_heard ++ l) ++ d.of_silent) ++ d.of_pairs) told
    ∙ ap (λ (l : List Line). ((e.of_heard ++ flat_map entry_lines fs) ++ l) ++ d.of_pairs) of_silent
    ∙ ap (λ (l : List Line). ((e.of_heard ++ flat_map entry_lines fs) ++ e.of_silent) ++ l) of_pairs
    ∙ sym e.all
