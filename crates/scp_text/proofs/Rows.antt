-- Quorum sets as they are written, entry by entry.
use Rattle.std.proofs.Common.{◌≡◌, ℕ, Bool, true, false, ◌&&◌, List, [], ◌∷◌, ◌++◌, map, refl, sym, ◌∙◌, ap, append_assoc, append-nil, Bor, drop, get_or, length, ◌<◌, suc, drop-cons, zero, ◌+◌, ◌-◌, take, Some, None, Ok, Err, Result, arith}
use Rattle.std.specs.Prelude.{codes, nat_eq, nat_lt, ◌==◌, OnOk}
use Rattle.std.specs.List.{position_or_len}
use Rattle.std.proofs.lemmas.List.Sums.{position_or_len_is}
use Rattle.std.proofs.lemmas.List.{take_rest}
use Rattle.std.proofs.lemmas.Bool.Decides.{nat_tests}
use Rattle.scp_kv.specs.scp_types.specs.declared.fault.Fault.{Fault}
use Rattle.std.specs.Fmt.{decimal}
use Rattle.scp_kv.specs.scp_types.specs.declared.names.NodeId.{NodeId}
use Rattle.scp_kv.specs.scp_xdr.specs.Tree.{Tree, Trees, in_a_row}
use Rattle.scp_wire.specs.scp_quorum.specs.QuorumTree.{Level, QuorumTree}
use Rattle.scp_text.specs.Pieces.{listed, bracketed, all_of}
use Rattle.scp_text.specs.Sets.{cut, set_with, inner_in, has_bracket, nodes_first, sets_after, node_text, level_text, row_texts, set_text}

pub texts_of_row : (qs : List QuorumTree) → row_texts (in_a_row qs) ≡ map set_text qs
unfolding row_texts set_text
texts_of_row [] = refl
texts_of_row (q ∷ qs) = ap (λ l. set_text q ∷ l) (texts_of_row qs)

abbrev pub is_nil : {X : Type 0} → List X → Bool
is_nil [] = true
is_nil (x ∷ xs) = false

pub listed_both : (mark : ℕ) (first : Bool) (xs ys : List (List ℕ)) → listed mark first (xs ++ ys) ≡ listed mark first xs ++ listed mark (first && is_nil xs) ys
listed_both mark true [] ys = refl
listed_both mark false [] ys = refl
listed_both mark true (x ∷ xs) ys = ap (λ l. x ++ l) (listed_both mark false xs ys) ∙ sym (append_assoc x (listed mark false xs) (listed mark false ys))
listed_both mark false (x ∷ xs) ys = ap (λ l. (mark ∷ x) ++ l) (listed_both mark false xs ys) ∙ sym (append_assoc (mark ∷ x) (listed mark false xs) (listed mark false ys))

pub nil_map : {X Y : Type 0} (f : X → Y) (xs : List X) → is_nil (map f xs) ≡ is_nil xs
nil_map f [] = refl
nil_map f (x ∷ xs) = refl

-- the parts of a set's text, as they are added
pub set_added : (set : QuorumTree) (qs : List QuorumTree) (old all : List ℕ) → in_a_row qs ≡ set.inner
    → all ≡ (((old ++ decimal set.head.threshold) ++ codes "of(") ++ listed 44 true (map node_text set.head.validators)) ++ listed 44 (is_nil set.head.validators) (map set_text qs)
    → all ++ codes ")" ≡ old ++ set_text set
unfolding set_text level_text
set_added set qs old all row e =
    let vs = map node_text set.head.validators in
    let texts : row_texts set.inner ≡ map set_text qs = ap row_texts (sym row) ∙ texts_of_row qs in
    let entries : listed 44 true (vs ++ row_texts set.inner) ≡ listed 44 true vs ++ listed 44 (is_nil set.head.validators) (map set_text qs) = ap (λ l. listed 44 true (vs ++ l)) texts ∙ listed_both 44 true vs (map set_text qs) ∙ ap (λ b. listed 44 true vs ++ listed 44 b (map set_text qs)) (nil_map node_text set.head.validators) in
    rw (e, entries) (simp append_assoc)

-- ---- entries

abbrev pub now_of : Bor (List ℕ) → List ℕ
now_of e = e.now

stop_first : (x : List ℕ) (xs : List (List ℕ)) → has_bracket x ≡ true → nodes_first (x ∷ xs) ≡ []
stop_first x xs h = rw h refl

stop_after : (x : List ℕ) (xs : List (List ℕ)) → has_bracket x ≡ true → sets_after (x ∷ xs) ≡ x ∷ xs
stop_after x xs h = rw h refl

entries_here : (es : List (Bor (List ℕ))) (i : ℕ) (d : Bor (List ℕ)) → i < length es → map now_of (drop i es) ≡ (get_or es i d).now ∷ map now_of (drop (suc i) es)
entries_here es i d h = ap (map now_of) (drop-cons es i d h)

pub first_stops : (es : List (Bor (List ℕ))) (i : ℕ) (d : Bor (List ℕ)) → i < length es → has_bracket (get_or es i d).now ≡ true → nodes_first (map now_of (drop i es)) ≡ []
first_stops es i d h b = ap nodes_first (entries_here es i d h) ∙ stop_first (get_or es i d).now (map now_of (drop (suc i) es)) b

pub after_stops : (es : List (Bor (List ℕ))) (i : ℕ) (d : Bor (List ℕ)) → i < length es → has_bracket (get_or es i d).now ≡ true → sets_after (map now_of (drop i es)) ≡ map now_of (drop i es)
after_stops es i d h b = ap sets_after (entries_here es i d h) ∙ stop_after (get_or es i d).now (map now_of (drop (suc i) es)) b ∙ sym (entries_here es i d h)

some_inner : (n : ℕ) (words : List (List ℕ)) → inner_in (suc n) words ≡ all_of (set_with (inner_in n)) words
unfolding inner_in
some_inner n words = refl

pub inner_some : (levels : ℕ) (words : List (List ℕ)) → 0 < levels → inner_in levels words ≡ all_of (set_with (inner_in (levels - 1))) words
inner_some zero words h = absurd (omega arith)
inner_some (suc n) words h =
    let e : suc n - 1 ≡ n = omega arith in
    some_inner n words ∙ sym (ap (λ m. all_of (set_with (inner_in m)) words) e)

pub empty_is : {X : Type 0} (xs : List X) → (length xs == 0) ≡ is_nil xs
empty_is [] = refl
empty_is (x ∷ xs) =
    let no_zero : (length (x ∷ xs) == 0) ≡ false = grind (arith, nat_tests) in no_zero

-- words behind others
pub after_words : {A : Type 0} (r : Result A Fault) (old mid new x : List ℕ) (xs ys : List (List ℕ)) → mid ≡ old ++ listed 32 true (x ∷ xs) → OnOk r (new ≡ mid ++ listed 32 false ys) → OnOk r (new ≡ old ++ listed 32 true ((x ∷ xs) ++ ys))
after_words (Ok v) old mid new x xs ys e h =
    h ∙ ap (λ l. l ++ listed 32 false ys) e ∙ append_assoc old (listed 32 true (x ∷ xs)) (listed 32 false ys) ∙ sym (ap (λ l. old ++ l) (listed_both 32 true (x ∷ xs) ys))
after_words (Err f) old mid new x xs ys e h = tt

-- ---- the first o

pub cut_found : (text : List ℕ) (i : ℕ) → i < length text → ((k : ℕ) → k < i → nat_eq (get_or text k 0) 111 ≡ false) → nat_eq (get_or text i 0) 111 ≡ true → Some (take i text, take (length text - (i + 1)) (drop (i + 1) text)) ≡ cut text
unfolding cut
cut_found text i lt below here =
    let at : position_or_len (λ b. nat_eq b 111) text ≡ i = position_or_len_is (λ b. nat_eq b 111) text i 0 (omega arith) below (λ _. here) in
    let yes_lt : nat_lt i (length text) ≡ true = grind (arith, nat_tests) in
    rw (at, take_rest text (i + 1), yes_lt) refl

pub cut_none : (text : List ℕ) → ((k : ℕ) → k < length text → nat_eq (get_or text k 0) 111 ≡ false) → None ≡ cut text
unfolding cut
cut_none text below =
    let at : position_or_len (λ b. nat_eq b 111) text ≡ length text = position_or_len_is (λ b. nat_eq b 111) text (length text) 0 (omega arith) below (λ h. absurd (omega arith)) in
    let no_lt : nat_lt (length text) (length text) ≡ false = grind (arith, nat_tests) in
    rw (at, no_lt) refl
