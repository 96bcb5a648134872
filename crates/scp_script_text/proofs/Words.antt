-- The first words of a line, and those behind them.
use Rattle.std.proofs.Common.{◌≡◌, ℕ, zero, suc, ◌+◌, ◌-◌, ◌<◌, ◌≤◌, Bool, true, false, List, [], ◌∷◌, ◌++◌, Bor, length, map, take, drop, get_or, refl, sym, ◌∙◌, ap, subst, arith, drop-cons}
use Rattle.std.specs.Prelude.{is_some}
use Rattle.std.proofs.lemmas.List.{length-map, get_or-map, take_rest, take_more}
use Rattle.scp_script_text.specs.Lines.{carried_by, carried_in}

abbrev now_of : Bor (List ℕ) → List ℕ
now_of w = w.now

pub take_words : (n : ℕ) (words : List (Bor (List ℕ))) → map (λ w. w.now) (take n words) ≡ take n (map (λ w. w.now) words)
take_words zero words = refl
take_words (suc n) [] = refl
take_words (suc n) (w ∷ ws) = ap (λ l. w.now ∷ l) (take_words n ws)

pub take_all : (n : ℕ) (words : List (Bor (List ℕ))) → length words ≤ n → map (λ w. w.now) words ≡ take n (map (λ w. w.now) words)
take_all zero [] few = refl
take_all (suc n) [] few = refl
take_all zero (w ∷ ws) few = absurd (omega (arith, few))
take_all (suc n) (w ∷ ws) few = ap (λ l. w.now ∷ l) (take_all n ws (omega (arith, few)))

pub drop_words : (n : ℕ) (words : List (Bor (List ℕ))) → map (λ w. w.now) (drop n words) ≡ drop n (map (λ w. w.now) words)
drop_words zero words = refl
drop_words (suc n) [] = refl
drop_words (suc n) (w ∷ ws) = drop_words n ws

pub range_words : (n : ℕ) (words : List (Bor (List ℕ))) → map (λ w. w.now) (take (length words - n) (drop n words)) ≡ drop n (map (λ w. w.now) words)
range_words n words = ap (map now_of) (take_rest words n) ∙ drop_words n words

pub drop_all : (n : ℕ) (words : List (Bor (List ℕ))) → length words ≤ n → [] ≡ drop n (map (λ w. w.now) words)
drop_all zero [] few = refl
drop_all (suc n) [] few = refl
drop_all zero (w ∷ ws) few = absurd (omega (arith, few))
drop_all (suc n) (w ∷ ws) few = drop_all n ws (omega (arith, few))

parted : (i : ℕ) (texts : List (List ℕ)) → take i texts ++ drop i texts ≡ texts
parted zero texts = refl
parted (suc i) [] = refl
parted (suc i) (t ∷ ts) = ap (λ l. t ∷ l) (parted i ts)

-- a text at its place among the others
pub text_at : (items : List (Bor (List ℕ))) (texts : List (List ℕ)) (i : ℕ) (d : Bor (List ℕ)) → map (λ w. w.now) items ≡ texts → i < length items → texts ≡ take i texts ++ (get_or items i d).now ∷ drop (i + 1) texts
text_at items texts i d e h =
    let P : List (List ℕ) → Type 0 = λ l. l ≡ take i l ++ (get_or items i d).now ∷ drop (i + 1) l in
    let n : i < length (map now_of items) = rw length-map h in
    let here : get_or (map now_of items) i [] ≡ (get_or items i d).now = get_or-map now_of items i d [] h in
    let next : suc i ≡ i + 1 = omega arith in
    let cons : drop i (map now_of items) ≡ (get_or items i d).now ∷ drop (i + 1) (map now_of items) = drop-cons (map now_of items) i [] n ∙ ap (λ t. t ∷ drop (suc i) (map now_of items)) here ∙ ap (λ k. (get_or items i d).now ∷ drop k (map now_of items)) next in
    subst P e (sym (parted i (map now_of items)) ∙ ap (λ l. take i (map now_of items) ++ l) cons)

-- one text more, where there is one
pub next_text : (items : List (Bor (List ℕ))) (texts : List (List ℕ)) (i : ℕ) (d : Bor (List ℕ)) → map (λ w. w.now) items ≡ texts → i < length items → take (i + 1) texts ≡ take i texts ++ (get_or items i d).now ∷ []
next_text items texts i d e h =
    let n : i < length (map now_of items) = rw length-map h in
    let P : List (List ℕ) → Type 0 = λ l. take (i + 1) l ≡ take i l ++ (get_or items i d).now ∷ [] in
    subst P e (take_more (map now_of items) i [] n ∙ ap (λ y. take i (map now_of items) ++ y ∷ []) (get_or-map now_of items i d [] h))

-- what a line carries is told by the first of its words
pub first_word : (words : List (List ℕ)) (verb : List ℕ) → (0 < length words) × (verb ≡ get_or words 0 verb) → is_some (carried_by verb) ≡ is_some (carried_in words)
first_word [] verb h = absurd (let few : 0 < 0 = h.0 in omega (arith, few))
first_word (w ∷ ws) verb h = ap (λ (v : List ℕ). is_some (carried_by v)) h.1
