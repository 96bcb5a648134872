-- The last word of a line, and those before it.
use Rattle.std.proofs.Common.{◌≡◌, ℕ, zero, suc, ◌-◌, ◌<◌, List, [], ◌∷◌, Bor, length, map, take, get_or, refl, sym, ◌∙◌, ap, arith}
use Rattle.std.proofs.lemmas.List.{length-map, get_or-map}
use Rattle.scp_script_text.specs.SlotLines.{but_last, last_of}

abbrev now_of : Bor (List ℕ) → List ℕ
now_of w = w.now

front_take : (words : List (List ℕ)) → take (length words - 1) words ≡ but_last words
front_take [] = refl
front_take (w ∷ []) = refl
front_take (w ∷ v ∷ vs) =
    let e : length (w ∷ v ∷ vs) - 1 ≡ suc (length (v ∷ vs) - 1) = omega arith in
    ap (λ n. take n (w ∷ v ∷ vs)) e ∙ ap (λ l. w ∷ l) (front_take (v ∷ vs))

last_get : (words : List (List ℕ)) → get_or words (length words - 1) [] ≡ last_of words
last_get [] = refl
last_get (w ∷ []) = refl
last_get (w ∷ v ∷ vs) =
    let e : length (w ∷ v ∷ vs) - 1 ≡ suc (length (v ∷ vs) - 1) = omega arith in
    ap (λ n. get_or (w ∷ v ∷ vs) n []) e ∙ last_get (v ∷ vs)

take_words : (n : ℕ) (words : List (Bor (List ℕ))) → map (λ w. w.now) (take n words) ≡ take n (map (λ w. w.now) words)
take_words zero words = refl
take_words (suc n) [] = refl
take_words (suc n) (w ∷ ws) = ap (λ l. w.now ∷ l) (take_words n ws)

pub front_words : (words : List (Bor (List ℕ))) → map (λ w. w.now) (take (length words - 1) words) ≡ but_last (map (λ w. w.now) words)
front_words words =
    let count : length words ≡ length (map now_of words) = simp length-map in
    take_words (length words - 1) words ∙ ap (λ n. take (n - 1) (map now_of words)) count ∙ front_take (map now_of words)

pub last_word : (words : List (Bor (List ℕ))) (d : Bor (List ℕ)) → 0 < length words → (get_or words (length words - 1) d).now ≡ last_of (map (λ w. w.now) words)
last_word words d h =
    let count : length words ≡ length (map now_of words) = simp length-map in
    sym (get_or-map now_of words (length words - 1) d [] (omega (arith, h))) ∙ ap (λ n. get_or (map now_of words) (n - 1) []) count ∙ last_get (map now_of words)

pub front_none : (words : List (Bor (List ℕ))) → ¬ (0 < length words) → map (λ w. w.now) words ≡ but_last (map (λ w. w.now) words)
front_none [] e = refl
front_none (w ∷ ws) e = absurd (e (omega arith))

pub last_none : (words : List (Bor (List ℕ))) → ¬ (0 < length words) → [] ≡ last_of (map (λ w. w.now) words)
last_none [] e = refl
last_none (w ∷ ws) e = absurd (e (omega arith))
