-- Letters and pens, one more.
use Rattle.std.proofs.Common.{◌≡◌, ◌+◌, ◌-◌, ◌<◌, ◌≤◌, ℕ, zero, suc, Bool, true, false, cond, List, [], ◌∷◌, ◌++◌, Option, Some, None, length, get_or, set, take, drop, filter, refl, sym, ap, ◌∙◌, append_assoc, append-nil, arith, drop-cons}
use Rattle.std.proofs.lemmas.List.{take-append-drop, take-set, drop-set, take_more, take_all, drop_all}
use Rattle.std.proofs.lemmas.List.Elements.{filter-append}
use Rattle.scp_words.specs.scp_types.specs.declared.names.ConnId.{ConnId}
use Rattle.scp_draw_marks.specs.declared.topic.Topic.{Topic}
use Rattle.scp_draw_marks.specs.declared.topic.Letter.{Letter}
use Rattle.scp_draw_marks.specs.declared.marks.Pen.{Pen}
use Rattle.scp_draw_marks.specs.Topics.{same_slot, is_of}
use Rattle.scp_draw_marks.specs.Places.{last_or, newest, next_letter, with_letters, with_pen}

-- ---- letters

last_push : {X : Type 0} (found : Option X) (xs : List X) (x : X) → last_or found (xs ++ x ∷ []) ≡ Some x
last_push found [] x = refl
last_push found (y ∷ xs) x = last_push (Some y) xs x

pushed : (conn : ConnId) (seq : Option ℕ) (xs : List Letter) (x : Letter) (b : Bool) → is_of conn seq x ≡ b → newest conn seq (xs ++ x ∷ []) ≡ last_or None (filter (is_of conn seq) xs ++ cond b (x ∷ []) [])
pushed conn seq xs x b h = ap (last_or None) (filter-append (is_of conn seq) xs (x ∷ []) ∙ ap (λ (t : Bool). filter (is_of conn seq) xs ++ cond t (x ∷ []) []) h)

-- the last letter is the newest, where it is of the connection and has the number
pub newest_here : (conn : ConnId) (seq : Option ℕ) (letters : List Letter) (left : ℕ) (d : Letter) (all : Option Letter) → 0 < left → left ≤ length letters → is_of conn seq (get_or letters (left - 1) d) ≡ true
    → newest conn seq (take left letters) ≡ all → Some (get_or letters (left - 1) d) ≡ all
newest_here conn seq letters left d all some within h before =
    let s : left ≡ (left - 1) + 1 = omega arith in
    sym (last_push None (filter (is_of conn seq) (take (left - 1) letters)) (get_or letters (left - 1) d))
    ∙ sym (pushed conn seq (take (left - 1) letters) (get_or letters (left - 1) d) true h)
    ∙ ap (newest conn seq) (sym (ap (λ k. take k letters) s ∙ take_more letters (left - 1) d (omega arith)))
    ∙ before

-- else it is that of the letters before
pub newest_before : (conn : ConnId) (seq : Option ℕ) (letters : List Letter) (left : ℕ) (d : Letter) (all : Option Letter) → 0 < left → left ≤ length letters → is_of conn seq (get_or letters (left - 1) d) ≡ false
    → newest conn seq (take left letters) ≡ all → newest conn seq (take (left - 1) letters) ≡ all
newest_before conn seq letters left d all some within h before =
    let s : left ≡ (left - 1) + 1 = omega arith in
    ap (last_or None) (sym (append-nil (filter (is_of conn seq) (take (left - 1) letters))))
    ∙ sym (pushed conn seq (take (left - 1) letters) (get_or letters (left - 1) d) false h)
    ∙ ap (newest conn seq) (sym (ap (λ k. take k letters) s ∙ take_more letters (left - 1) d (omega arith)))
    ∙ before

-- a letter more, of those that are left
pub letters_more : (count i : ℕ) (conn : ConnId) (topic : Topic) (row : ℕ) (old new all : List Letter) → i < count → new ≡ old ++ next_letter conn topic row old ∷ []
    → with_letters (count - i) conn topic row old ≡ all → with_letters (count - (i + 1)) conn topic row new ≡ all
letters_more count i conn topic row old new all lt e before =
    let s : count - i ≡ suc (count - (i + 1)) = omega arith in
    ap (with_letters (count - (i + 1)) conn topic row) e ∙ sym (ap (λ k. with_letters k conn topic row old) s) ∙ before

-- none is left
pub letters_done : (count i : ℕ) (conn : ConnId) (topic : Topic) (row : ℕ) (letters all : List Letter) → count ≤ i → with_letters (count - i) conn topic row letters ≡ all → letters ≡ all
letters_done count i conn topic row letters all le before =
    let z : count - i ≡ 0 = omega arith in
    sym (ap (λ k. with_letters k conn topic row letters) z) ∙ before

-- ---- pens

-- what a pen does to what is left, by whether the next is of its section
next_pen : (pen next : Pen) (pens : List Pen) (b : Bool) → same_slot next.slot pen.slot ≡ b → with_pen pen (next ∷ pens) ≡ cond b (pen ∷ pens) (next ∷ with_pen pen pens)
next_pen pen next pens b h = ap (λ (t : Bool). cond t (pen ∷ pens) (next ∷ with_pen pen pens)) h

set_at : (pens : List Pen) (i : ℕ) (pen : Pen) → i < length pens → set pens i pen ≡ take i pens ++ pen ∷ drop (suc i) pens
set_at pens i pen lt =
    let s : i + 1 ≡ suc i = omega arith in
    sym (take-append-drop i (set pens i pen)) ∙ ap (λ l. l ++ drop i (set pens i pen)) (take-set pens i pen) ∙ ap (λ l. take i pens ++ l) (drop-set pens i pen lt) ∙ ap (λ k. take i pens ++ pen ∷ drop k pens) s

here : (pen next d : Pen) (pens now : List Pen) (i : ℕ) (b : Bool) → next ≡ get_or now i d → now ≡ pens → same_slot next.slot pen.slot ≡ b → same_slot (get_or pens i d).slot pen.slot ≡ b
here pen next d pens now i b is same h = ap (λ (p : Pen). same_slot p.slot pen.slot) (sym (is ∙ ap (λ (l : List Pen). get_or l i d) same)) ∙ h

-- the pen of its section is there
pub put_here : (pen next d : Pen) (pens now : List Pen) (i : ℕ) (all : List Pen) → i < length pens → next ≡ get_or now i d → now ≡ pens → same_slot next.slot pen.slot ≡ true
    → take i pens ++ with_pen pen (drop i pens) ≡ all → set now i pen ≡ all
put_here pen next d pens now i all lt is same h before =
    ap (λ (l : List Pen). set l i pen) same ∙ set_at pens i pen lt
    ∙ ap (λ (l : List Pen). take i pens ++ l) (sym (ap (with_pen pen) (drop-cons pens i d lt) ∙ next_pen pen (get_or pens i d) (drop (suc i) pens) true (here pen next d pens now i true is same h)))
    ∙ before

-- another pen is there
pub put_behind : (pen next d : Pen) (pens now : List Pen) (i : ℕ) (all : List Pen) → i < length pens → next ≡ get_or now i d → now ≡ pens → same_slot next.slot pen.slot ≡ false
    → take i pens ++ with_pen pen (drop i pens) ≡ all → take (i + 1) pens ++ with_pen pen (drop (i + 1) pens) ≡ all
put_behind pen next d pens now i all lt is same h before =
    let s : i + 1 ≡ suc i = omega arith in
    ap (λ (l : List Pen). l ++ with_pen pen (drop (i + 1) pens)) (take_more pens i d lt)
    ∙ append_assoc (take i pens) (get_or pens i d ∷ []) (with_pen pen (drop (i + 1) pens))
    ∙ ap (λ k. take i pens ++ get_or pens i d ∷ with_pen pen (drop k pens)) s
    ∙ ap (λ (l : List Pen). take i pens ++ l) (sym (ap (with_pen pen) (drop-cons pens i d lt) ∙ next_pen pen (get_or pens i d) (drop (suc i) pens) false (here pen next d pens now i false is same h)))
    ∙ before

-- none is of its section
pub put_last : (pen : Pen) (pens now new : List Pen) (i : ℕ) (all : List Pen) → length pens ≤ i → now ≡ pens → new ≡ now ++ pen ∷ []
    → take i pens ++ with_pen pen (drop i pens) ≡ all → new ≡ all
put_last pen pens now new i all le same e before =
    e ∙ ap (λ (l : List Pen). l ++ pen ∷ []) same
    ∙ ap (λ (l : List Pen). l ++ pen ∷ []) (sym (take_all i pens le))
    ∙ ap (λ (l : List Pen). take i pens ++ with_pen pen l) (sym (drop_all i pens le))
    ∙ before
