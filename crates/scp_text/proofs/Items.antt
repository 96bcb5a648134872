-- Items, brackets and what stands in them.
use Rattle.std.proofs.Common.{◌≡◌, ℕ, ◌+◌, ◌-◌, ◌<◌, Bool, true, false, ◌&&◌, ◌||◌, List, [], ◌∷◌, ◌++◌, length, take, drop, map, Option, Some, None, refl, sym, ◌∙◌, ap, arith, append_assoc, append-nil, length-append, ◌≤◌, get_or, drop-cons, add-one}
use Rattle.std.specs.List.{slice_range}
use Rattle.std.proofs.lemmas.List.Edits.{between_none, between_more}
use Rattle.std.proofs.Math.Seq.{drop-length}
use Rattle.std.specs.Prelude.{not, ◌==◌, nat_eq, nat_lt, codes, if◌then◌else◌}
use Rattle.std.proofs.Math.Seq.{take-append_seam, drop-append_seam}
use Rattle.std.specs.List.{onto_first, list_all, AllByRecursion}
use Rattle.std.proofs.lemmas.List.Folds.{list_all-append}
use Rattle.std.proofs.lemmas.Cmp.{nat_list_eq_equiv}
use Rattle.std.proofs.lemmas.Bool.Decides.{nat_tests}
use Rattle.std.proofs.lemmas.Grind.{common_steps}
use Rattle.scp_text.specs.Pieces.{same, is_plain, listed, bracketed, without_front, without_end, inside, parts, cuts, depth_after, items_in, all_of}

-- bytes before the first part
abbrev pub prepend : List ℕ → List (List ℕ) → List (List ℕ)
prepend [] ps = ps
prepend (x ∷ xs) ps = onto_first x (prepend xs ps)

pub prepend-append : (xs ys : List ℕ) (ps : List (List ℕ)) → prepend (xs ++ ys) ps ≡ prepend xs (prepend ys ps)
prepend-append [] ys ps = refl
prepend-append (x ∷ xs) ys ps = ap (onto_first x) (prepend-append xs ys ps)

pub prepend_first : (xs p : List ℕ) (ps : List (List ℕ)) → prepend xs (p ∷ ps) ≡ (xs ++ p) ∷ ps
prepend_first [] p ps = refl
prepend_first (x ∷ xs) p ps = ap (onto_first x) (prepend_first xs p ps)

-- with a byte at least
abbrev pub is_some_text : List ℕ → Bool
is_some_text [] = false
is_some_text (x ∷ xs) = true

-- printable, and no space
abbrev pub is_visible : ℕ → Bool
is_visible byte = nat_lt 32 byte && nat_lt byte 127

-- passed over at any depth, visible, and something
pub record IsItem (xs : List ℕ) : Type 0 where
  pub some : is_some_text xs ≡ true
  pub visible : list_all is_visible xs ≡ true
  pub passes : (depth : ℕ) (rest : List ℕ) → parts depth (xs ++ rest) ≡ prepend xs (parts depth rest)

-- passed over inside a bracket, and visible
pub record IsInner (xs : List ℕ) : Type 0 where
  pub visible : list_all is_visible xs ≡ true
  pub passes : (depth : ℕ) (rest : List ℕ) → parts (depth + 1) (xs ++ rest) ≡ prepend xs (parts (depth + 1) rest)

-- a name with its opening bracket
pub record IsOpen (xs : List ℕ) : Type 0 where
  pub some : is_some_text xs ≡ true
  pub visible : list_all is_visible xs ≡ true
  pub passes : (depth : ℕ) (rest : List ℕ) → parts depth (xs ++ rest) ≡ prepend xs (parts (depth + 1) rest)

from_plain : (a b c d e : Bool) → (a && b && not (c || d || e)) ≡ true → (c ≡ false) × (d ≡ false) × (e ≡ false)
from_plain true true false false false h = (refl, refl, refl)
from_plain true true true d e h = absurd cc
from_plain true true false true e h = absurd cc
from_plain true true false false true h = absurd cc
from_plain true false c d e h = absurd cc
from_plain false b c d e h = absurd cc

pub plain_byte : (x : ℕ) → is_plain x ≡ true → (nat_eq x 40 ≡ false) × (nat_eq x 41 ≡ false) × (nat_eq x 44 ≡ false)
plain_byte x h = from_plain (nat_lt 32 x) (nat_lt x 127) (nat_eq x 40) (nat_eq x 41) (nat_eq x 44) h

plain_step : (x depth : ℕ) (bs : List ℕ) → nat_eq x 40 ≡ false → nat_eq x 41 ≡ false → nat_eq x 44 ≡ false → parts depth (x ∷ bs) ≡ onto_first x (parts depth bs)
unfolding parts
plain_step x depth bs o c m = rw (m, o, c) refl

pub and_both : (a b : Bool) → (a && b) ≡ true → (a ≡ true) × (b ≡ true)
and_both true b h = (refl, h)
and_both false b h = absurd cc

plain_passes : (xs : List ℕ) → list_all is_plain xs ≡ true → (depth : ℕ) (rest : List ℕ) → parts depth (xs ++ rest) ≡ prepend xs (parts depth rest)
plain_passes [] h depth rest = refl
plain_passes (x ∷ xs) h depth rest =
    let both = and_both (is_plain x) (list_all is_plain xs) h in
    let p = plain_byte x both.0 in
    plain_step x depth (xs ++ rest) p.0 p.1 p.2 ∙ ap (onto_first x) (plain_passes xs both.1 depth rest)

plain_visible_byte : (a b c : Bool) → (a && b && c) ≡ true → (a && b) ≡ true
plain_visible_byte true true c h = refl
plain_visible_byte true false c h = absurd cc
plain_visible_byte false b c h = absurd cc

plain_visible : (xs : List ℕ) → list_all is_plain xs ≡ true → list_all is_visible xs ≡ true
plain_visible [] h = refl
plain_visible (x ∷ xs) h =
    let both = and_both (is_plain x) (list_all is_plain xs) h in
    let one : is_visible x ≡ true = plain_visible_byte (nat_lt 32 x) (nat_lt x 127) (not (nat_eq x 40 || nat_eq x 41 || nat_eq x 44)) both.0 in
    rw (one, plain_visible xs both.1) refl

both_visible : (xs ys : List ℕ) → list_all is_visible xs ≡ true → list_all is_visible ys ≡ true → list_all is_visible (xs ++ ys) ≡ true
both_visible xs ys p q = list_all-append is_visible xs ys ∙ rw (p, q) refl

some-append : (xs ys : List ℕ) → is_some_text xs ≡ true → is_some_text (xs ++ ys) ≡ true
some-append [] ys h = absurd cc
some-append (x ∷ xs) ys h = refl

pub plain_item : (xs : List ℕ) → list_all is_plain xs ≡ true → is_some_text xs ≡ true → IsItem xs
plain_item xs h some = record { some = some; visible = plain_visible xs h; passes = plain_passes xs h }

pub plain_inner : (xs : List ℕ) → list_all is_plain xs ≡ true → IsInner xs
plain_inner xs h = record { visible = plain_visible xs h; passes = λ depth rest. plain_passes xs h (depth + 1) rest }

pub item-append : (xs ys : List ℕ) → IsItem xs → IsItem ys → IsItem (xs ++ ys)
item-append xs ys p q = record {
  some = some-append xs ys p.some;
  visible = both_visible xs ys p.visible q.visible;
  passes = λ depth rest. ap (parts depth) (append_assoc xs ys rest) ∙ p.passes depth (ys ++ rest) ∙ ap (prepend xs) (q.passes depth rest) ∙ sym (prepend-append xs ys (parts depth rest));
}

pub inner-append : (xs ys : List ℕ) → IsInner xs → IsInner ys → IsInner (xs ++ ys)
inner-append xs ys p q = record {
  visible = both_visible xs ys p.visible q.visible;
  passes = λ depth rest. ap (parts (depth + 1)) (append_assoc xs ys rest) ∙ p.passes depth (ys ++ rest) ∙ ap (prepend xs) (q.passes depth rest) ∙ sym (prepend-append xs ys (parts (depth + 1) rest));
}

pub item_inner : (xs : List ℕ) → IsItem xs → IsInner xs
item_inner xs p = record { visible = p.visible; passes = λ depth rest. p.passes (depth + 1) rest }

nothing_inner : IsInner []
nothing_inner = record { visible = refl; passes = λ depth rest. refl }

comma_step : (depth : ℕ) (bs : List ℕ) → nat_eq (depth + 1) 0 ≡ false → parts (depth + 1) (44 ∷ bs) ≡ onto_first 44 (parts (depth + 1) bs)
unfolding parts
comma_step depth bs h = rw h refl

above : (depth : ℕ) → nat_eq (depth + 1) 0 ≡ false
above depth = grind (arith, nat_tests)

pub comma_inner : (xs : List ℕ) → IsInner xs → IsInner (44 ∷ xs)
comma_inner xs p = record { visible = p.visible; passes = λ depth rest. comma_step depth (xs ++ rest) (above depth) ∙ ap (onto_first 44) (p.passes depth rest) }

close_step : (depth : ℕ) (bs : List ℕ) → parts ((depth + 1) - 1) bs ≡ parts depth bs → parts (depth + 1) (41 ∷ bs) ≡ onto_first 41 (parts depth bs)
unfolding parts
close_step depth bs e = ap (onto_first 41) e

closes : (depth : ℕ) (bs : List ℕ) → parts (depth + 1) (41 ∷ bs) ≡ onto_first 41 (parts depth bs)
closes depth bs =
    let e : (depth + 1) - 1 ≡ depth = omega arith in
    close_step depth bs (ap (λ d. parts d bs) e)

pub bracketed_item : (name inner : List ℕ) → IsOpen name → IsInner inner → IsItem (bracketed name inner)
bracketed_item name inner o p = record {
  some = some-append name (inner ++ 41 ∷ []) o.some;
  visible = both_visible name (inner ++ 41 ∷ []) o.visible (both_visible inner (41 ∷ []) p.visible refl);
  passes = λ depth rest.
      ap (parts depth) (append_assoc name (inner ++ 41 ∷ []) rest)
      ∙ o.passes depth ((inner ++ 41 ∷ []) ++ rest)
      ∙ ap (prepend name)
      (ap (parts (depth + 1)) (append_assoc inner (41 ∷ []) rest)
      ∙ p.passes depth (41 ∷ rest)
      ∙ ap (prepend inner) (closes depth rest)
      ∙ sym (prepend-append inner (41 ∷ []) (parts depth rest)))
      ∙ sym (prepend-append name (inner ++ 41 ∷ []) (parts depth rest));
}

-- ---- names

pub opens_hex : IsOpen (codes "hex(")
unfolding parts
opens_hex = record { some = refl; visible = refl; passes = λ depth rest. refl }

pub opens_put : IsOpen (codes "put(")
unfolding parts
opens_put = record { some = refl; visible = refl; passes = λ depth rest. refl }

pub opens_del : IsOpen (codes "del(")
unfolding parts
opens_del = record { some = refl; visible = refl; passes = λ depth rest. refl }

pub opens_ops : IsOpen (codes "ops(")
unfolding parts
opens_ops = record { some = refl; visible = refl; passes = λ depth rest. refl }

-- ---- rows of items

pub listed_inner : (first : Bool) (texts : List (List ℕ)) → AllByRecursion IsItem texts → IsInner (listed 44 first texts)
listed_inner first [] h = nothing_inner
listed_inner true (t ∷ ts) h = inner-append t (listed 44 false ts) (item_inner t h.0) (listed_inner false ts h.1)
listed_inner false (t ∷ ts) h = inner-append (44 ∷ t) (listed 44 false ts) (comma_inner t (item_inner t h.0)) (listed_inner false ts h.1)

no_parts : parts 0 [] ≡ [] ∷ []
unfolding parts
no_parts = refl

comma_cuts : (bs : List ℕ) → parts 0 (44 ∷ bs) ≡ [] ∷ parts 0 bs
unfolding parts
comma_cuts bs = refl

rest_again : (texts : List (List ℕ)) → AllByRecursion IsItem texts → parts 0 (listed 44 false texts) ≡ [] ∷ texts
rest_again [] h = no_parts
rest_again (t ∷ ts) h =
    comma_cuts (t ++ listed 44 false ts) ∙ ap (λ ps. [] ∷ ps)
    (h.0.passes 0 (listed 44 false ts) ∙ ap (prepend t) (rest_again ts h.1) ∙ prepend_first t [] ts ∙ ap (λ x. x ∷ ts) (append-nil t))

items_of_some : (t rest : List ℕ) → is_some_text t ≡ true → items_in (t ++ rest) ≡ parts 0 (t ++ rest)
items_of_some [] rest h = absurd cc
items_of_some (x ∷ xs) rest h = refl

-- what was put in a row is found there
pub items_again : (texts : List (List ℕ)) → AllByRecursion IsItem texts → items_in (listed 44 true texts) ≡ texts
items_again [] h = refl
items_again (t ∷ ts) h =
    items_of_some t (listed 44 false ts) h.0.some ∙ h.0.passes 0 (listed 44 false ts) ∙ ap (prepend t) (rest_again ts h.1) ∙ prepend_first t [] ts ∙ ap (λ x. x ∷ ts) (append-nil t)

-- ---- brackets

pub same_again : (xs : List ℕ) → same xs xs ≡ true
same_again xs = nat_list_eq_equiv.refl xs

pub front_again : (front text : List ℕ) → without_front front (front ++ text) ≡ Some text
front_again front text = rw (take-append_seam front text, same_again front) (ap Some (drop-append_seam front text))

end_at : (n : ℕ) (text end : List ℕ) → n ≡ length text → (if same (drop n (text ++ end)) end then Some (take n (text ++ end)) else None) ≡ Some text
end_at n text end e = rw e (rw (drop-append_seam text end, same_again end) (ap Some (take-append_seam text end)))

pub end_again : (text end : List ℕ) → without_end end (text ++ end) ≡ Some text
end_again text end = end_at (length (text ++ end) - length end) text end (omega (arith, length-append text end))

pub inside_again : (name inner : List ℕ) → inside name (bracketed name inner) ≡ Some inner
unfolding inside
inside_again name inner = rw (front_again name (inner ++ 41 ∷ [])) (end_again inner (41 ∷ []))

-- ---- all of them

pub all_again : {A : Type 0} (says : List ℕ → Option A) (text : A → List ℕ) → (xs : List A) → AllByRecursion (λ x. says (text x) ≡ Some x) xs → all_of says (map text xs) ≡ Some xs
all_again says text [] h = refl
all_again says text (x ∷ xs) h = rw (h.0, all_again says text xs h.1) refl

-- ---- going over a text

drop_here : (text : List ℕ) (index : ℕ) → index < length text → drop index text ≡ get_or text index 0 ∷ drop (index + 1) text
drop_here text index lt = rw (add-one, drop-cons text index 0) refl

cut_parts : (x depth : ℕ) (bs : List ℕ) → cuts x depth ≡ true → parts depth (x ∷ bs) ≡ [] ∷ parts depth bs
unfolding parts
cut_parts x depth bs e = rw e refl

go_parts : (x depth : ℕ) (bs : List ℕ) → cuts x depth ≡ false → parts depth (x ∷ bs) ≡ onto_first x (parts (depth_after x depth) bs)
unfolding parts
go_parts x depth bs e = rw e refl

no_parts_at : (depth : ℕ) → parts depth [] ≡ [] ∷ []
unfolding parts
no_parts_at depth = refl

-- an item ends
pub cut_step : (items : List (List ℕ)) (text : List ℕ) (start index depth : ℕ) (all : List (List ℕ)) → start ≤ index → index < length text → cuts (get_or text index 0) depth ≡ true → items ++ prepend (slice_range text start index) (parts depth (drop index text)) ≡ all
    → (items ++ slice_range text start index ∷ []) ++ prepend (slice_range text (index + 1) (index + 1)) (parts depth (drop (index + 1) text)) ≡ all
cut_step items text start index depth all le lt cut_here h =
    let x = get_or text index 0 in
    let rest = drop (index + 1) text in
    let r = slice_range text start index in
    let here : drop index text ≡ x ∷ rest = drop_here text index lt in
    let cut : parts depth (x ∷ rest) ≡ [] ∷ parts depth rest = cut_parts x depth rest cut_here in
    let first : prepend r ([] ∷ parts depth rest) ≡ r ∷ parts depth rest = prepend_first r [] (parts depth rest) ∙ ap (λ l. l ∷ parts depth rest) (append-nil r) in
    let none : slice_range text (index + 1) (index + 1) ≡ [] = between_none text (index + 1) in
    ap (λ l. (items ++ r ∷ []) ++ prepend l (parts depth rest)) none ∙ append_assoc items (r ∷ []) (parts depth rest) ∙ sym (ap (λ l. items ++ l) (ap (prepend r) (ap (parts depth) here ∙ cut) ∙ first)) ∙ h

-- an item goes on
pub go_step : (items : List (List ℕ)) (text : List ℕ) (start index depth : ℕ) (all : List (List ℕ)) → start ≤ index → index < length text → cuts (get_or text index 0) depth ≡ false → items ++ prepend (slice_range text start index) (parts depth (drop index text)) ≡ all
    → items ++ prepend (slice_range text start (index + 1)) (parts (depth_after (get_or text index 0) depth) (drop (index + 1) text)) ≡ all
go_step items text start index depth all le lt go_here h =
    let x = get_or text index 0 in
    let rest = drop (index + 1) text in
    let r = slice_range text start index in
    let d = depth_after x depth in
    let here : drop index text ≡ x ∷ rest = drop_here text index lt in
    let goes : parts depth (x ∷ rest) ≡ onto_first x (parts d rest) = go_parts x depth rest go_here in
    let more : slice_range text start (index + 1) ≡ r ++ x ∷ [] = between_more text start index 0 le lt in
    ap (λ l. items ++ prepend l (parts d rest)) more ∙ ap (λ l. items ++ l) (prepend-append r (x ∷ []) (parts d rest) ∙ sym (ap (prepend r) (ap (parts depth) here ∙ goes))) ∙ h

-- the last item
pub last_step : (items : List (List ℕ)) (text : List ℕ) (start index depth : ℕ) (all : List (List ℕ)) → index ≡ length text → items ++ prepend (slice_range text start index) (parts depth (drop index text)) ≡ all
    → items ++ slice_range text start (length text) ∷ [] ≡ all
last_step items text start index depth all e h =
    let r = slice_range text start (length text) in
    let end : drop (length text) text ≡ [] = drop-length text in
    let none : parts depth (drop (length text) text) ≡ [] ∷ [] = ap (parts depth) end ∙ no_parts_at depth in
    let one : prepend r ([] ∷ []) ≡ r ∷ [] = prepend_first r [] [] ∙ ap (λ l. l ∷ []) (append-nil r) in
    sym (ap (λ l. items ++ l) (ap (prepend r) none ∙ one)) ∙ ap (λ i. items ++ prepend (slice_range text start i) (parts depth (drop i text))) (sym e) ∙ h

pub deeper : (byte depth index : ℕ) → depth ≤ index → depth_after byte depth ≤ index + 1
deeper byte depth index h = by (nat_eq byte 40) (nat_eq byte 41)
  where
    by : (a b : Bool) → (if a then depth + 1 else (if b then depth - 1 else depth)) ≤ index + 1
    by true b = omega arith
    by false true = omega arith
    by false false = omega arith

pub items_some : (text : List ℕ) → (length text == 0) ≡ false → parts 0 text ≡ items_in text
items_some [] h = absurd cc
items_some (x ∷ xs) h = refl
