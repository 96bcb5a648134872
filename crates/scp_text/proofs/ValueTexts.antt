-- What is written of values and operations is read as them.
use Rattle.std.proofs.Common.{◌≡◌, ℕ, ◌+◌, ◌<◌, ◌≤◌, ◌^◌, Bool, true, false, ◌&&◌, List, [], ◌∷◌, ◌++◌, length, map, Option, Some, None, inl, inr, Result, Ok, Err, refl, sym, ◌∙◌, ap, subst, arith, append-nil, lit<}
use Rattle.std.specs.Prelude.{◌⊎◌, IfOk, IfSome, nat_le, codes, if◌then◌else◌}
use Rattle.std.specs.List.{list_all, AllByRecursion}
use Rattle.std.proofs.lemmas.Bool.Decides.{nat_tests}
use Rattle.std.proofs.lemmas.List.{length-map}
use Rattle.hex.specs.Hex.{encode_lower}
use Rattle.std.specs.Result.{result_ok}
use Rattle.scp_kv.specs.scp_types.specs.declared.fault.Fault.{Fault}
use Rattle.scp_kv.specs.scp_xdr.specs.Reading.{reading_whole}
use Rattle.scp_kv.specs.scp_xdr.proofs.Laws.{whole_found}
use Rattle.scp_kv.specs.scp_xdr.specs.Kind.{Values, Fits, Spells, spelling}
use Rattle.scp_kv.specs.Op.{op_kind, ops_kind, op_value, ops_value, ops_in, IsOps}
use Rattle.scp_kv.specs.declared.ops.Op.{Op}
use Rattle.scp_kv.specs.declared.ops.Op.TheVariants.{Put, Del}
use Rattle.scp_text.specs.Pieces.{◌>>=◌, same, is_word, is_plain, listed, bracketed, inside, items_in, all_of, digits_in, at_most}
use Rattle.scp_text.specs.Values.{bytes_text, op_text, op_of, ops_text, hex_text, text_by, value_text, bytes_in, put_in, del_in, op_by, op_in, op_fits, ops_spelling, list_of, value_by, value_in}
use Rattle.scp_text.proofs.Items.{IsItem, IsInner, plain_item, plain_inner, item_inner, inner-append, comma_inner, listed_inner, bracketed_item, opens_hex, opens_put, opens_del, opens_ops, items_again, inside_again, all_again, and_both}
use Rattle.scp_text.proofs.Numbers.{digits_again, digits_plain}
use Rattle.scp_text.proofs.Leaves.{AreBytes, Leaves, leaves, bytes_from}

-- ---- texts of bytes

bytes_item_by : (b : Bool) (bytes : List ℕ) → is_word bytes ≡ b → AreBytes bytes → IsItem (bytes_text bytes)
unfolding bytes_text
bytes_item_by true [] e are = absurd cc
bytes_item_by true (x ∷ xs) e are = rw e (plain_item (x ∷ xs) e refl)
bytes_item_by false bytes e are = rw e (bracketed_item (codes "hex(") (encode_lower bytes) opens_hex (plain_inner (encode_lower bytes) (digits_plain bytes are)))

pub bytes_item : (bytes : List ℕ) → AreBytes bytes → IsItem (bytes_text bytes)
bytes_item bytes are = bytes_item_by (is_word bytes) bytes refl are

bytes_again_by : (b : Bool) (bytes : List ℕ) → is_word bytes ≡ b → AreBytes bytes → bytes_in (bytes_text bytes) ≡ Some bytes
unfolding bytes_text bytes_in
bytes_again_by true bytes e are = rw (e, e) refl
bytes_again_by false bytes e are = rw (e, inside_again (codes "hex(") (encode_lower bytes)) (digits_again bytes (bytes_from bytes are))

pub bytes_again : (bytes : List ℕ) → AreBytes bytes → bytes_in (bytes_text bytes) ≡ Some bytes
bytes_again bytes are = bytes_again_by (is_word bytes) bytes refl are

-- ---- operations

pub one_item : (a : List ℕ) → IsItem a → items_in a ≡ a ∷ []
one_item a h = ap items_in (sym (append-nil a)) ∙ items_again (a ∷ []) (h, tt)

pub two_items : (a b : List ℕ) → IsItem a → IsItem b → items_in (a ++ 44 ∷ b) ≡ a ∷ b ∷ []
two_items a b p q = ap (λ x. items_in (a ++ 44 ∷ x)) (sym (append-nil b)) ∙ items_again (a ∷ b ∷ []) (p, (q, tt))

pub two_inner : (a b : List ℕ) → IsItem a → IsItem b → IsInner (a ++ 44 ∷ b)
two_inner a b p q = inner-append a (44 ∷ b) (item_inner a p) (comma_inner b (item_inner b q))

pub op_item : (v : Values op_kind) → Leaves op_kind v → IsItem (op_text (op_of v))
unfolding op_text
op_item (inl kv) h = bracketed_item (codes "put(") (bytes_text kv.0 ++ 44 ∷ bytes_text kv.1) opens_put (two_inner (bytes_text kv.0) (bytes_text kv.1) (bytes_item kv.0 h.0) (bytes_item kv.1 h.1))
op_item (inr (inl key)) h = bracketed_item (codes "del(") (bytes_text key) opens_del (item_inner (bytes_text key) (bytes_item key h))
op_item (inr (inr none)) h = elim none [ ]

no_put : (inner : List ℕ) → inside (codes "put(") (bracketed (codes "del(") inner) ≡ None
unfolding inside
no_put inner = refl

put_again : (key value : List ℕ) → AreBytes key → AreBytes value → put_in (bytes_text key ∷ bytes_text value ∷ []) ≡ Some (Put key value)
put_again key value k v = rw (bytes_again key k, bytes_again value v) refl

del_again : (key : List ℕ) → AreBytes key → del_in (bytes_text key ∷ []) ≡ Some (Del key)
del_again key k = rw (bytes_again key k) refl

pub op_again : (v : Values op_kind) → Leaves op_kind v → op_in (op_text (op_of v)) ≡ Some (op_of v)
unfolding op_text op_in
op_again (inl kv) h =
    let inner = bytes_text kv.0 ++ 44 ∷ bytes_text kv.1 in
    ap (λ i. op_by i (inside (codes "del(") (bracketed (codes "put(") inner))) (inside_again (codes "put(") inner)
    ∙ ap put_in (two_items (bytes_text kv.0) (bytes_text kv.1) (bytes_item kv.0 h.0) (bytes_item kv.1 h.1))
    ∙ put_again kv.0 kv.1 h.0 h.1
op_again (inr (inl key)) h =
    let inner = bytes_text key in
    ap (λ i. op_by i (inside (codes "del(") (bracketed (codes "del(") inner))) (no_put inner)
    ∙ ap (λ i. op_by None i) (inside_again (codes "del(") inner)
    ∙ ap del_in (one_item (bytes_text key) (bytes_item key h))
    ∙ del_again key h
op_again (inr (inr none)) h = elim none [ ]

op_back : (v : Values op_kind) → op_value (op_of v) ≡ v
op_back (inl kv) = refl
op_back (inr (inl key)) = refl
op_back (inr (inr none)) = elim none [ ]

pub ops_back : (vs : Values ops_kind) → ops_value (map op_of vs) ≡ vs
ops_back [] = refl
ops_back (v ∷ vs) = rw (op_back v, ops_back vs) refl

op_forth : (op : Op) → op_of (op_value op) ≡ op
op_forth (Put key value) = refl
op_forth (Del key) = refl

pub ops_forth : (ops : List Op) → map op_of (ops_value ops) ≡ ops
ops_forth [] = refl
ops_forth (op ∷ ops) = rw (op_forth op, ops_forth ops) refl

-- ---- operation lists

ops_items : (vs : Values ops_kind) → AllByRecursion (λ v. Leaves op_kind v) vs → AllByRecursion IsItem (map op_text (map op_of vs))
ops_items [] h = tt
ops_items (v ∷ vs) h = (op_item v h.0, ops_items vs h.1)

ops_again_each : (vs : Values ops_kind) → AllByRecursion (λ v. Leaves op_kind v) vs → AllByRecursion (λ op. op_in (op_text op) ≡ Some op) (map op_of vs)
ops_again_each [] h = tt
ops_again_each (v ∷ vs) h = (op_again v h.0, ops_again_each vs h.1)

op_fits_true : (v : Values op_kind) → Fits op_kind v → op_fits (op_of v) ≡ true
op_fits_true (inl kv) h =
    let k : nat_le (length kv.0) 64 ≡ true = grind (arith, nat_tests, h.1.0.0) in
    let v : nat_le (length kv.1) 256 ≡ true = grind (arith, nat_tests, h.1.1.0) in
    rw (k, v) refl
op_fits_true (inr (inl key)) h =
    let k : nat_le (length key) 64 ≡ true = grind (arith, nat_tests, h.1.1.0) in rw k refl
op_fits_true (inr (inr none)) h = elim none [ ]

ops_fit_true : (vs : Values ops_kind) → AllByRecursion (λ v. Fits op_kind v) vs → list_all op_fits (map op_of vs) ≡ true
ops_fit_true [] h = refl
ops_fit_true (v ∷ vs) h = rw (op_fits_true v h.0, ops_fit_true vs h.1) refl

list_again : (bytes : List ℕ) (vs : Values ops_kind) → IsOps bytes vs → list_of (map op_of vs) ≡ Some bytes
unfolding list_of
list_again bytes vs is =
    let fits : list_all op_fits (map op_of vs) ≡ true = ops_fit_true vs is.spells.fits.2 in
    let count : length (map op_of vs) ≡ length vs = simp length-map in
    let few : nat_le (length (map op_of vs)) 64 ≡ true = rw count (grind (arith, nat_tests, is.spells.fits.0)) in
    let spelt : ops_spelling (map op_of vs) ≡ bytes = ap (λ v. spelling ops_kind v) (ops_back vs) ∙ sym is.spells.spelt in
    let short : nat_le (length bytes) 4096 ≡ true = grind (arith, nat_tests, is.within) in
    rw (fits, few, spelt, short) refl

-- ---- values

ops_text_again : (bytes : List ℕ) (vs : Values ops_kind) → AreBytes bytes → IsOps bytes vs → value_in (ops_text (map op_of vs)) ≡ Some bytes
unfolding value_in
ops_text_again bytes vs are is =
    let spelt : AreBytes (spelling ops_kind vs) = subst AreBytes is.spells.spelt are in
    let all : Leaves ops_kind vs = leaves ops_kind vs spelt in
    let texts = map op_text (map op_of vs) in
    let inner = listed 44 true texts in
    ap (λ i. value_by i (inside (codes "hex(") (bracketed (codes "ops(") inner))) (inside_again (codes "ops(") inner)
    ∙ ap (λ l. l >>= (λ ops. list_of ops)) (ap (all_of op_in) (items_again texts (ops_items vs all)) ∙ all_again op_in op_text (map op_of vs) (ops_again_each vs all))
    ∙ list_again bytes vs is

no_ops : (inner : List ℕ) → inside (codes "ops(") (bracketed (codes "hex(") inner) ≡ None
unfolding inside
no_ops inner = refl

hex_text_again : (bytes : List ℕ) → AreBytes bytes → length bytes ≤ 4096 → value_in (hex_text bytes) ≡ Some bytes
unfolding value_in
hex_text_again [] are short = refl
hex_text_again (x ∷ xs) are short =
    let digits = encode_lower (x ∷ xs) in
    let fits : nat_le (length (x ∷ xs)) 4096 ≡ true = grind (arith, nat_tests) in
    ap (λ i. value_by i (inside (codes "hex(") (bracketed (codes "hex(") digits))) (no_ops digits)
    ∙ ap (λ i. value_by None i) (inside_again (codes "hex(") digits)
    ∙ ap (λ d. d >>= (λ bytes. at_most 4096 bytes)) (digits_again (x ∷ xs) (bytes_from (x ∷ xs) are))
    ∙ rw fits refl

-- the list that bytes are found to be is theirs
ops_are : (bytes : List ℕ) (vs : Values ops_kind) → AreBytes bytes → ops_in bytes ≡ Some vs → IsOps bytes vs
unfolding ops_in
ops_are bytes vs are e = by (nat_le (length bytes) 4096) (reading_whole ops_kind bytes) refl refl e
  where
    by : (b : Bool) (r : Result (Values ops_kind) Fault) → nat_le (length bytes) 4096 ≡ b → reading_whole ops_kind bytes ≡ r → (if b then result_ok r else None) ≡ Some vs → IsOps bytes vs
    by true (Ok v) p q e =
        let same : v ≡ vs = cc in
        record { within = grind (arith, nat_tests); spells = whole_found ops_kind bytes vs (bytes_from bytes are) (q ∙ ap Ok same) }
    by true (Err f) p q e = absurd cc
    by false r p q e = absurd cc

value_again_by : (o : Option (Values ops_kind)) (bytes : List ℕ) → ops_in bytes ≡ o → AreBytes bytes → length bytes ≤ 4096 → value_in (value_text bytes) ≡ Some bytes
unfolding value_text
value_again_by (Some vs) bytes e are short = ap (λ o. value_in (text_by o bytes)) e ∙ ops_text_again bytes vs are (ops_are bytes vs are e)
value_again_by None bytes e are short = ap (λ o. value_in (text_by o bytes)) e ∙ hex_text_again bytes are short

-- what is written of a value is read as it
pub value_again : (bytes : List ℕ) → AreBytes bytes → length bytes ≤ 4096 → value_in (value_text bytes) ≡ Some bytes
value_again bytes are short = value_again_by (ops_in bytes) bytes refl are short

hex_item : (bytes : List ℕ) → AreBytes bytes → IsItem (hex_text bytes)
hex_item [] are = plain_item (codes "-") refl refl
hex_item (x ∷ xs) are = bracketed_item (codes "hex(") (encode_lower (x ∷ xs)) opens_hex (plain_inner (encode_lower (x ∷ xs)) (digits_plain (x ∷ xs) are))

value_item_by : (o : Option (Values ops_kind)) (bytes : List ℕ) → ops_in bytes ≡ o → AreBytes bytes → IsItem (value_text bytes)
unfolding value_text
value_item_by (Some vs) bytes e are =
    let is = ops_are bytes vs are e in
    let all : Leaves ops_kind vs = leaves ops_kind vs (subst AreBytes is.spells.spelt are) in
    let texts = map op_text (map op_of vs) in
    rw e (bracketed_item (codes "ops(") (listed 44 true texts) opens_ops (listed_inner true texts (ops_items vs all)))
value_item_by None bytes e are = rw e (hex_item bytes are)

pub value_item : (bytes : List ℕ) → AreBytes bytes → IsItem (value_text bytes)
value_item bytes are = value_item_by (ops_in bytes) bytes refl are

-- ---- limits of operations

fits_from : (op : Op) → op_fits op ≡ true → Fits op_kind (op_value op)
fits_from (Put key value) h =
    let both = and_both (nat_le (length key) 64) (nat_le (length value) 256) h in
    let ka : nat_le (length key) 64 ≡ true = both.0 in
    let va : nat_le (length value) 256 ≡ true = both.1 in
    let k : length key ≤ 64 = grind (arith, nat_tests) in
    let v : length value ≤ 256 = grind (arith, nat_tests) in
    (lit< tt, ((k, omega arith), (v, omega arith)))
fits_from (Del key) h =
    let k : length key ≤ 64 = grind (arith, nat_tests) in
    (λ e. absurd (omega arith), (lit< tt, (k, omega arith)))

all_fit_from : (ops : List Op) → list_all op_fits ops ≡ true → AllByRecursion (λ v. Fits op_kind v) (ops_value ops)
all_fit_from [] h = tt
all_fit_from (op ∷ ops) h =
    let both = and_both (op_fits op) (list_all op_fits ops) h in
    (fits_from op both.0, all_fit_from ops both.1)

-- an operation list that was spelt is the value
pub list_spelt : (ops : List Op) (bytes : List ℕ) → Spells ops_kind bytes (ops_value ops) → length bytes ≤ 4096 → list_of ops ≡ Some bytes
list_spelt ops bytes s short = ap list_of (sym (ops_forth ops)) ∙ list_again bytes (ops_value ops) (record { within = short; spells = s })

-- one over its limits is none
pub list_over : (ops : List Op) → (¬ (Fits ops_kind (ops_value ops))) ⊎ (4096 < length (spelling ops_kind (ops_value ops))) → list_of ops ≡ None
unfolding list_of
list_over ops over = by (list_all op_fits ops) (nat_le (length ops) 64) (nat_le (length (ops_spelling ops)) 4096) refl refl refl over
  where
    by : (a b c : Bool) → list_all op_fits ops ≡ a → nat_le (length ops) 64 ≡ b → nat_le (length (ops_spelling ops)) 4096 ≡ c → (¬ (Fits ops_kind (ops_value ops))) ⊎ (4096 < length (spelling ops_kind (ops_value ops))) → (if a && b && c then Some (ops_spelling ops) else None) ≡ None
    by true true true p q r (inl unfit) =
        let few : length ops ≤ 64 = grind (arith, nat_tests) in
        let count : length (ops_value ops) ≡ length ops = simp length-map in
        absurd (unfit (omega arith, omega arith, all_fit_from ops p))
    by true true true p q r (inr long) =
        let short : length (ops_spelling ops) ≤ 4096 = grind (arith, nat_tests) in
        absurd (omega arith)
    by true true false p q r over = refl
    by true false c p q r over = refl
    by false b c p q r over = refl

pub value_text_ops : (bytes : List ℕ) (ops : List Op) → ops_in bytes ≡ Some (ops_value ops) → value_text bytes ≡ ops_text ops
unfolding value_text
value_text_ops bytes ops e = ap (λ o. text_by o bytes) e ∙ ap ops_text (ops_forth ops)

-- ---- what is read is within its limit

list_short : (ops : List Op) (bytes : List ℕ) → list_of ops ≡ Some bytes → length bytes ≤ 4096
unfolding list_of
list_short ops bytes h = by (list_all op_fits ops) (nat_le (length ops) 64) (nat_le (length (ops_spelling ops)) 4096) refl h
  where
    by : (a b c : Bool) → nat_le (length (ops_spelling ops)) 4096 ≡ c → (if a && b && c then Some (ops_spelling ops) else None) ≡ Some bytes → length bytes ≤ 4096
    by true true true e h =
        let same : ops_spelling ops ≡ bytes = cc in
        let short : length (ops_spelling ops) ≤ 4096 = grind (arith, nat_tests) in
        rw (← same) short
    by true true false e h = absurd cc
    by true false c e h = absurd cc
    by false b c e h = absurd cc

most_short : (bytes v : List ℕ) → at_most 4096 bytes ≡ Some v → length v ≤ 4096
most_short bytes v h = by (nat_le (length bytes) 4096) refl h
  where
    by : (b : Bool) → nat_le (length bytes) 4096 ≡ b → (if b then Some bytes else None) ≡ Some v → length v ≤ 4096
    by true e h =
        let same : bytes ≡ v = cc in
        let short : length bytes ≤ 4096 = grind (arith, nat_tests) in
        rw (← same) short
    by false e h = absurd cc

ops_short : (o : Option (List Op)) (v : List ℕ) → (o >>= (λ ops. list_of ops)) ≡ Some v → length v ≤ 4096
ops_short (Some ops) v h = list_short ops v h
ops_short None v h = absurd cc

hex_short : (o : Option (List ℕ)) (v : List ℕ) → (o >>= (λ bytes. at_most 4096 bytes)) ≡ Some v → length v ≤ 4096
hex_short (Some bytes) v h = most_short bytes v h
hex_short None v h = absurd cc

by_short : (ops digits : Option (List ℕ)) (v : List ℕ) → value_by ops digits ≡ Some v → length v ≤ 4096
by_short (Some inner) digits v h = ops_short (all_of op_in (items_in inner)) v h
by_short None (Some inner) v h = hex_short (digits_in inner) v h
by_short None None v h = absurd cc

pub value_short : (text v : List ℕ) → value_in text ≡ Some v → length v ≤ 4096
unfolding value_in
value_short text v h = by (same text (codes "-")) h
  where
    by : (b : Bool) → (if b then Some [] else value_by (inside (codes "ops(") text) (inside (codes "hex(") text)) ≡ Some v → length v ≤ 4096
    by true h = let none : [] ≡ v = cc in rw (← none) (omega arith)
    by false h = by_short (inside (codes "ops(") text) (inside (codes "hex(") text) v h

pub values_found : (r : Result (Option (List ℕ)) Fault) (text : List ℕ) → IfOk r (λ found. found ≡ value_in text) → IfOk r (λ found. IfSome found (λ v. length v ≤ 4096))
values_found (Ok (Some v)) text e = value_short text v (sym e)
values_found (Ok None) text e = tt
values_found (Err f) text e = tt
