-- What is written of nodes, hashes and quorum sets is read as them.
use Rattle.std.proofs.Common.{◌≡◌, ℕ, zero, suc, ◌+◌, ◌-◌, ◌<◌, ◌≤◌, ◌^◌, Bool, true, false, ◌&&◌, List, [], ◌∷◌, ◌++◌, length, take, drop, map, Option, Some, None, Result, Ok, Err, refl, sym, ◌∙◌, ap, subst, arith}
use Rattle.std.specs.Prelude.{nat_le, nat_lt, nat_eq, codes, replicate, if◌then◌else◌}
use Rattle.std.specs.List.{list_all, list_any, AllByRecursion, position_or_len, before_first, after_first}
use Rattle.std.specs.Fmt.{decimal}
use Rattle.std.specs.Result.{result_ok}
use Rattle.std.proofs.Math.Seq.{take-append_seam}
use Rattle.std.proofs.lemmas.Bool.Decides.{nat_tests}
use Rattle.std.proofs.lemmas.Fmt.{length-decimal-le}
use Rattle.std.proofs.lemmas.List.{length-map}
use Rattle.hex.specs.Hex.{encode_lower, decode_sized}
use Rattle.hex.specs.declared.error.FromHexError.{FromHexError}
use Rattle.hex.proofs.HexLemmas.{decode_sized-encode_lower, decode_sized-ok}
use Rattle.scp_kv.specs.scp_types.specs.declared.names.NodeId.{NodeId}
use Rattle.scp_kv.specs.scp_types.specs.declared.names.Hash.{Hash}
use Rattle.scp_kv.specs.scp_xdr.specs.Tree.{Trees, no_trees, tree_then, Tree, tree_of, in_a_row, row_len}
use Rattle.scp_kv.specs.scp_xdr.specs.Kind.{limit_at}
use Rattle.scp_wire.specs.scp_quorum.specs.QuorumTree.{Level, QuorumTree}
use Rattle.hex.specs.Hex.{encode_with}
use Rattle.scp_text.specs.Pieces.{◌>>=◌, parts, is_plain, listed, bracketed, inside, items_in, all_of, number_in}
use Rattle.scp_text.specs.Sets.{number_of, node_by, node_text, hash_text, level_text, row_texts, set_text, id_in, numbered, node_from, node_in, counter_in, has_bracket, nodes_first, sets_after, cut, level_in, set_with, inner_in, set_in, hash_from, hash_in}
use Rattle.scp_text.proofs.Items.{IsItem, IsInner, IsOpen, plain_item, plain_inner, item-append, bracketed_item, listed_inner, items_again, inside_again, is_some_text, and_both, plain_byte}
use Rattle.scp_text.proofs.Numbers.{number_again, digits_plain, decimal_plain, decimal_some}
use Rattle.scp_text.proofs.Leaves.{AreBytes, bytes_from}

-- ---- ids

id_none_by : (w : List ℕ) (r : Result (List ℕ) FromHexError) → decode_sized w 32 ≡ r → (length w ≡ 64 → ⊥) → result_ok r ≡ None
id_none_by w (Ok bytes) e other = absurd (other (decode_sized-ok w 32 bytes e))
id_none_by w (Err f) e other = refl

pub id_none : (w : List ℕ) → (length w ≡ 64 → ⊥) → id_in w ≡ None
unfolding id_in
id_none w other = id_none_by w (decode_sized w 32) refl other

pub id_again : (id : List ℕ) → length id ≡ 32 → AreBytes id → id_in (encode_lower id) ≡ Some id
unfolding id_in
id_again id len are = ap result_ok (decode_sized-encode_lower id 32 len (bytes_from id are))

all_same : (x : ℕ) (xs : List ℕ) → list_all (λ b. nat_eq b x) xs ≡ true → xs ≡ replicate (length xs) x
all_same x [] h = refl
all_same x (y ∷ ys) h =
    let both = and_both (nat_eq y x) (list_all (λ b. nat_eq b x) ys) h in
    let yes : nat_eq y x ≡ true = both.0 in
    let e : y ≡ x = grind (arith, nat_tests) in
    rw (e, ← all_same x ys both.1) refl

numbered_again : (number : ℕ) → 0 < number → number < 256 → node_in (decimal number) ≡ Some (record { 0 = replicate 32 number })
unfolding node_in
numbered_again number low high =
    let small : number < 2 ^ 64 = omega arith in
    let few : number < 10 ^ 3 = omega arith in
    let short : length (decimal number) ≤ 3 = length-decimal-le 3 number (omega arith) few small in
    let a : nat_lt 0 number ≡ true = grind (arith, nat_tests) in
    let b : nat_lt number 256 ≡ true = grind (arith, nat_tests) in
    ap (λ o. node_from o (decimal number)) (id_none (decimal number) (λ e. omega arith)) ∙ rw (number_again number small, a, b) refl

node_again_by : (o : Option ℕ) (n : NodeId) → number_of n.0 ≡ o → length n.0 ≡ 32 → AreBytes n.0 → node_in (node_text n) ≡ Some n
unfolding node_text node_in
node_again_by (Some number) n e len are =
    let p = is_number n.0 number e are in
    let same : n.0 ≡ replicate 32 number = p.2 ∙ ap (λ l. replicate l number) len in
    ap (λ o. node_in (node_by o n.0)) e ∙ numbered_again number p.0 p.1 ∙ ap (λ (bytes : List ℕ). Some (let node : NodeId = record { 0 = bytes } in node)) (sym same)
  where
    is_number : (bytes : List ℕ) (number : ℕ) → number_of bytes ≡ Some number → AreBytes bytes → (0 < number) × (number < 256) × (bytes ≡ replicate (length bytes) number)
    is_number [] number e are = absurd cc
    is_number (x ∷ xs) number e are = by (nat_lt 0 x) (list_all (λ b. nat_eq b x) xs) refl refl e
      where
        by : (a b : Bool) → nat_lt 0 x ≡ a → list_all (λ b. nat_eq b x) xs ≡ b → (if a && b then Some x else None) ≡ Some number → (0 < number) × (number < 256) × (x ∷ xs ≡ replicate (length (x ∷ xs)) number)
        by true true p q e =
            let same : x ≡ number = cc in
            let low : 0 < x = grind (arith, nat_tests) in
            let high : x < 256 = are.0 in
            (rw (← same) low, rw (← same) high, rw (← same) (ap (λ l. x ∷ l) (all_same x xs q)))
        by true false p q e = absurd cc
        by false b p q e = absurd cc
node_again_by None n e len are = ap (λ o. node_in (node_by o n.0)) e ∙ id_node n len are
  where
    id_node : (n : NodeId) → length n.0 ≡ 32 → AreBytes n.0 → node_in (encode_lower n.0) ≡ Some n
    id_node n len are = ap (λ o. node_from o (encode_lower n.0)) (id_again n.0 len are)

pub node_again : (n : NodeId) → length n.0 ≡ 32 → AreBytes n.0 → node_in (node_text n) ≡ Some n
node_again n len are = node_again_by (number_of n.0) n refl len are

pub hash_again : (h : Hash) → length h.0 ≡ 32 → AreBytes h.0 → hash_in (hash_text h) ≡ Some h
unfolding hash_in
hash_again h len are = ap (λ o. hash_from o (inside (codes "hash(") (encode_lower h.0))) (id_again h.0 len are)

-- ---- texts

pub opens_of : IsOpen (codes "of(")
unfolding parts
opens_of = record { some = refl; visible = refl; passes = λ depth rest. refl }

some_long : (xs : List ℕ) → 0 < length xs → is_some_text xs ≡ true
some_long [] h = absurd (omega arith)
some_long (x ∷ xs) h = refl

pub decimal_item : (n : ℕ) → n < 2 ^ 64 → IsItem (decimal n)
decimal_item n small = plain_item (decimal n) (decimal_plain n small) (some_long (decimal n) (decimal_some n small))

digits_some : (bytes : List ℕ) → 0 < length bytes → is_some_text (encode_lower bytes) ≡ true
unfolding encode_with
digits_some [] h = absurd (omega arith)
digits_some (x ∷ xs) h = refl

pub digits_item : (bytes : List ℕ) → 0 < length bytes → AreBytes bytes → IsItem (encode_lower bytes)
digits_item bytes some are = plain_item (encode_lower bytes) (digits_plain bytes are) (digits_some bytes some)

number_small : (bytes : List ℕ) (number : ℕ) → number_of bytes ≡ Some number → AreBytes bytes → number < 2 ^ 64
number_small [] number e are = absurd cc
number_small (x ∷ xs) number e are = by (nat_lt 0 x && list_all (λ b. nat_eq b x) xs) e
  where
    by : (b : Bool) → (if b then Some x else None) ≡ Some number → number < 2 ^ 64
    by true e =
        let same : x ≡ number = cc in
        let high : x < 256 = are.0 in
        let small : x < 2 ^ 64 = omega arith in
        rw (← same) small
    by false e = absurd cc

node_plain_by : (o : Option ℕ) (n : NodeId) → number_of n.0 ≡ o → AreBytes n.0 → list_all is_plain (node_by o n.0) ≡ true
node_plain_by (Some number) n e are = decimal_plain number (number_small n.0 number e are)
node_plain_by None n e are = digits_plain n.0 are

pub node_plain : (n : NodeId) → AreBytes n.0 → list_all is_plain (node_text n) ≡ true
unfolding node_text
node_plain n are = node_plain_by (number_of n.0) n refl are

node_some_by : (o : Option ℕ) (n : NodeId) → number_of n.0 ≡ o → 0 < length n.0 → AreBytes n.0 → is_some_text (node_by o n.0) ≡ true
node_some_by (Some number) n e some are = some_long (decimal number) (decimal_some number (number_small n.0 number e are))
node_some_by None n e some are = digits_some n.0 some

pub node_item : (n : NodeId) → 0 < length n.0 → AreBytes n.0 → IsItem (node_text n)
unfolding node_text
node_item n some are = plain_item (node_text n) (node_plain n are) (node_some_by (number_of n.0) n refl some are)
