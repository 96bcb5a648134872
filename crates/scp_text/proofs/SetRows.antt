-- What is written of quorum sets is read as them.
use Rattle.std.proofs.Common.{◌≡◌, ℕ, zero, suc, ◌+◌, ◌-◌, ◌<◌, ◌≤◌, ◌^◌, Bool, true, false, ◌&&◌, ◌||◌, List, [], ◌∷◌, ◌++◌, length, take, drop, map, Option, Some, None, refl, sym, ◌∙◌, ap, subst, arith, length-append}
use Rattle.std.specs.Prelude.{nat_le, nat_lt, nat_eq, codes, if◌then◌else◌}
use Rattle.std.specs.List.{list_all, list_any, AllByRecursion, position_or_len, before_first, after_first}
use Rattle.std.specs.Fmt.{decimal}
use Rattle.std.proofs.Math.Seq.{take-append_seam, drop-append-add}
use Rattle.std.proofs.lemmas.Bool.Decides.{nat_tests}
use Rattle.std.proofs.lemmas.List.{length-map}
use Rattle.scp_kv.specs.scp_types.specs.declared.names.NodeId.{NodeId}
use Rattle.scp_kv.specs.scp_xdr.specs.Tree.{Trees, no_trees, tree_then, Tree, tree_of, in_a_row, row_len}
use Rattle.scp_kv.specs.scp_xdr.specs.Kind.{limit_at}
use Rattle.scp_wire.specs.scp_quorum.specs.QuorumTree.{Level, QuorumTree}
use Rattle.scp_text.specs.Pieces.{◌>>=◌, is_plain, listed, bracketed, inside, items_in, all_of, number_in}
use Rattle.scp_text.specs.Sets.{node_text, level_text, row_texts, set_text, node_in, counter_in, has_bracket, nodes_first, sets_after, cut, level_in, set_with, inner_in, set_in}
use Rattle.scp_text.proofs.Items.{IsItem, IsInner, IsOpen, item-append, bracketed_item, listed_inner, items_again, inside_again, all_again, and_both, plain_byte}
use Rattle.scp_text.proofs.Numbers.{number_again, decimal_without}
use Rattle.scp_text.proofs.Leaves.{AreBytes}
use Rattle.scp_text.proofs.SetTexts.{node_again, node_item, node_plain, decimal_item, opens_of}

pub record GoodNode (n : NodeId) : Type 0 where
  pub len : length n.0 ≡ 32
  pub bytes : AreBytes n.0

pub record GoodLevel (l : Level) : Type 0 where
  pub threshold : l.threshold < 2 ^ 32
  pub few : length l.validators ≤ 1000
  pub nodes : AllByRecursion GoodNode l.validators

-- sets in a row, where so many levels may follow each of them
abbrev pub RowGood : ℕ → Trees Level → Type 0
RowGood n no_trees = Unit {0}
RowGood n (tree_then level inner others) = GoodLevel level × (row_len inner ≤ limit_at n 1000) × RowGood (n - 1) inner × RowGood n others

-- ---- brackets in entries

no_bracket : (xs : List ℕ) → list_all is_plain xs ≡ true → has_bracket xs ≡ false
no_bracket [] h = refl
no_bracket (x ∷ xs) h =
    let both = and_both (is_plain x) (list_all is_plain xs) h in
    rw ((plain_byte x both.0).0, no_bracket xs both.1) refl

any_back : (p : ℕ → Bool) (xs ys : List ℕ) → list_any p ys ≡ true → list_any p (xs ++ ys) ≡ true
any_back p [] ys h = h
any_back p (x ∷ xs) ys h = or_true (p x) (list_any p (xs ++ ys)) (any_back p xs ys h)
  where
    or_true : (a b : Bool) → b ≡ true → (a || b) ≡ true
    or_true true b e = refl
    or_true false b e = e

level_bracket : (l : Level) (texts : List (List ℕ)) → has_bracket (level_text l texts) ≡ true
unfolding level_text
level_bracket l texts = any_back (λ b. nat_eq b 40) (decimal l.threshold) (bracketed (codes "of(") (listed 44 true (map node_text l.validators ++ texts))) refl

first_none : (texts : List (List ℕ)) → AllByRecursion (λ t. has_bracket t ≡ true) texts → nodes_first texts ≡ []
first_none [] h = refl
first_none (t ∷ ts) h = rw h.0 refl

after_none : (texts : List (List ℕ)) → AllByRecursion (λ t. has_bracket t ≡ true) texts → sets_after texts ≡ texts
after_none [] h = refl
after_none (t ∷ ts) h = rw h.0 refl

nodes_again : (vs : List NodeId) (texts : List (List ℕ)) → AllByRecursion GoodNode vs → AllByRecursion (λ t. has_bracket t ≡ true) texts → nodes_first (map node_text vs ++ texts) ≡ map node_text vs
nodes_again [] texts g h = first_none texts h
nodes_again (v ∷ vs) texts g h = rw (no_bracket (node_text v) (node_plain v g.0.bytes), nodes_again vs texts g.1 h) refl

sets_again : (vs : List NodeId) (texts : List (List ℕ)) → AllByRecursion GoodNode vs → AllByRecursion (λ t. has_bracket t ≡ true) texts → sets_after (map node_text vs ++ texts) ≡ texts
sets_again [] texts g h = after_none texts h
sets_again (v ∷ vs) texts g h = rw (no_bracket (node_text v) (node_plain v g.0.bytes)) (sets_again vs texts g.1 h)

-- ---- the threshold

position_by : (x : ℕ) (xs rest : List ℕ) (a : Bool) → nat_eq x 111 ≡ a → (a || list_any (λ b. nat_eq b 111) xs) ≡ false → (list_any (λ b. nat_eq b 111) xs ≡ false → position_or_len (λ b. nat_eq b 111) (xs ++ 111 ∷ rest) ≡ length xs) → position_or_len (λ b. nat_eq b 111) (x ∷ (xs ++ 111 ∷ rest)) ≡ length (x ∷ xs)
position_by x xs rest true e h more = absurd cc
position_by x xs rest false e h more = rw (e, more h) (omega arith)

position_again : (xs rest : List ℕ) → list_any (λ b. nat_eq b 111) xs ≡ false → position_or_len (λ b. nat_eq b 111) (xs ++ 111 ∷ rest) ≡ length xs
position_again [] rest h = refl
position_again (x ∷ xs) rest h = position_by x xs rest (nat_eq x 111) refl h (λ more. position_again xs rest more)

cut_again : (xs rest : List ℕ) → list_any (λ b. nat_eq b 111) xs ≡ false → cut (xs ++ 111 ∷ rest) ≡ Some (xs, rest)
unfolding cut
cut_again xs rest h =
    let all = xs ++ 111 ∷ rest in
    let at : position_or_len (λ b. nat_eq b 111) all ≡ length xs = position_again xs rest h in
    let within : nat_lt (length xs) (length all) ≡ true = grind (arith, nat_tests, length-append xs (111 ∷ rest)) in
    rw (at, within, take-append_seam xs (111 ∷ rest), drop-append-add xs (111 ∷ rest) 1) refl

-- ---- levels

items_both : (vs : List NodeId) (texts : List (List ℕ)) → AllByRecursion GoodNode vs → AllByRecursion IsItem texts → AllByRecursion IsItem (map node_text vs ++ texts)
items_both [] texts g h = h
items_both (v ∷ vs) texts g h =
    let some : 0 < length v.0 = rw g.0.len (omega arith) in
    (node_item v some g.0.bytes, items_both vs texts g.1 h)

pub level_item : (l : Level) (texts : List (List ℕ)) → GoodLevel l → AllByRecursion IsItem texts → IsItem (level_text l texts)
unfolding level_text
level_item l texts g h =
    let texts_of = map node_text l.validators ++ texts in
    let low = g.threshold in
    item-append (decimal l.threshold) (bracketed (codes "of(") (listed 44 true texts_of)) (decimal_item l.threshold (omega arith)) (bracketed_item (codes "of(") (listed 44 true texts_of) opens_of (listed_inner true texts_of (items_both l.validators texts g.nodes h)))

pub counter_again : (n : ℕ) → n < 2 ^ 32 → counter_in (decimal n) ≡ Some n
counter_again n small =
    let lt : nat_lt n 4294967296 ≡ true = grind (arith, nat_tests) in
    rw (number_again n (omega arith), lt) refl

level_again : (l : Level) (texts : List (List ℕ)) → GoodLevel l → AllByRecursion IsItem texts → level_in (level_text l texts) ≡ Some (l.threshold, map node_text l.validators ++ texts)
unfolding level_in level_text
level_again l texts g h =
    let all = map node_text l.validators ++ texts in
    let low = g.threshold in
    rw (cut_again (decimal l.threshold) (bracketed (codes "f(") (listed 44 true all)) (decimal_without l.threshold (omega arith)), counter_again l.threshold g.threshold, inside_again (codes "f(") (listed 44 true all), items_again all (items_both l.validators texts g.nodes h)) refl

nodes_read : (vs : List NodeId) → AllByRecursion GoodNode vs → AllByRecursion (λ n. node_in (node_text n) ≡ Some n) vs
nodes_read [] h = tt
nodes_read (v ∷ vs) h = (node_again v h.0.len h.0.bytes, nodes_read vs h.1)

set_read : (inner_by : List (List ℕ) → Option (List QuorumTree)) (l : Level) (texts : List (List ℕ)) (sets : List QuorumTree) → GoodLevel l → AllByRecursion IsItem texts → AllByRecursion (λ t. has_bracket t ≡ true) texts → length sets ≤ 1000 → inner_by texts ≡ Some sets → set_with inner_by (level_text l texts) ≡ Some (tree_of l sets)
unfolding set_with
set_read inner_by l texts sets g h b few e =
    let a : nat_le (length l.validators) 1000 ≡ true = grind (arith, nat_tests, g.few) in
    let c : nat_le (length sets) 1000 ≡ true = grind (arith, nat_tests) in
    rw (level_again l texts g h, nodes_again l.validators texts g.nodes b, sets_again l.validators texts g.nodes b, all_again node_in node_text l.validators (nodes_read l.validators g.nodes), e, a, c) refl

-- ---- rows

pub to_list : Trees Level → List QuorumTree
to_list no_trees = []
to_list (tree_then level inner others) = record { head = level; inner = inner } ∷ to_list others

row_back : (row : Trees Level) → in_a_row (to_list row) ≡ row
unfolding to_list
row_back no_trees = refl
row_back (tree_then level inner others) = ap (tree_then level inner) (row_back others)

row_count : (row : Trees Level) → length (to_list row) ≡ row_len row
unfolding to_list
row_count no_trees = refl
row_count (tree_then level inner others) = rw (row_count others) (omega arith)

pub row_items : (n : ℕ) (row : Trees Level) → RowGood n row → AllByRecursion IsItem (row_texts row)
unfolding row_texts
row_items n no_trees g = tt
row_items n (tree_then level inner others) g = (level_item level (row_texts inner) g.0 (row_items (n - 1) inner g.2), row_items n others g.3)

row_brackets : (row : Trees Level) → AllByRecursion (λ t. has_bracket t ≡ true) (row_texts row)
unfolding row_texts
row_brackets no_trees = tt
row_brackets (tree_then level inner others) = (level_bracket level (row_texts inner), row_brackets others)

limit_few : (n m : ℕ) → m ≤ limit_at n 1000 → m ≤ 1000
limit_few zero m h = omega arith
limit_few (suc n) m h = h

empty_row : (row : Trees Level) → row_len row ≤ 0 → inner_in 0 (row_texts row) ≡ Some (to_list row)
unfolding row_texts inner_in to_list
empty_row no_trees h = refl
empty_row (tree_then level inner others) h = absurd (omega arith)

some_inner : (n : ℕ) (words : List (List ℕ)) → inner_in (suc n) words ≡ all_of (set_with (inner_in n)) words
unfolding inner_in
some_inner n words = refl

pub inner_again : (n : ℕ) (row : Trees Level) → row_len row ≤ limit_at n 1000 → RowGood (n - 1) row → ((m : ℕ) → RowGood m row → all_of (set_with (inner_in m)) (row_texts row) ≡ Some (to_list row)) → inner_in n (row_texts row) ≡ Some (to_list row)
inner_again zero row h g each = empty_row row h
inner_again (suc m) row h g each =
    let e : suc m - 1 ≡ m = omega arith in
    some_inner m (row_texts row) ∙ each m (subst (λ (k : ℕ). RowGood k row) e g)

pub row_again : (n : ℕ) (row : Trees Level) → RowGood n row → all_of (set_with (inner_in n)) (row_texts row) ≡ Some (to_list row)
unfolding row_texts to_list
row_again n no_trees g = refl
row_again n (tree_then level inner others) g =
    let few : length (to_list inner) ≤ 1000 = rw (row_count inner) (limit_few n (row_len inner) g.1) in
    let read : inner_in n (row_texts inner) ≡ Some (to_list inner) = inner_again n inner g.1 g.2 (λ m gm. row_again m inner gm) in
    let one : set_with (inner_in n) (level_text level (row_texts inner)) ≡ Some (tree_of level (to_list inner)) = set_read (inner_in n) level (row_texts inner) (to_list inner) g.0 (row_items (n - 1) inner g.2) (row_brackets inner) few read in
    rw (one, row_again n others g.3, row_back inner) refl

-- what is written of a quorum set within its limits is read as it
pub set_again : (set : QuorumTree) → GoodLevel set.head → row_len set.inner ≤ 1000 → RowGood 3 set.inner → set_in (set_text set) ≡ Some set
unfolding set_text
set_again set g few row =
    let short : length (to_list set.inner) ≤ 1000 = rw (row_count set.inner) few in
    let read : inner_in 4 (row_texts set.inner) ≡ Some (to_list set.inner) = inner_again 4 set.inner few row (λ m gm. row_again m set.inner gm) in
    set_read (inner_in 4) set.head (row_texts set.inner) (to_list set.inner) g (row_items 3 set.inner row) (row_brackets set.inner) short read
    ∙ ap (λ (inner : Trees Level). Some (let t : QuorumTree = record { head = set.head; inner = inner } in t)) (row_back set.inner)
