-- Items, optionals and trees, of any reader whose law is known: what is read is encoded so, and what is encoded so is read.
use Rattle.std.proofs.Common.{◌≡◌, ℕ, zero, suc, ◌-◌, ◌^◌, ◌<◌, ◌≤◌, Bool, true, false, cond, List, [], ◌∷◌, ◌++◌, ◌⊎◌, length, Option, Some, None, Ok, refl, sym, ap, subst, ◌∙◌, arith, inl, inr}
use Rattle.std.specs.List.{flat_map, AllByRecursion}
use Rattle.std.proofs.lemmas.List.{append-nil}
use Rattle.std.proofs.lemmas.List.Concat.{flat_map-cons}
use Rattle.scp_xdr.specs.Tree.{Trees, Tree, row_len, in_a_row, tree_of}
use Rattle.scp_xdr.specs.Kind.{word, tree_spelling, limit_at, RowFits, TreeFits}
use Rattle.scp_xdr.specs.Reading.{Cursor, Read, ◌>>=◌, read_flag, read_count, read_items, read_optional, tree_with, read_inner}
use Rattle.scp_xdr.proofs.Parts.{IsBytes, bind_ok, ok_is, Takes, Takes-join, between, Takes-first, Takes-second, Takes-bytes, cursor_is, count_takes, count_again, flag_takes, flag_again}
use Rattle.scp_xdr.proofs.Rows.{trees_of, in_a_row-trees_of, row_len-in_a_row, row_spelling-in_a_row, row_fits, fits_row}

pub chosen : {A : Type 0} (b : Bool) (x y z : A) → cond b x y ≡ z → ((b ≡ true) × (x ≡ z)) ⊎ ((b ≡ false) × (y ≡ z))
chosen true x y z e = inl (refl, e)
chosen false x y z e = inr (refl, e)

abbrev pub IsFound : {X : Type 0} → (Cursor → Read X) → (X → List ℕ) → (X → Type 0) → Type 0
IsFound {X} item text Fit = (c : Cursor) (v : X) (d : Cursor) → IsBytes c.rest → item c ≡ Ok (v, d) → Takes c (text v) d × Fit v

abbrev pub IsAgain : {X : Type 0} → (Cursor → Read X) → (X → List ℕ) → (X → Type 0) → Type 0
IsAgain {X} item text Fit = (c : Cursor) (v : X) (d : Cursor) → Fit v → Takes c (text v) d → item c ≡ Ok (v, d)

pub items_found : {X : Type 0} (item : Cursor → Read X) (text : X → List ℕ) (Fit : X → Type 0) → IsFound item text Fit → (n : ℕ) (c : Cursor) (vs : List X) (d : Cursor) → IsBytes c.rest → read_items item n c ≡ Ok (vs, d)
    → Takes c (flat_map text vs) d × (length vs ≡ n) × AllByRecursion Fit vs
unfolding read_items
items_found {X} item text Fit law zero c vs d fits e =
    subst (λ (x : List X × Cursor). Takes c (flat_map text x.0) x.1 × (length x.0 ≡ 0) × AllByRecursion Fit x.0) (ok_is ([], c) (vs, d) e) (record { parts = refl; place = omega arith }, refl, tt)
items_found {X} item text Fit law (suc n) c vs d fits e =
    let a = bind_ok (item c) (λ first. read_items item n first.1 >>= λ others. Ok (first.0 ∷ others.0, others.1)) (vs, d) e in
    let b = bind_ok (read_items item n a.0.1) (λ others. Ok (a.0.0 ∷ others.0, others.1)) (vs, d) a.2 in
    let first = law c a.0.0 a.0.1 fits a.1 in
    let others = items_found item text Fit law n a.0.1 b.0.0 b.0.1 (Takes-bytes c (text a.0.0) a.0.1 first.0 fits) b.1 in
    let taken = Takes-join c (text a.0.0) a.0.1 (flat_map text b.0.0) b.0.1 first.0 others.0 in
    let made : Takes c (flat_map text (a.0.0 ∷ b.0.0)) b.0.1 = rw flat_map-cons taken in
    subst (λ (x : List X × Cursor). Takes c (flat_map text x.0) x.1 × (length x.0 ≡ suc n) × AllByRecursion Fit x.0) (ok_is (a.0.0 ∷ b.0.0, b.0.1) (vs, d) b.2) (made, ap suc others.1, (first.1, others.2))

pub items_again : {X : Type 0} (item : Cursor → Read X) (text : X → List ℕ) (Fit : X → Type 0) → IsAgain item text Fit → (vs : List X) (c : Cursor) (d : Cursor) → AllByRecursion Fit vs → Takes c (flat_map text vs) d → read_items item (length vs) c ≡ Ok (vs, d)
unfolding read_items
items_again item text Fit law [] c d fits t =
    let same : c ≡ d = cursor_is c d (omega (arith, t.place)) t.parts in
    ap (λ (x : Cursor). Ok ([], x)) same
items_again item text Fit law (v ∷ vs) c d fits t =
    let split : Takes c (text v ++ flat_map text vs) d = rw (← flat_map-cons text v vs) t in
    let m = between c (text v) (flat_map text vs) d in
    rw (law c v m fits.0 (Takes-first c (text v) (flat_map text vs) d split), items_again item text Fit law vs m d fits.1 (Takes-second c (text v) (flat_map text vs) d split)) refl

abbrev pub optional_text : {X : Type 0} → (X → List ℕ) → Option X → List ℕ
optional_text text None = word 0
optional_text text (Some v) = word 1 ++ text v

abbrev pub OptionalFit : {X : Type 0} → (X → Type 0) → Option X → Type 0
OptionalFit Fit None = Unit {0}
OptionalFit Fit (Some v) = Fit v

pub optional_found : {X : Type 0} (item : Cursor → Read X) (text : X → List ℕ) (Fit : X → Type 0) → IsFound item text Fit → IsFound (read_optional item) (optional_text text) (OptionalFit Fit)
unfolding read_optional
optional_found {X} item text Fit law c o d fits e =
    let a = bind_ok (read_flag c) (λ flag. cond flag.0 (item flag.1 >>= λ x. Ok (Some x.0, x.1)) (Ok (None, flag.1))) (o, d) e in
    let m = a.0.1 in
    let t = flag_takes c a.0.0 m fits a.1 in
    elim (chosen a.0.0 (item m >>= λ x. Ok (Some x.0, x.1)) (Ok (None, m)) (Ok (o, d)) a.2) [
      | inl p ↦
          let one : Takes c (word 1) m = subst (λ (b : Bool). Takes c (word (cond b 1 0)) m) p.0 t in
          let b = bind_ok (item m) (λ x. Ok (Some x.0, x.1)) (o, d) p.1 in
          let u = law m b.0.0 b.0.1 (Takes-bytes c (word 1) m one fits) b.1 in
          subst (λ (x : Option X × Cursor). Takes c (optional_text text x.0) x.1 × OptionalFit Fit x.0) (ok_is (Some b.0.0, b.0.1) (o, d) b.2) (Takes-join c (word 1) m (text b.0.0) b.0.1 one u.0, u.1)
      | inr p ↦
          let none : Takes c (word 0) m = subst (λ (b : Bool). Takes c (word (cond b 1 0)) m) p.0 t in
          subst (λ (x : Option X × Cursor). Takes c (optional_text text x.0) x.1 × OptionalFit Fit x.0) (ok_is (None, m) (o, d) p.1) (none, tt)
    ]

pub optional_again : {X : Type 0} (item : Cursor → Read X) (text : X → List ℕ) (Fit : X → Type 0) → IsAgain item text Fit → IsAgain (read_optional item) (optional_text text) (OptionalFit Fit)
unfolding read_optional
optional_again item text Fit law c None d fits t = rw (flag_again c false d t) refl
optional_again item text Fit law c (Some v) d fits t =
    let m = between c (word 1) (text v) d in
    rw (flag_again c true m (Takes-first c (word 1) (text v) d t), law m v d fits (Takes-second c (word 1) (text v) d t)) refl

-- ---- trees: the inner ones by their levels

abbrev inner_text : {X : Type 0} → (X → List ℕ) → List (Tree X) → List ℕ
inner_text text ts = word (length ts) ++ flat_map (tree_spelling text) ts

abbrev InnerFit : {X : Type 0} → (X → Type 0) → ℕ → ℕ → List (Tree X) → Type 0
InnerFit Fit levels max ts = (length ts ≤ limit_at levels max) × (length ts < 2 ^ 32) × AllByRecursion (TreeFits Fit (levels - 1) max) ts

tree_text : {X : Type 0} (text : X → List ℕ) (x : X) (ts : List (Tree X)) → tree_spelling text (tree_of x ts) ≡ text x ++ inner_text text ts
tree_text text x ts = rw (row_len-in_a_row ts, row_spelling-in_a_row text ts) refl

tree_fits : {X : Type 0} (Fit : X → Type 0) (levels max : ℕ) (x : X) (ts : List (Tree X)) → Fit x → InnerFit Fit levels max ts → TreeFits Fit levels max (tree_of x ts)
tree_fits Fit levels max x ts fit fits = let len = row_len-in_a_row ts in (fit, omega (arith, len, fits.0), omega (arith, len, fits.1), row_fits Fit (levels - 1) max ts fits.2)

tree_found : {X : Type 0} (head : Cursor → Read X) (text : X → List ℕ) (Fit : X → Type 0) (levels max : ℕ) (inner : Cursor → Read (List (Tree X))) → IsFound head text Fit → IsFound inner (inner_text text) (InnerFit Fit levels max)
    → IsFound (tree_with head inner) (tree_spelling text) (TreeFits Fit levels max)
unfolding tree_with
tree_found {X} head text Fit levels max inner law inner_law c t d fits e =
    let a = bind_ok (head c) (λ x. inner x.1 >>= λ ts. Ok (tree_of x.0 ts.0, ts.1)) (t, d) e in
    let b = bind_ok (inner a.0.1) (λ ts. Ok (tree_of a.0.0 ts.0, ts.1)) (t, d) a.2 in
    let first = law c a.0.0 a.0.1 fits a.1 in
    let others = inner_law a.0.1 b.0.0 b.0.1 (Takes-bytes c (text a.0.0) a.0.1 first.0 fits) b.1 in
    let joined = Takes-join c (text a.0.0) a.0.1 (inner_text text b.0.0) b.0.1 first.0 others.0 in
    let whole : Takes c (tree_spelling text (tree_of a.0.0 b.0.0)) b.0.1 = subst (λ (x : List ℕ). Takes c x b.0.1) (sym (tree_text text a.0.0 b.0.0)) joined in
    subst (λ (z : Tree X × Cursor). Takes c (tree_spelling text z.0) z.1 × TreeFits Fit levels max z.0) (ok_is (tree_of a.0.0 b.0.0, b.0.1) (t, d) b.2) (whole, tree_fits Fit levels max a.0.0 b.0.0 first.1 others.1)

inner_found : {X : Type 0} (head : Cursor → Read X) (text : X → List ℕ) (Fit : X → Type 0) → IsFound head text Fit → (levels max : ℕ) → IsFound (read_inner head levels max) (inner_text text) (InnerFit Fit levels max)
unfolding read_inner
inner_found {X} head text Fit law zero max c ts d fits e =
    let a = bind_ok (read_count 0 c) (λ n. Ok ([], n.1)) (ts, d) e in
    let t = count_takes 0 c a.0.0 a.0.1 fits a.1 in
    let is_zero : a.0.0 ≡ 0 = omega (arith, t.1) in
    let none : Takes c (word 0 ++ []) a.0.1 = subst (λ (x : List ℕ). Takes c x a.0.1) (ap word is_zero ∙ sym (append-nil (word 0))) t.0 in
    subst (λ (z : List (Tree X) × Cursor). Takes c (inner_text text z.0) z.1 × InnerFit Fit 0 max z.0) (ok_is ([], a.0.1) (ts, d) a.2) (none, (omega arith, omega arith, tt))
inner_found {X} head text Fit law (suc levels) max c ts d fits e =
    let item = tree_with head (read_inner head levels max) in
    let a = bind_ok (read_count max c) (λ n. read_items item n.0 n.1) (ts, d) e in
    let t = count_takes max c a.0.0 a.0.1 fits a.1 in
    let u = items_found item (tree_spelling text) (TreeFits Fit levels max) (tree_found head text Fit levels max (read_inner head levels max) law (λ x y z p q. inner_found head text Fit law levels max x y z p q)) a.0.0 a.0.1 ts d (Takes-bytes c (word a.0.0) a.0.1 t.0 fits) a.2 in
    let first : Takes c (word (length ts)) a.0.1 = subst (λ (n : ℕ). Takes c (word n) a.0.1) (sym u.1) t.0 in
    let below : levels ≡ suc levels - 1 = omega arith in
    (Takes-join c (word (length ts)) a.0.1 (flat_map (tree_spelling text) ts) d first u.0, (omega (arith, u.1, t.1), omega (arith, u.1, t.2), subst (λ (n : ℕ). AllByRecursion (TreeFits Fit n max) ts) below u.2))

pub read_tree_found : {X : Type 0} (head : Cursor → Read X) (text : X → List ℕ) (Fit : X → Type 0) (levels max : ℕ) → IsFound head text Fit → IsFound (tree_with head (read_inner head levels max)) (tree_spelling text) (TreeFits Fit levels max)
read_tree_found head text Fit levels max law = tree_found head text Fit levels max (read_inner head levels max) law (inner_found head text Fit law levels max)

tree_again_of : {X : Type 0} (head : Cursor → Read X) (text : X → List ℕ) (Fit : X → Type 0) (levels max : ℕ) (inner : Cursor → Read (List (Tree X))) → IsAgain head text Fit → IsAgain inner (inner_text text) (InnerFit Fit levels max)
    → (c : Cursor) (x : X) (ts : List (Tree X)) (d : Cursor) → Fit x → InnerFit Fit levels max ts → Takes c (text x ++ inner_text text ts) d → tree_with head inner c ≡ Ok (tree_of x ts, d)
unfolding tree_with
tree_again_of head text Fit levels max inner law inner_law c x ts d fit fits t =
    let m = between c (text x) (inner_text text ts) d in
    rw (law c x m fit (Takes-first c (text x) (inner_text text ts) d t), inner_law m ts d fits (Takes-second c (text x) (inner_text text ts) d t)) refl

abbrev with_inner : {X : Type 0} → X → Trees X → Tree X
with_inner x row = record { head = x; inner = row }

tree_again : {X : Type 0} (head : Cursor → Read X) (text : X → List ℕ) (Fit : X → Type 0) (levels max : ℕ) (inner : Cursor → Read (List (Tree X))) → IsAgain head text Fit → IsAgain inner (inner_text text) (InnerFit Fit levels max)
    → IsAgain (tree_with head inner) (tree_spelling text) (TreeFits Fit levels max)
tree_again {X} head text Fit levels max inner law inner_law c v d fits t =
    let ts = trees_of v.inner in
    let same : in_a_row ts ≡ v.inner = in_a_row-trees_of v.inner in
    let whole : tree_of v.head ts ≡ v = ap (λ (r : Trees X). with_inner v.head r) same in
    let len : length ts ≡ row_len v.inner = sym (row_len-in_a_row ts) ∙ ap row_len same in
    let row : RowFits Fit (levels - 1) max (in_a_row ts) = subst (λ (r : Trees X). RowFits Fit (levels - 1) max r) (sym same) fits.3 in
    let text_is : tree_spelling text v ≡ text v.head ++ inner_text text ts = sym (ap (tree_spelling text) whole) ∙ tree_text text v.head ts in
    let taken : Takes c (text v.head ++ inner_text text ts) d = subst (λ (x : List ℕ). Takes c x d) text_is t in
    let made = tree_again_of head text Fit levels max inner law inner_law c v.head ts d fits.0 (omega (arith, len, fits.1), omega (arith, len, fits.2), fits_row Fit (levels - 1) max ts row) taken in
    subst (λ (w : Tree X). tree_with head inner c ≡ Ok (w, d)) whole made

inner_again : {X : Type 0} (head : Cursor → Read X) (text : X → List ℕ) (Fit : X → Type 0) → IsAgain head text Fit → (levels max : ℕ) → IsAgain (read_inner head levels max) (inner_text text) (InnerFit Fit levels max)
unfolding read_inner
inner_again head text Fit law zero max c [] d fits t =
    let none : Takes c (word 0) d = subst (λ (x : List ℕ). Takes c x d) (append-nil (word 0)) t in
    rw (count_again 0 c 0 d (omega arith) (omega arith) none) refl
inner_again head text Fit law zero max c (x ∷ xs) d fits t = let many : suc (length xs) ≤ 0 = fits.0 in absurd (omega arith)
inner_again {X} head text Fit law (suc levels) max c ts d fits t =
    let body = flat_map (tree_spelling text) ts in
    let m = between c (word (length ts)) body d in
    let below : suc levels - 1 ≡ levels = omega arith in
    let each : AllByRecursion (TreeFits Fit levels max) ts = subst (λ (n : ℕ). AllByRecursion (TreeFits Fit n max) ts) below fits.2 in
    let item_law : IsAgain (tree_with head (read_inner head levels max)) (tree_spelling text) (TreeFits Fit levels max) = tree_again head text Fit levels max (read_inner head levels max) law (λ x y z p q. inner_again head text Fit law levels max x y z p q) in
    rw (count_again max c (length ts) m fits.0 fits.1 (Takes-first c (word (length ts)) body d t)) (items_again (tree_with head (read_inner head levels max)) (tree_spelling text) (TreeFits Fit levels max) item_law ts m d each (Takes-second c (word (length ts)) body d t))

pub read_tree_again : {X : Type 0} (head : Cursor → Read X) (text : X → List ℕ) (Fit : X → Type 0) (levels max : ℕ) → IsAgain head text Fit → IsAgain (tree_with head (read_inner head levels max)) (tree_spelling text) (TreeFits Fit levels max)
read_tree_again head text Fit levels max law = tree_again head text Fit levels max (read_inner head levels max) law (inner_again head text Fit law levels max)
