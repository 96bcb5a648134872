-- Where a spelling is bytes, each text of bytes within its value is.
use Rattle.std.proofs.Common.{◌≡◌, ℕ, ◌<◌, List, [], ◌∷◌, ◌++◌, Option, Some, None, inl, inr, zero, suc, length, arith}
use Rattle.std.specs.Prelude.{slice_index, flat_map, ◌⊎◌}
use Rattle.std.specs.List.{AllByRecursion}
use Rattle.hex.specs.Hex.{IsBytes}
use Rattle.scp_kv.specs.scp_xdr.specs.Tree.{Trees, no_trees, tree_then, Tree, row_len}
use Rattle.scp_kv.specs.scp_xdr.specs.Kind.{Kind, uint32, uint64, fixed, opaque, optional, array, numbered, both, union, tree, Arms, no_arm, arm, Values, ArmValues, word, long_word, padded, row_spelling, spelling, arm_spelling}

abbrev pub AreBytes : List ℕ → Type 0
AreBytes bytes = AllByRecursion (λ b. b < 256) bytes

byte_at : (x : ℕ) (xs : List ℕ) → x < 256 → IsBytes xs → (i : ℕ) → slice_index (x ∷ xs) i < 256
byte_at x xs h rest zero = h
byte_at x xs h rest (suc i) = rest i

pub bytes_from : (bytes : List ℕ) → AreBytes bytes → IsBytes bytes
bytes_from [] h = λ i. omega arith
bytes_from (x ∷ xs) h = byte_at x xs h.0 (bytes_from xs h.1)

pub bytes_to : (bytes : List ℕ) → IsBytes bytes → AreBytes bytes
bytes_to [] h = tt
bytes_to (x ∷ xs) h = (h zero, bytes_to xs (λ i. h (suc i)))

pub front : (xs ys : List ℕ) → AreBytes (xs ++ ys) → AreBytes xs
front [] ys h = tt
front (x ∷ xs) ys h = (h.0, front xs ys h.1)

pub back : (xs ys : List ℕ) → AreBytes (xs ++ ys) → AreBytes ys
back [] ys h = h
back (x ∷ xs) ys h = back xs ys h.1

abbrev pub RowLeaves : {X : Type 0} → (X → Type 0) → Trees X → Type 0
RowLeaves leaf no_trees = Unit {0}
RowLeaves leaf (tree_then x inner others) = leaf x × RowLeaves leaf inner × RowLeaves leaf others

-- each text of bytes within the value is bytes
abbrev mutual
  pub Leaves : (k : Kind) → Values k → Type 0
  Leaves uint32 n = Unit {0}
  Leaves uint64 n = Unit {0}
  Leaves (fixed n) bytes = AreBytes bytes
  Leaves (opaque max) bytes = AreBytes bytes
  Leaves (optional k) None = Unit {0}
  Leaves (optional k) (Some v) = Leaves k v
  Leaves (array max k) vs = AllByRecursion (λ v. Leaves k v) vs
  Leaves (numbered max k) v = AllByRecursion (λ x. Leaves k x) v.1
  Leaves (both a b) v = Leaves a v.0 × Leaves b v.1
  Leaves (union arms) v = ArmLeaves arms v
  Leaves (tree levels max head) t = Leaves head t.head × RowLeaves (λ v. Leaves head v) t.inner

  pub ArmLeaves : (arms : Arms) → ArmValues arms → Type 0
  ArmLeaves no_arm v = ⊥
  ArmLeaves (arm tag k others) (inl v) = Leaves k v
  ArmLeaves (arm tag k others) (inr v) = ArmLeaves others v

padded_bytes : (bytes : List ℕ) → AreBytes (padded bytes) → AreBytes bytes
unfolding padded
padded_bytes bytes h = front bytes _ h

items_leaves : {X : Type 0} (text : X → List ℕ) (leaf : X → Type 0) → ((x : X) → AreBytes (text x) → leaf x) → (xs : List X) → AreBytes (flat_map text xs) → AllByRecursion leaf xs
items_leaves text leaf each [] h = tt
items_leaves text leaf each (x ∷ xs) h = (each x (front (text x) (flat_map text xs) h), items_leaves text leaf each xs (back (text x) (flat_map text xs) h))

row_leaves : {X : Type 0} (text : X → List ℕ) (leaf : X → Type 0) → ((x : X) → AreBytes (text x) → leaf x) → (row : Trees X) → AreBytes (row_spelling text row) → RowLeaves leaf row
row_leaves text leaf each no_trees h = tt
row_leaves text leaf each (tree_then x inner others) h =
    let one = front (text x ++ (word (row_len inner) ++ row_spelling text inner)) (row_spelling text others) h in
    let rest = back (text x ++ (word (row_len inner) ++ row_spelling text inner)) (row_spelling text others) h in
    let within = back (word (row_len inner)) (row_spelling text inner) (back (text x) (word (row_len inner) ++ row_spelling text inner) one) in
    (each x (front (text x) (word (row_len inner) ++ row_spelling text inner) one), row_leaves text leaf each inner within, row_leaves text leaf each others rest)

mutual
  pub leaves : (k : Kind) (v : Values k) → AreBytes (spelling k v) → Leaves k v
  leaves uint32 n h = tt
  leaves uint64 n h = tt
  leaves (fixed n) bytes h = padded_bytes bytes h
  leaves (opaque max) bytes h = padded_bytes bytes (back (word (length bytes)) (padded bytes) h)
  leaves (optional k) None h = tt
  leaves (optional k) (Some v) h = leaves k v (back (word 1) (spelling k v) h)
  leaves (array max k) vs h = items_leaves (λ v. spelling k v) (λ v. Leaves k v) (λ v b. leaves k v b) vs (back (word (length vs)) (flat_map (λ v. spelling k v) vs) h)
  leaves (numbered max k) v h = items_leaves (λ x. spelling k x) (λ x. Leaves k x) (λ x b. leaves k x b) v.1 (back (long_word v.0 ++ word (length v.1)) (flat_map (λ x. spelling k x) v.1) h)
  leaves (both a b) v h = (leaves a v.0 (front (spelling a v.0) (spelling b v.1) h), leaves b v.1 (back (spelling a v.0) (spelling b v.1) h))
  leaves (union arms) v h = arm_leaves arms v h
  leaves (tree levels max head) t h =
      let text : Values head → List ℕ = λ v. spelling head v in
      let rest = back (text t.head) (word (row_len t.inner) ++ row_spelling text t.inner) h in
      (leaves head t.head (front (text t.head) (word (row_len t.inner) ++ row_spelling text t.inner) h), row_leaves text (λ v. Leaves head v) (λ v b. leaves head v b) t.inner (back (word (row_len t.inner)) (row_spelling text t.inner) rest))

  pub arm_leaves : (arms : Arms) (v : ArmValues arms) → AreBytes (arm_spelling arms v) → ArmLeaves arms v
  arm_leaves no_arm v h = elim v [ ]
  arm_leaves (arm tag k others) (inl v) h = leaves k v (back (word tag) (spelling k v) h)
  arm_leaves (arm tag k others) (inr v) h = arm_leaves others v h
