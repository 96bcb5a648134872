-- The kinds of XDR that are used here, the values of each, and the one encoding of each value (RFC 4506).
use Rattle.std.specs.Prelude.{◌≡◌, ◌≢◌, ℕ, zero, suc, ◌+◌, ◌-◌, ◌%◌, ◌<◌, ◌≤◌, ◌^◌, List, [], ◌++◌, ◌⊎◌, length, replicate, Option, Some, None}
use Rattle.std.proofs.Common.{inl, inr}
use Rattle.std.specs.List.{flat_map, AllByRecursion}
use Rattle.std.specs.Int.{w32, w64, to_be_bytes}
use Rattle.scp_xdr.specs.Tree.{Trees, no_trees, tree_then, Tree, row_len}

mutual
  -- the kinds of XDR: numbers, bytes, optional, array, numbered on, two in a row, union, tree (RFC 4506)
  pub data Kind : Type 0 where
    uint32 : Kind
    uint64 : Kind
    fixed : ℕ → Kind
    opaque : ℕ → Kind
    optional : Kind → Kind
    array : ℕ → Kind → Kind
    -- a number, and items that are numbered on from it: at least one, at most this many
    numbered : ℕ → Kind → Kind
    both : Kind → Kind → Kind
    union : Arms → Kind
    -- trees with such heads: how many levels of inner trees, and how many inner trees one tree may have
    tree : ℕ → ℕ → Kind → Kind

  -- the arms of a union, each with its discriminant
  pub data Arms : Type 0 where
    no_arm : Arms
    arm : ℕ → Kind → Arms → Arms

-- the values of a kind
abbrev mutual
  pub Values : Kind → Type 0
  Values uint32 = ℕ
  Values uint64 = ℕ
  Values (fixed n) = List ℕ
  Values (opaque max) = List ℕ
  Values (optional k) = Option (Values k)
  Values (array max k) = List (Values k)
  Values (numbered max k) = ℕ × List (Values k)
  Values (both a b) = Values a × Values b
  Values (union arms) = ArmValues arms
  Values (tree levels max head) = Tree (Values head)

  -- a value of one of the arms
  pub ArmValues : Arms → Type 0
  ArmValues no_arm = ⊥
  ArmValues (arm tag k others) = Values k ⊎ ArmValues others

-- how many zero bytes follow n bytes
abbrev pub padding_len : ℕ → ℕ
padding_len n = (4 - n % 4) % 4

-- four bytes, big-endian
unfoldable pub word : ℕ → List ℕ
word n = to_be_bytes w32 n

-- eight bytes, big-endian
unfoldable pub long_word : ℕ → List ℕ
long_word n = to_be_bytes w64 n

-- the bytes, and zeros up to a multiple of four (RFC 4506, section 3)
unfoldable pub padded : List ℕ → List ℕ
padded bytes = bytes ++ replicate (padding_len (length bytes)) 0

-- the trees one after the other; each is its head, the count of the trees inside it, and these trees
abbrev pub row_spelling : {X : Type 0} → (X → List ℕ) → Trees X → List ℕ
row_spelling text no_trees = []
row_spelling text (tree_then x inner others) = (text x ++ (word (row_len inner) ++ row_spelling text inner)) ++ row_spelling text others

-- the head, how many trees are inside, and these trees
abbrev pub tree_spelling : {X : Type 0} → (X → List ℕ) → Tree X → List ℕ
tree_spelling text t = text t.head ++ (word (row_len t.inner) ++ row_spelling text t.inner)

abbrev mutual
  -- the one encoding of a value, part by part (RFC 4506)
  pub spelling : (k : Kind) → Values k → List ℕ
  spelling uint32 n = word n
  spelling uint64 n = long_word n
  spelling (fixed n) bytes = padded bytes
  spelling (opaque max) bytes = word (length bytes) ++ padded bytes
  spelling (optional k) None = word 0
  spelling (optional k) (Some v) = word 1 ++ spelling k v
  spelling (array max k) vs = word (length vs) ++ flat_map (λ v. spelling k v) vs
  spelling (numbered max k) v = (long_word v.0 ++ word (length v.1)) ++ flat_map (λ x. spelling k x) v.1
  spelling (both a b) v = spelling a v.0 ++ spelling b v.1
  spelling (union arms) v = arm_spelling arms v
  spelling (tree levels max head) t = tree_spelling (λ v. spelling head v) t

  -- the arm's discriminant, and then its value
  pub arm_spelling : (arms : Arms) → ArmValues arms → List ℕ
  arm_spelling no_arm v = elim v [ ]
  arm_spelling (arm tag k others) (inl v) = word tag ++ spelling k v
  arm_spelling (arm tag k others) (inr v) = arm_spelling others v

-- the discriminant of a value's arm
abbrev pub tag_of : (arms : Arms) → ArmValues arms → ℕ
tag_of no_arm v = elim v [ ]
tag_of (arm tag k others) (inl v) = tag
tag_of (arm tag k others) (inr v) = tag_of others v

-- how many inner trees a tree may have, if this many levels may be below it
abbrev pub limit_at : ℕ → ℕ → ℕ
limit_at zero max = 0
limit_at (suc levels) max = max

-- each tree has a head that fits, few enough inner trees, and at most this many levels below it
abbrev pub RowFits : {X : Type 0} → (X → Type 0) → ℕ → ℕ → Trees X → Type 0
RowFits Fit levels max no_trees = Unit {0}
RowFits Fit levels max (tree_then x inner others) =
    (Fit x × (row_len inner ≤ limit_at levels max) × (row_len inner < 2 ^ 32) × RowFits Fit (levels - 1) max inner) × RowFits Fit levels max others

-- the head fits, there are few enough inner trees, and no more levels than allowed
abbrev pub TreeFits : {X : Type 0} → (X → Type 0) → ℕ → ℕ → Tree X → Type 0
TreeFits Fit levels max t = Fit t.head × (row_len t.inner ≤ limit_at levels max) × (row_len t.inner < 2 ^ 32) × RowFits Fit (levels - 1) max t.inner

-- which values have an encoding: numbers in their range, lengths and counts within their limits
abbrev mutual
  pub Fits : (k : Kind) → Values k → Type 0
  Fits uint32 n = n < 2 ^ 32
  Fits uint64 n = n < 2 ^ 64
  Fits (fixed n) bytes = length bytes ≡ n
  Fits (opaque max) bytes = (length bytes ≤ max) × (length bytes < 2 ^ 32)
  Fits (optional k) None = Unit {0}
  Fits (optional k) (Some v) = Fits k v
  Fits (array max k) vs = (length vs ≤ max) × (length vs < 2 ^ 32) × AllByRecursion (λ v. Fits k v) vs
  -- each item's number has 64 bits
  Fits (numbered max k) v = (v.0 < 2 ^ 64) × (0 < length v.1) × (length v.1 ≤ max) × (length v.1 < 2 ^ 32) × (v.0 + length v.1 ≤ 2 ^ 64) × AllByRecursion (λ x. Fits k x) v.1
  Fits (both a b) v = Fits a v.0 × Fits b v.1
  Fits (union arms) v = ArmFits arms v
  Fits (tree levels max head) t = TreeFits (λ v. Fits head v) levels max t

  -- the discriminant has 32 bits and is that of no earlier arm, and the value fits
  pub ArmFits : (arms : Arms) → ArmValues arms → Type 0
  ArmFits no_arm v = ⊥
  ArmFits (arm tag k others) (inl v) = (tag < 2 ^ 32) × Fits k v
  ArmFits (arm tag k others) (inr v) = (tag_of others v ≢ tag) × ArmFits others v

-- the bytes encode the value, as this kind
pub record Spells (k : Kind) (bytes : List ℕ) (v : Values k) : Type 0 where
  pub fits : Fits k v
  pub spelt : bytes ≡ spelling k v
