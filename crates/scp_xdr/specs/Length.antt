-- How many bytes a value's encoding has, found without the encoding.
use Rattle.std.specs.Prelude.{ℕ, ◌+◌, length, Some, None}
use Rattle.std.proofs.Common.{inl, inr}
use Rattle.std.specs.List.{sum_by}
use Rattle.scp_xdr.specs.Tree.{Trees, no_trees, tree_then, Tree}
use Rattle.scp_xdr.specs.Kind.{Kind, uint32, uint64, fixed, opaque, optional, array, numbered, both, union, tree, Arms, no_arm, arm, Values, ArmValues, padding_len}

-- n bytes and their padding (RFC 4506, section 3)
unfoldable pub padded_len : ℕ → ℕ
padded_len n = n + padding_len n

-- the bytes of trees in a row, where each head has this many
abbrev pub row_size : {X : Type 0} → (X → ℕ) → Trees X → ℕ
row_size size no_trees = 0
row_size size (tree_then x inner others) = (size x + (4 + row_size size inner)) + row_size size others

-- the bytes of a tree, where each head has this many
abbrev pub tree_size : {X : Type 0} → (X → ℕ) → Tree X → ℕ
tree_size size t = size t.head + (4 + row_size size t.inner)

abbrev mutual
  -- how many bytes encode a value
  pub spelled_len : (k : Kind) → Values k → ℕ
  spelled_len uint32 n = 4
  spelled_len uint64 n = 8
  spelled_len (fixed n) bytes = padded_len (length bytes)
  spelled_len (opaque max) bytes = 4 + padded_len (length bytes)
  spelled_len (optional k) None = 4
  spelled_len (optional k) (Some v) = 4 + spelled_len k v
  spelled_len (array max k) vs = 4 + sum_by (λ v. spelled_len k v) vs
  spelled_len (numbered max k) v = 12 + sum_by (λ x. spelled_len k x) v.1
  spelled_len (both a b) v = spelled_len a v.0 + spelled_len b v.1
  spelled_len (union arms) v = arm_len arms v
  spelled_len (tree levels max head) t = tree_size (λ v. spelled_len head v) t

  -- how many bytes encode the value of an arm, with its discriminant
  pub arm_len : (arms : Arms) → ArmValues arms → ℕ
  arm_len no_arm v = elim v [ ]
  arm_len (arm tag k others) (inl v) = 4 + spelled_len k v
  arm_len (arm tag k others) (inr v) = arm_len others v
