-- The length of an encoding, for every kind.
use Rattle.std.proofs.Common.{◌≡◌, ℕ, ◌+◌, List, [], ◌∷◌, ◌++◌, length, Some, None, refl, inl, inr, arith}
use Rattle.std.specs.Prelude.{replicate}
use Rattle.std.specs.List.{flat_map, sum_by}
use Rattle.std.proofs.lemmas.List.{length-append, length-replicate}
use Rattle.std.proofs.lemmas.List.Sums.{sum_by-cons}
use Rattle.scp_xdr.specs.Tree.{Trees, no_trees, tree_then}
use Rattle.scp_xdr.specs.Kind.{Kind, uint32, uint64, fixed, opaque, optional, array, numbered, both, union, tree, Arms, no_arm, arm, Values, ArmValues, padding_len, word, long_word, padded, row_spelling, spelling, arm_spelling, row_spelling}
use Rattle.scp_xdr.specs.Tree.{row_len}
use Rattle.scp_xdr.specs.Length.{padded_len, row_size, spelled_len, arm_len}

pub word_len : (n : ℕ) → length (word n) ≡ 4
unfolding word
word_len n = refl

pub long_word_len : (n : ℕ) → length (long_word n) ≡ 8
unfolding long_word
long_word_len n = refl

padded_length : (bytes : List ℕ) → length (padded bytes) ≡ padded_len (length bytes)
unfolding padded padded_len
padded_length bytes = omega (arith, length-append bytes (replicate (padding_len (length bytes)) 0), length-replicate {A = ℕ} (padding_len (length bytes)) 0)

word_then : (n : ℕ) (text : List ℕ) (len : ℕ) → length text ≡ len → length (word n ++ text) ≡ 4 + len
word_then n text len e = omega (arith, word_len n, length-append (word n) text, e)

each_len : {X : Type 0} (text : X → List ℕ) (size : X → ℕ) → ((x : X) → length (text x) ≡ size x) → (xs : List X) → length (flat_map text xs) ≡ sum_by size xs
each_len text size law [] = refl
each_len text size law (x ∷ xs) = omega (arith, length-append (text x) (flat_map text xs), law x, each_len text size law xs, sum_by-cons size x xs)

row_length : {X : Type 0} (text : X → List ℕ) (size : X → ℕ) → ((x : X) → length (text x) ≡ size x) → (row : Trees X) → length (row_spelling text row) ≡ row_size size row
row_length text size law no_trees = refl
row_length text size law (tree_then x inner others) =
    omega (
      arith,
      length-append (text x ++ (word (row_len inner) ++ row_spelling text inner)) (row_spelling text others),
      length-append (text x) (word (row_len inner) ++ row_spelling text inner),
      law x,
      word_then (row_len inner) (row_spelling text inner) (row_size size inner) (row_length text size law inner),
      row_length text size law others,
    )

mutual
  pub length_is : (k : Kind) (v : Values k) → length (spelling k v) ≡ spelled_len k v
  length_is uint32 n = word_len n
  length_is uint64 n = long_word_len n
  length_is (fixed n) bytes = padded_length bytes
  length_is (opaque max) bytes = word_then (length bytes) (padded bytes) (padded_len (length bytes)) (padded_length bytes)
  length_is (optional k) None = word_len 0
  length_is (optional k) (Some v) = word_then 1 (spelling k v) (spelled_len k v) (length_is k v)
  length_is (array max k) vs =
      word_then (length vs) (flat_map (λ v. spelling k v) vs) (sum_by (λ v. spelled_len k v) vs) (each_len (λ v. spelling k v) (λ v. spelled_len k v) (λ v. length_is k v) vs)
  length_is (numbered max k) v =
      omega (arith, length-append (long_word v.0 ++ word (length v.1)) (flat_map (λ x. spelling k x) v.1), length-append (long_word v.0) (word (length v.1)), long_word_len v.0, word_len (length v.1), each_len (λ x. spelling k x) (λ x. spelled_len k x) (λ x. length_is k x) v.1)
  length_is (both a b) v = omega (arith, length-append (spelling a v.0) (spelling b v.1), length_is a v.0, length_is b v.1)
  length_is (union arms) v = arm_length arms v
  length_is (tree levels max head) t =
      omega (
        arith,
        length-append (spelling head t.head) (word (row_len t.inner) ++ row_spelling (λ v. spelling head v) t.inner),
        length_is head t.head,
        word_then (row_len t.inner) (row_spelling (λ v. spelling head v) t.inner) (row_size (λ v. spelled_len head v) t.inner) (row_length (λ v. spelling head v) (λ v. spelled_len head v) (λ v. length_is head v) t.inner),
      )

  pub arm_length : (arms : Arms) (v : ArmValues arms) → length (arm_spelling arms v) ≡ arm_len arms v
  arm_length no_arm v = elim v [ ]
  arm_length (arm tag k others) (inl v) = word_then tag (spelling k v) (spelled_len k v) (length_is k v)
  arm_length (arm tag k others) (inr v) = arm_length others v
