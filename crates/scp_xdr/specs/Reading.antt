-- Reading from left to right, with the first fault and its place.
use Rattle.std.specs.Prelude.{ℕ, zero, suc, ◌+◌, ◌^◌, Bool, true, false, not, List, [], ◌∷◌, length, take, drop, position, Option, Some, None, Result, Ok, Err, nat_lt, ◌==◌, if◌then◌else◌}
use Rattle.std.proofs.Common.{inl, inr}
use Rattle.std.specs.Int.{w32, w64, from_be_bytes}
use Rattle.scp_types.specs.declared.fault.Fault.{Fault}
use Rattle.scp_types.specs.declared.fault.Fault.TheVariants.{Malformed, TooLong}
use Rattle.scp_xdr.specs.Tree.{Tree, tree_of}
use Rattle.scp_xdr.specs.Kind.{Kind, uint32, uint64, fixed, opaque, optional, array, numbered, both, union, tree, Arms, no_arm, arm, Values, ArmValues, padding_len}

-- where a reader is: its place in the whole, and the bytes from there on
pub record Cursor : Type 0 where
  pub place : ℕ
  pub rest : List ℕ

-- at the beginning of the bytes
abbrev pub start : List ℕ → Cursor
start bytes = record { place = 0; rest = bytes }

-- n bytes further on
abbrev pub skip : ℕ → Cursor → Cursor
skip n c = record { place = c.place + n; rest = drop n c.rest }

-- a value and where the reader is after it, or the first fault
abbrev pub Read : Type 0 → Type 0
Read X = Result (X × Cursor) Fault

infixl 10 ◌>>=◌
-- one reading after another; the first fault ends both
abbrev pub ◌>>=◌ : {A B : Type 0} → Result A Fault → (A → Result B Fault) → Result B Fault
(Ok x) >>= f = f x
(Err e) >>= f = Err e

-- four bytes, big-endian
unfoldable pub read_uint32 : Cursor → Read ℕ
read_uint32 c = if nat_lt (length c.rest) 4 then Err (Malformed c.place) else Ok (from_be_bytes w32 (take 4 c.rest), skip 4 c)

-- eight bytes, big-endian
unfoldable pub read_uint64 : Cursor → Read ℕ
read_uint64 c = if nat_lt (length c.rest) 8 then Err (Malformed c.place) else Ok (from_be_bytes w64 (take 8 c.rest), skip 8 c)

-- the place of the first byte that isn't zero, if there is one
abbrev pub first_nonzero : List ℕ → Option ℕ
first_nonzero bytes = position (λ b. not (b == 0)) bytes

-- malformed at the first byte of padding that isn't 0
abbrev pub unless_nonzero : Option ℕ → ℕ → ℕ → Cursor → Read (List ℕ)
unless_nonzero None n padding c = Ok (take n c.rest, skip padding (skip n c))
unless_nonzero (Some i) n padding c = Err (Malformed (c.place + n + i))

-- n bytes, and zeros after them
abbrev pub read_padded : ℕ → ℕ → Cursor → Read (List ℕ)
read_padded n padding c = if nat_lt (length c.rest) (n + padding) then Err (Malformed c.place) else unless_nonzero (first_nonzero (take padding (drop n c.rest))) n padding c

-- n bytes and their padding
unfoldable pub read_bytes : ℕ → Cursor → Read (List ℕ)
read_bytes n c = read_padded n (padding_len n) c

-- a length or a count, within its limit
unfoldable pub read_count : ℕ → Cursor → Read ℕ
read_count max c = do
  n ← read_uint32 c
  if nat_lt max n.0 then Err TooLong else Ok n

-- bytes after their length
unfoldable pub read_opaque : ℕ → Cursor → Read (List ℕ)
read_opaque max c = do
  n ← read_count max c
  read_bytes n.0 n.1

-- the flag that a number is, or malformed if it is none
abbrev pub flag_of : ℕ → ℕ → Result Bool Fault
flag_of place zero = Ok false
flag_of place (suc zero) = Ok true
flag_of place (suc (suc n)) = Err (Malformed place)

-- 0 or 1
unfoldable pub read_flag : Cursor → Read Bool
read_flag c = do
  n ← read_uint32 c
  flag ← flag_of c.place n.0
  Ok (flag, n.1)

-- n items, one after the other
unfoldable pub read_items : {X : Type 0} → (Cursor → Read X) → ℕ → Cursor → Read (List X)
read_items item zero c = Ok ([], c)
read_items item (suc n) c = do
  first ← item c
  others ← read_items item n first.1
  Ok (first.0 ∷ others.0, others.1)

-- a flag, and if it is 1, a value
unfoldable pub read_optional : {X : Type 0} → (Cursor → Read X) → Cursor → Read (Option X)
read_optional item c = do
  flag ← read_flag c
  if flag.0 then (item flag.1 >>= λ x. Ok (Some x.0, x.1)) else Ok (None, flag.1)

-- a head, and the trees inside it
unfoldable pub tree_with : {X : Type 0} → (Cursor → Read X) → (Cursor → Read (List (Tree X))) → Cursor → Read (Tree X)
tree_with head inner c = do
  x ← head c
  trees ← inner x.1
  Ok (tree_of x.0 trees.0, trees.1)

-- the count of inner trees and each of them, if this many levels may follow; if none may, the count's limit is 0
unfoldable pub read_inner : {X : Type 0} → (Cursor → Read X) → ℕ → ℕ → Cursor → Read (List (Tree X))
read_inner head zero max c = read_count 0 c >>= λ n. Ok ([], n.1)
read_inner head (suc levels) max c = read_count max c >>= λ n. read_items (tree_with head (read_inner head levels max)) n.0 n.1

-- a head, a count, and this many trees
abbrev pub read_tree : {X : Type 0} → (Cursor → Read X) → ℕ → ℕ → Cursor → Read (Tree X)
read_tree head levels max c = tree_with head (read_inner head levels max) c

-- the first number and the count of what is numbered on from it: at least one, at most the limit, and the last below 2^64
abbrev pub run_of : ℕ → ℕ → ℕ → ℕ → ℕ → Cursor → Read (ℕ × ℕ)
run_of max first_place count_place first n c = if n == 0 then Err (Malformed count_place) else (if nat_lt max n then Err TooLong else (if nat_lt (2 ^ 64) (first + n) then Err (Malformed first_place) else Ok ((first, n), c)))

-- the first number and the count of numbered values
unfoldable pub read_run : ℕ → Cursor → Read (ℕ × ℕ)
read_run max c = do
  first ← read_uint64 c
  n ← read_uint32 first.1
  run_of max c.place first.1.place first.0 n.0 n.1

abbrev mutual
  -- reading a value of a kind, item by item from left to right
  pub reading : (k : Kind) → Cursor → Read (Values k)
  reading uint32 c = read_uint32 c
  reading uint64 c = read_uint64 c
  reading (fixed n) c = read_bytes n c
  reading (opaque max) c = read_opaque max c
  reading (optional k) c = read_optional (λ d. reading k d) c
  reading (array max k) c = read_count max c >>= λ n. read_items (λ d. reading k d) n.0 n.1
  reading (numbered max k) c = read_run max c >>= λ r. read_items (λ d. reading k d) r.0.1 r.1 >>= λ xs. Ok ((r.0.0, xs.0), xs.1)
  reading (both a b) c = reading a c >>= λ x. reading b x.1 >>= λ y. Ok ((x.0, y.0), y.1)
  reading (union arms) c = read_uint32 c >>= λ tag. reading_arm arms c.place tag.0 tag.1
  reading (tree levels max head) c = read_tree (λ d. reading head d) levels max c

  -- the same of the arm with this discriminant; malformed at the discriminant's place if there is none
  pub reading_arm : (arms : Arms) → ℕ → ℕ → Cursor → Read (ArmValues arms)
  reading_arm no_arm place tag c = Err (Malformed place)
  reading_arm (arm t k others) place tag c =
      if tag == t then (reading k c >>= λ x. Ok (inl x.0, x.1)) else (reading_arm others place tag c >>= λ x. Ok (inr x.0, x.1))

-- nothing is left after the value
unfoldable pub read_end : Cursor → Result Cursor Fault
read_end c = if length c.rest == 0 then Ok c else Err (Malformed c.place)

-- all of the bytes encode one value, or the first fault
unfoldable pub reading_whole : (k : Kind) → List ℕ → Result (Values k) Fault
reading_whole k bytes = do
  x ← reading k (start bytes)
  done ← read_end x.1
  Ok x.0
