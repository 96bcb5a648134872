-- Passing over a value and keeping nothing of it: where the reader is then, or the first fault.
use Rattle.std.specs.Prelude.{ℕ, zero, suc, Result, Ok, Err, List, ◌==◌, if◌then◌else◌}
use Rattle.scp_types.specs.declared.fault.Fault.{Fault}
use Rattle.scp_types.specs.declared.fault.Fault.TheVariants.{Malformed}
use Rattle.scp_xdr.specs.Kind.{Kind, uint32, uint64, fixed, opaque, optional, array, numbered, both, union, tree, Arms, no_arm, arm}
use Rattle.scp_xdr.specs.Reading.{Cursor, start, Read, ◌>>=◌, read_uint32, read_uint64, read_bytes, read_count, read_run, read_opaque, read_flag, read_end}

-- where a reader is after what it read
abbrev pub left_of : {X : Type 0} → Read X → Result Cursor Fault
left_of (Ok x) = Ok x.1
left_of (Err f) = Err f

-- past this many items, one after another
unfoldable pub pass_items : (Cursor → Result Cursor Fault) → ℕ → Cursor → Result Cursor Fault
pass_items item zero c = Ok c
pass_items item (suc n) c = item c >>= λ d. pass_items item n d

-- past a flag, and if it is 1, a value
unfoldable pub pass_optional : (Cursor → Result Cursor Fault) → Cursor → Result Cursor Fault
pass_optional item c = read_flag c >>= λ flag. if flag.0 then item flag.1 else Ok flag.1

-- past a count and this many trees, with this many levels
unfoldable pub pass_inner : (Cursor → Result Cursor Fault) → ℕ → ℕ → Cursor → Result Cursor Fault
pass_inner head zero max c = read_count 0 c >>= λ n. Ok n.1
pass_inner head (suc levels) max c = read_count max c >>= λ n. pass_items (λ d. head d >>= λ e. pass_inner head levels max e) n.0 n.1

abbrev mutual
  -- where reading a value of a kind ends, or its first fault, without the value
  pub passing : Kind → Cursor → Result Cursor Fault
  passing uint32 c = left_of (read_uint32 c)
  passing uint64 c = left_of (read_uint64 c)
  passing (fixed n) c = left_of (read_bytes n c)
  passing (opaque max) c = left_of (read_opaque max c)
  passing (optional k) c = pass_optional (λ d. passing k d) c
  passing (array max k) c = read_count max c >>= λ n. pass_items (λ d. passing k d) n.0 n.1
  passing (numbered max k) c = read_run max c >>= λ r. pass_items (λ d. passing k d) r.0.1 r.1
  passing (both a b) c = passing a c >>= λ d. passing b d
  passing (union arms) c = read_uint32 c >>= λ tag. passing_arm arms c.place tag.0 tag.1
  passing (tree levels max head) c = passing head c >>= λ d. pass_inner (λ e. passing head e) levels max d

  -- the same of the arm with this discriminant; malformed if there is none
  pub passing_arm : Arms → ℕ → ℕ → Cursor → Result Cursor Fault
  passing_arm no_arm place tag c = Err (Malformed place)
  passing_arm (arm t k others) place tag c = if tag == t then passing k c else passing_arm others place tag c

-- the same of all the bytes, with none left over
unfoldable pub passing_whole : Kind → List ℕ → Result Cursor Fault
passing_whole k bytes = passing k (start bytes) >>= λ c. read_end c
