-- Inner sets after their count, if this many levels may follow.
use Rattle.std.proofs.Common.{◌≡◌, ℕ, zero, suc, ◌-◌, ◌<◌, List, [], Result, Ok, Err, arith, refl}
use Rattle.scp_xdr.specs.scp_types.specs.declared.fault.Fault.{Fault}
use Rattle.scp_xdr.specs.Tree.{Tree, tree_of}
use Rattle.scp_xdr.specs.Kind.{Values}
use Rattle.scp_xdr.specs.Reading.{Cursor, Read, ◌>>=◌, reading, read_count, read_items, tree_with, read_inner, read_tree}
use Rattle.scp_xdr.specs.Passing.{passing, pass_items, pass_inner}
use Rattle.scp_quorum.specs.QuorumKind.{level_kind}

abbrev pub inner_at : ℕ → Cursor → Read (List (Tree (Values level_kind)))
inner_at levels c = read_inner (λ d. reading level_kind d) levels 1000 c

abbrev pub set_at : ℕ → Cursor → Read (Tree (Values level_kind))
set_at levels c = read_tree (λ d. reading level_kind d) levels 1000 c

pub inner_none : (levels : ℕ) (c : Cursor) (n : ℕ) (d : Cursor) → levels ≡ 0 → read_count 0 c ≡ Ok (n, d) → inner_at levels c ≡ Ok ([], d)
unfolding read_inner
inner_none levels c n d z e = rw (z, e) refl

pub inner_deep : (levels : ℕ) (c : Cursor) (f : Fault) → levels ≡ 0 → read_count 0 c ≡ Err f → inner_at levels c ≡ Err f
unfolding read_inner
inner_deep levels c f z e = rw (z, e) refl

pub inner_some : (levels : ℕ) (c : Cursor) (n : ℕ) (d : Cursor) → 0 < levels → read_count 1000 c ≡ Ok (n, d) → inner_at levels c ≡ read_items (set_at (levels - 1)) n d
unfolding read_inner
inner_some zero c n d h e = absurd (omega arith)
inner_some (suc levels) c n d h e = let k : suc levels - 1 ≡ levels = omega arith in rw (e, k) refl

pub inner_refused : (levels : ℕ) (c : Cursor) (f : Fault) → 0 < levels → read_count 1000 c ≡ Err f → inner_at levels c ≡ Err f
unfolding read_inner
inner_refused zero c f h e = absurd (omega arith)
inner_refused (suc levels) c f h e = rw e refl

-- a level and the inner sets are a set
pub set_read : (levels : ℕ) (c : Cursor) (x : Values level_kind) (d : Cursor) (ts : List (Tree (Values level_kind))) (e : Cursor) → reading level_kind c ≡ Ok (x, d) → inner_at levels d ≡ Ok (ts, e) → set_at levels c ≡ Ok (tree_of x ts, e)
unfolding tree_with
set_read levels c x d ts e first others = rw (first, others) refl

-- ---- the same of passing over them

abbrev pub pass_inner_at : ℕ → Cursor → Result Cursor Fault
pass_inner_at levels c = pass_inner (λ d. passing level_kind d) levels 1000 c

abbrev pub pass_set_at : ℕ → Cursor → Result Cursor Fault
pass_set_at levels c = passing level_kind c >>= λ d. pass_inner (λ e. passing level_kind e) levels 1000 d

pub pass_none : (levels : ℕ) (c : Cursor) (n : ℕ) (d : Cursor) → levels ≡ 0 → read_count 0 c ≡ Ok (n, d) → pass_inner_at levels c ≡ Ok d
unfolding pass_inner
pass_none levels c n d z e = rw (z, e) refl

pub pass_deep : (levels : ℕ) (c : Cursor) (f : Fault) → levels ≡ 0 → read_count 0 c ≡ Err f → pass_inner_at levels c ≡ Err f
unfolding pass_inner
pass_deep levels c f z e = rw (z, e) refl

pub pass_some : (levels : ℕ) (c : Cursor) (n : ℕ) (d : Cursor) → 0 < levels → read_count 1000 c ≡ Ok (n, d) → pass_inner_at levels c ≡ pass_items (pass_set_at (levels - 1)) n d
unfolding pass_inner
pass_some zero c n d h e = absurd (omega arith)
pass_some (suc levels) c n d h e = let k : suc levels - 1 ≡ levels = omega arith in rw (e, k) refl

pub pass_refused : (levels : ℕ) (c : Cursor) (f : Fault) → 0 < levels → read_count 1000 c ≡ Err f → pass_inner_at levels c ≡ Err f
unfolding pass_inner
pass_refused zero c f h e = absurd (omega arith)
pass_refused (suc levels) c f h e = rw e refl
