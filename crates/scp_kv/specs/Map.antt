-- The map that the operations build: from keys to values, both of them bytes, with the keys in the order of bytes.
use Rattle.std.specs.Prelude.{ℕ, List}
use Rattle.std.specs.Ordering.{nat_cmp}
use Rattle.std.specs.Cmp.Lexicographic.{slice_cmp}
use Rattle.std.specs.FinMap.{FinMap}

-- the state: keys and values are bytes
abbrev pub KvMap : Type 0
KvMap = FinMap (slice_cmp nat_cmp) (List ℕ)
