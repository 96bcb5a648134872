-- What operations, values and lists of values make of the map (this project's profile).
use Rattle.std.specs.Prelude.{ℕ, ◌≡◌, ◌++◌, List, Option, Some, None, IsNone}
use Rattle.std.specs.List.{fold}
use Rattle.std.proofs.Common.{inl, inr}
use Rattle.std.specs.FinMap as map
use Rattle.scp_xdr.specs.Kind.{Values}
use Rattle.scp_kv.specs.Map.{KvMap}
use Rattle.scp_kv.specs.Op.{op_kind, ops_kind, ops_in}

-- a put sets its key, and a del takes its key out if it is there
abbrev pub after_op : KvMap → Values op_kind → KvMap
after_op state (inl (key, value)) = map.insert state key value
after_op state (inr (inl key)) = map.remove state key
after_op state (inr (inr none)) = elim none [ ]

-- the map after the operations, applied in order
abbrev pub after_ops : KvMap → Values ops_kind → KvMap
after_ops state ops = fold after_op state ops

-- some of the operations were applied, from the first on, and no others
pub record IsAfterPart (old : KvMap) (ops : Values ops_kind) (new : KvMap) : Type 0 where
  pub done : Values ops_kind
  pub rest : Values ops_kind
  pub splits : ops ≡ done ++ rest
  pub applied : new ≡ after_ops old done

-- the map after the operations that were found; if none were, the map itself
abbrev pub after_found : KvMap → Option (Values ops_kind) → KvMap
after_found state (Some ops) = after_ops state ops
after_found state None = state

-- the map after a value; a value that is no operation list leaves it as it was
abbrev pub after_value : KvMap → List ℕ → KvMap
after_value state bytes = after_found state (ops_in bytes)

-- the map after the values in order, from the empty map on
abbrev pub fold_of : List (List ℕ) → KvMap
fold_of values = fold after_value map.empty values

-- the operation puts a key that isn't there; only that takes memory
abbrev pub PutsNewKey : KvMap → Values op_kind → Type 0
PutsNewKey state (inl (key, value)) = IsNone (map.get state key)
PutsNewKey state (inr other) = ⊥
