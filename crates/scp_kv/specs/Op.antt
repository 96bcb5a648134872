-- Operations as values of a kind of XDR, and which bytes are an operation list (this project's profile).
use Rattle.std.specs.Prelude.{ℕ, ◌≤◌, nat_le, if◌then◌else◌, List, length, map, Option, None}
use Rattle.std.proofs.Common.{inl, inr}
use Rattle.std.specs.Result.{result_ok}
use Rattle.scp_xdr.specs.scp_types.specs.declared.limits.TheConstants.{VALUE_LIMIT}
use Rattle.scp_kv.specs.declared.ops.TheConstants.{COUNT_LIMIT, KEY_LIMIT, ENTRY_LIMIT}
use Rattle.scp_xdr.specs.Kind.{Kind, opaque, array, both, union, no_arm, arm, Values, Spells}
use Rattle.scp_xdr.specs.Reading.{reading_whole}
use Rattle.scp_kv.specs.declared.ops.Op.{Op}
use Rattle.scp_kv.specs.declared.ops.Op.TheVariants.{Put, Del}

-- 0 sets a key of at most 64 bytes to a value of at most 256; 1 takes a key out
abbrev pub op_kind : Kind
op_kind = union (arm 0 (both (opaque KEY_LIMIT) (opaque ENTRY_LIMIT)) (arm 1 (opaque KEY_LIMIT) no_arm))

-- at most 64 operations, after their count
abbrev pub ops_kind : Kind
ops_kind = array COUNT_LIMIT op_kind

-- a value is put under a key
abbrev pub put : List ℕ → List ℕ → Values op_kind
put key value = inl (key, value)

-- a key is taken out
abbrev pub del : List ℕ → Values op_kind
del key = inr (inl key)

-- an operation of the code as a value of the kind
abbrev pub op_value : Op → Values op_kind
op_value (Put key value) = put key value
op_value (Del key) = del key

-- a list of operations as a value of the kind
abbrev pub ops_value : List Op → Values ops_kind
ops_value ops = map op_value ops

-- the bytes are the operation list: at most 4,096 bytes, and the encoding of the list with nothing after it
pub record IsOps (bytes : List ℕ) (ops : Values ops_kind) : Type 0 where
  pub within : length bytes ≤ VALUE_LIMIT
  pub spells : Spells ops_kind bytes ops

-- the list that the bytes are, if they are one; the law `ops_in_finds_the_list` ties it to IsOps
unfoldable pub ops_in : List ℕ → Option (Values ops_kind)
ops_in bytes = if nat_le (length bytes) VALUE_LIMIT then result_ok (reading_whole ops_kind bytes) else None
