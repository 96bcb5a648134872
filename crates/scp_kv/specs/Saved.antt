-- The bytes of a state: its keys, ascending, each with its value, as XDR (RFC 4506, section 4.13; this project's profile).
use Rattle.std.specs.Prelude.{ℕ, List, Result, Ok, Err, unwrap_or, if◌then◌else◌}
use Rattle.std.specs.Ordering.{nat_cmp}
use Rattle.std.specs.Cmp.Lexicographic.{slice_cmp}
use Rattle.std.specs.FinMap as map
use Rattle.std.specs.FinMap.{is_sorted}
use Rattle.std.specs.Result.{result_ok}
use Rattle.scp_xdr.specs.scp_types.specs.declared.fault.Fault.{Fault}
use Rattle.scp_xdr.specs.scp_types.specs.declared.fault.Fault.TheVariants.{Malformed}
use Rattle.scp_xdr.specs.Kind.{Kind, opaque, array, both, Values, spelling}
use Rattle.scp_xdr.specs.Reading.{reading_whole, ◌>>=◌}
use Rattle.scp_kv.specs.declared.ops.TheConstants.{KEY_LIMIT, ENTRY_LIMIT}
use Rattle.scp_kv.specs.declared.saved.TheConstants.{STATE_LIMIT}
use Rattle.scp_kv.specs.Map.{KvMap}

-- a key and its value, within the limits that an operation has for them
abbrev pub entry_kind : Kind
entry_kind = both (opaque KEY_LIMIT) (opaque ENTRY_LIMIT)

-- all keys with their values, after their count
abbrev pub state_kind : Kind
state_kind = array STATE_LIMIT entry_kind

-- the bytes of a state: the encoding of its entries, in the order of their keys
abbrev pub bytes_of : KvMap → List ℕ
bytes_of state = spelling state_kind (map.entries state)

-- the map of entries whose keys strictly ascend; others are malformed as a whole
abbrev pub ascending : Values state_kind → Result KvMap Fault
ascending entries = if is_sorted (slice_cmp nat_cmp) entries then Ok (map.from_entries entries) else Err (Malformed 0)

-- the state whose bytes these are, or the first fault; the law `the_bytes_of_a_state_are_its_own` ties it to `bytes_of`
unfoldable pub state_in : List ℕ → Result KvMap Fault
state_in bytes = reading_whole state_kind bytes >>= ascending

-- the state that bytes say; the empty one where they are those of none
abbrev pub state_of : List ℕ → KvMap
state_of bytes = unwrap_or (result_ok (state_in bytes)) map.empty
