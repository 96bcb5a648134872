-- Values and operations as text (this project's profile).
use Rattle.std.specs.Prelude.{ℕ, Bool, true, ◌&&◌, List, [], ◌∷◌, ◌++◌, length, map, Option, Some, None, if◌then◌else◌, nat_le, codes}
use Rattle.std.proofs.Common.{inl, inr}
use Rattle.std.specs.List.{list_all}
use Rattle.hex.specs.Hex.{encode_lower}
use Rattle.scp_kv.specs.scp_xdr.specs.Kind.{Values, spelling}
use Rattle.scp_kv.specs.Op.{op_kind, ops_kind, ops_value, ops_in}
use Rattle.scp_kv.specs.declared.ops.Op.{Op}
use Rattle.scp_kv.specs.declared.ops.Op.TheVariants.{Put, Del}
use Rattle.scp_text.specs.Pieces.{◌>>=◌, same, is_word, listed, bracketed, inside, items_in, all_of, digits_in, at_most}

-- ---- written

-- a key, or the value of a put: its own characters, or its digits
unfoldable pub bytes_text : List ℕ → List ℕ
bytes_text bytes = if is_word bytes then bytes else bracketed (codes "hex(") (encode_lower bytes)

-- the text of an operation
unfoldable pub op_text : Op → List ℕ
op_text (Put key value) = bracketed (codes "put(") (bytes_text key ++ 44 ∷ bytes_text value)
op_text (Del key) = bracketed (codes "del(") (bytes_text key)

-- back from a value of the kind to its operation
abbrev pub op_of : Values op_kind → Op
op_of (inl kv) = Put kv.0 kv.1
op_of (inr (inl key)) = Del key
op_of (inr (inr none)) = elim none [ ]

-- the text of a list of operations
abbrev pub ops_text : List Op → List ℕ
ops_text ops = bracketed (codes "ops(") (listed 44 true (map op_text ops))

-- the text of bytes as digits, or a dash for none
abbrev pub hex_text : List ℕ → List ℕ
hex_text [] = codes "-"
hex_text (byte ∷ bytes) = bracketed (codes "hex(") (encode_lower (byte ∷ bytes))

-- the text of the operations where bytes are a list of them, else of the bytes
abbrev pub text_by : Option (Values ops_kind) → List ℕ → List ℕ
text_by (Some ops) bytes = ops_text (map op_of ops)
text_by None bytes = hex_text bytes

-- an operation list by its operations, other bytes by their digits, none by a dash
unfoldable pub value_text : List ℕ → List ℕ
value_text bytes = text_by (ops_in bytes) bytes

-- ---- read

-- the bytes that a word says: its own characters, or those of its digits
unfoldable pub bytes_in : List ℕ → Option (List ℕ)
bytes_in word = if is_word word then Some word else (inside (codes "hex(") word >>= (λ inner. digits_in inner))

-- the Put that a key and a value say
abbrev pub put_in : List (List ℕ) → Option Op
put_in [] = None
put_in (a ∷ []) = None
put_in (a ∷ b ∷ c ∷ more) = None
put_in (a ∷ b ∷ []) = do
  key ← bytes_in a
  value ← bytes_in b
  Some (Put key value)

-- the Del that a key says
abbrev pub del_in : List (List ℕ) → Option Op
del_in [] = None
del_in (a ∷ b ∷ more) = None
del_in (a ∷ []) = bytes_in a >>= (λ key. Some (Del key))

-- the operation that the insides of a Put or a Del say
abbrev pub op_by : Option (List ℕ) → Option (List ℕ) → Option Op
op_by (Some put) del = put_in (items_in put)
op_by None (Some del) = del_in (items_in del)
op_by None None = None

-- the operation that a word says
unfoldable pub op_in : List ℕ → Option Op
op_in word = op_by (inside (codes "put(") word) (inside (codes "del(") word)

-- the bytes that spell a list of operations
abbrev pub ops_spelling : List Op → List ℕ
ops_spelling ops = spelling ops_kind (ops_value ops)

-- a key of at most 64 bytes and a value of at most 256
abbrev pub op_fits : Op → Bool
op_fits (Put key value) = nat_le (length key) 64 && nat_le (length value) 256
op_fits (Del key) = nat_le (length key) 64

-- the value that is the operation list, within its limits
unfoldable pub list_of : List Op → Option (List ℕ)
list_of ops =
    if list_all op_fits ops && nat_le (length ops) 64 && nat_le (length (ops_spelling ops)) 4096
    then Some (ops_spelling ops) else None

-- the value that a list of operations says, or that digits say, of at most 4,096 bytes
abbrev pub value_by : Option (List ℕ) → Option (List ℕ) → Option (List ℕ)
value_by (Some ops) other = all_of op_in (items_in ops) >>= (λ ops. list_of ops)
value_by None (Some digits) = digits_in digits >>= (λ bytes. at_most 4096 bytes)
value_by None None = None

-- the value that a word says; a dash says the empty one
unfoldable pub value_in : List ℕ → Option (List ℕ)
value_in word = if same word (codes "-") then Some [] else value_by (inside (codes "ops(") word) (inside (codes "hex(") word)
