-- What a table of a configuration gives as names, ids and numbers (this project's profile).
use Rattle.std.specs.Prelude.{◌≡◌, ◌≢◌, ℕ, ◌<◌, ℤ, pos, negsuc, Bool, true, not, ◌&&◌, ◌||◌, List, [], ◌∷◌, length, map, replicate, Option, Some, None, option_map, if◌then◌else◌, nat_le, nat_eq, codes}
use Rattle.std.specs.List.{list_all, list_any, find, slice_get}
use Rattle.std.specs.Result.{result_ok}
use Rattle.std.specs.Str.{bytes_eq}
use Rattle.hex.specs.Hex.{decode_sized}
use Rattle.toml.specs.Data.{Data, string, integer, array, Items, no_items, item, Members, no_members, member, get_member}
use Rattle.scp_quorum.specs.scp_types.specs.declared.names.NodeId.{NodeId}
use Rattle.scp_live_config.specs.declared.wrong.Section.{Section}
use Rattle.scp_live_config.specs.declared.wrong.Section.TheVariants.{Whole, Set, Queues}

-- ---- tables and arrays

-- The keys of a table with their values, in their order.
abbrev pub pairs_of : Members → List (List ℕ × Data)
pairs_of no_members = []
pairs_of (member key said others) = (key, said) ∷ pairs_of others

-- The values of an array, in their order.
abbrev pub values_of : Items → List Data
values_of no_items = []
values_of (item said others) = said ∷ values_of others

-- The values of an array that may be missing. A missing array has none; any other value than an array gives nothing.
abbrev pub values_said : Option Data → Option (List Data)
values_said None = Some []
values_said (Some (array items)) = Some (values_of items)
values_said (Some other) = None

-- The values of the array at a key. A missing key means no values; any other value than an array gives nothing.
abbrev pub values_at : List ℕ → Members → Option (List Data)
values_at key ms = values_said (get_member key ms)

-- No two elements of the list have the same f.
abbrev pub NoTwo : {A B : Type 0} → (A → B) → List A → Type 0
NoTwo {A} f xs = (i j : ℕ) (x y : A) → i < j → slice_get xs i ≡ Some x → slice_get xs j ≡ Some y → f x ≢ f y

-- ---- numbers

-- The number, if it is from 1 to `most`.
abbrev pub counted_to : ℕ → ℤ → Option ℕ
counted_to most (pos n) = if nat_le 1 n && nat_le n most then Some n else None
counted_to most (negsuc n) = None

-- The number that a value gives, if it is a whole number from 1 to `most`.
abbrev pub number_to : ℕ → Data → Option ℕ
number_to most (integer z) = counted_to most z
number_to most other = None

-- ---- names and ids

-- A name of a node, and its id.
pub record Identity : Type 0 where
  pub name : List ℕ
  pub id : NodeId

-- A digit, 0 to 9.
abbrev pub is_digit : ℕ → Bool
is_digit b = nat_le 48 b && nat_le b 57

-- A byte of a name: one of `a-z 0-9 _ -`.
abbrev pub is_name_byte : ℕ → Bool
is_name_byte b = (nat_le 97 b && nat_le b 122) || (is_digit b || (nat_eq b 95 || nat_eq b 45))

-- A name is 1 to 32 of `a-z 0-9 _ -`, and not only digits.
abbrev pub is_name : List ℕ → Bool
is_name name = nat_le (length name) 32 && (list_all is_name_byte name && list_any (λ b. not (is_digit b)) name)

-- The id of these bytes.
abbrev pub of_bytes : List ℕ → NodeId
of_bytes bytes = record { 0 = bytes }

-- The id that a value gives. A text is 64 hexadecimal digits; a number n from 1 to 255 means 32 bytes, each of them n.
abbrev pub id_said : Data → Option NodeId
id_said (string text) = option_map of_bytes (result_ok (decode_sized text 32))
id_said (integer z) = option_map (λ n. of_bytes (replicate 32 n)) (counted_to 255 z)
id_said other = None

-- The name and id that a key of NODES and its value give, if the key is a name and the value an id.
abbrev pub identity_said : List ℕ × Data → Option Identity
identity_said pair = if is_name pair.0 then option_map (λ id. record { name = pair.0; id = id }) (id_said pair.1) else None

-- The table gives exactly these names with these ids, in the order of its keys, and no id twice.
pub record AreNames (nodes : Members) (names : List Identity) : Type 0 where
  pub said : map identity_said (pairs_of nodes) ≡ map Some names
  pub apart : NoTwo (λ identity. identity.id) names

-- The name and id of the node with this name, if there is one.
abbrev pub named : List Identity → List ℕ → Option Identity
named names name = find (λ identity. bytes_eq identity.name name) names

-- The name and id of the node that a value names, if the value is a text and one of the names.
abbrev pub name_said : List Identity → Data → Option Identity
name_said names (string text) = named names text
name_said names other = None

-- The id of the node that a value names, if there is one.
abbrev pub node_said : List Identity → Data → Option NodeId
node_said names said = option_map (λ identity. identity.id) (name_said names said)

-- ---- keys

-- The keys that each section may have: the whole document, a quorum set, and CAPACITIES.
abbrev pub keys_of : Section → List (List ℕ)
keys_of Whole = codes "NODE" ∷ codes "PEERS" ∷ codes "NODES" ∷ codes "QUORUM_SET" ∷ codes "CAPACITIES" ∷ []
keys_of Set = codes "THRESHOLD" ∷ codes "VALIDATORS" ∷ codes "INNER_SETS" ∷ []
keys_of Queues = codes "LINK" ∷ codes "INBOX" ∷ codes "READY" ∷ codes "DECIDED" ∷ []

-- The section may have this key.
abbrev pub belongs : Section → List ℕ → Bool
belongs section key = list_any (bytes_eq key) (keys_of section)

-- The table has only keys that the section may have.
abbrev pub HasOnly : Section → Members → Type 0
HasOnly section ms = list_all (λ pair. belongs section pair.0) (pairs_of ms) ≡ true
