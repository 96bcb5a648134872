-- Nodes, hashes and quorum sets as text (this project's profile).
use Rattle.std.specs.Prelude.{ℕ, zero, suc, Bool, true, ◌&&◌, List, [], ◌∷◌, ◌++◌, length, map, replicate, Option, Some, None, if◌then◌else◌, nat_eq, nat_lt, nat_le, codes}
use Rattle.std.specs.List.{list_all, list_any, position_or_len, before_first, after_first}
use Rattle.std.specs.Result.{result_ok}
use Rattle.std.specs.Fmt.{decimal}
use Rattle.hex.specs.Hex.{encode_lower, decode_sized}
use Rattle.scp_kv.specs.scp_types.specs.declared.names.NodeId.{NodeId}
use Rattle.scp_kv.specs.scp_types.specs.declared.names.Hash.{Hash}
use Rattle.scp_kv.specs.scp_xdr.specs.Tree.{Trees, no_trees, tree_then, tree_of}
use Rattle.scp_wire.specs.scp_quorum.specs.QuorumTree.{Level, QuorumTree}
use Rattle.scp_wire.specs.scp_quorum.specs.QuorumKind.{set_hash}
use Rattle.scp_text.specs.Pieces.{◌>>=◌, listed, bracketed, inside, items_in, all_of, number_in}

-- ---- written

-- the number of an id of 32 bytes of that number, if it is one
abbrev pub number_of : List ℕ → Option ℕ
number_of [] = None
number_of (byte ∷ bytes) = if nat_lt 0 byte && list_all (λ b. nat_eq b byte) bytes then Some byte else None

-- a node by its number where it has one, else by its digits
abbrev pub node_by : Option ℕ → List ℕ → List ℕ
node_by (Some number) bytes = decimal number
node_by None bytes = encode_lower bytes

-- the text of a node: its number, where all its bytes are one that isn't 0, else its 64 digits
unfoldable pub node_text : NodeId → List ℕ
node_text node = node_by (number_of node.0) node.0

-- the text of a hash: its 64 digits
abbrev pub hash_text : Hash → List ℕ
hash_text hash = encode_lower hash.0

-- a threshold, and the texts of the entries
unfoldable pub level_text : Level → List (List ℕ) → List ℕ
level_text level inner = decimal level.threshold ++ bracketed (codes "of(") (listed 44 true (map node_text level.validators ++ inner))

-- the texts of the sets of a row
unfoldable pub row_texts : Trees Level → List (List ℕ)
row_texts no_trees = []
row_texts (tree_then level inner others) = level_text level (row_texts inner) ∷ row_texts others

-- the text of a quorum set
unfoldable pub set_text : QuorumTree → List ℕ
set_text set = level_text set.head (row_texts set.inner)

-- ---- read

-- 64 digits
unfoldable pub id_in : List ℕ → Option (List ℕ)
id_in word = result_ok (decode_sized word 32)

-- the node of a number from 1 to 255
abbrev pub numbered : ℕ → Option NodeId
numbered number = if nat_lt 0 number && nat_lt number 256 then Some (record { 0 = replicate 32 number }) else None

-- the node of these bytes, else the one of the number that the word says
abbrev pub node_from : Option (List ℕ) → List ℕ → Option NodeId
node_from (Some bytes) word = Some (record { 0 = bytes })
node_from None word = number_in word >>= (λ number. numbered number)

-- 64 digits, or 1 to 255 for 32 bytes of that number
unfoldable pub node_in : List ℕ → Option NodeId
node_in word = node_from (id_in word) word

-- a number below 2^32
abbrev pub counter_in : List ℕ → Option ℕ
counter_in word = number_in word >>= (λ number. if nat_lt number 4294967296 then Some number else None)

-- a bracket opens in the word: it says an inner set
abbrev pub has_bracket : List ℕ → Bool
has_bracket word = list_any (λ byte. nat_eq byte 40) word

-- the entries up to the first inner set, and those from there on
abbrev pub nodes_first : List (List ℕ) → List (List ℕ)
nodes_first [] = []
nodes_first (word ∷ words) = if has_bracket word then [] else word ∷ nodes_first words

-- the words from the first inner set on
abbrev pub sets_after : List (List ℕ) → List (List ℕ)
sets_after [] = []
sets_after (word ∷ words) = if has_bracket word then word ∷ words else sets_after words

-- what stands before and behind the first small o
unfoldable pub cut : List ℕ → Option (List ℕ × List ℕ)
cut text =
    if nat_lt (position_or_len (λ byte. nat_eq byte 111) text) (length text)
    then Some (before_first (λ byte. nat_eq byte 111) text, after_first (λ byte. nat_eq byte 111) text) else None

-- a threshold and entries
unfoldable pub level_in : List ℕ → Option (ℕ × List (List ℕ))
level_in word = do
  parts ← cut word
  threshold ← counter_in parts.0
  inner ← inside (codes "f(") parts.1
  Some (threshold, items_in inner)

-- the set of these parts, with at most 1,000 validators and 1,000 inner sets
abbrev pub within : ℕ → List NodeId → List QuorumTree → Option QuorumTree
within threshold validators inner =
    if nat_le (length validators) 1000 && nat_le (length inner) 1000
    then Some (tree_of (record { threshold = threshold; validators = validators }) inner) else None

-- a set by what reads its inner sets
unfoldable pub set_with : (List (List ℕ) → Option (List QuorumTree)) → List ℕ → Option QuorumTree
set_with inner_in word = do
  level ← level_in word
  validators ← all_of node_in (nodes_first level.1)
  inner ← inner_in (sets_after level.1)
  within level.0 validators inner

-- inner sets, where so many levels of them may be
unfoldable pub inner_in : ℕ → List (List ℕ) → Option (List QuorumTree)
inner_in zero [] = Some []
inner_in zero (word ∷ words) = None
inner_in (suc levels) words = all_of (set_with (inner_in levels)) words

-- a quorum set with at most 4 levels of inner sets
abbrev pub set_in : List ℕ → Option QuorumTree
set_in word = set_with (inner_in 4) word

-- the hash that 64 digits say, or that of a set
abbrev pub hash_from : Option (List ℕ) → Option (List ℕ) → Option Hash
hash_from (Some bytes) set = Some (record { 0 = bytes })
hash_from None (Some set) = set_in set >>= (λ set. Some (record { 0 = set_hash set }))
hash_from None None = None

-- 64 digits, or hash(SET)
unfoldable pub hash_in : List ℕ → Option Hash
hash_in word = hash_from (id_in word) (inside (codes "hash(") word)
