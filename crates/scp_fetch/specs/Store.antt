-- The quorum sets that are there: the local one, and others in the order in which they were stored (this project's profile).
use Rattle.std.specs.Prelude.{◌++◌, [], ◌∷◌, List, Bool, Option, Some, nat_lt, length, drop, if◌then◌else◌, is_some, find}
use Rattle.scp_quorum.specs.scp_types.specs.declared.names.Hash.{Hash}
use Rattle.scp_quorum.specs.QuorumTree.{QuorumTree}
use Rattle.scp_quorum.specs.QuorumKind.{set_hash}
use Rattle.scp_fetch.specs.Hashes.{same_hash}

-- the node's own quorum set, and others in the order in which they came
pub record StoreView : Type 0 where
  pub local : QuorumTree
  pub others : List QuorumTree

-- the set has this hash: the SHA-256 (FIPS 180-4) of its encoding
abbrev pub has_hash : Hash → QuorumTree → Bool
has_hash hash set = same_hash hash (record { 0 = set_hash set })

-- the set with this hash
abbrev pub lookup : Hash → StoreView → Option QuorumTree
lookup hash store = if has_hash hash store.local then Some store.local else find (has_hash hash) store.others

-- the others with one more; if there are 256, the one that was stored first is removed
abbrev pub pushed : QuorumTree → List QuorumTree → List QuorumTree
pushed set others = if nat_lt (length others) 256 then others ++ set ∷ [] else drop 1 others ++ set ∷ []

-- the store with this set; if a set with its hash is there, nothing changes
abbrev pub stored : QuorumTree → StoreView → StoreView
stored set store = if is_some (lookup (record { 0 = set_hash set }) store) then store else record store { others = pushed set store.others }
