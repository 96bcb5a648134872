-- The address of a node, as Stellar's tools write it.
use Rattle.std.specs.Prelude.{ℕ, ◌/◌, ◌%◌, List, [], ◌∷◌, ◌++◌}
use Rattle.scp_strkey.specs.Crc.{crc}
use Rattle.scp_strkey.specs.Base32.{base32}

-- the version, and the id
abbrev pub versioned : List ℕ → List ℕ
versioned id = 0x30 ∷ id

-- the version, the id, and their check sum, its low byte first
abbrev pub checked : List ℕ → List ℕ
checked id = versioned id ++ crc (versioned id) % 256 ∷ crc (versioned id) / 256 ∷ []

-- the address of the node with this id
abbrev pub address : List ℕ → List ℕ
address id = base32 (checked id)
