-- The quorum sets that a stream named so far, in the order in which they came, each under its hash.
use Rattle.std.specs.Prelude.{◌≡◌, ◌++◌, Bool, cond, [], ◌∷◌, List, Option, Some, None, find}
use Rattle.std.specs.Option.{option_map}
use Rattle.std.specs.Ordering.{nat_cmp}
use Rattle.std.specs.declared.cmp.Ordering.{Ordering}
use Rattle.std.specs.Cmp.Lexicographic.{slice_cmp}
use Rattle.std.specs.BTreeMap as hash_map
use Rattle.std.specs.BTreeMap.{is_at}
use Rattle.scp_ledger.specs.scp_types.specs.declared.names.Hash.{Hash}
use Rattle.scp_ledger.specs.scp_quorum.specs.QuorumTree.{QuorumTree}
use Rattle.scp_ledger.specs.scp_quorum.specs.QuorumKind.{set_hash}
use Rattle.scp_judged.specs.declared.sets.Known.{Known}
use Rattle.scp_judged.specs.declared.sets.Known.TheVariants.{Sane, Insane}
use Rattle.scp_judged.specs.declared.sets.Sets.{Sets}

-- hashes are ordered by their bytes
abbrev pub hash_cmp : Hash → Hash → Ordering
hash_cmp a b = slice_cmp nat_cmp a.0 b.0

-- the hash of a set
abbrev pub hash_of : QuorumTree → Hash
hash_of q = record { 0 = set_hash q }

-- the set has this hash
abbrev pub has_hash : Hash → QuorumTree → Bool
has_hash hash q = is_at (hash_cmp (hash_of q)) hash

-- the first of the sets that has this hash
abbrev pub named : List QuorumTree → Hash → Option QuorumTree
named sets hash = find (has_hash hash) sets

-- the first that is there
abbrev pub first_there : {X : Type 0} → Option X → Option X → Option X
first_there (Some x) other = Some x
first_there None other = other

-- one set more is named: of two sets of one hash the earlier one counts
abbrev pub NamesToo : (Hash → Option QuorumTree) → (Hash → Option QuorumTree) → QuorumTree → Type 0
NamesToo old new q = (h : Hash) → new h ≡ first_there (old h) (cond (has_hash h q) (Some q) None)

-- with one set more, what is named is what the list with that set names
abbrev pub NamedGrows : Type 0
NamedGrows = (sets : List QuorumTree) (q : QuorumTree) (old new : Hash → Option QuorumTree) → ((h : Hash) → old h ≡ named sets h) → NamesToo old new q → (h : Hash) → new h ≡ named (sets ++ q ∷ []) h

-- a set, whether sane or not
abbrev pub set_known : Known → QuorumTree
set_known (Sane shared) = shared.value
set_known (Insane inside) = inside.set

-- the set that is kept under a hash
abbrev pub set_in : Sets → Hash → Option QuorumTree
set_in sets hash = option_map set_known (hash_map.get hash_cmp sets.known hash)
