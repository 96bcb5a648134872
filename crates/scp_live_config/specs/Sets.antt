-- What the tables of a configuration give as quorum sets (this project's profile).
use Rattle.std.specs.Prelude.{◌≡◌, ℕ, ◌+◌, min, List, [], ◌∷◌, length, map, Option, Some, option_and_then, codes}
use Rattle.toml.specs.Data.{Data, Members, get_member, as_table}
use Rattle.scp_quorum.specs.scp_xdr.specs.Tree.{Trees, no_trees, tree_then, row_len}
use Rattle.scp_quorum.specs.QuorumTree.{Level, QuorumTree}
use Rattle.scp_live_config.specs.Names.{Identity, HasOnly, number_to, values_at, node_said}
use Rattle.scp_live_config.specs.declared.wrong.Section.TheVariants.{Set}

-- The threshold of a set with this many entries: a whole number from 1 to their count, and at most 2^32 - 1.
abbrev pub threshold_in : ℕ → Members → Option ℕ
threshold_in entries ms = option_and_then (number_to (min entries 4294967295)) (get_member (codes "THRESHOLD") ms)

-- The values of the array VALIDATORS. A missing key means none.
abbrev pub validators_in : Members → Option (List Data)
validators_in ms = values_at (codes "VALIDATORS") ms

-- The values of the array INNER_SETS. A missing key means none.
abbrev pub sets_in : Members → Option (List Data)
sets_in ms = values_at (codes "INNER_SETS") ms

-- The table has only the keys of a quorum set. It gives this threshold and these validators, for a set with this many inner sets.
pub record SaysLevel (names : List Identity) (ms : Members) (level : Level) (inner : ℕ) : Type 0 where
  pub keys : HasOnly Set ms
  pub threshold : threshold_in (length level.validators + inner) ms ≡ Some level.threshold
  pub validators : (values : List Data) × (validators_in ms ≡ Some values) × (map (node_said names) values ≡ map Some level.validators)

-- Each of these values is a table and gives the quorum set at the same place. There are as many values as sets.
abbrev pub SayInner : List Identity → List Data → Trees Level → Type 0
SayInner names [] no_trees = Unit {0}
SayInner names [] (tree_then level inner others) = ⊥
SayInner names (said ∷ values) no_trees = ⊥
SayInner names (said ∷ values) (tree_then level inner others) =
    ((ms : Members) × (as_table said ≡ Some ms) × SaysLevel names ms level (row_len inner) × ((sets : List Data) × (sets_in ms ≡ Some sets) × SayInner names sets inner))
    × SayInner names values others

-- The table gives this quorum set, with its inner sets.
abbrev pub SaysSet : List Identity → Members → QuorumTree → Type 0
SaysSet names ms set = SaysLevel names ms set.head (row_len set.inner) × ((sets : List Data) × (sets_in ms ≡ Some sets) × SayInner names sets set.inner)
