-- What operation lists make of the state, by their meaning (this project's profile).
use Rattle.std.specs.Prelude.{ℕ, ◌<◌, ◌≡◌, List, [], ◌∷◌, All}
use Rattle.std.specs.FinMap as finite
use Rattle.scp_outbox.specs.scp_xdr.specs.Kind.{Values}
use Rattle.scp_apply.specs.scp_kv.specs.Map.{KvMap}
use Rattle.scp_apply.specs.scp_kv.specs.Op.{ops_kind, IsOps}
use Rattle.scp_apply.specs.scp_kv.specs.State.{after_ops, fold_of}

-- what a value makes of the state: what its operations do, in order, if its bytes are an operation list, and else nothing
pub record IsAfter (old : KvMap) (value : List ℕ) (new : KvMap) : Type 0 where
  pub does : (ops : Values ops_kind) → IsOps value ops → new ≡ after_ops old ops
  pub stays : All (λ byte. byte < 256) value → ((ops : Values ops_kind) → IsOps value ops → ⊥) → new ≡ old

-- what values make of the state, one after another
abbrev pub IsFold : KvMap → List (List ℕ) → KvMap → Type 0
IsFold old [] new = new ≡ old
IsFold old (value ∷ values) new = (between : KvMap) × IsAfter old value between × IsFold between values new

-- the fold of values is what they make of the empty map
abbrev pub FoldIsMade : Type 0
FoldIsMade = (values : List (List ℕ)) → IsFold finite.empty values (fold_of values)
