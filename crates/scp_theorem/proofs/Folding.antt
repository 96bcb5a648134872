-- The state that the definitions fold is what the values make of it, one after another.
use Rattle.std.proofs.Common.{ℕ, ◌≡◌, List, [], ◌∷◌, Option, Some, None, refl, ap}
use Rattle.std.specs.Prelude.{◌<◌, All, fold}
use Rattle.scp_outbox.specs.scp_xdr.specs.Kind.{Values}
use Rattle.scp_apply.specs.scp_kv.specs.Map.{KvMap}
use Rattle.scp_apply.specs.scp_kv.specs.Op.{ops_kind, ops_in, IsOps}
use Rattle.scp_apply.specs.scp_kv.specs.State.{after_found, after_value}
use Rattle.scp_theorem.specs.State.{IsAfter, IsFold}

-- what the operation lists' own law says
pub record Finds : Type 0 where
  pub found : (bytes : List ℕ) (ops : Values ops_kind) → All (λ b. b < 256) bytes → ops_in bytes ≡ Some ops → IsOps bytes ops
  pub only : (bytes : List ℕ) (ops : Values ops_kind) → IsOps bytes ops → ops_in bytes ≡ Some ops

stays : Finds → (old : KvMap) (value : List ℕ) (found : Option (Values ops_kind)) → ops_in value ≡ found → All (λ b. b < 256) value → ((ops : Values ops_kind) → IsOps value ops → ⊥) → after_found old found ≡ old
stays finds old value None e bytes none = refl
stays finds old value (Some ops) e bytes none = absurd (none ops (finds.found value ops bytes e))

is_after : Finds → (old : KvMap) (value : List ℕ) → IsAfter old value (after_value old value)
is_after finds old value = record {
  does = λ ops is. ap (λ found. after_found old found) (finds.only value ops is);
  stays = λ bytes none. stays finds old value (ops_in value) refl bytes none;
}

pub is_fold : Finds → (old : KvMap) (values : List (List ℕ)) → IsFold old values (fold after_value old values)
is_fold finds old [] = refl
is_fold finds old (value ∷ values) = (after_value old value, is_after finds old value, is_fold finds (after_value old value) values)
