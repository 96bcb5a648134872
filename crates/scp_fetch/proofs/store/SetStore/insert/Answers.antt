use Rattle.std.proofs.Common.{rules, ◌≡◌, true, false, nat_eq, sym, ◌∙◌}
use Rattle.std.specs.Prelude.{is_some}
use Rattle.std.specs.Map.{lookup}
use Rattle.std.specs.Cmp.Lexicographic.{pointwise}
use Rattle.scp_quorum.specs.QuorumKind.{set_hash}
use Rattle.scp_fetch.proofs.Storing.{stored_local, stored_other, stored_after}
use Rattle.scp_fetch.proofs.store.SetStore.insert.Goals as goal
use Rattle.scp_fetch.proofs.store.SetStore.insert.Goals.{then-eq-via-then-eq, then-eq-via-else-eq+then-contains_key}

pub returns-then-eq-clause-stored : goal.returns-then-eq-clause-stored
returns-then-eq-clause-stored c = rw (← c.self.view_is) (elim c.then-eq.branch [
  | then-eq-via-then-eq w ↦ (let same : pointwise nat_eq (set_hash c.args.set.value) (set_hash c.self.inside.local.value) ≡ true = search rules in stored_local c.args.set.value c.self.inside.local.value _ _ c.self.invariant.1 c.len-distinct.ensures.unique same)
  | then-eq-via-else-eq+then-contains_key w ↦ (let named : c.hash-hash.result.0 ≡ set_hash c.args.set.value = search rules in let there : is_some (lookup (pointwise nat_eq c.hash-hash.result.0) c.self.inside.others.entries) ≡ true = search rules in stored_other c.args.set.value c.self.inside.local.value _ _ c.self.invariant.1 c.len-distinct.ensures.unique c.hash-hash.result.0 named there)
])

pub returns-clause-stored : goal.returns-clause-stored
returns-clause-stored c =
    let named : c.hash-hash.result.0 ≡ set_hash c.args.set.value = search rules in
    let other : pointwise nat_eq (set_hash c.args.set.value) (set_hash c.self.inside.local.value) ≡ false = search rules in
    let absent : is_some (lookup (pointwise nat_eq c.hash-hash.result.0) c.self.inside.others.entries) ≡ false = search rules in
    rw (← c.self.view_is) (stored_after c.args.set c.self.inside.local.value _ _ _ _ c.self.invariant.1 c.len-distinct.ensures.unique c.self.invariant.0 c.hash-hash.result.0 named c.in_ok-self-inside.ensures.next c.in_ok-self-inside.ensures.placed other absent)
