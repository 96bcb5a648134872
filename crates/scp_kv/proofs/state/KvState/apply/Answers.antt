use Rattle.std.proofs.Common.{sym, ap, ◌∙◌, is_some}
use Rattle.std.specs.FinMap as map
use Rattle.scp_kv.specs.Map.{KvMap}
use Rattle.scp_kv.specs.Op.{op_value}
use Rattle.scp_kv.specs.State.{PutsNewKey}
use Rattle.scp_kv.proofs.Maps.{get-seen, seen_insert, seen_remove, at_refusal}
use Rattle.scp_kv.proofs.state.KvState.apply.Goals as goal
use Rattle.scp_kv.proofs.state.KvState.apply.Goals.{in-Some-2, in-None-2}

pub returns-in_err-insert-in-Put-clause-only_new_key : goal.returns-in_err-insert-in-Put-clause-only_new_key
returns-in_err-insert-in-Put-clause-only_new_key c =
    at_refusal c.from_residual.result (PutsNewKey c.args.self.now (op_value c.args.op))
    (rw c.in-Put.is (ap is_some (ap (λ (m : KvMap). map.get m c.in-Put.key) (sym c.self.view_is) ∙ get-seen c.self.inside.entries.entries c.in-Put.key ∙ c.in_err-insert-in-Put.ensures.absent)))

pub returns-in_ok-insert-in-Put-clause-applied : goal.returns-in_ok-insert-in-Put-clause-applied
returns-in_ok-insert-in-Put-clause-applied c =
    let e = seen_insert c.self.inside.entries c.insert.new.self c.in-Put.key c.in-Put.value c.in_ok-insert-in-Put.ensures.updates
    ∙ ap (λ (m : KvMap). map.insert m c.in-Put.key c.in-Put.value) c.self.view_is in
    rw c.in-Put.is (elim c.match-branch-2.branch [ in-Some-2 w ↦ w.self-is ∙ e | in-None-2 w ↦ w.self-is ∙ e ])

pub returns-in-Del-clause-applied : goal.returns-in-Del-clause-applied
returns-in-Del-clause-applied c =
    rw c.in-Del.is (seen_remove c.self.inside.entries c.remove.new.self c.in-Del.key c.remove.ensures.updates
    ∙ ap (λ (m : KvMap). map.remove m c.in-Del.key) c.self.view_is)
