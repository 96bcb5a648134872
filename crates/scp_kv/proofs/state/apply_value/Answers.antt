use Rattle.std.proofs.Common.{arith, ◌≡◌, ◌∙◌, sym, ap, subst, ◌∷◌, List, map, IfSome}
use Rattle.std.proofs.lemmas.Grind.{common_steps}
use Rattle.scp_xdr.specs.Kind.{Values}
use Rattle.scp_kv.specs.declared.ops.Op.{Op}
use Rattle.scp_kv.specs.Map.{KvMap}
use Rattle.scp_kv.specs.Op.{op_value, ops_kind, ops_value, IsOps}
use Rattle.scp_kv.specs.State.{after_op, after_ops, IsAfterPart}
use Rattle.scp_kv.proofs.Maps.{at_refusal}
use Rattle.scp_kv.proofs.Parted.{none_applied, one_more_applied}
use Rattle.scp_kv.proofs.state.apply_value.Goals as goal

pub loop-op-preserved : goal.loop-op-preserved
loop-op-preserved c =
    let others : List Op = c.next.new.self.rest.items in
    let items : c.loop-op.op-iterator.rest.items ≡ c.in-Some-op.op ∷ others = grind (arith, common_steps) in
    let here : c.apply.new.self ≡ after_op c.loop-op.state (op_value c.in-Some-op.op) = grind (arith, common_steps) in
    record {
      leads = ap (λ (s : KvMap). after_ops s (map op_value others)) here ∙ sym (ap (λ (ops : List Op). after_ops c.loop-op.state (map op_value ops)) items) ∙ c.loop-op.invariant.leads;
      part = λ end h.
          let first : IsAfterPart (after_op c.loop-op.state (op_value c.in-Some-op.op)) (map op_value others) end = subst (λ (s : KvMap). IsAfterPart s (map op_value others) end) here h in
          let all : IsAfterPart c.loop-op.state (map op_value c.loop-op.op-iterator.rest.items) end = subst (λ (ops : List Op). IsAfterPart c.loop-op.state (map op_value ops) end) (sym items) (one_more_applied c.loop-op.state (op_value c.in-Some-op.op) (map op_value others) end first) in
          c.loop-op.invariant.part end all;
    }

pub returns-in_err-apply-clause-part : goal.returns-in_err-apply-clause-part
returns-in_err-apply-clause-part c =
    let ops : Values ops_kind = ops_value c.into_iter-op-iterator.result.rest.items in
    let found : IfSome c.in_ok-ops.field-0 (λ some. IsOps c.args.value.now (ops_value some.items)) = c.in_ok-ops.ensures.found in
    let told : IsOps c.args.value.now (ops_value c.in-Some.ops.items) = rw c.in-Some.is at found in
    let given : c.into_iter-op-iterator.result.rest.items ≡ c.in-Some.ops.items = grind (arith, common_steps) in
    let is : IsOps c.args.value.now ops = subst (λ (list : List Op). IsOps c.args.value.now (ops_value list)) (sym given) told in
    let same : c.apply.new.self ≡ c.loop-op.state = grind (arith, common_steps) in
    let none : IsAfterPart c.loop-op.state (map op_value c.loop-op.op-iterator.rest.items) c.apply.new.self = subst (λ (s : KvMap). IsAfterPart c.loop-op.state (map op_value c.loop-op.op-iterator.rest.items) s) (sym same) (none_applied c.loop-op.state (map op_value c.loop-op.op-iterator.rest.items)) in
    at_refusal c.from_residual-in_err-apply.result ((found : Values ops_kind) × IsOps c.args.value.now found × IsAfterPart c.args.state.now found c.apply.new.self) (ops, is, c.loop-op.invariant.part c.apply.new.self none)
