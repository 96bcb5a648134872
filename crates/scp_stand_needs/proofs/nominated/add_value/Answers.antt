use Rattle.std.proofs.Common.{◌∙◌, IsSome, sym}
use Rattle.scp_kv.specs.Op.{ops_in}
use Rattle.scp_stand_needs.proofs.Naming.{adds_one}
use Rattle.scp_stand_needs.proofs.nominated.add_value.Goals as goal

pub returns-clause-added : goal.returns-clause-added
returns-clause-added c =
    adds_one (λ v. IsSome (ops_in v)) c.args.values.now c.insert.new.self c.args.value.now c.in_ok-copy.field-0 c.in_ok-copy.ensures.same (sym c.is_ops.ensures.same ∙ c.if-not-is_ops.false) c.in_ok-insert.ensures.updates.0
