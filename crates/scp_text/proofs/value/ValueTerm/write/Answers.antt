use Rattle.std.proofs.Common.{◌≡◌, Some, sym, ap, ◌∙◌}
use Rattle.scp_kv.specs.Op.{ops_in, ops_value}
use Rattle.scp_text.specs.Values.{value_text, ops_text}
use Rattle.scp_text.proofs.ValueTexts.{value_text_ops}
use Rattle.scp_text.proofs.value.ValueTerm.write.Goals as goal

pub returns-in-Some-clause-added : goal.returns-in-Some-clause-added
returns-in-Some-clause-added c =
    let same : ops_in c.args.self.now ≡ Some (ops_value c.in-Some.ops.items) = sym (rw c.in-Some.is at c.in_ok-ops.ensures.same) in
    let text : value_text c.args.self.now ≡ ops_text c.in-Some.ops.items = value_text_ops c.args.self.now c.in-Some.ops.items same in
    rw text (rw c.as_slice.ensures.value at c.write_ops.ensures.added)
