use Rattle.std.proofs.Common.{List, ℕ, inl, inr, subst, length, ◌≤◌}
use Rattle.scp_script_short.specs.scp_types.specs.declared.limits.TheConstants.{SCRIPT_LIMIT}
use Rattle.scp_script_short.specs.scp_device.specs.Device.{Gains, IsAll}
use Rattle.scp_command.specs.declared.plain.Telling.{Telling}
use Rattle.scp_command.specs.inside.Plain.{IsTelling}
use Rattle.scp_command.proofs.plain.serve_plain.Goals as goal

pub returns-in-Ok-Part-clause-refused : goal.returns-in-Ok-Part-clause-refused
returns-in-Ok-Part-clause-refused g c = λ other.
    let arm = c.in-Ok-Part in
    let left = g.R.ScriptIn.left c.args.reader.now in
    let old = g.W.ReportOut.written c.args.writer.now in
    let new = g.W.ReportOut.written c.finish_part.new.writer in
    let told = subst (λ (t : Telling). (script : List ℕ) × IsAll left script × (length script ≤ SCRIPT_LIMIT) × IsTelling c.args.task script t) arm.field-0-is arm.ensures.told in
    elim c.finish_part.ensures.written [
      | inl gains ↦ inr (inr (told.0, arm.text.items, c.finish_part.ensures.status, told.1, told.2, told.3, subst (λ (bytes : List ℕ). Gains old bytes new) c.as_slice-in-Ok-Part.ensures.value gains))
      | inr failed ↦ inr (inl (c.finish_part.ensures.status, failed))
    ]

pub returns-in-Ok-Whole-clause-refused : goal.returns-in-Ok-Whole-clause-refused
returns-in-Ok-Whole-clause-refused g c = λ other. inr (inl (c.finish.ensures.failed other))
