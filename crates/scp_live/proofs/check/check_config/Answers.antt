use Rattle.std.proofs.Common.{List, ℕ, ◌∙◌, subst}
use Rattle.scp_report.specs.scp_device.specs.Device.{Gains}
use Rattle.scp_live.proofs.check.check_config.Goals as goal

pub returns-in-Ok-write_text : goal.returns-in-Ok-write_text
returns-in-Ok-write_text g c zero =
    (c.in-Ok.settings, c.in-Ok.ensures.read, subst (λ (t : List ℕ). Gains (g.W.ReportOut.written c.args.writer.now) t (g.W.ReportOut.written c.write_text.new.writer)) (c.as_str.ensures.value ∙ c.in-Ok-checked.ensures) c.in-Ok-write_text.ensures.whole)
