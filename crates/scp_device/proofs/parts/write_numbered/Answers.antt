use Rattle.std.proofs.Common.{ℕ, List, subst}
use Rattle.std.specs.Prelude.{OnOk}
use Rattle.std.specs.Fmt.{decimal}
use Rattle.scp_device.specs.Device.{Gains}
use Rattle.scp_device.proofs.DeviceLemmas.{three_parts}
use Rattle.scp_device.proofs.parts.write_numbered.Goals as goal

pub returns-clause-whole : goal.returns-clause-whole
returns-clause-whole g c =
    let written = g.W.ReportOut.written in
    let P : List ℕ → Type 0 = λ text. OnOk c.write_parts.result (Gains (written c.args.writer.now) text (written c.write_parts.new.writer)) in
    subst P (three_parts c.args.front.now c.format-digits.result.now c.args.back.now (decimal c.args.number) c.format-digits.ensures.text) c.write_parts.ensures.whole
