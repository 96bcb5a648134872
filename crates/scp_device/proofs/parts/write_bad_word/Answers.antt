use Rattle.std.proofs.Common.{ℕ, List, subst}
use Rattle.std.specs.Prelude.{OnOk, codes}
use Rattle.std.specs.Fmt.{decimal}
use Rattle.scp_device.specs.Device.{Gains}
use Rattle.scp_device.proofs.DeviceLemmas.{bad_word_parts}
use Rattle.scp_device.proofs.parts.write_bad_word.Goals as goal

pub returns-clause-whole : goal.returns-clause-whole
returns-clause-whole g c =
    let written = g.W.ReportOut.written in
    let P : List ℕ → Type 0 = λ text. OnOk c.write_parts.result (Gains (written c.args.writer.now) text (written c.write_parts.new.writer)) in
    subst P (bad_word_parts (codes "fault 12 line ") c.format-line.result.now (codes " at ") c.format-word.result.now (codes ": ") c.args.expected.now c.args.end.now (codes "\n") (decimal c.args.line) (decimal c.args.word) c.format-line.ensures.text c.format-word.ensures.text) c.write_parts.ensures.whole
