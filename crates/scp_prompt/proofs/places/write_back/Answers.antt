use Rattle.std.proofs.Common.{ℕ, List, subst, sym, append_assoc, append-nil, ap}
use Rattle.std.specs.Prelude.{OnOk, codes}
use Rattle.scp_device.specs.Device.{Gains}
use Rattle.scp_prompt.proofs.Written.{behind, back_parts}
use Rattle.scp_prompt.proofs.places.write_back.Goals as goal

pub returns-clause-whole : goal.returns-clause-whole
returns-clause-whole g c =
    let written = g.W.ReportOut.written in
    let old = written c.args.writer.now in
    let new = written c.write_parts.new.writer in
    let P : List ℕ → Type 0 = λ text. OnOk c.write_parts.result (Gains old text new) in
    subst P (back_parts c.args.stands.now (codes " stands there, expected ") c.args.expected.now c.args.end.now (codes "\n"))
    (behind c.write_parts.result old (written c.write_text.new.writer) new c.args.stands.now _ c.in_ok-write_text.ensures.whole c.write_parts.ensures.whole)
