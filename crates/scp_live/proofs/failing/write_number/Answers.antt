use Rattle.std.proofs.Common.{ℕ, List, ◌++◌, subst}
use Rattle.std.proofs.lemmas.Result.{err_from_is_err_and}
use Rattle.std.specs.Prelude.{OnOk, OnErr}
use Rattle.scp_report.specs.scp_device.specs.Device.{Gains, GainsPart}
use Rattle.scp_live.proofs.Reporting.{part_within, whole_behind, part_behind, raised_behind, kept_behind}
use Rattle.scp_live.proofs.failing.write_number.Goals as goal

pub returns-in_err-write_both-clause-part : goal.returns-in_err-write_both-clause-part
returns-in_err-write_both-clause-part g c =
    let written = g.W.ReportOut.written in
    let p = err_from_is_err_and c.from_residual.result c.from_residual.ensures.1 in
    let P : List ℕ → Type 0 = λ digits. GainsPart (written c.args.writer.now) (c.args.front.now ++ digits ++ c.args.back.now) (written c.write_both.new.writer) in
    rw p.1 (subst P c.format-digits.ensures.text (part_within (written c.args.writer.now) (written c.write_both.new.writer) (c.args.front.now ++ c.format-digits.result.now) c.args.back.now c.in_err-write_both.ensures.part))

pub returns-clause-whole : goal.returns-clause-whole
returns-clause-whole g c =
    let written = g.W.ReportOut.written in
    let P : List ℕ → Type 0 = λ digits. OnOk c.write_text.result (Gains (written c.args.writer.now) (c.args.front.now ++ digits ++ c.args.back.now) (written c.write_text.new.writer)) in
    subst P c.format-digits.ensures.text (whole_behind c.write_text.result (written c.args.writer.now) (written c.write_both.new.writer) (written c.write_text.new.writer) (c.args.front.now ++ c.format-digits.result.now) c.args.back.now c.in_ok-write_both.ensures.whole c.write_text.ensures.whole)

pub returns-clause-part : goal.returns-clause-part
returns-clause-part g c =
    let written = g.W.ReportOut.written in
    let P : List ℕ → Type 0 = λ digits. OnErr c.write_text.result (GainsPart (written c.args.writer.now) (c.args.front.now ++ digits ++ c.args.back.now) (written c.write_text.new.writer)) in
    subst P c.format-digits.ensures.text (part_behind c.write_text.result (written c.args.writer.now) (written c.write_both.new.writer) (written c.write_text.new.writer) (c.args.front.now ++ c.format-digits.result.now) c.args.back.now c.in_ok-write_both.ensures.whole c.write_text.ensures.part)

pub returns-clause-raised : goal.returns-clause-raised
returns-clause-raised g c = raised_behind c.write_text.result _ _ _ c.in_ok-write_both.ensures.kept c.write_text.ensures.raised

pub returns-clause-kept : goal.returns-clause-kept
returns-clause-kept g c = kept_behind c.write_text.result _ _ _ c.in_ok-write_both.ensures.kept c.write_text.ensures.kept
