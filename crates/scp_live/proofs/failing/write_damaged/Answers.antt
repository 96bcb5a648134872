use Rattle.std.proofs.Common.{ℕ, List, ◌++◌, subst, codes}
use Rattle.std.specs.Prelude.{OnOk, OnErr}
use Rattle.std.specs.Fmt.{decimal}
use Rattle.scp_report.specs.scp_device.specs.Device.{Gains, GainsPart}
use Rattle.scp_live.specs.Failing.{log_line}
use Rattle.scp_live.proofs.failing.write_damaged.Goals as goal

pub returns-clause-whole : goal.returns-clause-whole
returns-clause-whole g c =
    let written = g.W.ReportOut.written in
    let Is : ℕ → List ℕ → Type 0 = λ n end. OnOk c.write_number.result (Gains (written c.args.writer.now) (codes "fault 12 log line " ++ decimal n ++ end) (written c.write_number.new.writer)) in
    subst (λ (end : List ℕ). Is (log_line c.args.place) end) c.unfit_end.ensures (subst (λ (n : ℕ). Is n c.unfit_end.result.now) c.log_line.ensures c.write_number.ensures.whole)

pub returns-clause-part : goal.returns-clause-part
returns-clause-part g c =
    let written = g.W.ReportOut.written in
    let Is : ℕ → List ℕ → Type 0 = λ n end. OnErr c.write_number.result (GainsPart (written c.args.writer.now) (codes "fault 12 log line " ++ decimal n ++ end) (written c.write_number.new.writer)) in
    subst (λ (end : List ℕ). Is (log_line c.args.place) end) c.unfit_end.ensures (subst (λ (n : ℕ). Is n c.unfit_end.result.now) c.log_line.ensures c.write_number.ensures.part)
