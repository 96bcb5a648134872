-- The node's number is written as it is told, and behind it the stage's word.
use Rattle.std.proofs.Common.{◌≡◌, ◌∙◌, ◌++◌, ℕ, List, OnOk, codes, ap, sym, subst, append_assoc}
use Rattle.std.specs.Fmt.{decimal}
use Rattle.scp_line.specs.scp_device.specs.Device.{Gains}
use Rattle.scp_line.specs.Outcome.{stage_word, fault_line}
use Rattle.scp_line_cli.proofs.serving.write_fault.Goals as goal

pub returns-in-Failed-clause-whole : goal.returns-in-Failed-clause-whole
returns-in-Failed-clause-whole g c =
    let told : fault_line c.args.node c.args.fault ≡ codes "fault 10 node " ++ decimal c.from-number.result ++ codes "\n" =
    ap (fault_line c.args.node) c.in-Failed.is ∙ ap (λ (n : ℕ). codes "fault 10 node " ++ decimal n ++ codes "\n") (sym c.from-number.ensures) in
    subst (λ (line : List ℕ). OnOk c.write_numbered-in-Failed.result (Gains (g.W.ReportOut.written c.args.writer.now) line (g.W.ReportOut.written c.write_numbered-in-Failed.new.writer))) (sym told) c.write_numbered-in-Failed.ensures.whole

pub returns-in-Refused-clause-whole : goal.returns-in-Refused-clause-whole
returns-in-Refused-clause-whole g c =
    let word = stage_word c.in-Refused.stage in
    let front = codes "fault 13 node " ++ decimal c.from-number.result in
    let told : fault_line c.args.node c.args.fault ≡ front ++ c.end_of.result.now =
    ap (fault_line c.args.node) c.in-Refused.is
    ∙ ap (λ (n : ℕ). codes "fault 13 node " ++ decimal n ++ codes " " ++ word ++ codes "\n") (sym c.from-number.ensures)
    ∙ ap (λ (l : List ℕ). l ++ codes "\n") (append_assoc front (codes " ") word)
    ∙ append_assoc front (codes " " ++ word) (codes "\n")
    ∙ ap (λ (back : List ℕ). front ++ back) (sym c.end_of.ensures) in
    subst (λ (line : List ℕ). OnOk c.write_numbered-in-Refused.result (Gains (g.W.ReportOut.written c.args.writer.now) line (g.W.ReportOut.written c.write_numbered-in-Refused.new.writer))) (sym told) c.write_numbered-in-Refused.ensures.whole
