use Rattle.std.proofs.Common.{◌++◌, codes, string_bytes, sym, ◌∙◌, ap}
use Rattle.std.specs.Fmt.{decimal}
use Rattle.std.proofs.lemmas.Result.{on_ok_weaker}
use Rattle.scp_quorum_files.specs.Report.{survival_line}
use Rattle.scp_quorum_files.proofs.Lines.{two_parts}
use Rattle.scp_quorum_files.proofs.report.write_survival.Goals as goal

pub returns-in_ok-write-in-Unknown : goal.returns-in_ok-write-in-Unknown
returns-in_ok-write-in-Unknown c =
    let out = string_bytes c.args.out.now in
    on_ok_weaker c.write-in-Unknown-2.result
    (λ e. e ∙ ap (λ t. t ++ (codes ", after " ++ (decimal c.args.made ++ codes " tries\n"))) c.in_ok-write-in-Unknown.ensures.bytes
    ∙ two_parts out (codes "survives unknown, all below ") (decimal c.in-Unknown.below) (codes ", after ") (decimal c.args.made) (codes " tries\n") ∙ ap (λ f. out ++ survival_line c.args.made f) (sym c.in-Unknown.is))
    c.write-in-Unknown-2.ensures.bytes
