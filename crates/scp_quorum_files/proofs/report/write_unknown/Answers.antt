use Rattle.std.proofs.Common.{◌++◌, codes, string_bytes, ◌∙◌, ap}
use Rattle.std.specs.Fmt.{decimal}
use Rattle.std.proofs.lemmas.Result.{on_ok_weaker}
use Rattle.scp_quorum_files.specs.Report.{names_text, name_text}
use Rattle.scp_quorum_files.proofs.Lines.{three, with_end}
use Rattle.scp_quorum_files.proofs.report.write_unknown.Goals as goal

pub returns : goal.returns
returns c =
    let all = c.args.all.now in
    on_ok_weaker c.write.result
    (λ e. three (string_bytes c.args.out.now) (string_bytes c.push_str.new.self) (string_bytes c.write_names.new.out) (string_bytes c.write.new.self)
    (codes "blocks ") (name_text all c.args.at) (codes ": unknown after " ++ (decimal c.args.made ++ codes " tries\n"))
    c.in_ok-push_str.ensures.bytes (c.in_ok-write_names.ensures ∙ ap (λ f. string_bytes c.push_str.new.self ++ names_text all f) c.in_ok-at.ensures) e
    ∙ ap (λ t. string_bytes c.args.out.now ++ t) (with_end (codes "blocks ") (name_text all c.args.at) (codes ": unknown after ") (decimal c.args.made) (codes " tries\n")))
    c.write.ensures.bytes
