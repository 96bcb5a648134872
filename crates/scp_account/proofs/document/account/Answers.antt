use Rattle.std.proofs.Common.{◌∙◌, codes, ap, map, string_bytes}
use Rattle.std.proofs.lemmas.Result.{err_from_is_err_and}
use Rattle.serde_json.specs.Data.{Data, object, member, no_members, string}
use Rattle.serde_json.specs.View.{view}
use Rattle.scp_line.specs.scp_report.specs.Report.{view_of}
use Rattle.scp_account.specs.Account.{mode_word}
use Rattle.scp_account.specs.Fits.{FitsNode}
use Rattle.scp_account.proofs.Floats.{text_is}
use Rattle.scp_account.proofs.Seen.{all_seen}
use Rattle.scp_account.proofs.document.account.Goals as goal

pub returns-clause-text : goal.returns-clause-text
returns-clause-text c =
    text_is c.args.mode (map view_of c.args.reports.now) c.args.kept.now (view c.in_ok-document.document) (string_bytes c.in_ok-line_of.field-0)
    (c.in_ok-document.ensures ∙ ap (λ (d : Data). object (member (codes "mode") (string (mode_word c.args.mode)) (member (codes "nodes") d no_members))) c.in_ok-nodes.ensures.value)
    c.in_ok-line_of.ensures

pub returns-in_err-nodes-clause-only_memory : goal.returns-in_err-nodes-clause-only_memory
returns-in_err-nodes-clause-only_memory c = λ fits.
    let p = err_from_is_err_and c.from_residual.result c.from_residual.ensures.1 in
    let fault = c.in_err-nodes.ensures.only_memory (all_seen FitsNode view_of c.args.reports.now fits) in
    rw (p.1, p.2) fault
