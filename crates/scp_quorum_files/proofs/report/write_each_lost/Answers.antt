use Rattle.std.proofs.Common.{◌++◌, string_bytes, codes, arith, ◌∙◌, ap}
use Rattle.scp_quorum_search.specs.scp_quorum.specs.NodeSet.{is_in}
use Rattle.scp_quorum_files.specs.Report.{lost_line, names_text}
use Rattle.scp_quorum_files.proofs.Lines.{lines_more, lines_end}
use Rattle.scp_quorum_files.proofs.report.write_each_lost.Goals as goal

pub loop-lost-preserved : goal.loop-lost-preserved
loop-lost-preserved c =
    let all = c.args.all.now in
    let lost = c.lost-item.result in
    lines_more (lost_line all c.args.at) c.args.found.now c.loop-lost.lost-index lost (string_bytes c.loop-lost.out) _ _ c.loop-lost-test.true c.lost-item.is
    (c.in_ok-write_lost.ensures ∙ ap (λ p. string_bytes c.loop-lost.out ++ (codes "blocks " ++ names_text all p ++ codes ": " ++ names_text all (is_in lost) ++ codes "\n")) c.in_ok-at.ensures)
    c.loop-lost.invariant

pub returns : goal.returns
returns c = lines_end (lost_line c.args.all.now c.args.at) c.args.found.now c.loop-lost.lost-index (string_bytes c.loop-lost.out) _ (omega arith) c.loop-lost.invariant
