use Rattle.std.proofs.Common.{arith, string_bytes, ◌∙◌, ap, ◌++◌}
use Rattle.scp_quorum_files.proofs.Lines.{all_halting_step, all_halting_end}
use Rattle.scp_quorum_files.proofs.report.all_halting_text.Goals as goal

pub loop-member-preserved : goal.loop-member-preserved
loop-member-preserved c =
    all_halting_step c.args.all.now c.args.members.now c.loop-member.member-index c.member-item.result (string_bytes c.loop-member.out) _ (string_bytes c.in_ok-text.text) c.loop-member-test.true c.member-item.is
    (c.in_ok-push_str.ensures.bytes ∙ ap (λ t. string_bytes c.loop-member.out ++ t) c.as_str.ensures.value) c.in_ok-text.ensures c.loop-member.invariant

pub returns : goal.returns
returns c = all_halting_end c.args.all.now c.args.members.now c.loop-member.member-index (string_bytes c.loop-member.out) (omega arith) c.loop-member.invariant
