use Rattle.std.proofs.Common.{arith, string_bytes}
use Rattle.scp_script_hints.proofs.QuorumTexts.{all_halting_step, all_halting_end}
use Rattle.scp_script_hints.proofs.told.all_halting_text.Goals as goal

pub loop-member-preserved : goal.loop-member-preserved
loop-member-preserved c =
    all_halting_step c.args.members.now c.loop-member.member-index c.member-item.result (string_bytes c.loop-member.out) _ (string_bytes c.in_ok-text.text) c.loop-member-test.true c.member-item.is c.in_ok-append.ensures c.in_ok-text.ensures.tells c.loop-member.invariant

pub returns-clause-tells : goal.returns-clause-tells
returns-clause-tells c = all_halting_end c.args.members.now c.loop-member.member-index (string_bytes c.loop-member.out) (omega arith) c.loop-member.invariant
