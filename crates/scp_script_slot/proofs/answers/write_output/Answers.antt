use Rattle.std.proofs.Common.{string_bytes}
use Rattle.scp_script_slot.proofs.Answering.{output_added}
use Rattle.scp_script_slot.proofs.answers.write_output.Goals as goal

pub returns : goal.returns
returns c =
    output_added c.args.output.now (string_bytes c.args.out.now) (string_bytes c.write_verdict.new.out) (string_bytes c.write_emitted.new.out) (string_bytes c.write_emitted-2.new.out) (string_bytes c.write_decision.new.out) (string_bytes c.write_more.new.out)
    c.in_ok-write_verdict.ensures c.in_ok-write_emitted.ensures c.in_ok-write_emitted-2.ensures c.in_ok-write_decision.ensures c.in_ok-write_more.ensures
