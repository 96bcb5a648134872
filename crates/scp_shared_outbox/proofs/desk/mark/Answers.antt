use Rattle.std.proofs.Common.{◌∙◌, true≢false, sym}
use Rattle.crossbeam_queue.specs.Passes.{view}
use Rattle.scp_shared_outbox.proofs.Marked.{full_left}
use Rattle.scp_shared_outbox.proofs.Moves.{emptied_again}
use Rattle.scp_shared_outbox.proofs.desk.mark.Goals as goal

pub returns-in-Err-clause-rule : goal.returns-in-Err-clause-rule
returns-in-Err-clause-rule g c =
    let hand = c.take_out-outbox.ensures.rule in (
      full_left (view c.args.pass.now) (view c.take_out-outbox.new.pass) c.take_out-outbox.result hand c.requires.mine (λ few. true≢false (sym (c.in-Err.ensures.room.1 few))),
      c.leave.ensures.rule ∙ emptied_again (view c.args.pass.now) c.take_out-outbox.result (view c.take_out-outbox.new.pass) hand,
    )
