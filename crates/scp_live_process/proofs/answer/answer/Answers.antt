use Rattle.scp_stand_node.specs.scp_turn.specs.Watch.{notes}
use Rattle.scp_live_process.specs.Answers.{IsAnswered, IsDone}
use Rattle.scp_live_process.specs.Adding.{Adds}
use Rattle.scp_live_process.proofs.Answering.{served_as, refused_as, too_long, not_long, long}
use Rattle.scp_live_process.proofs.Acts.{told_only, told_behind, told_none, told_at, if_ok}
use Rattle.scp_live_process.proofs.answer.answer.Goals as goal

pub returns-then-is_too_long-clause-answered : goal.returns-then-is_too_long-clause-answered
returns-then-is_too_long-clause-answered g c =
    told_only (notes g.V.Watch.notes_before g.V.Watch.notes_after) c.args.watch.now c.bad.result c.args.live.now (λ heard. Adds (IsAnswered c.args.number c.args.line) c.args.live.now heard c.args.live.now c.args.batch.now c.bad.new.self) c.bad.ensures.only_memory
    (if_ok c.bad.result (too_long c.args.number c.args.line c.args.live.now c.args.batch.now c.bad.new.self (long c.is_too_long.result _ c.if-is_too_long.true c.is_too_long.ensures)) c.bad.ensures.told)

pub returns-in-Ok-clause-answered : goal.returns-in-Ok-clause-answered
returns-in-Ok-clause-answered g c =
    told_behind (notes g.V.Watch.notes_before g.V.Watch.notes_after) c.args.watch.now c.done.new.watch c.ok.result _ c.args.live.now c.done.new.live
    (λ heard. Adds (IsDone c.in-Ok.asked c.into_bytes.result.items) c.args.live.now heard c.done.new.live c.args.batch.now c.done.new.batch)
    (λ heard. Adds (IsAnswered c.args.number c.args.line) c.args.live.now heard c.done.new.live c.args.batch.now c.ok.new.self) c.ok.ensures.only_memory
    (λ heard d. if_ok c.ok.result (λ t. served_as c.args.number c.args.line c.in-Ok.asked c.args.live.now c.done.new.live heard c.args.batch.now c.done.new.batch c.ok.new.self _ _ _
    c.names.ensures c.bytes.ensures.bytes c.into_bytes.ensures.bytes (not_long c.is_too_long.result _ c.if-is_too_long.false c.is_too_long.ensures) c.in-Ok.ensures.read d t) c.ok.ensures.told)
    c.in_ok-done-in-Ok.ensures.done

pub returns-in-Err-Bad-clause-answered : goal.returns-in-Err-Bad-clause-answered
returns-in-Err-Bad-clause-answered g c =
    told_only (notes g.V.Watch.notes_before g.V.Watch.notes_after) c.args.watch.now c.bad-in-Err-Bad.result c.args.live.now (λ heard. Adds (IsAnswered c.args.number c.args.line) c.args.live.now heard c.args.live.now c.args.batch.now c.bad-in-Err-Bad.new.self) c.bad-in-Err-Bad.ensures.only_memory
    (if_ok c.bad-in-Err-Bad.result (refused_as c.args.number c.args.line c.in-Err-Bad.refusal c.args.live.now c.args.batch.now c.bad-in-Err-Bad.new.self _ _ _
    c.names.ensures c.bytes.ensures.bytes c.words.ensures (not_long c.is_too_long.result _ c.if-is_too_long.false c.is_too_long.ensures) (told_at c.in-Err-Bad.field-0 c.in-Err-Bad.refusal _ c.in-Err-Bad.field-0-is c.in-Err-Bad.ensures.bad) (told_at c.in-Err-Bad.field-0 c.in-Err-Bad.refusal _ c.in-Err-Bad.field-0-is c.in-Err-Bad.ensures.says_nothing)) c.bad-in-Err-Bad.ensures.told)

pub returns-clause-answered : goal.returns-clause-answered
returns-clause-answered g c = told_none (notes g.V.Watch.notes_before g.V.Watch.notes_after) c.args.watch.now c.args.live.now
