use Rattle.std.proofs.Common.{◌∙◌, sym}
use Rattle.scp_stand_node.specs.scp_turn.specs.Watch.{notes}
use Rattle.scp_live_process.specs.Answers.{IsTaken}
use Rattle.scp_live_process.specs.Adding.{Adds}
use Rattle.scp_live_process.proofs.Going.{seen_as}
use Rattle.scp_live_process.proofs.Answering.{turned, played_so}
use Rattle.scp_live_process.proofs.Acts.{told_only, if_ok, on_any}
use Rattle.scp_live_process.proofs.batch.Batch.take.Goals as goal

pub returns-then-turns_away-clause-taken : goal.returns-then-turns_away-clause-taken
returns-then-turns_away-clause-taken g c =
    told_only (notes g.V.Watch.notes_before g.V.Watch.notes_after) c.args.watch.now c.turn_away.result c.args.live.now (λ heard. Adds (IsTaken c.args.event c.args.line.items) c.args.live.now heard c.args.live.now c.args.self.now c.turn_away.new.self) c.turn_away.ensures.only_memory
    (if_ok c.turn_away.result (turned c.args.event c.args.line.items c.args.live.now c.args.self.now c.turn_away.new.self (sym c.turns_away.ensures ∙ c.if-turns_away.true)) c.turn_away.ensures.told)

pub returns-then-turns_away-clause-live : goal.returns-then-turns_away-clause-live
returns-then-turns_away-clause-live g c = on_any c.turn_away.result c.requires.live

pub returns-else-turns_away-clause-taken : goal.returns-else-turns_away-clause-taken
returns-else-turns_away-clause-taken g c =
    seen_as (notes g.V.Watch.notes_before g.V.Watch.notes_after) c.args.watch.now c.play.new.watch c.args.live.now.node c.play.new.live.node _ _
    (λ heard p. (if_ok c.play.result (played_so c.args.event c.args.line.items c.args.live.now c.play.new.live heard c.args.self.now c.play.new.self (sym c.turns_away.ensures ∙ c.if-turns_away.false)) p.0, p.1)) c.play.ensures.played
