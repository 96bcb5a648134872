use Rattle.std.proofs.Common.{List, ℕ, ◌++◌, ◌∙◌, ap, subst}
use Rattle.std.specs.Prelude.{codes}
use Rattle.scp_stand_node.specs.scp_types.specs.declared.fault.Fault.TheVariants.{BadConfig}
use Rattle.scp_stand_node.specs.scp_turn.specs.Watch.{notes}
use Rattle.scp_live.specs.scp_live_lines.specs.Names.{name_at}
use Rattle.scp_live.specs.scp_live_lines.specs.Says.{Says}
use Rattle.scp_live.specs.scp_live_lines.specs.declared.asked.Asked.TheVariants.{Event}
use Rattle.scp_live_process.specs.Closing.{IsNoEventLine}
use Rattle.scp_live.proofs.Going.{none_found}
use Rattle.scp_live_process.proofs.Going.{seen_nothing, seen_as}
use Rattle.scp_live_process.proofs.Acts.{err_as, told_none, unfilled}
use Rattle.scp_live_process.proofs.Started.{close_added, event_not_full}
use Rattle.scp_live_process.proofs.starting.close.Goals as goal

pub returns-in-Err-clause-closed : goal.returns-in-Err-clause-closed
returns-in-Err-clause-closed g c = told_none (notes g.V.Watch.notes_before g.V.Watch.notes_after) c.args.watch.now c.args.live.now

pub returns-in-Err-event_of-clause-closed : goal.returns-in-Err-event_of-clause-closed
returns-in-Err-event_of-clause-closed g c =
    seen_nothing (notes g.V.Watch.notes_before g.V.Watch.notes_after) c.args.watch.now c.args.live.now.node _
    (tt, (λ e. absurd (event_not_full c.in-Err-event_of.fault c.in-Err-event_of.ensures.only e), λ found. absurd (none_found found)))

pub returns-in-Err-event_of-clause-unsaid : goal.returns-in-Err-event_of-clause-unsaid
returns-in-Err-event_of-clause-unsaid g c e =
    let names = c.args.live.now.names in
    let line = c.in-Ok.ensures ∙ ap (λ (n : List ℕ). codes "close " ++ n) (c.name_of.ensures ∙ ap (λ (ns : List (List ℕ)). name_at ns c.args.link) c.names.ensures) in
    subst (λ (l : List ℕ). IsNoEventLine names l) (c.as_slice.ensures.value ∙ line) (c.in-Err-event_of.ensures.unsaid (err_as c.in-Err-event_of.fault BadConfig e))

pub returns-in-Ok-play-clause-closed : goal.returns-in-Ok-play-clause-closed
returns-in-Ok-play-clause-closed g c =
    let line = c.in-Ok.ensures ∙ ap (λ (n : List ℕ). codes "close " ++ n) (c.name_of.ensures ∙ ap (λ (ns : List (List ℕ)). name_at ns c.args.link) c.names.ensures) in
    let says = subst (λ (l : List ℕ). Says c.args.live.now.names l (Event c.in-Ok-event_of.event)) c.as_slice.ensures.value c.in-Ok-event_of.ensures.says in
    seen_as (notes g.V.Watch.notes_before g.V.Watch.notes_after) c.args.watch.now c.play.new.watch c.args.live.now.node c.play.new.live.node _ _
    (λ heard p. (close_added c.in-Ok-event_of.event c.args.link c.in-Ok.line.items c.args.live.now c.play.new.live heard c.args.batch.now c.play.new.self line says p.0, (λ e. absurd cc, λ found. absurd (unfilled {T = Unit {0}} tt heard p.1 found))))
    c.in-Ok-play.ensures.played

pub returns-in-Err-play-clause-closed : goal.returns-in-Err-play-clause-closed
returns-in-Err-play-clause-closed g c =
    seen_as (notes g.V.Watch.notes_before g.V.Watch.notes_after) c.args.watch.now c.play.new.watch c.args.live.now.node c.play.new.live.node _ _ (λ heard p. (tt, p.1)) c.in-Err-play.ensures.played
