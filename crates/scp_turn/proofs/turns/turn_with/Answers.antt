use Rattle.std.proofs.Common.{rules, ◌≡◌, ◌∙◌, ap}
use Rattle.std.specs.Prelude.{◌↔◌, false}
use Rattle.scp_turn.specs.Turn.{IsStill, IsTurn, links_of, events_of, stage_events}
use Rattle.scp_turn.specs.Watch.{notes, Watched}
use Rattle.scp_turn.proofs.Going.{goes_as}
use Rattle.scp_turn.proofs.turns.turn_with.Goals as goal

pub returns : goal.returns
returns g c =
    let Note = notes g.W.Watch.notes_before g.W.Watch.notes_after in
    let old = c.args.node.now in
    let new = c.work.new.node in
    let count : c.min-links.result ≡ links_of old = search rules in
    goes_as g.A.Driver.says old new
    (λ a heard b. (events_of heard ≡ stage_events c.min-links.result) × Watched g.A.Driver.says Note c.args.number c.args.watch.now a heard b c.work.new.watch × ((c.work.result ≡ false) ↔ IsStill heard))
    (λ a heard b. IsTurn a heard b × Watched g.A.Driver.says Note c.args.number c.args.watch.now a heard b c.work.new.watch × ((c.work.result ≡ false) ↔ IsStill heard))
    (λ heard done p. (p.0 ∙ ap (λ n. stage_events n) count, p.1, p.2)) c.work.ensures
