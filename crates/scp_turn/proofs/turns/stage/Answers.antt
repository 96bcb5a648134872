use Rattle.std.proofs.Common.{◌≡◌, ◌∙◌, true, false, sym}
use Rattle.scp_turn.proofs.Moving.{acts_moved}
use Rattle.scp_turn.specs.Watch.{notes}
use Rattle.scp_turn.proofs.turns.stage.Goals.{in-Moved, in_default}
use Rattle.scp_turn.proofs.turns.stage.Goals as goal

pub returns : goal.returns
returns g c =
    acts_moved g.A.Driver.says (notes g.W.Watch.notes_before g.W.Watch.notes_after) c.args.number c.args.watch.now c.step_with.new.watch c.args.node.now c.step_with.new.node c.args.event c.step_with.result c.match-matches.matches c.requires.stage
    (λ calm is. elim c.match-matches.branch [
      | in-Moved w ↦ let e : false ≡ true = sym calm ∙ w.matches-is in cc
      | in_default w ↦ w.in_default.not-Moved is
    ])
    (λ moved. elim c.match-matches.branch [
      | in-Moved w ↦ w.in-Moved.is
      | in_default w ↦ let e : false ≡ true = sym w.matches-is ∙ moved in cc
    ])
    c.step_with.ensures.step c.step_with.ensures.theorem c.step_with.ensures.noted
