use Rattle.scp_turn.proofs.turns.turn.Goals as goal

pub returns : goal.returns
returns g c =
    let t = c.turn_with.ensures in
    record { heard = t.heard; is = (t.is.0, t.is.2); does = t.does; theorem = t.theorem }
