use Rattle.scp_turn.proofs.turns.settle.Goals as goal

pub returns : goal.returns
returns g c =
    let t = c.rest.ensures in
    record { heard = t.heard; is = t.is.0; does = t.does; theorem = t.theorem }
