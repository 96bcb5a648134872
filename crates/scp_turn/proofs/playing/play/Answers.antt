use Rattle.scp_turn.proofs.playing.play.Goals as goal

pub returns-clause-episode : goal.returns-clause-episode
returns-clause-episode g c =
    let t = c.play_with.ensures.episode in
    record { heard = t.heard; is = (t.is.0, t.is.2); does = t.does; theorem = t.theorem }
