use Rattle.std.proofs.Common.{sym}
use Rattle.crossbeam_channel.specs.Claims.{view}
use Rattle.scp_ends.proofs.Moves.{sends, end_fits}
use Rattle.scp_ends.proofs.Steps.{sending_ended, one_line, seen_ended, seen_same}
use Rattle.scp_ends.proofs.ends.Tx.stop.Goals.{in-Ok, in-Err}
use Rattle.scp_ends.proofs.ends.Tx.stop.Goals as goal

pub send_late-requires-clause-rule : goal.send_late-requires-clause-rule
send_late-requires-clause-rule g c = (sends g.L.Law.fits _ _ _ _ c.self.invariant.1.0 (sym c.self.invariant.1.1) c.self.invariant.2 (end_fits g.L.Law.fits (view c.self.inside.pass).put c.self.inside.number), λ items views h at. tt)

pub invariant_of-result : goal.invariant_of-result
invariant_of-result g c = (c.send_late.ensures.channel.0, sending_ended c.self.inside.number c.self.inside.pass c.send_late.new.pass c.self.invariant.1 c.in-Ok.ensures.rule)

pub returns : goal.returns
returns g c =
    let was = c.self.invariant.0 in let now = c.send_late.ensures.channel.0 in
    let line = one_line _ _ c.self.inside.pass c.send_late.new.pass was.0 was.1 now.0 now.1 in
    elim c.match-send_late.branch [
      | in-Ok w ↦ rw w.result-is (seen_ended c.self.inside.number c.self.inside.pass c.send_late.new.pass c.args.self c.self.view_is line w.in-Ok.ensures.rule)
      | in-Err w ↦ rw w.result-is (seen_same c.self.inside.number c.self.inside.pass c.send_late.new.pass c.args.self c.self.view_is line w.in-Err.ensures.rule.1)
    ]
