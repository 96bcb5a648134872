use Rattle.std.proofs.Common.{◌≡◌, sym, ◌∙◌, ap}
use Rattle.scp_ends.specs.declared.item.Item.TheVariants.{One}
use Rattle.crossbeam_channel.specs.Claims.{view}
use Rattle.scp_ends.proofs.Moves.{sends, one_fits}
use Rattle.scp_ends.proofs.Steps.{sending_more, sending_same, one_line, seen_more, seen_same}
use Rattle.scp_ends.proofs.ends.Tx.send_as.Goals.{in-Ok, in-Err+in-One}
use Rattle.scp_ends.proofs.ends.Tx.send_as.Goals as goal

pub send_late-requires-clause-rule : goal.send_late-requires-clause-rule
send_late-requires-clause-rule g c = (sends g.L.Law.fits _ _ _ _ c.self.invariant.1.0 (sym c.self.invariant.1.1) c.self.invariant.2 (one_fits g.L.Law.fits (view c.self.inside.pass).put c.args.self.now.sent c.self.inside.number c.args.thing (ap (λ s. s.sent) c.self.view_is) c.requires), λ items views h at. tt)

pub invariant_of-self : goal.invariant_of-self
invariant_of-self g c = (
  c.send_late.ensures.channel.0,
  elim c.match-send_late.branch [
    | in-Ok w ↦ sending_more c.self.inside.number c.args.thing c.self.inside.pass c.send_late.new.pass c.self.invariant.1 w.in-Ok.ensures.rule
    | in-Err+in-One w ↦ sending_same c.self.inside.number c.self.inside.pass c.send_late.new.pass c.self.invariant.1 w.in-Err.ensures.rule.1
  ],
  elim c.match-send_late.branch [
    | in-Ok w ↦ ap (λ v. v.room) w.in-Ok.ensures.rule ∙ c.self.invariant.2
    | in-Err+in-One w ↦ ap (λ v. v.room) w.in-Err.ensures.rule.1 ∙ c.self.invariant.2
  ],
)

pub returns : goal.returns
returns g c =
    let was = c.self.invariant.0 in let now = c.send_late.ensures.channel.0 in
    let line = one_line _ _ c.self.inside.pass c.send_late.new.pass was.0 was.1 now.0 now.1 in
    elim c.match-send_late.branch [
      | in-Ok w ↦ rw w.result-is (seen_more c.self.inside.number c.self.inside.pass c.send_late.new.pass c.args.self.now c.args.thing c.self.view_is line w.in-Ok.ensures.rule)
      | in-Err+in-One w ↦ rw w.result-is (
        (let e : One w.in-One.field-0 w.in-One.back ≡ One c.self.inside.number c.args.thing = sym w.in-One.is ∙ w.in-Err.ensures.rule.0 in cc),
        seen_same c.self.inside.number c.self.inside.pass c.send_late.new.pass c.args.self.now c.self.view_is line w.in-Err.ensures.rule.1,
      )
    ]
