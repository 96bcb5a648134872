use Rattle.std.proofs.Common.{arith, ◌≡◌, ◌∙◌, ap, refl, false, nat_eq}
use Rattle.std.proofs.lemmas.Bool.Decides.{nat_tests}
use Rattle.scp_wire.specs.LinkReading.{brought_one}
use Rattle.scp_wire.proofs.Numbered.{brought_one_carried}
use Rattle.scp_wire.proofs.reader.Place.carry.Goals as goal

pub returns-clause-read : goal.returns-clause-read
returns-clause-read c =
    let not_limit : nat_eq c.self.inside.next 1000000 ≡ false = grind (arith, nat_tests, c.if-self-eq-CARRIED_LIMIT.false) in
    brought_one_carried c.args.conn c.self.inside.next c.of.result _ not_limit
    ∙ ap (λ n. brought_one c.args.conn n c.of.result) (rw (← c.self.view_is) refl)
    ∙ ap (λ m. brought_one c.args.conn c.args.self.now.next m) c.of.ensures.same
