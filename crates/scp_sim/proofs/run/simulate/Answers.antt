use Rattle.std.proofs.Common.{List, ℕ, string_bytes, subst}
use Rattle.scp_sim.specs.inside.Follows.{IsRead}
use Rattle.scp_sim.proofs.Whole.{simulated}
use Rattle.scp_sim.proofs.run.simulate.Goals as goal

pub returns : goal.returns
returns g c =
    let follows = c.in_ok-into_simulated.ensures in
    simulated c.args.plan.now (string_bytes c.in_ok-into_simulated.field-0.script) (string_bytes c.in_ok-first.first) follows.did c.see_numbers.ensures.nodes c.see_numbers.ensures.need c.in_ok-first.ensures
    (subst (λ (t : List ℕ). IsRead t) c.as_str.ensures.value c.in_ok-world.ensures) follows.are follows.is
