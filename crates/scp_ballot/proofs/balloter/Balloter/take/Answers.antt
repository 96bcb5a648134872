use Rattle.std.proofs.Common.{◌≡◌, false, rules, sym, subst}
use Rattle.scp_ballot.specs.View.{BalloterView}
use Rattle.scp_ballot.specs.Balloting.{ballots, Advances, HasBallot, HearsOnly}
use Rattle.scp_ballot.specs.inside.Balloter.{ballots_of}
use Rattle.scp_ballot.proofs.Calling.{take_ballot}
use Rattle.scp_ballot.proofs.Composing.{take_composite}
use Rattle.scp_ballot.proofs.Taking.{take_advances, take_rests, take_hears}
use Rattle.scp_ballot.specs.Outcome.{HearsExactly}
use Rattle.scp_ballot.proofs.Outcomes.{take_comes}
use Rattle.scp_ballot.proofs.balloter.Balloter.take.Goals as goal

pub take-requires : goal.take-requires
take-requires c = let whole : c.self.inside.failed ≡ false = search rules in record { rest = c.self.invariant whole }

pub returns-clause-advances : goal.returns-clause-advances
returns-clause-advances c =
    let whole : c.self.inside.failed ≡ false = search rules in
    let m = c.self.inside.machine in
    let n = c.take.new.self in
    let given = c.in_ok-given.given in
    subst (λ (v : BalloterView). Advances (ballots v) (ballots_of n false) given) c.self.view_is
    (take_advances m n given c.args.envelope c.args.delivered.value c.self.inside.failed false (c.self.invariant whole) c.in_ok-given.ensures.takes)

pub returns-clause-exact : goal.returns-clause-exact
returns-clause-exact c =
    let whole : c.self.inside.failed ≡ false = search rules in
    let m = c.self.inside.machine in
    let n = c.take.new.self in
    let given = c.in_ok-given.given in
    subst (λ (v : BalloterView). HearsExactly c.args.envelope c.args.delivered.value (ballots v) (ballots_of n false) given) c.self.view_is
    (take_comes m n given c.args.envelope c.args.delivered.value c.self.inside.failed false (c.self.invariant whole) c.in_ok-given.ensures.takes)

pub returns-clause-ballot : goal.returns-clause-ballot
returns-clause-ballot c had =
    let whole : c.self.inside.failed ≡ false = search rules in
    let m = c.self.inside.machine in
    let n = c.take.new.self in
    let before = subst (λ (v : BalloterView). HasBallot (ballots v)) (sym c.self.view_is) had in
    take_ballot m n c.in_ok-given.given c.args.envelope c.args.delivered.value c.self.inside.failed false (c.self.invariant whole) c.in_ok-given.ensures.takes before

pub returns-clause-composite : goal.returns-clause-composite
returns-clause-composite c =
    let n = c.take.new.self in
    subst (λ (v : BalloterView). (ballots_of n false).composite ≡ (ballots v).composite) c.self.view_is
    (take_composite c.self.inside.machine n c.in_ok-given.given c.args.envelope c.args.delivered.value c.in_ok-given.ensures.takes)

pub returns-clause-others : goal.returns-clause-others
returns-clause-others c =
    let whole : c.self.inside.failed ≡ false = search rules in
    let m = c.self.inside.machine in
    let n = c.take.new.self in
    subst (λ (v : BalloterView). HearsOnly (ballots v) (ballots_of n false) c.args.envelope c.args.delivered.value) c.self.view_is
    (take_hears m n c.in_ok-given.given c.args.envelope c.args.delivered.value c.self.inside.failed false (c.self.invariant whole) c.in_ok-given.ensures.takes)

pub invariant_of-self-2 : goal.invariant_of-self-2
invariant_of-self-2 c _ =
    let whole : c.self.inside.failed ≡ false = search rules in
    take_rests c.self.inside.machine c.take.new.self c.in_ok-given.given c.args.envelope c.args.delivered.value false false (c.self.invariant whole) c.in_ok-given.ensures.takes
