use Rattle.std.proofs.Common.{◌≡◌, false, rules, sym, subst}
use Rattle.scp_ballot.specs.View.{BalloterView}
use Rattle.scp_ballot.specs.Balloting.{ballots, Advances, HasBallot, KeepsOthers, RaisesCounter}
use Rattle.scp_ballot.specs.inside.Balloter.{ballots_of}
use Rattle.scp_ballot.proofs.Advancing.{advances, gives_rests}
use Rattle.scp_ballot.proofs.Calling.{others_kept, timer_ballot, timer_raises, timer_phase, timer_rises}
use Rattle.scp_ballot.proofs.Composing.{timer_enters, timer_composite}
use Rattle.scp_ballot.specs.Outcome.{TimesExactly}
use Rattle.scp_ballot.proofs.Outcomes.{timer_comes}
use Rattle.scp_ballot.proofs.balloter.Balloter.timer.Goals as goal

pub timer-requires : goal.timer-requires
timer-requires c = let whole : c.self.inside.failed ≡ false = search rules in record { rest = c.self.invariant whole }

pub returns-clause-advances : goal.returns-clause-advances
returns-clause-advances c =
    let whole : c.self.inside.failed ≡ false = search rules in
    let m = c.self.inside.machine in
    let n = c.timer.new.self in
    let given = c.in_ok-given.given in
    let takes = c.in_ok-given.ensures.takes in
    subst (λ (v : BalloterView). Advances (ballots v) (ballots_of n false) given) c.self.view_is
    (advances m n given takes.first c.self.inside.failed false (c.self.invariant whole) (timer_phase m n given takes) (timer_rises m n given takes) (timer_enters m n given (c.self.invariant whole) takes) takes.gives)

pub returns-clause-exact : goal.returns-clause-exact
returns-clause-exact c =
    let whole : c.self.inside.failed ≡ false = search rules in
    let m = c.self.inside.machine in
    let n = c.timer.new.self in
    let given = c.in_ok-given.given in
    let takes = c.in_ok-given.ensures.takes in
    subst (λ (v : BalloterView). TimesExactly (ballots v) (ballots_of n false) given) c.self.view_is
    (timer_comes m n given c.self.inside.failed false (c.self.invariant whole) takes
    (advances m n given takes.first c.self.inside.failed false (c.self.invariant whole) (timer_phase m n given takes) (timer_rises m n given takes) (timer_enters m n given (c.self.invariant whole) takes) takes.gives))

pub returns-clause-ballot : goal.returns-clause-ballot
returns-clause-ballot c had =
    let whole : c.self.inside.failed ≡ false = search rules in
    let m = c.self.inside.machine in
    let n = c.timer.new.self in
    let before = subst (λ (v : BalloterView). HasBallot (ballots v)) (sym c.self.view_is) had in
    timer_ballot m n c.in_ok-given.given c.self.inside.failed false (c.self.invariant whole) c.in_ok-given.ensures.takes before

pub returns-clause-composite : goal.returns-clause-composite
returns-clause-composite c =
    let n = c.timer.new.self in
    subst (λ (v : BalloterView). (ballots_of n false).composite ≡ (ballots v).composite) c.self.view_is (timer_composite c.self.inside.machine n c.in_ok-given.given c.in_ok-given.ensures.takes)

pub returns-clause-raises : goal.returns-clause-raises
returns-clause-raises c =
    let whole : c.self.inside.failed ≡ false = search rules in
    let m = c.self.inside.machine in
    let n = c.timer.new.self in
    subst (λ (v : BalloterView). RaisesCounter (ballots v) (ballots_of n false)) c.self.view_is
    (timer_raises m n c.in_ok-given.given c.self.inside.failed false (c.self.invariant whole) c.in_ok-given.ensures.takes)

pub returns-clause-others : goal.returns-clause-others
returns-clause-others c =
    let whole : c.self.inside.failed ≡ false = search rules in
    let m = c.self.inside.machine in
    let n = c.timer.new.self in
    let takes = c.in_ok-given.ensures.takes in
    subst (λ (v : BalloterView). KeepsOthers (ballots v).board (ballots_of n false).board) c.self.view_is
    (others_kept m n c.in_ok-given.given takes.first (c.self.invariant whole) takes.gives)

pub invariant_of-self-2 : goal.invariant_of-self-2
invariant_of-self-2 c _ =
    let whole : c.self.inside.failed ≡ false = search rules in
    let takes = c.in_ok-given.ensures.takes in
    gives_rests c.self.inside.machine c.timer.new.self c.in_ok-given.given takes.first (c.self.invariant whole) takes.gives
