use Rattle.std.proofs.Common.{◌≡◌, false, rules, subst}
use Rattle.scp_ballot.specs.View.{BalloterView}
use Rattle.scp_ballot.specs.Balloting.{ballots, Advances, TakesValue, MakesFirst, KeepsOthers}
use Rattle.scp_ballot.specs.inside.Balloter.{ballots_of}
use Rattle.scp_ballot.proofs.Advancing.{advances, gives_rests}
use Rattle.scp_ballot.proofs.Calling.{others_kept, composite_ballot, composite_phase, composite_rises}
use Rattle.scp_ballot.proofs.Composing.{composite_enters, composite_taken, composite_first}
use Rattle.scp_ballot.specs.Outcome.{ComposesExactly}
use Rattle.scp_ballot.proofs.Outcomes.{composite_comes}
use Rattle.scp_ballot.proofs.balloter.Balloter.candidate.Goals as goal

pub candidate-requires : goal.candidate-requires
candidate-requires c = let whole : c.self.inside.failed ≡ false = search rules in record { rest = c.self.invariant whole }

pub returns-clause-advances : goal.returns-clause-advances
returns-clause-advances c =
    let whole : c.self.inside.failed ≡ false = search rules in
    let m = c.self.inside.machine in
    let n = c.candidate.new.self in
    let given = c.in_ok-given.given in
    let takes = c.in_ok-given.ensures.takes in
    subst (λ (v : BalloterView). Advances (ballots v) (ballots_of n false) given) c.self.view_is
    (advances m n given takes.first c.self.inside.failed false (c.self.invariant whole) (composite_phase c.args.value m n given takes) (composite_rises c.args.value m n given takes) (composite_enters c.args.value m n given takes) takes.gives)

pub returns-clause-exact : goal.returns-clause-exact
returns-clause-exact c =
    let whole : c.self.inside.failed ≡ false = search rules in
    let m = c.self.inside.machine in
    let n = c.candidate.new.self in
    let given = c.in_ok-given.given in
    let takes = c.in_ok-given.ensures.takes in
    subst (λ (v : BalloterView). ComposesExactly c.args.value (ballots v) (ballots_of n false) given) c.self.view_is
    (composite_comes c.args.value m n given c.self.inside.failed false (c.self.invariant whole) takes
    (advances m n given takes.first c.self.inside.failed false (c.self.invariant whole) (composite_phase c.args.value m n given takes) (composite_rises c.args.value m n given takes) (composite_enters c.args.value m n given takes) takes.gives))

pub returns-clause-composite : goal.returns-clause-composite
returns-clause-composite c =
    let whole : c.self.inside.failed ≡ false = search rules in
    let m = c.self.inside.machine in
    let n = c.candidate.new.self in
    subst (λ (v : BalloterView). TakesValue c.args.value (ballots v) (ballots_of n false)) c.self.view_is
    (composite_taken c.args.value m n c.in_ok-given.given c.self.inside.failed false (c.self.invariant whole) c.in_ok-given.ensures.takes)

pub returns-clause-first : goal.returns-clause-first
returns-clause-first c =
    let whole : c.self.inside.failed ≡ false = search rules in
    let m = c.self.inside.machine in
    let n = c.candidate.new.self in
    subst (λ (v : BalloterView). MakesFirst c.args.value (ballots v) (ballots_of n false)) c.self.view_is
    (composite_first c.args.value m n c.in_ok-given.given c.self.inside.failed false (c.self.invariant whole) c.in_ok-given.ensures.takes)

pub returns-clause-ballot : goal.returns-clause-ballot
returns-clause-ballot c =
    let whole : c.self.inside.failed ≡ false = search rules in
    composite_ballot c.args.value c.self.inside.machine c.candidate.new.self c.in_ok-given.given false (c.self.invariant whole) c.in_ok-given.ensures.takes

pub returns-clause-others : goal.returns-clause-others
returns-clause-others c =
    let whole : c.self.inside.failed ≡ false = search rules in
    let m = c.self.inside.machine in
    let n = c.candidate.new.self in
    let takes = c.in_ok-given.ensures.takes in
    subst (λ (v : BalloterView). KeepsOthers (ballots v).board (ballots_of n false).board) c.self.view_is
    (others_kept m n c.in_ok-given.given takes.first (c.self.invariant whole) takes.gives)

pub invariant_of-self-2 : goal.invariant_of-self-2
invariant_of-self-2 c _ =
    let whole : c.self.inside.failed ≡ false = search rules in
    let takes = c.in_ok-given.ensures.takes in
    gives_rests c.self.inside.machine c.candidate.new.self c.in_ok-given.given takes.first (c.self.invariant whole) takes.gives
