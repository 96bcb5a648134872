use Rattle.std.proofs.Common.{◌≡◌, ◌<◌, sym, subst, rules}
use Rattle.scp_ballot_rules.proofs.Owing.{owes_nothing}
use Rattle.scp_ballot.specs.declared.machine.Machine.{Machine}
use Rattle.scp_ballot_rules.specs.Told.{ballots_on}
use Rattle.scp_ballot.specs.inside.Machine.{IsSettled}
use Rattle.scp_ballot.specs.inside.Exactly.{GoesTo}
use Rattle.scp_ballot.proofs.Settling.{settled_start, settled_first, settled_renews}
use Rattle.scp_ballot.proofs.Comings.{goes_none, goes_some, goes_more, comes_at_rest, comes_at_limit}
use Rattle.scp_ballot.proofs.machine.Machine.settle.Goals.{in-Some+in_ok-renew-in-Some, in-None}
use Rattle.scp_ballot.proofs.machine.Machine.settle.Goals as goal

pub returns-in-None-2-clause-owed : goal.returns-in-None-2-clause-owed
returns-in-None-2-clause-owed c _ =
    let rests = rw c.in-None-2.is at c.in_ok-next.ensures.rests in
    owes_nothing (ballots_on c.loop.self.board) c.loop.self.hash c.loop.self.state c.loop.invariant.settled.stands c.loop.invariant.settled.ready rests

pub returns-in-None-2-clause-exact : goal.returns-in-None-2-clause-exact
returns-in-None-2-clause-exact c =
    let rests = rw c.in-None-2.is at c.in_ok-next.ensures.exact in
    let below : c.loop.counter < 64 = search rules in
    comes_at_rest c.args.self.now c.loop.self c.args.first c.loop.counter c.loop.invariant.goes c.loop.invariant.settled.rest.hash below rests

pub returns-clause-exact : goal.returns-clause-exact
returns-clause-exact c =
    let all : c.loop.counter ≡ 64 = search rules in
    comes_at_limit c.args.self.now c.loop.self c.args.first c.loop.counter c.loop.invariant.goes c.loop.invariant.settled.rest.hash all

pub loop-preserved : goal.loop-preserved
loop-preserved c =
    let step = rw c.in-Some-2.is at c.in_ok-next.ensures.step in
    let exact = rw c.in-Some-2.is at c.in_ok-next.ensures.exact in
    record {
      settled = settled_renews c.args.self.now c.args.first c.loop.self c.renew-in-Some-2.new.self c.in-Some-2.next c.loop.invariant.settled step c.in_ok-renew-in-Some-2.ensures.renews;
      goes = goes_more c.args.self.now c.loop.self c.args.first c.loop.counter c.loop.invariant.goes c.loop.invariant.settled.rest.hash c.renew-in-Some-2.new.self c.in-Some-2.next exact c.in_ok-renew-in-Some-2.ensures.renews;
    }

pub loop-init : goal.loop-init
loop-init c =
    let m = c.args.self.now in
    let At : Machine → Type 0 = λ n. IsSettled m c.args.first n in
    let Goes : Machine → Type 0 = λ n. GoesTo m c.args.first n 0 in
    record {
      settled = elim c.match-first.branch [
        | in-Some+in_ok-renew-in-Some w ↦
            let change = rw w.in-Some.is at c.requires.first in
            subst At (sym w.self-is) (settled_first m w.renew.new.self c.args.first w.in-Some.next w.in-Some.is c.requires.rest change w.in_ok-renew-in-Some.ensures.renews)
        | in-None w ↦ subst At (sym w.self-is) (settled_start m c.args.first w.in-None.is c.requires.rest)
      ];
      goes = elim c.match-first.branch [
        | in-Some+in_ok-renew-in-Some w ↦ subst Goes (sym w.self-is) (goes_some m w.renew.new.self c.args.first w.in-Some.next w.in-Some.is w.in_ok-renew-in-Some.ensures.renews)
        | in-None w ↦ subst Goes (sym w.self-is) (goes_none m c.args.first w.in-None.is)
      ];
    }
