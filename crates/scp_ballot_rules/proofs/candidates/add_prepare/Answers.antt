use Rattle.std.proofs.Common.{◌≡◌, Some, ◌⊎◌}
use Rattle.scp_vote.specs.scp_types.specs.declared.ballot.Ballot.{Ballot}
use Rattle.scp_ballot_rules.proofs.Adding.{adds_then}
use Rattle.scp_ballot_rules.proofs.candidates.add_prepare.Goals as goal

pub returns-clause-added : goal.returns-clause-added
returns-clause-added c =
    let p = c.args.prepare.now in
    let A : Ballot → Type 0 = λ x. p.ballot ≡ x in
    let B : Ballot → Type 0 = λ x. p.prepared ≡ Some x in
    let C : Ballot → Type 0 = λ x. p.prepared_prime ≡ Some x in
    adds_then A (λ x. B x ⊎ C x) c.args.list.now.items c.add.new.list.items c.add_some-2.new.list.items c.in_ok-add.ensures.added
    (adds_then B C c.add.new.list.items c.add_some.new.list.items c.add_some-2.new.list.items c.in_ok-add_some.ensures.added c.in_ok-add_some-2.ensures.added)
