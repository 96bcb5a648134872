use Rattle.std.proofs.Common.{◌≡◌, ◌⊎◌}
use Rattle.scp_vote.specs.scp_types.specs.declared.ballot.Ballot.{Ballot}
use Rattle.scp_ballot_rules.proofs.Adding.{adds_then}
use Rattle.scp_ballot_rules.proofs.candidates.add_confirm.Goals as goal

pub returns-clause-added : goal.returns-clause-added
returns-clause-added c =
    let p = c.args.confirm.now in
    let A : Ballot → Type 0 = λ x. p.ballot ≡ x in
    let B : Ballot → Type 0 = λ x. (let b : Ballot = record { counter = p.n_prepared; value = p.ballot.value } in b) ≡ x in
    let C : Ballot → Type 0 = λ x. (let b : Ballot = record { counter = p.n_high; value = p.ballot.value } in b) ≡ x in
    adds_then A (λ x. B x ⊎ C x) c.args.list.now.items c.add.new.list.items c.add-3.new.list.items c.in_ok-add.ensures.added
    (adds_then B C c.add.new.list.items c.add-2.new.list.items c.add-3.new.list.items c.in_ok-add-2.ensures.added c.in_ok-add-3.ensures.added)
