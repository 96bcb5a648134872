use Rattle.std.proofs.Common.{◌≡◌, ◌≢◌, ◌⊎◌, rules}
use Rattle.scp_vote.specs.scp_types.specs.declared.ballot.Ballot.{Ballot}
use Rattle.scp_ballot_rules.proofs.Adding.{adds_as}
use Rattle.scp_ballot_rules.proofs.boundaries.add_vote.Goals as goal

pub returns-clause-added : goal.returns-clause-added
returns-clause-added c =
    let p = c.args.prepare.now in
    let voted : p.n_commit ≡ 0 → ⊥ = λ e. (search rules) in
    let E : Ballot → Type 0 = λ x. (p.ballot.value ≡ x.value) × ((p.n_commit ≡ x.counter) ⊎ (p.n_high ≡ x.counter)) in
    adds_as E (λ x. (p.n_commit ≢ 0) × (p.ballot.value ≡ x.value) × ((p.n_commit ≡ x.counter) ⊎ (p.n_high ≡ x.counter))) c.args.list.now.items c.add_ends.new.list.items (λ x n h. (voted, h.0, h.1)) (λ x n h. (h.1, h.2)) c.in_ok-add_ends.ensures.added
