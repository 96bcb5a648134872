use Rattle.std.proofs.Common.{◌≡◌, ◌<◌, ℕ, List, Contains, IfNone, IfSome, subst}
use Rattle.scp_ballot_rules.specs.declared.finding.Bound.TheVariants.{Of}
use Rattle.scp_ballot_rules.specs.declared.told.Stage.TheVariants.{Confirmation}
use Rattle.scp_ballot_rules.specs.inside.Finding.{IsExactRange}
use Rattle.scp_vote.specs.scp_types.specs.declared.ballot.Ballot.{Ballot}
use Rattle.scp_vote.specs.declared.claim.Claim.TheVariants.{Committed}
use Rattle.scp_vote.specs.Board.{Confirmed}
use Rattle.scp_ballot_rules.specs.Told.{ballots_on}
use Rattle.scp_ballot_rules.proofs.confirm_commit.confirmed_range.Goals as goal

pub returns-clause-none : goal.returns-clause-none
returns-clause-none c =
    let Free : List ℕ → Type 0 = λ v. (x : Ballot) → Contains c.args.boundaries.now x → 0 < x.counter → x.value ≡ v → Confirmed (ballots_on c.args.board.now) (Committed x.counter x.counter x.value) → ⊥ in
    subst (λ (v : List ℕ). IfNone c.in_ok-found.found (Free v)) c.in_ok-share.ensures.same c.in_ok-found.ensures.none

pub returns-clause-exact : goal.returns-clause-exact
returns-clause-exact c =
    subst (λ (v : List ℕ). IfSome c.in_ok-found.found (λ range. IsExactRange Confirmation (ballots_on c.args.board.now) (Of v) 0 c.args.boundaries.now range)) c.in_ok-share.ensures.same c.in_ok-found.ensures.exact
