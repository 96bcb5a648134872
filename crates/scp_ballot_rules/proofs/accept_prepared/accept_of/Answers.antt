use Rattle.std.proofs.Common.{◌≡◌, ℕ, List, true, false, sym, ◌∙◌, subst}
use Rattle.scp_vote.specs.declared.claim.Claim.TheVariants.{Prepared}
use Rattle.scp_vote.specs.Board.{Accepted}
use Rattle.scp_ballot_rules.specs.Told.{ballots_on}
use Rattle.scp_ballot_rules.specs.inside.Finding.{IsGreatest}
use Rattle.scp_ballot_rules.proofs.Stepping.{accepts_more}
use Rattle.scp_ballot_rules.proofs.Exactly.{more_answers, more_rests}
use Rattle.scp_ballot_rules.proofs.accept_prepared.accept_of.Goals as goal

pub returns-clause-step : goal.returns-clause-step
returns-clause-step c =
    let b = ballots_on c.args.board.now in
    let old = c.args.state.now in
    let differs : c.in_ok-prepared.prepared ≡ old.prepared → ⊥ = λ e. (let t : c.is_same.result ≡ true = c.is_same.ensures.1 e in let f : true ≡ false = sym t ∙ c.if-is_same.false in cc) in
    let g = subst (λ (v : List ℕ). IsGreatest (λ x. (x.value ≡ v) × Accepted b (Prepared x)) c.args.candidates.now old.prepared c.in_ok-prepared.prepared) c.in_ok-share.ensures.same c.in_ok-prepared.ensures.greatest in
    accepts_more b old c.in_ok-next.next c.args.candidates.now c.in_ok-prepared.prepared c.args.low.now c.requires.low c.requires.all g differs c.in_ok-next.ensures.made

pub returns-clause-exact : goal.returns-clause-exact
returns-clause-exact c =
    let b = ballots_on c.args.board.now in
    let old = c.args.state.now in
    let g = subst (λ (v : List ℕ). IsGreatest (λ x. (x.value ≡ v) × Accepted b (Prepared x)) c.args.candidates.now old.prepared c.in_ok-prepared.prepared) c.in_ok-share.ensures.same c.in_ok-prepared.ensures.greatest in
    more_answers b old c.args.candidates.now c.requires.all c.args.low.now c.requires.low c.in_ok-prepared.prepared g c.in_ok-next.next c.is_same.result c.in_ok-next.ensures.made c.is_same.ensures c.if-is_same.false

pub returns-then-is_same-clause-exact : goal.returns-then-is_same-clause-exact
returns-then-is_same-clause-exact c =
    let b = ballots_on c.args.board.now in
    let old = c.args.state.now in
    let g = subst (λ (v : List ℕ). IsGreatest (λ x. (x.value ≡ v) × Accepted b (Prepared x)) c.args.candidates.now old.prepared c.in_ok-prepared.prepared) c.in_ok-share.ensures.same c.in_ok-prepared.ensures.greatest in
    more_rests b old c.args.candidates.now c.requires.all c.args.low.now c.requires.low c.in_ok-prepared.prepared g (c.is_same.ensures.0 c.if-is_same.true)
