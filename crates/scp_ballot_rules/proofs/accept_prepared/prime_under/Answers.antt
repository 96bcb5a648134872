use Rattle.std.proofs.Common.{ap, sym, ◌∙◌, Some}
use Rattle.scp_ballot_rules.specs.Told.{ballots_on}
use Rattle.scp_ballot_rules.proofs.Primes.{prime_under, no_prime, prime_of, no_prime_of}
use Rattle.scp_ballot_rules.proofs.accept_prepared.prime_under.Goals as goal

pub returns-in-None-clause-prime : goal.returns-in-None-clause-prime
returns-in-None-clause-prime c = no_prime (ballots_on c.args.board.now) c.args.state.now c.args.prepared.now c.in-None.is

pub returns-in_ok-prime-in-Some-clause-prime : goal.returns-in_ok-prime-in-Some-clause-prime
returns-in_ok-prime-in-Some-clause-prime c =
    prime_under (ballots_on c.args.board.now) c.args.state.now c.in_ok-copy-in-Some.field-0 c.in_ok-held-in-Some.held c.in_ok-held-in-Some-2.held c.in_ok-prime-in-Some.prime c.args.candidates.now
    c.in_ok-held-in-Some.ensures.higher c.in_ok-held-in-Some-2.ensures.higher c.in_ok-prime-in-Some.ensures.greatest c.args.prepared.now (c.in-Some.is ∙ ap Some (sym c.in_ok-copy-in-Some.ensures.same))

pub returns-in-None-clause-exact : goal.returns-in-None-clause-exact
returns-in-None-clause-exact c = no_prime_of (ballots_on c.args.board.now) c.args.candidates.now c.args.state.now c.args.prepared.now c.in-None.is

pub returns-in_ok-prime-in-Some-clause-exact : goal.returns-in_ok-prime-in-Some-clause-exact
returns-in_ok-prime-in-Some-clause-exact c =
    prime_of (ballots_on c.args.board.now) c.args.state.now c.in_ok-copy-in-Some.field-0 c.in_ok-held-in-Some.held c.in_ok-held-in-Some-2.held c.in_ok-prime-in-Some.prime c.args.candidates.now
    c.in_ok-held-in-Some.ensures.higher c.in_ok-held-in-Some-2.ensures.higher c.in_ok-prime-in-Some.ensures.greatest c.args.prepared.now (c.in-Some.is ∙ ap Some (sym c.in_ok-copy-in-Some.ensures.same))
