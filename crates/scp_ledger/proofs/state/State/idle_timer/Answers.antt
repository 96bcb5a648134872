use Rattle.std.proofs.Common.{sym, subst}
use Rattle.std.specs.Prelude.{IsTrue, IsSomeAnd, ◌↔◌}
use Rattle.scp_slot.specs.scp_vote.specs.Seen.{seen}
use Rattle.scp_slot.specs.scp_vote.specs.declared.board.Board.{Board}
use Rattle.scp_slot.specs.scp_vote.specs.declared.claim.StatementKind.TheVariants.{Balloting}
use Rattle.scp_slot.specs.scp_ballot.specs.Balloting.{Ballots, HasBallot, HasCounter}
use Rattle.scp_ledger.specs.Seen.{machine_at}
use Rattle.scp_ledger.proofs.Telling.{idle_some}
use Rattle.scp_ledger.proofs.state.State.idle_timer.Goals as goal

pub returns-in-Some : goal.returns-in-Some
returns-in-Some g c =
    idle_some (machine_at c.args.self.now.machines.entries c.args.slot.0) c.in-Some.machine.now c.has_ballot.result c.idle_timer_of.result (sym c.in-Some.ensures.value)
    (subst (λ (b : Ballots). IsTrue c.has_ballot.result ↔ HasBallot b) c.balloter.ensures.view
    (subst (λ (b : Board). IsTrue c.has_ballot.result ↔ IsSomeAnd ((seen Balloting b).statement (seen Balloting b).me) HasCounter) c.board.ensures c.has_ballot.ensures))
    c.idle_timer_of.ensures.with c.idle_timer_of.ensures.without
