use Rattle.std.proofs.Common.{◌∙◌, map}
use Rattle.std.proofs.lemmas.Result.{err_from_is_err_and}
use Rattle.scp_live.specs.Idle.{idle_in}
use Rattle.scp_live.proofs.live.Live.of.Goals as goal

pub invariant_of-result : goal.invariant_of-result
invariant_of-result c = c.in_ok-idle.ensures ∙ (λ i. map (idle_in (c.journal.ensures i)) (c.peers.ensures i))

pub returns-in_err-timers-clause-only_memory : goal.returns-in_err-timers-clause-only_memory
returns-in_err-timers-clause-only_memory c =
    let p = err_from_is_err_and c.from_residual.result c.from_residual.ensures.1 in
    rw (p.1, p.2) c.in_err-timers.ensures.only_memory

pub returns-in_err-idle-clause-only_memory : goal.returns-in_err-idle-clause-only_memory
returns-in_err-idle-clause-only_memory c =
    let p = err_from_is_err_and c.from_residual-in_err-idle.result c.from_residual-in_err-idle.ensures.1 in
    rw p.1 p.2
