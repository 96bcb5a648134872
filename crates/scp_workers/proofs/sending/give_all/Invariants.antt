use Rattle.scp_workers.specs.Working.{IsSameOutput, sent_by}
use Rattle.scp_workers.specs.inside.Working.{GivesOn, RanTo}
use Rattle.scp_workers.proofs.sending.give_all.Given as goal

abbrev pub invariant-loop : goal.invariant-loop
invariant-loop g l =
    (goal.iterator-loop g).can_next l.iterator' × (goal.iterator-loop g).is_finite l.iterator' × IsSameOutput l.initial.tx l.tx × GivesOn g.S.Stage.runs l.initial.stage (sent_by l.initial.tx) l.stage (sent_by l.tx) × RanTo g.S.Stage.runs (sent_by l.tx) l.stage
