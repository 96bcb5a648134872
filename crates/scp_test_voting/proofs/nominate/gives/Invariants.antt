use Rattle.std.proofs.Common.{◌≡◌}
use Rattle.scp_nominate.specs.Nomination.{nomination, IsSound}
use Rattle.scp_test_voting.proofs.nominate.gives.Given as goal

abbrev pub invariant-loop-row : goal.invariant-loop-row
invariant-loop-row g l = record {
  sound : IsSound g.D.Driver.says.level g.D.Driver.says.place l.nominator;
  me : (nomination l.nominator).board.me ≡ l.me;
}
