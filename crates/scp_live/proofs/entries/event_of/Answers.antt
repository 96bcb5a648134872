use Rattle.std.proofs.Common.{ℕ, List, subst}
use Rattle.scp_live_lines.specs.declared.asked.Asked.TheVariants.{Event}
use Rattle.scp_live_lines.specs.Says.{Says}
use Rattle.scp_live.specs.Replays.{SaysNoEvent}
use Rattle.scp_live.proofs.Replaying.{some_there, none_there}
use Rattle.scp_live.proofs.entries.event_of.Goals as goal

pub returns-in-Some-clause-says : goal.returns-in-Some-clause-says
returns-in-Some-clause-says c =
    subst (λ (l : List ℕ). Says c.args.live.now.names l (Event c.in-Some.event)) c.line.ensures (some_there c.in-Ok.found c.in-Some.event _ c.in-Some.is c.in-Ok.ensures.says)

pub returns-in-Some-clause-host : goal.returns-in-Some-clause-host
returns-in-Some-clause-host c = some_there c.in-Ok.found c.in-Some.event _ c.in-Some.is c.in-Ok.ensures.host

pub returns-in-None-clause-unsaid : goal.returns-in-None-clause-unsaid
returns-in-None-clause-unsaid c e = subst (λ (l : List ℕ). SaysNoEvent c.args.live.now.names l) c.line.ensures (none_there c.in-Ok.found _ c.in-None.is c.in-Ok.ensures.none)
