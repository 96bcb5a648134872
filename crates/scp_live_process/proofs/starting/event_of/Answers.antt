use Rattle.std.proofs.Common.{inl, inr}
use Rattle.scp_live.proofs.Replaying.{some_there, none_there}
use Rattle.scp_live_process.proofs.starting.event_of.Goals as goal

pub returns-then-not-is_line-clause-unsaid : goal.returns-then-not-is_line-clause-unsaid
returns-then-not-is_line-clause-unsaid c e = inl c.if-not-is_line.ensures.no

pub returns-in-Some-clause-says : goal.returns-in-Some-clause-says
returns-in-Some-clause-says c = some_there c.in-Ok.found c.in-Some.event _ c.in-Some.is c.in-Ok.ensures.says

pub returns-in-Some-clause-host : goal.returns-in-Some-clause-host
returns-in-Some-clause-host c = some_there c.in-Ok.found c.in-Some.event _ c.in-Some.is c.in-Ok.ensures.host

pub returns-in-None-clause-unsaid : goal.returns-in-None-clause-unsaid
returns-in-None-clause-unsaid c e = inr (none_there c.in-Ok.found _ c.in-None.is c.in-Ok.ensures.none)
