use Rattle.scp_threaded_script.proofs.running.run_scoped.Goals as goal

pub returns-clause-reported : goal.returns-clause-reported
returns-clause-reported g c = c.scoped.ensures.1.0

pub returns-clause-waits : goal.returns-clause-waits
returns-clause-waits g c = c.scoped.ensures.1.1

pub returns-clause-losses : goal.returns-clause-losses
returns-clause-losses g c = c.scoped.ensures.1.2

pub returns-clause-given_up : goal.returns-clause-given_up
returns-clause-given_up g c = c.scoped.ensures.1.3

pub returns-clause-kept : goal.returns-clause-kept
returns-clause-kept g c = c.scoped.ensures.1.4
