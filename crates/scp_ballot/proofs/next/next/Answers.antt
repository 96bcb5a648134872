use Rattle.std.proofs.Common.{subst}
use Rattle.scp_ballot_rules.specs.Ready.{IsReadyIn}
use Rattle.scp_ballot.proofs.next.next.Goals as goal

pub next_confirming-requires : goal.next_confirming-requires
next_confirming-requires c = record { phase = c.in-Confirm.is; ready = subst (λ ph. IsReadyIn ph c.args.state.now) c.in-Confirm.is c.requires.ready }
