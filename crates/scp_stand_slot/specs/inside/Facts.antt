-- The facts of a machine's lines, as the code holds them.
-- No public clause reaches these definitions, so nothing here needs to be believed.
use Rattle.scp_stand_slot.specs.declared.machine.Shown.{Shown}
use Rattle.scp_stand_slot.specs.Machine.{Facts}

abbrev pub facts_of : Shown → Facts
facts_of s = record { nominations = s.nominations.now; ballots = s.ballots.now; leaders = s.leaders.items; others = s.others.items; to_nominate = s.to_nominate.items; to_ballot = s.to_ballot.items }
