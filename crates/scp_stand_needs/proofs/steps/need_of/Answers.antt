use Rattle.scp_stand_needs.proofs.steps.need_of.Goals as goal

pub returns-clause-need : goal.returns-clause-need
returns-clause-need c = record {
  owed = c.requires.owed;
  votes = c.in_ok-votes.ensures;
  accepts = c.in_ok-accepts.ensures;
  lacks = rw c.counted-counted.ensures at c.in_ok-lacks.ensures;
  against = rw c.counted-counted.ensures at c.in_ok-against.ensures;
  short = rw c.counted-counted.ensures at c.in_ok-short.ensures;
}
