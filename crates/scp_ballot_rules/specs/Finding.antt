-- What is looked for among the ballots and boundaries that statements on the board name.
use Rattle.std.specs.Prelude.{◌↔◌, List, Contains}
use Rattle.scp_vote.specs.scp_types.specs.declared.ballot.Ballot.{Ballot}
use Rattle.scp_vote.specs.Board.{Seen}
use Rattle.scp_ballot_rules.specs.Owed.{IsCandidate, IsBoundary}

-- the list has exactly the candidate ballots
abbrev pub AreCandidates : Seen → List Ballot → Type 0
AreCandidates b list = (x : Ballot) → Contains list x ↔ IsCandidate b x

-- the list has exactly the boundaries, each as a ballot of its counter and value
abbrev pub AreBoundaries : Seen → List Ballot → Type 0
AreBoundaries b list = (x : Ballot) → Contains list x ↔ IsBoundary b x.value x.counter
