-- How ballots (the SCP draft) and connections are ordered.
use Rattle.std.specs.Ordering.{nat_cmp, ordering_then}
use Rattle.std.specs.declared.cmp.Ordering.{Ordering}
use Rattle.std.specs.Cmp.Lexicographic.{slice_cmp}
use Rattle.scp_types.specs.declared.ballot.Ballot.{Ballot}
use Rattle.scp_types.specs.declared.names.ConnId.{ConnId}

-- ballots by their counters, and by the bytes of their values where these are equal
abbrev pub ballot_cmp : Ballot → Ballot → Ordering
ballot_cmp a b = ordering_then (nat_cmp a.counter b.counter) (slice_cmp nat_cmp a.value b.value)

-- connections by the bytes of the sender's id, then by those of the receiver's, then by the life
abbrev pub conn_cmp : ConnId → ConnId → Ordering
conn_cmp a b = ordering_then (slice_cmp nat_cmp a.from.0 b.from.0) (ordering_then (slice_cmp nat_cmp a.to.0 b.to.0) (nat_cmp a.life b.life))
