-- The place of a node among the peers of another. Nodes are numbered from 1 on, and each is a peer of all others: its peers are the others, ascending.
use Rattle.std.specs.Prelude.{ℕ, ◌+◌, ◌-◌, if◌then◌else◌, nat_lt}

-- which link of a node comes from another: the place of the other among its peers
abbrev pub link_of : ℕ → ℕ → ℕ
link_of from to = if nat_lt from to then from - 1 else from - 2

-- the peer at a place
abbrev pub peer_at : ℕ → ℕ → ℕ
peer_at place to = if nat_lt (place + 1) to then place + 1 else place + 2
