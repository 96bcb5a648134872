-- The steps of nomination (the SCP draft, in this project's profile), on what the board shows meanwhile.
use Rattle.std.specs.Prelude.{ℕ, List}
use Rattle.scp_nominate.specs.declared.lists.Lists.{Lists}
use Rattle.scp_nominate.specs.Values.{Has}
use Rattle.scp_nominate.specs.Owed.{OwnLists}

-- each accepted value is voted for
abbrev pub AreVoted : Lists → Type 0
AreVoted s = (v : List ℕ) → Has s.accepted v → Has s.votes v

-- the lists as their values
abbrev pub own_lists : Lists → OwnLists
own_lists s = record { votes = s.votes.values.items; accepted = s.accepted.values.items; candidates = s.candidates.values.items }
