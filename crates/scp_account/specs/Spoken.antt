-- The entry that counts for a node in a slot: the last of its ballot statements there that was taken as fresh (this project's profile).
use Rattle.std.specs.Prelude.{ℕ, Bool, false, List, Option, Some, None, filter, fold}
use Rattle.scp_line.specs.scp_types.specs.declared.names.NodeId.{NodeId}
use Rattle.scp_line.specs.scp_vote.specs.declared.claim.StatementKind.TheVariants.{Balloting}
use Rattle.scp_line.specs.scp_ledger.specs.declared.journal.Fate.{Fate}
use Rattle.scp_line.specs.scp_ledger.specs.Journal.{Heard, fresh_heard, is_of}

-- What an entry brought is a ballot statement of this slot and node.
abbrev pub is_ballot_in : ℕ → NodeId → Option Heard → Bool
is_ballot_in slot node None = false
is_ballot_in slot node (Some h) = is_of slot Balloting node h

-- The last of these entries, if there are any.
abbrev pub last_of : List Fate → Option Fate
last_of entries = fold (λ earlier entry. Some entry) None entries

-- The entry of a journal that counts for a node in a slot, if there is one.
abbrev pub counting : List Fate → ℕ → NodeId → Option Fate
counting journal slot node = last_of (filter (λ fate. is_ballot_in slot node (fresh_heard fate)) journal)
