-- The entries that justify a certificate in an account are those that the headline means.
use Rattle.std.specs.Prelude.{ℕ, ◌≡◌, List, Option, Some, None}
use Rattle.scp_line.specs.scp_types.specs.declared.names.NodeId.{NodeId}
use Rattle.scp_line.specs.scp_vote.specs.declared.claim.StatementKind.TheVariants.{Balloting}
use Rattle.scp_line.specs.scp_ledger.specs.declared.journal.Fate.{Fate}
use Rattle.scp_line.specs.scp_ledger.specs.Journal.{Heard, fresh_heard, newest}
use Rattle.scp_account.specs.Spoken.{counting}

-- The fresh statement of an entry with the set that came with it, if there is one.
abbrev pub heard_by : Option Fate → Option Heard
heard_by None = None
heard_by (Some fate) = fresh_heard fate

-- The statement of the entry that counts is the newest ballot statement of the node in the slot.
abbrev pub CountsTheNewest : Type 0
CountsTheNewest = (journal : List Fate) (slot : ℕ) (node : NodeId) → heard_by (counting journal slot node) ≡ newest slot Balloting node journal
