-- The lines of what a node replied to an event (this project's profile).
use Rattle.std.specs.Prelude.{ℕ, List, [], Bool, true, false, ◌++◌, codes, if◌then◌else◌}
use Rattle.std.specs.Fmt.{decimal}
use Rattle.scp_core.specs.scp_ledger.specs.declared.took.CommandFate.{CommandFate}
use Rattle.scp_core.specs.scp_ledger.specs.declared.took.CommandFate.TheVariants as fates
use Rattle.scp_words.specs.Words.{fate_word}
use Rattle.scp_core.specs.declared.event.Reply.{Reply}
use Rattle.scp_core.specs.declared.event.Reply.TheVariants.{Accepted, Moved, Sent, Idle, Blocked, Full, NotOpen, AlreadyOpen, LivesSpent, NoLink, Failed, JournalFull, NoMemory}

-- The word for a reply.
abbrev pub reply_word : Reply → List ℕ
reply_word Accepted = codes "accepted"
reply_word Moved = codes "moved"
reply_word (Sent bytes) = codes "sent"
reply_word Idle = codes "idle"
reply_word Blocked = codes "blocked"
reply_word Full = codes "full"
reply_word NotOpen = codes "not-open"
reply_word AlreadyOpen = codes "already-open"
reply_word LivesSpent = codes "lives-spent"
reply_word NoLink = codes "no-link"
reply_word Failed = codes "failed"
reply_word JournalFull = codes "journal-full"
reply_word NoMemory = codes "no-memory"

-- The line of an event that the node refused with this reply.
abbrev pub refused_line : Reply → List ℕ
refused_line reply = codes "refused " ++ reply_word reply ++ codes "\n"

-- A command with this fate changed nothing.
abbrev pub changes_nothing : CommandFate → Bool
changes_nothing fates.Proposed = false
changes_nothing fates.RoundAdded = false
changes_nothing fates.BallotMoved = false
changes_nothing fates.Asked = false
changes_nothing fate = true

-- The line of a command that changed nothing, with the word for why, as in scripts. No line if it changed something.
abbrev pub ignored_lines : CommandFate → List ℕ
ignored_lines fate = if changes_nothing fate then codes "ignored " ++ fate_word fate ++ codes "\n" else []

-- The line that ends the answer to the line with this number.
abbrev pub ok_line : ℕ → List ℕ
ok_line number = codes "ok " ++ decimal number ++ codes "\n"
