-- The words for what became of a message or a command, why a connection ended, numbers, and bytes (this project's profile).
use Rattle.std.specs.Prelude.{ℕ, List, [], ◌∷◌, ◌++◌, codes, flat_map}
use Rattle.std.specs.Fmt.{decimal}
use Rattle.hex.specs.Hex.{encode_lower}
use Rattle.scp_ledger.specs.declared.journal.Verdict.{Verdict}
use Rattle.scp_ledger.specs.declared.journal.Verdict.TheVariants.{OldSlot, FarSlot, Already, Unasked, Own, BadStatement, BadValue, Stale, Idle, Fresh, Forwarded, Decided}
use Rattle.scp_ledger.specs.declared.took.CommandFate.{CommandFate}
use Rattle.scp_ledger.specs.declared.took.CommandFate.TheVariants as fate
use Rattle.scp_ledger.specs.scp_wire.specs.declared.link.Cause.{Cause}
use Rattle.scp_ledger.specs.scp_wire.specs.declared.link.Cause.TheVariants.{Malformed, Link, Spent, ParkedFull}
use Rattle.scp_ledger.specs.scp_pending.specs.declared.ready.DropCause.{DropCause}
use Rattle.scp_ledger.specs.scp_pending.specs.declared.ready.DropCause.TheVariants as drop

-- the word of a verdict
abbrev pub verdict_word : Verdict → List ℕ
verdict_word OldSlot = codes "old-slot"
verdict_word FarSlot = codes "far-slot"
verdict_word Already = codes "already"
verdict_word Unasked = codes "unasked"
verdict_word Own = codes "own"
verdict_word BadStatement = codes "bad-statement"
verdict_word BadValue = codes "bad-value"
verdict_word Stale = codes "stale"
verdict_word Idle = codes "idle"
verdict_word Fresh = codes "fresh"
verdict_word Forwarded = codes "forwarded"
verdict_word Decided = codes "decided"

-- the word for why a connection ended
abbrev pub cause_word : Cause → List ℕ
cause_word Malformed = codes "malformed"
cause_word Link = codes "link"
cause_word Spent = codes "spent"
cause_word ParkedFull = codes "parked-full"

-- the word for why a message was dropped
abbrev pub drop_word : DropCause → List ℕ
drop_word drop.BadSet = codes "bad-set"
drop_word drop.GaveUp = codes "gave-up"
drop_word drop.Closed = codes "closed"
drop_word drop.ParkedFull = codes "parked-full"

-- bytes in lower-case hexadecimal digits, or a dash for none
abbrev pub hex_word : List ℕ → List ℕ
hex_word [] = codes "-"
hex_word (byte ∷ bytes) = encode_lower (byte ∷ bytes)

-- the word for what became of a command
abbrev pub fate_word : CommandFate → List ℕ
fate_word fate.OldSlot = codes "old-slot"
fate_word fate.FarSlot = codes "far-slot"
fate_word fate.Decided = codes "decided"
fate_word fate.BadValue = codes "bad-value"
fate_word fate.ProposedBefore = codes "proposed-before"
fate_word fate.Proposed = codes "proposed"
fate_word fate.NoRoundLeft = codes "no-round-left"
fate_word fate.RoundAdded = codes "round-added"
fate_word fate.NoBallot = codes "no-ballot"
fate_word fate.BallotStays = codes "ballot-stays"
fate_word fate.BallotMoved = codes "ballot-moved"
fate_word fate.AskedBefore = codes "asked-before"
fate_word fate.Asked = codes "asked"

-- a number after a comma
abbrev pub behind_comma : ℕ → List ℕ
behind_comma number = codes "," ++ decimal number

-- numbers, with commas between them
abbrev pub numbers_text : List ℕ → List ℕ
numbers_text [] = []
numbers_text (number ∷ numbers) = decimal number ++ flat_map behind_comma numbers
