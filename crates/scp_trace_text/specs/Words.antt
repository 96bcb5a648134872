-- The words of a trace (this project's profile).
use Rattle.std.specs.Prelude.{ℕ, List, Option, Some, None, Bool, true, false, codes}
use Rattle.scp_words.specs.scp_envelope.specs.declared.statement.Pledges.{Pledges}
use Rattle.scp_words.specs.scp_envelope.specs.declared.statement.Pledges.TheVariants.{Prepare, Confirm, Externalize, Nominate}
use Rattle.scp_words.specs.scp_pending.specs.declared.becoming.Why.{Why}
use Rattle.scp_words.specs.scp_pending.specs.declared.becoming.Why.TheVariants.{Asks, Waits, Behind, Over}
use Rattle.scp_words.specs.scp_pending.specs.declared.becoming.Becoming.{Becoming}
use Rattle.scp_words.specs.scp_pending.specs.declared.becoming.Becoming.TheVariants as becoming
use Rattle.scp_words.specs.scp_ledger.specs.declared.took.CommandFate.{CommandFate}
use Rattle.scp_words.specs.scp_ledger.specs.declared.took.CommandFate.TheVariants as fate
use Rattle.scp_words.specs.scp_ledger.specs.declared.journal.Verdict.{Verdict}
use Rattle.scp_words.specs.scp_ledger.specs.declared.journal.Verdict.TheVariants as verdict

-- What became of a command, in the verdicts for messages. `Fresh` means that it changed something, `Idle` that it could have but didn't,
-- and `Already` that its slot is decided. The other verdicts are named as the fates are.
abbrev pub verdict_of : CommandFate → Verdict
verdict_of fate.OldSlot = verdict.OldSlot
verdict_of fate.FarSlot = verdict.FarSlot
verdict_of fate.Decided = verdict.Already
verdict_of fate.BadValue = verdict.BadValue
verdict_of fate.ProposedBefore = verdict.Idle
verdict_of fate.Proposed = verdict.Fresh
verdict_of fate.NoRoundLeft = verdict.Idle
verdict_of fate.RoundAdded = verdict.Fresh
verdict_of fate.NoBallot = verdict.Idle
verdict_of fate.BallotStays = verdict.Idle
verdict_of fate.BallotMoved = verdict.Fresh
verdict_of fate.AskedBefore = verdict.Idle
verdict_of fate.Asked = verdict.Fresh

-- The word for why a message is parked.
abbrev pub why_word : Why → List ℕ
why_word Asks = codes "asks"
why_word Waits = codes "waits"
why_word Behind = codes "behind"
why_word Over = codes "over"

-- The word for what became of a message without a number on an open connection. Anything else has none.
abbrev pub side_word : Becoming → Option (List ℕ)
side_word becoming.Answered = Some (codes "answered")
side_word becoming.Stored = Some (codes "stored")
side_word becoming.BadSet = Some (codes "bad-set")
side_word becoming.Missed = Some (codes "missed")
side_word becoming.Unwanted = Some (codes "unwanted")
side_word becoming.Nothing = None
side_word becoming.Discarded = None
side_word becoming.Opens = None
side_word becoming.Goes = None
side_word (becoming.Parks why) = None
side_word becoming.Ticks = None

-- The word for the kind of a statement.
abbrev pub kind_word : Pledges → List ℕ
kind_word (Nominate p) = codes "nominate"
kind_word (Prepare p) = codes "prepare"
kind_word (Confirm p) = codes "confirm"
kind_word (Externalize p) = codes "externalize"

-- The word for whether there is a record to send.
abbrev pub answer_word : Bool → List ℕ
answer_word true = codes "record"
answer_word false = codes "none"
