-- The answers to the lines of a host, and what is kept of these lines (this project's profile).
use Rattle.std.specs.Prelude.{ℕ, ◌≡◌, ◌≤◌, ◌<◌, ◌+◌, ◌-◌, ◌^◌, ◌⊎◌, Bool, true, false, List, [], ◌∷◌, ◌++◌, length, min, codes}
use Rattle.std.specs.Fmt.{decimal}
use Rattle.scp_stand_node.specs.scp_core.specs.declared.event.Event.{Event as Happening}
use Rattle.scp_stand_node.specs.scp_core.specs.declared.event.Reply.TheVariants as reply
use Rattle.scp_stand_node.specs.scp_core.specs.History.{Exchange}
use Rattle.scp_batches.specs.scp_live_log.specs.Log.{EntryView}
use Rattle.scp_batches.specs.declared.line.TheConstants.{LINE_LIMIT}
use Rattle.scp_live.specs.scp_live_lines.specs.declared.asked.Asked.{Asked}
use Rattle.scp_live.specs.scp_live_lines.specs.declared.asked.Asked.TheVariants.{Event, Again, State, Report, Stand, Applied, Nothing}
use Rattle.scp_stand_node.specs.scp_device.specs.Expected.{words_of}
use Rattle.scp_stand_node.specs.scp_device.specs.declared.bad.BadWord.{BadWord}
use Rattle.scp_live.specs.scp_live_lines.specs.Says.{Says}
use Rattle.scp_live.specs.scp_live_lines.specs.Bad.{IsFirstBad}
use Rattle.scp_live.specs.scp_live_lines.specs.Names.{name_at}
use Rattle.scp_live.specs.scp_live_lines.specs.Replies.{refused_line, ok_line}
use Rattle.scp_live.specs.Live.{LiveView, IsTold}
use Rattle.scp_live.specs.scp_again.specs.Again.{again_of}
use Rattle.scp_live.specs.Again.{SaysAgain}
use Rattle.scp_live.specs.Full.{is_turned_away}
use Rattle.scp_live.specs.Questions.{state_of, report_of, applied_from}
use Rattle.scp_live_process.specs.Stands.{TellsStand}

-- Nothing happened at the node, and nothing is kept.
pub record IsQuiet (old : LiveView) (heard : List Exchange) (new : LiveView) (kept : List EntryView) : Type 0 where
  pub silent : heard ≡ []
  pub same : new ≡ old
  pub none : kept ≡ []

-- An event was played, and these lines report it. What is kept is the event's line, and the digest of what was sent for it.
pub record IsPlayed (event : Happening) (line : List ℕ) (old : LiveView) (heard : List Exchange) (new : LiveView) (kept : List EntryView) (told : List ℕ) : Type 0 where
  pub digest : List ℕ
  pub tells : IsTold event old.names old.timers new.timers old.node heard new.node [] told digest
  pub names : new.names ≡ old.names
  pub nodes : new.nodes ≡ old.nodes
  pub entry : kept ≡ record { line = line; sent = digest } ∷ []

-- The answer to a question. An event has no such answer.
abbrev pub Replies : Asked → LiveView → List ℕ → Type 0
Replies (Event event) v told = ⊥
Replies (Again link) v told = SaysAgain (name_at v.names link) (again_of v.node.ledger link) [] told
Replies State v told = told ≡ state_of v
Replies Report v told = told ≡ report_of v
Replies Stand v told = TellsStand v told
Replies (Applied slot) v told = told ≡ applied_from v.node slot.0
Replies Nothing v told = told ≡ []

-- The effect of an event: it is played, or turned away. An event that is turned away does nothing, and isn't kept.
abbrev pub IsTakenBy : Bool → Happening → List ℕ → LiveView → List Exchange → LiveView → List EntryView → List ℕ → Type 0
IsTakenBy true event line old heard new kept told = IsQuiet old heard new kept × (told ≡ refused_line reply.JournalFull)
IsTakenBy false event line old heard new kept told = IsPlayed event line old heard new kept told

-- What peers do is turned away where the journal is nearly full.
abbrev pub IsTaken : Happening → List ℕ → LiveView → List Exchange → LiveView → List EntryView → List ℕ → Type 0
IsTaken event line old heard new kept told = IsTakenBy (is_turned_away event old.node) event line old heard new kept told

-- The effect of what a line asks for. An event is played or turned away; a question gets its answer and changes nothing.
abbrev pub IsDone : Asked → List ℕ → LiveView → List Exchange → LiveView → List EntryView → List ℕ → Type 0
IsDone (Event event) line old heard new kept told = IsTaken event line old heard new kept told
IsDone asked line old heard new kept told = IsQuiet old heard new kept × Replies asked old told

-- The line that reports a bad line: its number, the number of its bad word, and what was expected there.
abbrev pub bad_line : ℕ → ℕ → List ℕ → List ℕ
bad_line number word expected = codes "bad " ++ decimal number ++ codes " " ++ decimal word ++ codes " expected " ++ expected ++ codes "\n"

-- The line that reports a line that is too long.
abbrev pub long_line : ℕ → List ℕ
long_line number = bad_line number 1 (codes "a line of at most 262144 bytes")

-- A line that asks for something is answered by what comes of it, followed by `ok` and the line's number.
pub record IsServed (number : ℕ) (line : List ℕ) (old : LiveView) (heard : List Exchange) (new : LiveView) (kept : List EntryView) (text : List ℕ) : Type 0 where
  pub asked : Asked
  pub says : Says old.names line asked
  pub told : List ℕ
  pub done : IsDone asked line old heard new kept told
  pub is : text ≡ told ++ ok_line number

-- A line that asks for nothing is answered by its first bad word.
pub record IsRefused (number : ℕ) (line : List ℕ) (old : LiveView) (heard : List Exchange) (new : LiveView) (kept : List EntryView) (text : List ℕ) : Type 0 where
  pub refusal : BadWord
  pub first : IsFirstBad old.names line refusal
  pub nothing : (asked : Asked) → ¬ (Says old.names line asked)
  pub quiet : IsQuiet old heard new kept
  pub is : text ≡ bad_line number refusal.word (words_of refusal.expected)

-- A line that is too long is answered as too long, whatever it says.
pub record IsTooLong (number : ℕ) (line : List ℕ) (old : LiveView) (heard : List Exchange) (new : LiveView) (kept : List EntryView) (text : List ℕ) : Type 0 where
  pub long : LINE_LIMIT < length line
  pub quiet : IsQuiet old heard new kept
  pub is : text ≡ long_line number

-- The answer to the line with this number, what the node did, and what is kept of the line.
abbrev pub IsAnswered : ℕ → List ℕ → LiveView → List Exchange → LiveView → List EntryView → List ℕ → Type 0
IsAnswered number line old heard new kept text =
    IsTooLong number line old heard new kept text ⊎ ((length line ≤ LINE_LIMIT) × (IsServed number line old heard new kept text ⊎ IsRefused number line old heard new kept text))

-- The number of the next line. The numbers end at 2^64 - 1: all later lines have that number, too.
abbrev pub next_number : ℕ → ℕ
next_number number = min (number + 1) (2 ^ 64 - 1)

-- First the one, and then the other from where the first ended.
pub record InTurn (First Next : LiveView → List Exchange → LiveView → List EntryView → List ℕ → Type 0) (old : LiveView) (heard : List Exchange) (new : LiveView) (kept : List EntryView) (text : List ℕ) : Type 0 where
  pub mid : LiveView
  pub heard_first : List Exchange
  pub heard_next : List Exchange
  pub heard_is : heard ≡ heard_first ++ heard_next
  pub kept_first : List EntryView
  pub kept_next : List EntryView
  pub kept_is : kept ≡ kept_first ++ kept_next
  pub text_first : List ℕ
  pub text_next : List ℕ
  pub text_is : text ≡ text_first ++ text_next
  pub first : First old heard_first mid kept_first text_first
  pub next : Next mid heard_next new kept_next text_next

-- The answers to these lines, one after the other. The first line has this number.
abbrev pub AreAnswered : ℕ → List (List ℕ) → LiveView → List Exchange → LiveView → List EntryView → List ℕ → Type 0
AreAnswered number [] old heard new kept text = IsQuiet old heard new kept × (text ≡ [])
AreAnswered number (line ∷ lines) old heard new kept text = InTurn (IsAnswered number line) (AreAnswered (next_number number) lines) old heard new kept text
