-- What became of messages and connections, by kinds (this project's profile).
use Rattle.std.specs.Prelude.{ℕ, ◌+◌, List, [], ◌∷◌, ◌++◌, codes, filter, length, nat_eq, if◌then◌else◌}
use Rattle.std.specs.Fmt.{decimal}
use Rattle.scp_notices.specs.scp_ledger.specs.declared.journal.Fate.{Fate}
use Rattle.scp_notices.specs.scp_ledger.specs.declared.journal.Fate.TheVariants.{Taken, Dropped, Closed}
use Rattle.scp_notices.specs.scp_ledger.specs.declared.journal.Verdict.{Verdict}
use Rattle.scp_notices.specs.scp_ledger.specs.declared.journal.Verdict.TheVariants as verdict
use Rattle.scp_notices.specs.scp_turn.specs.Heard.{Nodes}
use Rattle.scp_notices.specs.scp_pending.specs.declared.ready.DropCause.{DropCause}
use Rattle.scp_notices.specs.scp_pending.specs.declared.ready.DropCause.TheVariants as drop
use Rattle.scp_script_hints.specs.scp_wire.specs.declared.link.Cause.{Cause}
use Rattle.scp_script_hints.specs.scp_wire.specs.declared.link.Cause.TheVariants as cause

-- The words of the kinds of fates, in their order.
abbrev pub kinds : List (List ℕ)
kinds =
    codes "taken fresh"
    ∷ codes "taken stale"
    ∷ codes "taken old-slot"
    ∷ codes "taken far-slot"
    ∷ codes "taken already"
    ∷ codes "taken unasked"
    ∷ codes "taken own"
    ∷ codes "taken bad-statement"
    ∷ codes "taken bad-value"
    ∷ codes "taken idle"
    ∷ codes "taken forwarded"
    ∷ codes "taken decided"
    ∷ codes "dropped bad-set"
    ∷ codes "dropped gave-up"
    ∷ codes "dropped closed"
    ∷ codes "dropped parked-full"
    ∷ codes "closed link"
    ∷ codes "closed malformed"
    ∷ codes "closed spent"
    ∷ codes "closed parked-full"
    ∷ []

-- The index of a verdict among the kinds.
abbrev pub place_of_verdict : Verdict → ℕ
place_of_verdict verdict.Fresh = 0
place_of_verdict verdict.Stale = 1
place_of_verdict verdict.OldSlot = 2
place_of_verdict verdict.FarSlot = 3
place_of_verdict verdict.Already = 4
place_of_verdict verdict.Unasked = 5
place_of_verdict verdict.Own = 6
place_of_verdict verdict.BadStatement = 7
place_of_verdict verdict.BadValue = 8
place_of_verdict verdict.Idle = 9
place_of_verdict verdict.Forwarded = 10
place_of_verdict verdict.Decided = 11

-- The index, among the kinds, of why a message was dropped.
abbrev pub place_of_drop : DropCause → ℕ
place_of_drop drop.BadSet = 12
place_of_drop drop.GaveUp = 13
place_of_drop drop.Closed = 14
place_of_drop drop.ParkedFull = 15

-- The index, among the kinds, of why a connection ended.
abbrev pub place_of_cause : Cause → ℕ
place_of_cause cause.Link = 16
place_of_cause cause.Malformed = 17
place_of_cause cause.Spent = 18
place_of_cause cause.ParkedFull = 19

-- The index of a fate's kind.
abbrev pub place_of : Fate → ℕ
place_of (Taken conn seq message set verdict) = place_of_verdict verdict
place_of (Dropped conn seq cause) = place_of_drop cause
place_of (Closed conn cause) = place_of_cause cause

-- How many fates of a journal are of the kind at this index.
abbrev pub count_in : ℕ → List Fate → ℕ
count_in place journal = length (filter (λ fate. nat_eq (place_of fate) place) journal)

-- The same count over all these nodes.
abbrev pub count_of : ℕ → Nodes → ℕ
count_of place [] = 0
count_of place (node ∷ nodes) = count_in place node.ledger.journal + count_of place nodes

-- The line of a kind: its words, and how many fates of it there are. There is no line if there are none.
abbrev pub kind_line : List ℕ → ℕ → List ℕ
kind_line words count = if nat_eq count 0 then [] else words ++ codes " " ++ decimal count ++ codes "\n"

-- The lines of these kinds. The first kind has this index.
abbrev pub kind_lines : ℕ → List (List ℕ) → Nodes → List ℕ
kind_lines place [] nodes = []
kind_lines place (words ∷ rest) nodes = kind_line words (count_of place nodes) ++ kind_lines (place + 1) rest nodes

-- The lines of what became of messages and connections at these nodes.
abbrev pub fates_text : Nodes → List ℕ
fates_text nodes = kind_lines 0 kinds nodes
