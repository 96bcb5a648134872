-- The first words of the lines of a host, and the words that follow each (this project's profile).
use Rattle.std.specs.Prelude.{ℕ, List, [], ◌∷◌, Option, Some, None, if◌then◌else◌, codes}
use Rattle.scp_script.specs.Words.{same}
use Rattle.scp_script.specs.scp_device.specs.declared.bad.Expected.{Expected}
use Rattle.scp_script.specs.scp_device.specs.declared.bad.Expected.TheVariants.{APeer, ASlot, Digits}
use Rattle.scp_live_lines.specs.declared.verb.Verb.{Verb}
use Rattle.scp_live_lines.specs.declared.verb.Verb.TheVariants as verbs

-- What the first word of a line means, if anything.
abbrev pub verb_in : List ℕ → Option Verb
verb_in word =
    if same word (codes "open") then Some verbs.Open
    else (if same word (codes "close") then Some verbs.Close
    else (if same word (codes "recv") then Some verbs.Recv
    else (if same word (codes "propose") then Some verbs.Propose
    else (if same word (codes "round") then Some verbs.Round
    else (if same word (codes "timer") then Some verbs.Timer
    else (if same word (codes "ballot") then Some verbs.Ballot
    else (if same word (codes "tick") then Some verbs.Tick
    else (if same word (codes "ask") then Some verbs.Ask
    else (if same word (codes "again") then Some verbs.Again
    else (if same word (codes "state") then Some verbs.State
    else (if same word (codes "report") then Some verbs.Report
    else (if same word (codes "stand") then Some verbs.Stand
    else (if same word (codes "applied") then Some verbs.Applied else None)))))))))))))

-- What the words after the first one must be.
abbrev pub form_of : Verb → List Expected
form_of verbs.Open = APeer ∷ []
form_of verbs.Close = APeer ∷ []
form_of verbs.Recv = APeer ∷ Digits ∷ []
form_of verbs.Propose = ASlot ∷ Digits ∷ []
form_of verbs.Round = ASlot ∷ []
form_of verbs.Timer = ASlot ∷ []
form_of verbs.Ballot = ASlot ∷ []
form_of verbs.Tick = []
form_of verbs.Ask = APeer ∷ ASlot ∷ []
form_of verbs.Again = APeer ∷ []
form_of verbs.State = []
form_of verbs.Report = []
form_of verbs.Stand = []
form_of verbs.Applied = ASlot ∷ []
