-- The lines of a node's state (this project's profile).
use Rattle.std.specs.Prelude.{ℕ, List, [], Bool, true, false, ◌++◌, codes, nat_lt, nat_le, if◌then◌else◌}
use Rattle.std.specs.Fmt.{decimal}
use Rattle.scp_core.specs.scp_ledger.specs.declared.journal.TheConstants.{JOURNAL_LIMIT}
use Rattle.scp_words.specs.Words.{hex_word}

-- The line of the lowest undecided slot.
abbrev pub lowest_line : ℕ → List ℕ
lowest_line slot = codes "lowest " ++ decimal slot ++ codes "\n"

-- The line of how many slots are applied.
abbrev pub applied_count_line : ℕ → List ℕ
applied_count_line count = codes "applied-count " ++ decimal count ++ codes "\n"

-- The line of how many entries the journal has, and how many it may have.
abbrev pub journal_line : ℕ → List ℕ
journal_line count = codes "journal " ++ decimal count ++ codes " of " ++ decimal JOURNAL_LIMIT ++ codes "\n"

-- From 900,000 entries on, nine tenths of the limit, the same line after `warning`. Nothing below that.
abbrev pub warning_lines : ℕ → List ℕ
warning_lines count = if nat_lt count 900000 then [] else codes "warning " ++ journal_line count

-- From 990,000 entries on the rest is kept for what the node holds already, and for the ends of its connections.
abbrev pub is_nearly_full : ℕ → Bool
is_nearly_full count = nat_le 990000 count

-- The word for whether a link is open.
abbrev pub open_word : Bool → List ℕ
open_word true = codes "open"
open_word false = codes "closed"

-- The line of a link: its peer's name, whether it is open, and how many times it was opened.
abbrev pub link_line : List ℕ → Bool → ℕ → List ℕ
link_line name is_open life = codes "link " ++ name ++ codes " " ++ open_word is_open ++ codes " " ++ decimal life ++ codes "\n"

-- The line of how many entries of the journal a peer sent that changed nothing.
abbrev pub idle_line : List ℕ → ℕ → List ℕ
idle_line name count = codes "idle " ++ name ++ codes " " ++ decimal count ++ codes "\n"

-- The line of a key of the state with its value.
abbrev pub key_line : List ℕ × List ℕ → List ℕ
key_line entry = codes "key " ++ hex_word entry.0 ++ codes " " ++ hex_word entry.1 ++ codes "\n"
