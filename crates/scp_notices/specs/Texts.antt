-- The lines that show notices (this project's profile).
use Rattle.std.specs.Prelude.{ℕ, List, ◌++◌, codes, flat_map}
use Rattle.std.specs.Fmt.{decimal}
use Rattle.scp_line.specs.scp_words.specs.Words.{fate_word, hex_word, numbers_text}
use Rattle.scp_notices.specs.declared.notice.Side.{Side}
use Rattle.scp_notices.specs.declared.notice.Notice.{Notice}
use Rattle.scp_notices.specs.declared.notice.Notice.TheVariants.{Unsettled, GaveUp, Disagree, Ignored, Overwritten, NoWait}

-- After a space, the numbers of nodes, with commas between them, a colon, and the value that they applied, in hex digits as in reports.
abbrev pub side_text : Side → List ℕ
side_text side = codes " " ++ numbers_text side.nodes ++ codes ":" ++ hex_word side.value

-- the same for each of the sides
abbrev pub sides_text : List Side → List ℕ
sides_text sides = flat_map side_text sides

-- the words for two nodes, the first of which lost own statements for the second
abbrev pub lost_words : ℕ → ℕ → List ℕ
lost_words node peer = codes "overwritten " ++ decimal node ++ codes " " ++ decimal peer

-- a count after a space, and the end of the line
abbrev pub count_words : ℕ → List ℕ
count_words count = codes " " ++ decimal count ++ codes "\n"

-- the line of a notice
abbrev pub notice_text : Notice → List ℕ
notice_text (Unsettled line rounds) = codes "unsettled " ++ decimal line ++ codes " " ++ decimal rounds ++ codes "\n"
notice_text (GaveUp line) = codes "gave-up " ++ decimal line ++ codes "\n"
notice_text (Disagree slot sides) = codes "disagree " ++ decimal slot ++ sides_text sides ++ codes "\n"
notice_text (Ignored line why) = codes "ignored " ++ decimal line ++ codes " " ++ fate_word why ++ codes "\n"
notice_text (Overwritten node peer count) = lost_words node peer ++ count_words count
notice_text NoWait = codes "no-wait\n"

-- the lines of notices, in their order
abbrev pub notices_text : List Notice → List ℕ
notices_text notices = flat_map notice_text notices
