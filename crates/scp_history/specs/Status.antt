-- The status that a report ends with.
use Rattle.std.specs.Prelude.{ℕ, Bool, true, false, List, if◌then◌else◌}
use Rattle.std.specs.List.{list_any}
use Rattle.scp_history.specs.declared.line.Line.{Line}
use Rattle.scp_history.specs.declared.line.Line.TheVariants.{Unread, Cut, Value, Uncertified, Unbacked, Split, Against, Message, Silent, Contradicts, End}

-- the line says that an archive is cut
abbrev pub is_cut_line : Line → Bool
is_cut_line (Unread file number why) = false
is_cut_line (Cut file number) = true
is_cut_line (Value ledger value counts) = false
is_cut_line (Uncertified ledger nodes) = false
is_cut_line (Unbacked ledger nodes) = false
is_cut_line (Split ledger sides) = false
is_cut_line (Against ledger node statement value) = false
is_cut_line (Message ledger place verdict hash node) = false
is_cut_line (Silent ledger nodes) = false
is_cut_line (Contradicts ledger node first last) = false
is_cut_line (End sums) = false

-- the line says more than the values of a ledger and the sums
abbrev pub is_notice : Line → Bool
is_notice (Unread file number why) = true
is_notice (Cut file number) = true
is_notice (Value ledger value counts) = false
is_notice (Uncertified ledger nodes) = true
is_notice (Unbacked ledger nodes) = true
is_notice (Split ledger sides) = true
is_notice (Against ledger node statement value) = true
is_notice (Message ledger place verdict hash node) = true
is_notice (Silent ledger nodes) = true
is_notice (Contradicts ledger node first last) = true
is_notice (End sums) = false

-- 1 where an archive is cut, else 4 where a line is a notice, else 0
abbrev pub status : List Line → ℕ
status lines = if list_any is_cut_line lines then 1 else (if list_any is_notice lines then 4 else 0)
