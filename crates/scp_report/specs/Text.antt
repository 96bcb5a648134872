-- The text of a report with values and keys as people write them (this project's profile).
use Rattle.std.specs.Prelude.{ℕ, Bool, List, ◌++◌, codes, flat_map, nat_eq, if◌then◌else◌}
use Rattle.std.specs.Fmt.{decimal}
use Rattle.std.specs.List.{list_any}
use Rattle.hex.specs.Hex.{encode_lower}
use Rattle.scp_core.specs.scp_ledger.specs.declared.journal.Decision.{Decision}
use Rattle.scp_text.specs.Pieces.{bracketed}
use Rattle.scp_text.specs.Values.{bytes_text, value_text}
use Rattle.scp_report.specs.Report.{ReportView}
use Rattle.scp_report.specs.Settled.{origin_words, section_of, conns_of}

-- One of the bytes is `=`.
abbrev pub has_equals : List ℕ → Bool
has_equals bytes = list_any (λ byte. nat_eq byte 61) bytes

-- A key before a `=`: the key as text, or its hex digits if one of its bytes is `=`.
abbrev pub key_text : List ℕ → List ℕ
key_text key = if has_equals key then bracketed (codes "hex(") (encode_lower key) else bytes_text key

-- The line of an applied slot, with its value as text.
abbrev pub applied_text_line : Decision → List ℕ
applied_text_line d = codes "applied " ++ decimal d.slot.0 ++ codes " " ++ value_text d.value ++ codes " " ++ origin_words d.origin ++ codes "\n"

-- The line of a key, with the key and its value as text.
abbrev pub state_text_line : List ℕ × List ℕ → List ℕ
state_text_line entry = codes "state " ++ key_text entry.0 ++ codes "=" ++ bytes_text entry.1 ++ codes "\n"

-- The text of a report. It is the fixed one, except for the values of applied slots, and the keys and values of the state, which are as text.
abbrev pub text_report_of : ReportView → List ℕ
text_report_of v =
    codes "node " ++ decimal v.node ++ codes "\n"
    ++ flat_map (section_of v.journal v.parked) (conns_of v.journal v.parked)
    ++ flat_map applied_text_line v.applied
    ++ flat_map state_text_line v.state
    ++ codes "end\n"
