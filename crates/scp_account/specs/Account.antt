-- The account of a run (this project's profile).
use Rattle.std.specs.Prelude.{ℕ, List, ◌++◌, map, codes}
use Rattle.serde_json.specs.Data.{Data, string, array, object, member, no_members}
use Rattle.serde_json.specs.View.{items_of}
use Rattle.serde_json.specs.Written.{compact_text}
use Rattle.scp_line.specs.scp_report.specs.Report.{ReportView}
use Rattle.scp_facts.specs.declared.happening.Kept.{Kept}
use Rattle.scp_facts.specs.Taken.{happenings_at}
use Rattle.scp_account.specs.declared.node.Mode.{Mode}
use Rattle.scp_account.specs.declared.node.Mode.TheVariants.{Serial, Threads}
use Rattle.scp_account.specs.Node.{node_json}

-- The word of how nodes ran.
abbrev pub mode_word : Mode → List ℕ
mode_word Serial = codes "serial"
mode_word Threads = codes "threads"

-- The account of a node, from what was kept of the steps of all nodes.
abbrev pub account_json : Mode → List Kept → ReportView → Data
account_json mode kept r = node_json mode r (happenings_at r.node kept)

-- The document of nodes that ran so, of whose steps this was kept.
abbrev pub account_of : Mode → List ReportView → List Kept → Data
account_of mode reports kept =
    object (member (codes "mode") (string (mode_word mode))
    (member (codes "nodes") (array (items_of (map (account_json mode kept) reports))) no_members))

-- The text of the document: compact JSON, in one line with its line end.
abbrev pub account_text : Mode → List ReportView → List Kept → List ℕ
account_text mode reports kept = compact_text (account_of mode reports kept) ++ codes "\n"
