-- What is printed of a script is of nodes that hold their headlines.
use Rattle.std.proofs.Common.{◌≡◌, ◌+◌, ◌∙◌, ℕ, List, [], get_or, ap, subst}
use Rattle.scp_turn.specs.scp_core.specs.Kv.{LedgerGivesHeadline, TheoremGivesLedger}
use Rattle.scp_turn.specs.Heard.{past_at}
use Rattle.scp_turn.specs.Network.{NetworkView}
use Rattle.scp_threaded_script.specs.scp_gather.specs.Kv.{NodeReport, Left}
use Rattle.scp_threaded_script.specs.scp_threaded_node.specs.Seats.{Each}
use Rattle.scp_threaded_script.specs.Reported.{AreNodesReported, AreSoReported}
use Rattle.scp_report.specs.scp_script.specs.declared.command.Command.{Command}
use Rattle.scp_report.specs.scp_script.specs.Script.{commands_in}
use Rattle.scp_line.specs.Headlines.{AreHeadlined, AreNodesHeadlined, AreReportsHeadlined, IsHeadlined, AreGatheredHeadlined, PlayingKeepsHeadlines, ReportingKeepsHeadlines}
use Rattle.scp_line.specs.inside.Nodes.{IsPlayed}
use Rattle.scp_line.specs.Left.{reports_left}
use Rattle.scp_report.specs.Node.{reports_of}
use Rattle.scp_report.specs.Reports.{settled_text}

-- ---- one step after another

pub are_nodes_headlined : TheoremGivesLedger → LedgerGivesHeadline → PlayingKeepsHeadlines
are_nodes_headlined law gives commands heard nodes played = record {
  heard = heard;
  played = played;
  headlines = λ i d here. gives (past_at (i + 1) heard) (get_or nodes i d) (law (past_at (i + 1) heard) (get_or nodes i d) (played.have i d here));
}

pub are_headlined : PlayingKeepsHeadlines → (text printed : List ℕ) (commands : List Command) (network : NetworkView) → commands ≡ commands_in text → IsPlayed commands network → printed ≡ settled_text (reports_of network.nodes) commands → AreHeadlined text printed
are_headlined law text printed commands network same played is = record {
  nodes = network.nodes;
  each = subst (λ (l : List Command). AreNodesHeadlined l network.nodes) same (law commands played.heard network.nodes played.played);
  reports = is ∙ ap (λ (l : List Command). settled_text (reports_of network.nodes) l) same;
}

-- ---- in threads

headlines_at : (commands : List Command) (lefts : List Left) (nodes : List NodeReport) → AreSoReported commands lefts nodes → Each (λ i r. IsHeadlined commands (i + 1) r) nodes
headlines_at commands lefts nodes are = λ i r at.
    let one = are i r at in
    let is = one.2 in
    let ended = is.ended in
    record {
      left = one.0;
      stood = is.stood;
      stood_are = is.stood_are;
      links_count = ended.links_count;
      links_are = ended.links_are;
      headline = ended.headline;
    }

pub are_reports_headlined : ReportingKeepsHeadlines
are_reports_headlined commands nodes reported = record { count = reported.count; headlines = headlines_at commands reported.lefts nodes reported.reported }

pub are_gathered_headlined : ReportingKeepsHeadlines → (script text : List ℕ) (commands : List Command) (nodes : List NodeReport) → commands ≡ commands_in script → AreNodesReported commands nodes → text ≡ settled_text (reports_left commands nodes []) commands → AreGatheredHeadlined script text
are_gathered_headlined law script text commands nodes same reported reports = record {
  nodes = nodes;
  each = subst (λ (c : List Command). AreReportsHeadlined c nodes) same (law commands nodes reported);
  reports = subst (λ (c : List Command). text ≡ settled_text (reports_left c nodes []) c) same reports;
}
