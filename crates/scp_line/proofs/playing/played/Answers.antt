use Rattle.std.proofs.Common.{◌∙◌, string_bytes, ap}
use Rattle.scp_turn.specs.Heard.{Nodes}
use Rattle.scp_report.specs.Node.{reports_of}
use Rattle.scp_report.specs.Reports.{settled_text}
use Rattle.scp_line.proofs.Headlines.{are_headlined}
use Rattle.scp_line.proofs.Scripts.{are_reports}
use Rattle.scp_line.proofs.Fits.{script_has_room}
use Rattle.scp_line.proofs.playing.played.Goals as goal

pub new_network-requires-clause-room : goal.new_network-requires-clause-room
new_network-requires-clause-room c = script_has_room c.args.text.now c.as_slice-commands.result.now (c.as_slice-commands.ensures.value ∙ c.in_ok-script.ensures.commands)

pub returns-in-Ok-clause-reports : goal.returns-in-Ok-clause-reports
returns-in-Ok-clause-reports c =
    let commands = c.as_slice-commands.result.now in
    are_reports c.each_node_holds_its_ledger.ensures.ledger c.args.text.now (string_bytes c.in-Ok.printed) commands c.play_alone.new.network
    (c.as_slice-commands.ensures.value ∙ c.in_ok-script.ensures.commands) c.in_ok-play_alone.ensures.played
    (c.in-Ok.ensures ∙ ap (λ (nodes : Nodes). settled_text (reports_of nodes) commands) c.nodes.ensures)

pub returns-in-Ok-clause-headline : goal.returns-in-Ok-clause-headline
returns-in-Ok-clause-headline c =
    let commands = c.as_slice-commands.result.now in
    are_headlined c.what_is_played_keeps_the_headlines.ensures.played c.args.text.now (string_bytes c.in-Ok.printed) commands c.play_alone.new.network
    (c.as_slice-commands.ensures.value ∙ c.in_ok-script.ensures.commands) c.in_ok-play_alone.ensures.played
    (c.in-Ok.ensures ∙ ap (λ (nodes : Nodes). settled_text (reports_of nodes) commands) c.nodes.ensures)
