use Rattle.std.proofs.Common.{◌≡◌, ◌∙◌, ℕ, List, length, map, ap, sym, subst, arith}
use Rattle.std.specs.Global.{Vec}
use Rattle.std.specs.Prelude.{All}
use Rattle.std.proofs.lemmas.List.{length-map}
use Rattle.scp_line.specs.scp_apply.specs.Applied.{AreInOrder}
use Rattle.scp_line.specs.scp_gather.specs.Kv.{NodeReport}
use Rattle.scp_line.specs.scp_script.specs.declared.command.Command.{Command}
use Rattle.scp_line.specs.scp_script.specs.Script.{node_count}
use Rattle.scp_line.specs.scp_threaded_script.specs.Reported.{AreNodesReported}
use Rattle.scp_line.specs.scp_threaded_script.specs.Waits.{AreWaits}
use Rattle.scp_line.specs.Left.{reports_left}
use Rattle.scp_notices.specs.Threads.{threads_notices}
use Rattle.scp_notices.proofs.Order.{reports_in_order}
use Rattle.scp_notices.proofs.Placing.{reported_lines}
use Rattle.scp_notices.proofs.threads.played.Goals as goal

pub notices_of-requires-clause-in_order : goal.notices_of-requires-clause-in_order
notices_of-requires-clause-in_order g c =
    subst (λ (l : List NodeReport). All (λ (report : NodeReport). AreInOrder 1 report.applied.items) l) (sym c.as_slice.ensures.value)
    (reports_in_order c.what_is_reported_keeps_the_headline.ensures.headline c.as_slice-commands.result.now c.in-Ok.ran.reports.items c.in-Ok.ensures.reported)

pub notices_of-requires-clause-few : goal.notices_of-requires-clause-few
notices_of-requires-clause-few g c = omega (arith, ap (λ (l : List NodeReport). length l) c.as_slice.ensures.value, c.in-Ok.ensures.reported.count, c.count_of_nodes-count.ensures.count, c.count_of_nodes-count.ensures.few)

pub returns-clause-headline : goal.returns-clause-headline
returns-clause-headline g c = c.what_is_played_keeps_the_headlines.ensures.reported c.args.script.commands.items c.in-Ok.ran.reports.items (subst (λ (l : List Command). AreNodesReported l c.in-Ok.ran.reports.items) c.as_slice-commands.ensures.value c.in-Ok.ensures.reported)

pub notices_of-requires-clause-total : goal.notices_of-requires-clause-total
notices_of-requires-clause-total g c = ap (λ (l : List NodeReport). length l) c.as_slice.ensures.value ∙ c.in-Ok.ensures.reported.count ∙ ap (λ (l : List Command). node_count l) c.as_slice-commands.ensures.value

pub returns-clause-ran : goal.returns-clause-ran
returns-clause-ran g c =
    let ran = c.in-Ok.ran in
    let commands = c.args.script.commands.items in
    let lines = c.args.script.lines.items in
    let told = c.in_ok-notices.notices.items in
    let rows = map (λ (row : Vec ℕ). row.items) ran.losses.items in
    let reported = subst (λ (l : List Command). AreNodesReported l ran.reports.items) c.as_slice-commands.ensures.value c.in-Ok.ensures.reported in
    let own = c.each_fate_is_of_its_command.ensures.reported commands ran.reports.items reported in
    record {
      reported = reported;
      places = ran.gave_up.items;
      waits = subst (λ (l : List Command). AreWaits l 0 ran.gave_up.items) c.as_slice-commands.ensures.value c.in-Ok.ensures.waits;
      losses = rows;
      losses_count = length-map ran.losses.items (λ (row : Vec ℕ). row.items) ∙ c.in-Ok.ensures.losses ∙ ap (λ (l : List Command). node_count l) c.as_slice-commands.ensures.value;
      own = own;
      of_lines = λ i r at. reported_lines commands ran.reports.items rows i r at (own i r at);
      notices_are =
          subst (λ (rows : List (Vec ℕ)). told ≡ threads_notices commands lines (reports_left commands ran.reports.items (map (λ (row : Vec ℕ). row.items) rows)) ran.gave_up.items) c.as_slice-3.ensures.value
          (subst (λ (places : List ℕ). told ≡ threads_notices commands lines (reports_left commands ran.reports.items (map (λ (row : Vec ℕ). row.items) c.as_slice-3.result.now)) places) c.as_slice-2.ensures.value
          (subst (λ (reports : List NodeReport). told ≡ threads_notices commands lines (reports_left commands reports (map (λ (row : Vec ℕ). row.items) c.as_slice-3.result.now)) c.as_slice-2.result.now) c.as_slice.ensures.value
          c.in_ok-notices.ensures.notices));
    }
