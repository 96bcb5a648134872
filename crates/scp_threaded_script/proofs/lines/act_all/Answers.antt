use Rattle.std.proofs.Common.{◌≡◌, ◌<◌, ◌+◌, ◌∙◌, ℕ, List, [], ◌∷◌, ◌++◌, refl, length, take, ap, sym, subst, arith}
use Rattle.std.specs.List.{AllByRecursion}
use Rattle.std.proofs.Math.Seq.{take-length}
use Rattle.std.proofs.lemmas.Result.{err_from_is_err_and}
use Rattle.scp_threaded_script.specs.Reported.{IsLineFault}
use Rattle.scp_threaded_script.specs.Waits.{AreWaits}
use Rattle.scp_threaded_script.proofs.Waiting.{added_at}
use Rattle.scp_script.specs.declared.command.Command.{Command}
use Rattle.scp_threaded_node.specs.scp_shared_outbox.specs.Table.{AreRows}
use Rattle.scp_threaded_script.specs.inside.Played.{HaveDone}
use Rattle.scp_threaded_script.proofs.Acting.{unchanged_run, unchanged_done}
use Rattle.scp_threaded_script.proofs.Doing.{done_run, have_lanes}
use Rattle.scp_threaded_script.proofs.Giving.{unchanged_all_given}
use Rattle.scp_threaded_script.proofs.Seating.{same_rows}
use Rattle.scp_threaded_script.proofs.Standing.{line_names, line_there, line_next}
use Rattle.scp_threaded_script.proofs.lines.act_all.Goals as goal

pub loop-command-init : goal.loop-command-init
loop-command-init g c = record {
  all = c.requires.nodes;
  place = refl;
  waits = subst (λ (l : List ℕ). AreWaits c.args.commands.now 0 l) (sym c.requires.none) tt;
  below = subst (λ (l : List ℕ). AllByRecursion (λ i. i < 0) l) (sym c.requires.none) tt;
  given = refl;
  markers = refl;
}

pub act_on_line-requires-clause-names : goal.act_on_line-requires-clause-names
act_on_line-requires-clause-names g c = line_names c.args.commands.now c.loop-command.command-index c.command-item.result (omega arith) c.command-item.is c.requires.names

pub act_on_line-requires-clause-there : goal.act_on_line-requires-clause-there
act_on_line-requires-clause-there g c = line_there c.args.commands.now (length c.flush_before.new.nodes.items) c.loop-command.command-index c.command-item.result (c.flush_before.ensures.count ∙ c.loop-command.invariant.all.0) (omega arith) c.command-item.is c.requires.admitted

pub act_on_line-requires-clause-lanes : goal.act_on_line-requires-clause-lanes
act_on_line-requires-clause-lanes g c = have_lanes c.args.commands.now c.flush_before.new.nodes.items (done_run c.args.commands.now (take c.loop-command.command-index c.args.commands.now) c.flush_before.new.nodes.items (unchanged_done c.args.commands.now (take c.loop-command.command-index c.args.commands.now) c.loop-command.nodes.items c.flush_before.new.nodes.items c.flush_before.ensures c.loop-command.invariant.all))

pub act_on_line-requires-clause-few : goal.act_on_line-requires-clause-few
act_on_line-requires-clause-few g c = omega (arith, c.flush_before.ensures.count, c.loop-command.invariant.all.0, c.requires.nodes.0, c.requires.few)

pub act_on_line-requires-clause-markers : goal.act_on_line-requires-clause-markers
act_on_line-requires-clause-markers g c =
    subst (λ (n : ℕ). AreRows n c.loop-command.markers.items) (c.requires.nodes.0 ∙ sym (c.flush_before.ensures.count ∙ c.loop-command.invariant.all.0))
    (same_rows _ c.args.markers.now.items c.loop-command.markers.items c.loop-command.invariant.markers c.requires.markers)

pub loop-command-preserved : goal.loop-command-preserved
loop-command-preserved g c =
    let commands = c.args.commands.now in
    let i = c.loop-command.command-index in
    let kept = c.loop-command.invariant in
    let all : HaveDone commands (take (i + 1) commands) c.act_on_line.new.nodes.items =
    subst (λ (done : List Command). HaveDone commands done c.act_on_line.new.nodes.items) (sym (line_next commands i c.command-item.result (omega arith) c.command-item.is)) (c.in_ok-act_on_line.ensures.done commands (take i commands) (unchanged_done commands (take i commands) c.loop-command.nodes.items c.flush_before.new.nodes.items c.flush_before.ensures kept.all)) in
    let added = added_at commands i c.loop-command.place c.command-item.result c.loop-command.gave_up.items c.wait_at_line.new.gave_up.items (omega arith) c.command-item.is kept.place kept.waits kept.below c.wait_at_line.ensures.added in
    record {
      all = all;
      place = omega (arith, kept.place);
      waits = added.0;
      below = added.1;
      given = c.act_on_line.ensures.given ∙ unchanged_all_given c.loop-command.nodes.items c.flush_before.new.nodes.items c.flush_before.ensures ∙ kept.given;
      markers = c.act_on_line.ensures.markers ∙ kept.markers;
    }

pub returns-in_err-act_on_line-clause-runs : goal.returns-in_err-act_on_line-clause-runs
returns-in_err-act_on_line-clause-runs g c = c.act_on_line.ensures.runs c.args.commands.now (take c.loop-command.command-index c.args.commands.now) (unchanged_done c.args.commands.now (take c.loop-command.command-index c.args.commands.now) c.loop-command.nodes.items c.flush_before.new.nodes.items c.flush_before.ensures c.loop-command.invariant.all)

pub returns-clause-runs : goal.returns-clause-runs
returns-clause-runs g c = unchanged_run c.args.commands.now c.loop-command.nodes.items c.flush_all.new.nodes.items c.flush_all.ensures (done_run c.args.commands.now (take c.loop-command.command-index c.args.commands.now) c.loop-command.nodes.items c.loop-command.invariant.all)

pub returns-clause-done : goal.returns-clause-done
returns-clause-done g c =
    let all : c.loop-command.command-index ≡ length c.args.commands.now = omega arith in
    unchanged_done c.args.commands.now c.args.commands.now c.loop-command.nodes.items c.flush_all.new.nodes.items c.flush_all.ensures
    (subst (λ (done : List Command). HaveDone c.args.commands.now done c.loop-command.nodes.items) (ap (λ (n : ℕ). take n c.args.commands.now) all ∙ take-length c.args.commands.now) c.loop-command.invariant.all)

pub returns-in_err-act_on_line-clause-given_up : goal.returns-in_err-act_on_line-clause-given_up
returns-in_err-act_on_line-clause-given_up g c =
    let p = err_from_is_err_and c.from_residual.result c.from_residual.ensures.1 in
    let e = c.in_err-act_on_line.field-0.0 in
    rw (p.1, p.2) (subst (λ (n : ℕ). IsLineFault n e.node e.fault) (c.flush_before.ensures.count ∙ c.loop-command.invariant.all.0) c.in_err-act_on_line.ensures.given_up)

pub returns-in_err-wait_at_line-clause-runs : goal.returns-in_err-wait_at_line-clause-runs
returns-in_err-wait_at_line-clause-runs g c =
    let commands = c.args.commands.now in
    let done = take c.loop-command.command-index commands ++ c.command-item.result ∷ [] in
    done_run commands done c.act_on_line.new.nodes.items (c.in_ok-act_on_line.ensures.done commands (take c.loop-command.command-index commands) (unchanged_done commands (take c.loop-command.command-index commands) c.loop-command.nodes.items c.flush_before.new.nodes.items c.flush_before.ensures c.loop-command.invariant.all))

pub returns-in_err-wait_at_line-clause-waits : goal.returns-in_err-wait_at_line-clause-waits
returns-in_err-wait_at_line-clause-waits g c =
    let kept = c.loop-command.invariant in
    (added_at c.args.commands.now c.loop-command.command-index c.loop-command.place c.command-item.result c.loop-command.gave_up.items c.wait_at_line.new.gave_up.items (omega arith) c.command-item.is kept.place kept.waits kept.below c.wait_at_line.ensures.added).0

pub returns-in_err-act_on_line-clause-given : goal.returns-in_err-act_on_line-clause-given
returns-in_err-act_on_line-clause-given g c = c.act_on_line.ensures.given ∙ unchanged_all_given c.loop-command.nodes.items c.flush_before.new.nodes.items c.flush_before.ensures ∙ c.loop-command.invariant.given

pub returns-in_err-wait_at_line-clause-given : goal.returns-in_err-wait_at_line-clause-given
returns-in_err-wait_at_line-clause-given g c = c.act_on_line.ensures.given ∙ unchanged_all_given c.loop-command.nodes.items c.flush_before.new.nodes.items c.flush_before.ensures ∙ c.loop-command.invariant.given

pub returns-clause-given : goal.returns-clause-given
returns-clause-given g c = unchanged_all_given c.loop-command.nodes.items c.flush_all.new.nodes.items c.flush_all.ensures ∙ c.loop-command.invariant.given

pub returns-in_err-act_on_line-clause-markers : goal.returns-in_err-act_on_line-clause-markers
returns-in_err-act_on_line-clause-markers g c = c.act_on_line.ensures.markers ∙ c.loop-command.invariant.markers

pub returns-in_err-wait_at_line-clause-markers : goal.returns-in_err-wait_at_line-clause-markers
returns-in_err-wait_at_line-clause-markers g c = c.act_on_line.ensures.markers ∙ c.loop-command.invariant.markers
