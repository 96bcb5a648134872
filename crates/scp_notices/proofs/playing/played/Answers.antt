use Rattle.std.proofs.Common.{◌≡◌, ◌≢◌, ◌∙◌, ℕ, List, All, sym, ap, subst}
use Rattle.scp_line.specs.scp_script.specs.declared.command.Command.{Command}
use Rattle.scp_line.specs.scp_script.specs.Nodes.{NamesNodes}
use Rattle.scp_line.specs.Headlines.{AreNodesHeadlined}
use Rattle.scp_line.specs.Player.{IsRun, IsStoppedBy}
use Rattle.scp_notices.specs.declared.playing.RunFault.{RunFault}
use Rattle.scp_line.specs.scp_device.specs.declared.bad.ReadFault.TheVariants as reads
use Rattle.scp_notices.specs.declared.playing.RunFault.TheVariants.{Unread}
use Rattle.scp_notices.specs.inside.Playing.{IsStop}
use Rattle.scp_notices.proofs.Runs.{both_note, pair, both_shown, stopped_in, few_ran}
use Rattle.scp_notices.proofs.Stops.{stop_so}
use Rattle.scp_notices.proofs.Watching.{held}
use Rattle.scp_notices.proofs.playing.played.Goals as goal

pub notices_of-requires-clause-few : goal.notices_of-requires-clause-few
notices_of-requires-clause-few g c =
    let L = both_note g.W.LineWatch.notes_begin g.W.LineWatch.notes_end g.W.Watch.notes_before g.W.Watch.notes_after in
    few_ran L c.as_slice-2.result.now c.as_slice-3.result.now c.play_lines.new.network (pair c.new.result c.args.watch) c.play_lines.new.watch
    (subst (λ (cs : List Command). All NamesNodes cs) (sym c.as_slice-2.ensures.value) c.requires.names) c.in-Ok.ensures.played

pub returns-clause-ran : goal.returns-clause-ran
returns-clause-ran g c =
    let begins = g.W.LineWatch.notes_begin in
    let ends = g.W.LineWatch.notes_end in
    let before = g.W.Watch.notes_before in
    let after' = g.W.Watch.notes_after in
    let L = both_note begins ends before after' in
    let commands = c.args.script.commands.items in
    let lines = c.args.script.lines.items in
    let network = c.play_lines.new.network in
    let both = c.play_lines.new.watch in
    let old = pair c.new.result c.args.watch in
    let run = subst (λ (ls : List ℕ). IsRun L commands ls network old both) c.as_slice-3.ensures.value (subst (λ (cs : List Command). IsRun L cs c.as_slice-3.result.now network old both) c.as_slice-2.ensures.value c.in-Ok.ensures.played) in
    both_shown c.each_fate_is_of_its_command.ensures.played begins ends before after' commands lines network c.new.result c.args.watch both c.told.result.now c.cut.result.now c.in_ok-notices.notices.items run (ap held c.new.ensures) (sym c.lacks_memory.ensures ∙ c.if-lacks_memory.false) c.told.ensures c.cut.ensures c.in_ok-notices.ensures.notices

pub returns-clause-headline : goal.returns-clause-headline
returns-clause-headline g c =
    let run = c.in-Ok.ensures.played in
    subst (λ (cs : List Command). AreNodesHeadlined cs c.play_lines.new.network.nodes) c.as_slice-2.ensures.value (c.what_is_played_keeps_the_headlines.ensures.played c.as_slice-2.result.now run.played.heard c.play_lines.new.network.nodes run.played.played)

pub returns-in-Err-clause-stopped : goal.returns-in-Err-clause-stopped
returns-in-Err-clause-stopped g c =
    let L = both_note g.W.LineWatch.notes_begin g.W.LineWatch.notes_end g.W.Watch.notes_before g.W.Watch.notes_after in
    let commands = c.args.script.commands.items in
    let lines = c.args.script.lines.items in
    let network = c.play_lines.new.network in
    let both = c.play_lines.new.watch in
    let old = pair c.new.result c.args.watch in
    let stop = c.in-Err.stop in
    let by = subst (λ (ls : List ℕ). IsStoppedBy L commands ls network old both stop) c.as_slice-3.ensures.value (subst (λ (cs : List Command). IsStoppedBy L cs c.as_slice-3.result.now network old both stop) c.as_slice-2.ensures.value c.in-Err.ensures.stopped) in
    subst (λ (e : RunFault). e ≢ Unread reads.NoMemory → IsStop commands lines e) (sym c.stopped.ensures) (stop_so commands lines stop.line stop.fault (λ other. stopped_in L commands lines network old both stop by other))
