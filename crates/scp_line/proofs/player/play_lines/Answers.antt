use Rattle.std.proofs.Common.{◌≡◌, ◌<◌, ℕ, length, get_or, refl, sym, subst, arith}
use Rattle.scp_turn.specs.Heard.{Nodes}
use Rattle.scp_report.specs.scp_script.specs.declared.command.Command.{Command}
use Rattle.scp_line.specs.Player.{lining, ArePlaying}
use Rattle.scp_line.proofs.Runs.{none_yet, are_playing, line_more, line_cut, all_lines}
use Rattle.scp_line.proofs.player.play_lines.Goals as goal

pub line_at-line-requires : goal.line_at-line-requires
line_at-line-requires g c = omega (arith, c.requires.count, c.loop-command.invariant.at)

pub loop-command-init : goal.loop-command-init
loop-command-init g c =
    let L = lining g.W.LineWatch.notes_begin g.W.LineWatch.notes_end g.W.Watch.notes_before g.W.Watch.notes_after in
    record { at = refl; so = none_yet L c.args.commands.now c.args.network.now c.args.watch.now c.requires.made }

pub end_line-requires-clause-playing : goal.end_line-requires-clause-playing
end_line-requires-clause-playing g c =
    let L = lining g.W.LineWatch.notes_begin g.W.LineWatch.notes_end g.W.Watch.notes_before g.W.Watch.notes_after in
    let commands = c.args.commands.now in
    let i = c.loop-command.index in
    let command = c.command-item.result in
    let lt : i < length commands = omega (arith, c.loop-command.invariant.at) in
    let is : command ≡ get_or commands i command = subst (λ (n : ℕ). command ≡ get_or commands n command) (sym c.loop-command.invariant.at) c.command-item.is in
    subst (λ (nodes : Nodes). ArePlaying nodes) (sym c.nodes-in-loop-command.ensures) (are_playing L commands c.args.lines.now i command c.in-Ok.calm c.loop-command.network c.act_with.new.network c.args.watch.now c.loop-command.watch c.begin_line.new.self c.act_with.new.watch lt is c.requires.names c.requires.admitted c.loop-command.invariant.so c.in-Ok.ensures)

pub loop-command-preserved : goal.loop-command-preserved
loop-command-preserved g c =
    let L = lining g.W.LineWatch.notes_begin g.W.LineWatch.notes_end g.W.Watch.notes_before g.W.Watch.notes_after in
    let commands = c.args.commands.now in
    let i = c.loop-command.index in
    let command = c.command-item.result in
    let lt : i < length commands = omega (arith, c.loop-command.invariant.at) in
    let is : command ≡ get_or commands i command = subst (λ (n : ℕ). command ≡ get_or commands n command) (sym c.loop-command.invariant.at) c.command-item.is in
    record {
      at = omega (arith, c.loop-command.invariant.at);
      so = line_more L commands c.args.lines.now i command c.line_at-line.result c.in-Ok.calm c.loop-command.network c.act_with.new.network c.args.watch.now c.loop-command.watch c.begin_line.new.self c.act_with.new.watch c.end_line.new.self
          lt c.requires.count is c.line_at-line.ensures c.requires.names c.requires.admitted c.loop-command.invariant.so (subst (λ (nodes : Nodes). L.begins c.loop-command.watch c.line_at-line.result command nodes c.begin_line.new.self) c.nodes.ensures c.begin_line.ensures) c.in-Ok.ensures
          (subst (λ (nodes : Nodes). L.ends c.act_with.new.watch c.line_at-line.result command c.in-Ok.calm nodes c.end_line.new.self) c.nodes-in-loop-command.ensures c.end_line.ensures);
    }

pub returns-in-Err-clause-stopped : goal.returns-in-Err-clause-stopped
returns-in-Err-clause-stopped g c =
    let L = lining g.W.LineWatch.notes_begin g.W.LineWatch.notes_end g.W.Watch.notes_before g.W.Watch.notes_after in
    let commands = c.args.commands.now in
    let i = c.loop-command.index in
    let command = c.command-item.result in
    let lt : i < length commands = omega (arith, c.loop-command.invariant.at) in
    let is : command ≡ get_or commands i command = subst (λ (n : ℕ). command ≡ get_or commands n command) (sym c.loop-command.invariant.at) c.command-item.is in
    line_cut L commands c.args.lines.now i command c.line_at-line.result c.loop-command.network c.act_with.new.network c.args.watch.now c.loop-command.watch c.begin_line.new.self c.act_with.new.watch c.in-Err.fault
    lt c.requires.count is c.line_at-line.ensures c.requires.names c.requires.admitted c.loop-command.invariant.so (subst (λ (nodes : Nodes). L.begins c.loop-command.watch c.line_at-line.result command nodes c.begin_line.new.self) c.nodes.ensures c.begin_line.ensures) c.in-Err.ensures

pub returns-clause-played : goal.returns-clause-played
returns-clause-played g c =
    let L = lining g.W.LineWatch.notes_begin g.W.LineWatch.notes_end g.W.Watch.notes_before g.W.Watch.notes_after in
    all_lines L c.args.commands.now c.args.lines.now c.loop-command.index c.loop-command.network c.args.watch.now c.loop-command.watch (omega (arith, c.loop-command.invariant.at)) c.requires.count c.loop-command.invariant.so
