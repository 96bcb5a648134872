use Rattle.std.proofs.Common.{◌∙◌, ◌++◌, refl, sym, ap, string_bytes}
use Rattle.scp_line.specs.scp_turn.specs.Heard.{Nodes}
use Rattle.scp_trace.specs.Traced.{facts_part}
use Rattle.scp_trace.proofs.Runs.{whole_if, cut_of_script}
use Rattle.scp_trace.proofs.playing.played.Goals as goal

pub ended-requires-clause-playing : goal.ended-requires-clause-playing
ended-requires-clause-playing c = record {
  count_is = c.count_of_nodes-count.ensures.count;
  few = c.count_of_nodes-count.ensures.few;
  so_far = c.in-Ok.ensures.played.played;
}

pub returns-in-Ok-clause-told : goal.returns-in-Ok-clause-told
returns-in-Ok-clause-told c =
    let new = c.play_lines.new.watch in
    whole_if c.each_node_holds_its_ledger.ensures.ledger c.a_step_is_told_as_it_happened.ensures c.args.depth c.in_ok-names.names c.args.script.now.commands.items c.as_slice-commands.result.now c.args.script.now.lines.items c.as_slice.result.now (string_bytes new.text) c.play_lines.new.network c.new-watch.result new c.ended.result
    c.as_slice-commands.ensures.value c.as_slice.ensures.value c.requires.admitted c.in_ok-names.ensures.names c.new-watch.ensures (sym c.lacks_memory.ensures ∙ c.if-lacks_memory.false) c.in-Ok.ensures.played refl (c.ended.ensures.told c.in-Ok.ensures.played.played)

pub returns-clause-told : goal.returns-clause-told
returns-clause-told c =
    let new = c.play_lines.new.watch in
    let stopped = c.in-Err.stopped in
    let text = c.in_ok-write_told-in-Err.ensures.added ∙ ap (λ (nodes : Nodes). string_bytes new.text ++ facts_part new.depth new.names.now stopped.line nodes new.facts.tellings) c.nodes.ensures in
    cut_of_script c.each_node_holds_its_ledger.ensures.ledger c.a_step_is_told_as_it_happened.ensures c.args.depth c.in_ok-names.names c.args.script.now.commands.items c.as_slice-commands.result.now c.args.script.now.lines.items c.as_slice.result.now (string_bytes c.write_told.new.self.text) c.play_lines.new.network c.new-watch.result new stopped
    c.as_slice-commands.ensures.value c.as_slice.ensures.value c.requires.admitted c.in_ok-names.ensures.names c.new-watch.ensures (sym c.lacks_memory-else-is_want.ensures ∙ c.if-lacks_memory-2.false) (c.is_want.ensures.other c.if-is_want.false) c.in-Err.ensures.stopped text
