use Rattle.std.proofs.Common.{List, sym, subst, string_bytes}
use Rattle.scp_trace.specs.scp_script.specs.declared.command.Command.{Command}
use Rattle.scp_trace.specs.scp_line.specs.Nodes.{HasPlayed}
use Rattle.scp_draw.proofs.Pages.{is_page}
use Rattle.scp_draw.proofs.drawing.page_of.Goals as goal

pub ending_of-requires-clause-playing : goal.ending_of-requires-clause-playing
ending_of-requires-clause-playing c = record {
  count_is = c.count_of_nodes-count.ensures.count;
  few = c.count_of_nodes-count.ensures.few;
  so_far = subst (λ (cs : List Command). HasPlayed cs cs c.args.network.now) (sym c.as_slice-commands.ensures.value) c.requires.told.played;
}

pub returns-clause-page : goal.returns-clause-page
returns-clause-page c =
    is_page c.args.script.now.commands.items c.as_slice-commands.result.now c.args.script.now.lines.items c.in_ok-names.names c.args.network.now c.args.tellings.now c.nodes.result.now c.count_of_nodes-count.result c.new-page.result.items c.write_page.new.out.items c.as_str.result.now (string_bytes c.in_ok-ending.ending)
    c.as_slice-commands.ensures.value c.in_ok-names.ensures.names c.requires.told c.count_of_nodes-count.ensures.count c.in_ok-ending.ensures.told c.in_ok-write_page.ensures.added c.new-page.ensures.items c.nodes.ensures c.as_str.ensures.value
