use Rattle.std.proofs.Common.{string_bytes}
use Rattle.scp_draw.proofs.Pages.{end_and_warnings}
use Rattle.scp_draw.proofs.drawing.ending_of.Goals as goal

pub returns-clause-told : goal.returns-clause-told
returns-clause-told c = λ far.
    let found = c.in_ok-write_warnings.ensures.added in
    end_and_warnings c.args.playing.names.now c.args.playing.commands.now c.args.script.now.commands.items c.args.script.now.lines.items c.args.network.now far (string_bytes c.new-text.result) (string_bytes c.write_end.new.out) (string_bytes c.write_warnings.new.out) found.0 c.new-text.ensures.bytes (c.in_ok-write_end.ensures.added far) found.1 found.2
