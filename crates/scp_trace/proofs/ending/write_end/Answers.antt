use Rattle.std.proofs.Common.{string_bytes}
use Rattle.scp_trace.proofs.AtEnd.{end_told}
use Rattle.scp_trace.proofs.ending.write_end.Goals as goal

pub returns-clause-added : goal.returns-clause-added
returns-clause-added c = λ far. end_told c.each_node_holds_its_ledger.ensures.ledger c.args.anew c.args.playing.names.now c.args.playing.count c.args.playing.commands.now c.args.network.now (string_bytes c.args.out.now) (string_bytes c.push_str.new.self) (string_bytes c.write_all.new.out) c.write_all.result c.requires.playing.count_is far c.in_ok-push_str.ensures.bytes c.write_all.ensures.added
