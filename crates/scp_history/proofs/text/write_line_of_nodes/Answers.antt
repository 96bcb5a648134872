use Rattle.std.proofs.Common.{string_bytes}
use Rattle.scp_history.specs.Lines.{head, nodes_text}
use Rattle.scp_history.proofs.Writing.{wrote_two}
use Rattle.scp_history.proofs.text.write_line_of_nodes.Goals as goal

pub returns : goal.returns
returns c = wrote_two c.write_nodes.result (string_bytes c.args.text.now) (string_bytes c.write_head.new.text) (string_bytes c.write_nodes.new.text) (head c.args.ledger c.args.word.now) (nodes_text c.args.by_number c.args.nodes.now) c.in_ok-write_head.ensures c.write_nodes.ensures
