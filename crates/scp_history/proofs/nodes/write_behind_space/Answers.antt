use Rattle.std.proofs.Common.{string_bytes}
use Rattle.std.specs.Prelude.{codes}
use Rattle.scp_history.specs.Words.{node_text}
use Rattle.scp_history.proofs.Writing.{wrote_two}
use Rattle.scp_history.proofs.nodes.write_behind_space.Goals as goal

pub returns : goal.returns
returns c = wrote_two c.write_node.result (string_bytes c.args.text.now) (string_bytes c.push_str.new.self) (string_bytes c.write_node.new.text) (codes " ") (node_text c.args.by_number c.args.node.now) c.in_ok-push_str.ensures.bytes c.write_node.ensures
