use Rattle.std.proofs.Common.{string_bytes}
use Rattle.std.specs.Prelude.{codes}
use Rattle.scp_history.specs.Words.{behind_space, spaced_value, spaced_statement}
use Rattle.scp_history.specs.Lines.{head}
use Rattle.scp_history.proofs.Writing.{wrote_four}
use Rattle.scp_history.proofs.text.write_against.Goals as goal

pub returns : goal.returns
returns c = wrote_four c.write_spaced_value.result (string_bytes c.args.text.now) (string_bytes c.write_head.new.text) (string_bytes c.write_behind_space.new.text) (string_bytes c.write_spaced_statement.new.text) (string_bytes c.write_spaced_value.new.text) (head c.args.ledger (codes "against")) (behind_space c.args.by_number c.args.node.now) (spaced_statement c.args.statement) (spaced_value c.args.value.now) c.in_ok-write_head.ensures c.in_ok-write_behind_space.ensures c.in_ok-write_spaced_statement.ensures c.write_spaced_value.ensures
