use Rattle.std.proofs.Common.{string_bytes}
use Rattle.std.specs.Prelude.{codes}
use Rattle.scp_history.specs.Lines.{head, sides_text}
use Rattle.scp_history.proofs.Writing.{wrote_two}
use Rattle.scp_history.proofs.text.write_split.Goals as goal

pub returns : goal.returns
returns c = wrote_two c.write_sides.result (string_bytes c.args.text.now) (string_bytes c.write_head.new.text) (string_bytes c.write_sides.new.text) (head c.args.ledger (codes "split")) (sides_text c.args.by_number c.args.sides.now) c.in_ok-write_head.ensures c.write_sides.ensures
