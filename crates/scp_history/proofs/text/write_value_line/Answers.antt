use Rattle.std.proofs.Common.{string_bytes}
use Rattle.std.specs.Prelude.{codes}
use Rattle.scp_history.specs.Words.{spaced_value}
use Rattle.scp_history.specs.Lines.{head, counts_text}
use Rattle.scp_history.proofs.Writing.{wrote_three}
use Rattle.scp_history.proofs.text.write_value_line.Goals as goal

pub returns : goal.returns
returns c = wrote_three c.write_counts.result (string_bytes c.args.text.now) (string_bytes c.write_head.new.text) (string_bytes c.write_spaced_value.new.text) (string_bytes c.write_counts.new.text) (head c.args.ledger (codes "value")) (spaced_value c.args.value.now) (counts_text c.args.counts) c.in_ok-write_head.ensures c.in_ok-write_spaced_value.ensures c.write_counts.ensures
