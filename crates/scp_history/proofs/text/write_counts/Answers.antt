use Rattle.std.proofs.Common.{string_bytes}
use Rattle.scp_history.specs.Lines.{said_text, sure_text}
use Rattle.scp_history.proofs.Writing.{wrote_two}
use Rattle.scp_history.proofs.text.write_counts.Goals as goal

pub returns : goal.returns
returns c = wrote_two c.write_sure.result (string_bytes c.args.text.now) (string_bytes c.write_said.new.text) (string_bytes c.write_sure.new.text) (said_text c.args.counts) (sure_text c.args.counts) c.in_ok-write_said.ensures c.write_sure.ensures
