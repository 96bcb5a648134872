use Rattle.std.proofs.Common.{string_bytes}
use Rattle.std.specs.Prelude.{codes}
use Rattle.scp_history.specs.Words.{value_digits}
use Rattle.scp_history.proofs.Writing.{wrote_two}
use Rattle.scp_history.proofs.names.write_spaced_value.Goals as goal

pub returns : goal.returns
returns c = wrote_two c.write_value.result (string_bytes c.args.text.now) (string_bytes c.push_str.new.self) (string_bytes c.write_value.new.text) (codes " ") (value_digits c.args.value.now) c.in_ok-push_str.ensures.bytes c.write_value.ensures
