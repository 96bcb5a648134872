use Rattle.std.proofs.Common.{string_bytes}
use Rattle.std.specs.Prelude.{codes}
use Rattle.scp_history.specs.Words.{verdict_words}
use Rattle.scp_history.proofs.Writing.{wrote_two}
use Rattle.scp_history.proofs.names.write_spaced_verdict.Goals as goal

pub returns : goal.returns
returns c = wrote_two c.write_verdict.result (string_bytes c.args.text.now) (string_bytes c.push_str.new.self) (string_bytes c.write_verdict.new.text) (codes " ") (verdict_words c.args.verdict c.args.hash.now.0) c.in_ok-push_str.ensures.bytes c.write_verdict.ensures
