use Rattle.std.proofs.Common.{string_bytes}
use Rattle.scp_history.specs.Lines.{externalizers_text, others_text}
use Rattle.scp_history.proofs.Writing.{wrote_two}
use Rattle.scp_history.proofs.text.write_said.Goals as goal

pub returns : goal.returns
returns c = wrote_two c.write_others.result (string_bytes c.args.text.now) (string_bytes c.write_externalizers.new.text) (string_bytes c.write_others.new.text) (externalizers_text c.args.counts.externalize) (others_text c.args.counts) c.in_ok-write_externalizers.ensures c.write_others.ensures
