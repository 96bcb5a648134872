use Rattle.std.proofs.Common.{string_bytes}
use Rattle.scp_notices.specs.Texts.{lost_words, count_words}
use Rattle.scp_notices.proofs.Joining.{joined}
use Rattle.scp_notices.proofs.text.write_overwritten.Goals as goal

pub returns : goal.returns
returns c = joined c.write_count.result (string_bytes c.args.text.now) (string_bytes c.write_lost.new.text) (string_bytes c.write_count.new.text) (lost_words c.args.node c.args.peer) (count_words c.args.count) c.in_ok-write_lost.ensures c.write_count.ensures
