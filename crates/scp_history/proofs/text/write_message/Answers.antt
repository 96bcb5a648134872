use Rattle.std.proofs.Common.{string_bytes}
use Rattle.std.specs.Prelude.{codes}
use Rattle.scp_history.specs.Words.{behind_space, spaced_verdict}
use Rattle.scp_history.specs.Lines.{head, spaced_place}
use Rattle.scp_history.proofs.Writing.{wrote_four}
use Rattle.scp_history.proofs.text.write_message.Goals as goal

pub returns : goal.returns
returns c = wrote_four c.write_behind_space.result (string_bytes c.args.text.now) (string_bytes c.write_head.new.text) (string_bytes c.write_spaced_place.new.text) (string_bytes c.write_spaced_verdict.new.text) (string_bytes c.write_behind_space.new.text) (head c.args.ledger (codes "message")) (spaced_place c.args.place) (spaced_verdict c.args.verdict c.args.hash.now.0) (behind_space c.args.by_number c.args.node.now) c.in_ok-write_head.ensures c.in_ok-write_spaced_place.ensures c.in_ok-write_spaced_verdict.ensures c.write_behind_space.ensures
