use Rattle.std.proofs.Common.{string_bytes}
use Rattle.std.specs.Prelude.{codes}
use Rattle.scp_history.specs.Words.{behind_space}
use Rattle.scp_history.specs.Lines.{head, spaced_place}
use Rattle.scp_history.proofs.Writing.{wrote_four}
use Rattle.scp_history.proofs.text.write_contradicts.Goals as goal

pub returns : goal.returns
returns c = wrote_four c.write_spaced_place-2.result (string_bytes c.args.text.now) (string_bytes c.write_head.new.text) (string_bytes c.write_behind_space.new.text) (string_bytes c.write_spaced_place.new.text) (string_bytes c.write_spaced_place-2.new.text) (head c.args.ledger (codes "contradicts")) (behind_space c.args.by_number c.args.node.now) (spaced_place c.args.first) (spaced_place c.args.last) c.in_ok-write_head.ensures c.in_ok-write_behind_space.ensures c.in_ok-write_spaced_place.ensures c.write_spaced_place-2.ensures
