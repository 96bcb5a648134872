use Rattle.std.proofs.Common.{Bor}
use Rattle.std.specs.Prelude.{option_map}
use Rattle.scp_words.specs.scp_envelope.specs.declared.statement.Statement.{Statement}
use Rattle.scp_draw_marks.specs.Lines.{said_at, taken_at}
use Rattle.scp_draw_marks.proofs.Saying.{both_same}
use Rattle.scp_draw_marks.proofs.lines.takes_it.Goals as goal

pub returns : goal.returns
returns c =
    both_same (option_map (λ (s : Bor Statement). s.now) c.said_at.result) (said_at c.args.tellings.now c.args.mark.now) (option_map (λ (s : Bor Statement). s.now) c.taken_at.result) (taken_at c.args.nodes.now c.args.tellings.now c.args.other.now)
    c.are_same.result c.are_same.ensures c.said_at.ensures c.taken_at.ensures
