use Rattle.std.proofs.Common.{Bor, refl}
use Rattle.std.specs.Prelude.{option_map}
use Rattle.scp_words.specs.scp_envelope.specs.declared.statement.Statement.{Statement}
use Rattle.scp_draw_marks.specs.Lines.{are_same, said_at}
use Rattle.scp_draw_marks.proofs.Saying.{both_same, behind_equal}
use Rattle.scp_draw_marks.proofs.lines.says_it.Goals as goal

pub returns-then-mark-sender : goal.returns-then-mark-sender
returns-then-mark-sender c =
    let said = said_at c.args.tellings.now c.args.mark.now in
    let wanted = option_map (λ (s : Bor Statement). s.now) c.args.statement in
    behind_equal c.args.mark.now.node c.args.sender c.are_same.result (are_same said wanted) c.if-mark-sender.true
    (both_same (option_map (λ (s : Bor Statement). s.now) c.said_at.result) said wanted wanted c.are_same.result c.are_same.ensures c.said_at.ensures refl)
