use Rattle.std.proofs.Common.{◌++◌, ◌∷◌, [], ap, ◌∙◌, arith}
use Rattle.scp_draw_marks.specs.declared.topic.Letter.{Letter}
use Rattle.scp_draw_marks.specs.Places.{next_letter}
use Rattle.scp_draw_marks.proofs.Placing.{letters_more, letters_done}
use Rattle.scp_draw_marks.proofs.marks.add_letters.Goals as goal

pub loop-preserved : goal.loop-preserved
loop-preserved c =
    letters_more c.args.count c.loop.counter c.args.conn c.args.topic c.args.row c.loop.letters.items c.push.new.self.items _ (omega arith)
    (c.in_ok-push.ensures.items ∙ ap (λ (x : Letter). c.loop.letters.items ++ x ∷ []) (c.letter_behind-letter.ensures ∙ ap (next_letter c.args.conn c.args.topic c.args.row) c.as_slice.ensures.value))
    c.loop.invariant

pub returns-clause-added : goal.returns-clause-added
returns-clause-added c = letters_done c.args.count c.loop.counter c.args.conn c.args.topic c.args.row c.loop.letters.items _ (omega arith) c.loop.invariant
