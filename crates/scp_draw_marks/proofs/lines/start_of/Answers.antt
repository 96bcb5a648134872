use Rattle.std.proofs.Common.{ℕ, Bor, Option, ◌∙◌, ap}
use Rattle.std.specs.Prelude.{option_map}
use Rattle.scp_words.specs.scp_envelope.specs.declared.statement.Statement.{Statement}
use Rattle.scp_draw_marks.specs.Lines.{sender_at, row_said, begins_in}
use Rattle.scp_draw_marks.proofs.lines.start_of.Goals as goal

pub returns : goal.returns
returns c =
    let tellings = c.args.tellings.now in
    let marks = c.args.marks.now in
    let mark = c.args.mark.now in
    c.begins_in.ensures
    ∙ ap (λ (said : Option ℕ). begins_in mark.from said)
    (c.row_said-said.ensures
    ∙ ap (λ (sender : ℕ). row_said tellings sender (option_map (λ (s : Bor Statement). s.now) c.taken_at-statement.result) marks) c.sender_at-sender.ensures
    ∙ ap (λ (statement : Option Statement). row_said tellings (sender_at c.args.nodes.now tellings mark) statement marks) c.taken_at-statement.ensures)
