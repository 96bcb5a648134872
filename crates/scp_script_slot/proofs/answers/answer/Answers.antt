use Rattle.std.proofs.Common.{inl, inr, refl, sym, ◌∙◌, codes}
use Rattle.scp_script_slot.proofs.answers.answer.Goals as goal

pub returns-then-is_decided-clause-answer : goal.returns-then-is_decided-clause-answer
returns-then-is_decided-clause-answer g c = (codes "done\n", inl (sym c.is_decided.ensures.same ∙ c.if-is_decided.true, refl, refl), c.in_ok-write_done.ensures)

pub returns-clause-answer : goal.returns-clause-answer
returns-clause-answer g c =
    let shown = c.in_ok-write_output.ensures in
    (shown.0, inr (sym c.is_decided.ensures.same ∙ c.if-is_decided.false, record { out = c.in_ok-output.output; takes = c.in_ok-output.ensures.takes; decides = c.in_ok-output.ensures.decides; shown = shown.1 }), shown.2)
