use Rattle.std.proofs.Common.{◌≡◌, ◌≢◌, inl, inr, arith, ℕ, List, subst, string_bytes}
use Rattle.scp_command.specs.Answers.{Answers}
use Rattle.scp_command.proofs.Finishing.{is_three}
use Rattle.scp_command.proofs.Headlining.{headlined}
use Rattle.scp_command.proofs.serving.serve.Goals as goal

pub returns-in-Ok-answer-clause-done : goal.returns-in-Ok-answer-clause-done
returns-in-Ok-answer-clause-done g c = λ done.
    let not_three : c.finish.result ≢ 3 = λ three. elim done [ inl e ↦ omega (arith, e, three) | inr e ↦ omega (arith, e, three) ] in
    let written = c.finish.ensures.written not_three in
    let made = subst (λ (text : List ℕ). Answers c.args.order.task text c.in-Ok-answer.answer) c.as_slice.ensures.value c.in-Ok-answer.ensures.answer in
    (c.in-Ok.text.items, c.in-Ok-answer.answer, c.in-Ok.ensures.all, c.in-Ok.ensures.limit, made, written.0, written.1, written.2)

pub returns-in-Ok-answer-clause-failed : goal.returns-in-Ok-answer-clause-failed
returns-in-Ok-answer-clause-failed g c = λ zero four.
    let three = is_three c.finish.result (string_bytes c.in-Ok-answer.answer.notices) (λ other. (c.finish.ensures.written other).0) zero four in
    let failed = c.finish.ensures.failed three in
    inr (inr (three, failed.0, failed.1))

pub returns-in-Ok-answer-clause-headline : goal.returns-in-Ok-answer-clause-headline
returns-in-Ok-answer-clause-headline g c = λ done.
    let not_three : c.finish.result ≢ 3 = λ three. elim done [ inl e ↦ omega (arith, e, three) | inr e ↦ omega (arith, e, three) ] in
    let made = subst (λ (text : List ℕ). Answers c.args.order.task text c.in-Ok-answer.answer) c.as_slice.ensures.value c.in-Ok-answer.ensures.answer in
    let laws = c.what_is_played_keeps_the_headlines.ensures in
    (c.in-Ok.text.items, c.in-Ok-answer.answer, c.in-Ok.ensures.all, headlined laws.played laws.reported c.args.order.task c.in-Ok.text.items c.in-Ok-answer.answer made, (c.finish.ensures.written not_three).1)
