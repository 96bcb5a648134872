use Rattle.std.proofs.Common.{◌≡◌, ◌∙◌, ◌≤◌, ℕ, inl, inr, refl, sym, subst, string_bytes, arith}
use Rattle.scp_history_command.specs.Serving.{IsReported}
use Rattle.scp_history_command.proofs.Standing.{not_three, few, three_or_not}
use Rattle.scp_history_command.proofs.serving.write_history.Goals as goal

pub finish-requires : goal.finish-requires
finish-requires g c = λ e. not_three c.in-Ok.ensures.told.lines (sym c.in-Ok.ensures.told.is_status ∙ e)

pub returns-in-Ok-clause-few : goal.returns-in-Ok-clause-few
returns-in-Ok-clause-few g c =
    let told = c.in-Ok.ensures.told in
    let small = few told.lines in
    elim (three_or_not c.finish.result) [
      | inl e ↦ omega (arith, e)
      | inr other ↦ (let same = (c.finish.ensures.written other).0 in let is = told.is_status in omega (arith, same, is, small))
    ]

pub returns-in-Ok-clause-done : goal.returns-in-Ok-clause-done
returns-in-Ok-clause-done g c = λ other.
    let written = c.finish.ensures.written other in
    (string_bytes c.in-Ok.told.text, subst (λ (code : ℕ). IsReported c.args.order c.args.archives.now.list.items (string_bytes c.in-Ok.told.text) code) (sym written.0) c.in-Ok.ensures.told, written.1, written.2)

pub returns-in-Ok-clause-failed : goal.returns-in-Ok-clause-failed
returns-in-Ok-clause-failed g c = λ three. inr (c.finish.ensures.failed three)

pub returns-in-Err-clause-done : goal.returns-in-Err-clause-done
returns-in-Err-clause-done g c = λ other. absurd (other c.tell.ensures.status)

pub returns-in-Err-clause-failed : goal.returns-in-Err-clause-failed
returns-in-Err-clause-failed g c = λ three. inl (c.tell.ensures.told, refl)
