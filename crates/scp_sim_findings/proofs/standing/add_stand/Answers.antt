use Rattle.std.proofs.Common.{◌≡◌, ◌∙◌, ◌<◌, ◌++◌, ℕ, List, inr, ap, refl, string_bytes, subst}
use Rattle.std.specs.Prelude.{Result, Ok, Err, OnOk, IfSome, if◌then◌else◌}
use Rattle.std.specs.Result.{is_ok}
use Rattle.scp_sim_findings.specs.declared.running.Told.{Told}
use Rattle.scp_sim_findings.specs.Needs.{IsStandOf}
use Rattle.scp_sim_findings.specs.Told.{TellsStand}
use Rattle.scp_sim_findings.proofs.standing.add_stand.Goals as goal

-- the status of the nodes was put behind the report
stand_put : {E : Type 0} (old new : Told) (text put : List ℕ) (r : Result (Unit {0}) E) (P : Type 0) → put ≡ text → IsStandOf old.script.items text → new ≡ record old { text = new.text } → string_bytes new.text ≡ (if is_ok r then string_bytes old.text ++ put else string_bytes old.text) → OnOk r (P → TellsStand old new)
stand_put old new text put (Ok done) P same stands rest is = λ _. record { stand = inr (text, stands, is ∙ ap (λ (l : List ℕ). string_bytes old.text ++ l) same); rest = rest }
stand_put old new text put (Err fault) P same stands rest is = tt

pub returns-in-Some-clause-stand : goal.returns-in-Some-clause-stand
returns-in-Some-clause-stand c =
    stand_put c.args.told.now (record c.args.told.now { text = c.push_str.new.self }) (string_bytes c.in-Some.text) c.as_str.result.now c.push_str.result (c.args.told.now.closed < c.args.plan.now.slots) c.as_str.ensures.value
    (subst (λ (s : List ℕ). IsStandOf s (string_bytes c.in-Some.text)) c.as_slice.ensures.value (subst (λ o. IfSome o (λ text. IsStandOf c.as_slice.result.now (string_bytes text))) c.in-Some.is c.in_ok-text.ensures))
    refl c.push_str.ensures.bytes
