use Rattle.std.proofs.Common.{◌++◌, ◌∷◌, [], ◌∙◌, ℕ, sym, subst}
use Rattle.scp_theorem.specs.scp_ledger.specs.Onwards.{KeepsWindow}
use Rattle.scp_theorem.specs.scp_apply.specs.Applies.{Applies}
use Rattle.scp_theorem.specs.Handed.{Answers}
use Rattle.scp_workers.specs.Handing.{outgoing_of}
use Rattle.scp_theorem.proofs.Serving.{answers_one}
use Rattle.scp_workers.proofs.apply.ApplierStageOnwardInWindowNothingAny.take.Goals as goal

pub take-requires : goal.take-requires
take-requires g c = record { next = λ _. c.what_holds_of_an_applier_holds_with_one_thing_more.ensures.keeps_up c.requires.fits.1 c.args.self.now c.args.onward c.requires.fits.4.applies (subst (λ (n : ℕ). KeepsWindow n (c.requires.fits.1 ++ c.args.onward ∷ [])) (sym c.requires.fits.4.from_one) c.requires.fits.5) }

pub returns-in-Ok-clause-runs : goal.returns-in-Ok-clause-runs
returns-in-Ok-clause-runs g c = λ first took gave out h.
    let old = c.args.self.now in
    let new = c.take.new.self in
    let applies : Applies (took ++ c.args.onward ∷ []) new = c.what_holds_of_an_applier_holds_with_one_thing_more.ensures.passes.passes took old c.args.onward c.in-Ok.answer new c.in-Ok.ensures.takes c.take.ensures.known c.take.ensures.running h.applies in
    let answer : Answers old c.args.onward c.in-Ok.answer new = record { takes = c.in-Ok.ensures.takes; known = applies.known; running = applies.running } in (
      record {
        begun = h.begun;
        applies = applies;
        answers = answers_one first old new took out (outgoing_of c.answered.result) c.args.onward c.in-Ok.answer h.answers answer c.answered.ensures.made;
        from_one = c.take.ensures.first ∙ h.from_one;
        no_base = c.take.ensures.base ∙ h.no_base;
      },
      tt,
    )
