use Rattle.std.proofs.Common.{inl, inr, List, ℕ, subst, string_bytes}
use Rattle.scp_command.specs.Converting.{AreConverted, lines_of, reported_of}
use Rattle.scp_command.specs.Serving.{AreTold}
use Rattle.scp_command.proofs.Finishing.{three_or_not}
use Rattle.scp_command.proofs.converting.convert.Goals as goal

pub returns-in-Ok-convert_text-clause-ends : goal.returns-in-Ok-convert_text-clause-ends
returns-in-Ok-convert_text-clause-ends g c =
    let made = c.in-Ok-convert_text.made in
    elim (three_or_not c.finish.result) [
      | inl three ↦
          let failed = c.finish.ensures.failed three in
          inr (inr (inr (three, failed.0, failed.1)))
      | inr other ↦
          let written = c.finish.ensures.written other in
          let converted = subst (λ (text : List ℕ). AreConverted c.args.order.conversion 1 (lines_of text) (string_bytes made.text) made.refused.items) c.as_slice.ensures.value c.in-Ok-convert_text.ensures in
          let told = subst (λ (text : List ℕ). AreTold g.E.ReportOut.written g.E.ReportOut.failures c.args.errors.now c.args.order.conversion c.args.order.name.now text (reported_of c.args.order.whole made.refused.items) c.finish.new.errors) c.as_slice-in-Ok-convert_text.ensures.value written.2 in
          inl (c.in-Ok.text.items, string_bytes made.text, made.refused.items, c.in-Ok.ensures.all, c.in-Ok.ensures.limit, converted, written.0, written.1, told)
    ]
