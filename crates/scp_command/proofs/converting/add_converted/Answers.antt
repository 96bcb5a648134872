use Rattle.std.proofs.Common.{◌≡◌, ◌++◌, List, ℕ, OnOk, codes, subst, string_bytes}
use Rattle.scp_convert.specs.declared.line.Outcome.{Outcome}
use Rattle.scp_convert.specs.Outcomes.{IsOutcome}
use Rattle.scp_command.proofs.Lines.{text_if_added, refusal_if_added}
use Rattle.scp_command.proofs.converting.add_converted.Goals as goal

pub returns-in-Text : goal.returns-in-Text
returns-in-Text c =
    let out = string_bytes c.args.out.now in
    let new = string_bytes c.add_text.new.out in
    let said = subst (λ (o : Outcome). IsOutcome c.args.conversion c.args.place c.args.line.now o) c.in-Text.is c.in_ok-text.ensures in
    let added = subst (λ (t : List ℕ). OnOk c.add_text.result (new ≡ out ++ (t ++ codes "\n"))) c.as_str.ensures.value c.add_text.ensures in
    text_if_added c.add_text.result c.args.conversion c.args.place c.args.line.now out new (string_bytes c.in-Text.text) c.args.refused.now.items c.requires said added

pub returns-in-Refused : goal.returns-in-Refused
returns-in-Refused c =
    let said = subst (λ (o : Outcome). IsOutcome c.args.conversion c.args.place c.args.line.now o) c.in-Refused.is c.in_ok-text.ensures in
    refusal_if_added c.add_refused.result c.args.conversion c.args.place c.args.line.now (string_bytes c.args.out.now) c.in-Refused.refusal c.args.refused.now.items c.add_refused.new.refused.items c.requires said c.add_refused.ensures
