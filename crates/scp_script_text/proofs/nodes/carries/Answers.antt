use Rattle.std.proofs.Common.{◌∙◌, [], ap, refl, is_some, rules, tests}
use Rattle.std.proofs.lemmas.Iterator.Splits.{YieldsList-from_slice_split}
use Rattle.std.proofs.lemmas.Iterator.Consumers.{YieldsList-turn, YieldsList-end}
use Rattle.scp_text.specs.Messages.{words_of}
use Rattle.scp_script_text.specs.Lines.{carried_in}
use Rattle.scp_script_text.proofs.Words.{first_word}
use Rattle.scp_script_text.proofs.nodes.carries.Goals as goal

pub returns-in-Some : goal.returns-in-Some
returns-in-Some c =
    let road = YieldsList-from_slice_split {s = c.split.result} _ _ c.args.line.now c.split.ensures.rest c.split.ensures.done c.split.ensures.closure (λ x r q k. search (rules, tests)) in
    let first = YieldsList-turn road [] _ refl _ _ c.in-Some.verb c.in-Some.is c.next.ensures.steps in
    c.is_some.ensures ∙ ap is_some c.carried_with.ensures ∙ first_word (words_of c.args.line.now) c.in-Some.verb.now first

pub returns-in-None : goal.returns-in-None
returns-in-None c =
    let road = YieldsList-from_slice_split {s = c.split.result} _ _ c.args.line.now c.split.ensures.rest c.split.ensures.done c.split.ensures.closure (λ x r q k. search (rules, tests)) in
    let end = YieldsList-end road [] _ refl _ _ c.in-None.is c.next.ensures.steps in
    ap (λ ws. is_some (carried_in ws)) end.0
