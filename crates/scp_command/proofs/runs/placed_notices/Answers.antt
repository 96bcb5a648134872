use Rattle.std.proofs.Common.{◌≡◌, ◌++◌, ◌∷◌, [], List, ap, ◌∙◌, sym, map, rules}
use Rattle.std.proofs.lemmas.List.{map-append, map-id}
use Rattle.std.proofs.lemmas.Iterator.Consumers.{YieldsList-end}
use Rattle.std.proofs.lemmas.Iterator.Adapters.{YieldsList-from_vec}
use Rattle.scp_notices.specs.declared.notice.Notice.{Notice}
use Rattle.scp_command.specs.Answers.{placed_notice}
use Rattle.scp_command.proofs.runs.placed_notices.Goals as goal

pub loop-notice-preserved : goal.loop-notice-preserved
loop-notice-preserved c =
    let out = c.loop-notice.out.items in
    let f : Notice → Notice = placed_notice c.args.expanded.now.lines in
    c.in_ok-push.ensures.items
    ∙ ap (λ (n : Notice). out ++ n ∷ []) c.placed_of.ensures
    ∙ ap (λ (l : List Notice). l ++ f c.in-Some.notice ∷ []) c.loop-notice.invariant
    ∙ sym (map-append f c.loop-notice.yielded (c.in-Some.notice ∷ []))

pub returns : goal.returns
returns c =
    let end = YieldsList-end (YieldsList-from_vec {s = c.into_iter-notice-iterator.result} c.args.notices.items (search rules) (search rules))
    c.loop-notice.yielded c.loop-notice.notice-iterator c.loop-notice.yielded_by c.next.result c.next.new.self c.in-None.is c.next.ensures.steps in
    c.loop-notice.invariant ∙ ap (λ (l : List Notice). map (placed_notice c.args.expanded.now.lines) l) (sym (map-id c.loop-notice.yielded) ∙ end.0)
