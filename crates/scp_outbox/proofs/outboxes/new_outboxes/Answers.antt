use Rattle.std.proofs.Common.{rules, ◌≡◌, ◌∙◌, ◌++◌, ◌∷◌, [], ap, add-one}
use Rattle.std.specs.Prelude.{replicate}
use Rattle.scp_outbox.specs.Handing.{empty_outbox}
use Rattle.scp_outbox.proofs.Putting.{replicate-push}
use Rattle.scp_outbox.proofs.outboxes.new_outboxes.Goals as goal

pub loop-preserved : goal.loop-preserved
loop-preserved c =
    let items : c.push.new.self.items ≡ c.loop.outboxes.items ++ empty_outbox ∷ [] = search rules in
    record { made = rw add-one (items ∙ ap (λ xs. xs ++ empty_outbox ∷ []) c.loop.invariant.made ∙ replicate-push c.loop.counter empty_outbox) }

pub returns-clause-made : goal.returns-clause-made
returns-clause-made c =
    let all : c.loop.counter ≡ c.args.count = search rules in
    c.loop.invariant.made ∙ ap (λ n. replicate n empty_outbox) all
