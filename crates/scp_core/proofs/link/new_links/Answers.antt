use Rattle.std.proofs.Common.{rules, ◌≡◌, ◌∙◌, ◌++◌, ◌∷◌, [], ap, add-one}
use Rattle.std.specs.Prelude.{replicate}
use Rattle.scp_core.specs.Node.{new_link}
use Rattle.scp_core.proofs.Starting.{replicate-push}
use Rattle.scp_core.proofs.link.new_links.Goals as goal

pub loop-preserved : goal.loop-preserved
loop-preserved c =
    let items : c.push.new.self.items ≡ c.loop.links.items ++ new_link c.args.room ∷ [] = search rules in
    record { made = rw add-one (items ∙ ap (λ xs. xs ++ new_link c.args.room ∷ []) c.loop.invariant.made ∙ replicate-push c.loop.counter (new_link c.args.room)) }

pub returns-clause-new : goal.returns-clause-new
returns-clause-new c =
    let all : c.loop.counter ≡ c.args.count = search rules in
    c.loop.invariant.made ∙ ap (λ n. replicate n (new_link c.args.room)) all
