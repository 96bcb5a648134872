use Rattle.std.proofs.Common.{rules, true, refl, ◌∙◌, ap, map}
use Rattle.scp_fetch.specs.declared.want.Want.{Want}
use Rattle.scp_fetch.specs.Wants.{unask}
use Rattle.scp_fetch.specs.inside.Table.{wants_in}
use Rattle.scp_fetch.proofs.Tables.{walked_all, under_walked, kept_all}
use Rattle.scp_fetch.proofs.want.note_unasked.Goals as goal

pub returns-clause-asked : goal.returns-clause-asked
returns-clause-asked c = walked_all _ (λ w. true) (unask c.args.link) _ (λ k v b w h call. search rules) _ _ c.retain.ensures.filtered ∙ ap (map (unask c.args.link)) (kept_all (wants_in c.args.wants.now.entries))

pub returns-clause-under : goal.returns-clause-under
returns-clause-under c = under_walked _ (λ w. true) (unask c.args.link) _ (λ k v b w h call. search rules) (λ w. refl) _ _ c.retain.ensures.filtered c.requires.under
