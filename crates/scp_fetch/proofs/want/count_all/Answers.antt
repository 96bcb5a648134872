use Rattle.std.proofs.Common.{rules, not, refl}
use Rattle.scp_fetch.specs.declared.want.Want.{Want}
use Rattle.scp_fetch.specs.declared.want.Miss.TheVariants.{All}
use Rattle.scp_fetch.specs.Wants.{is_last, count_miss}
use Rattle.scp_fetch.proofs.Tables.{walked_all, under_walked}
use Rattle.scp_fetch.proofs.want.count_all.Goals as goal

pub returns-clause-counted : goal.returns-clause-counted
returns-clause-counted c = walked_all _ (λ w. not (is_last All w)) (count_miss All) _ (λ k v b w h call. search rules) _ _ c.retain.ensures.filtered

pub returns-clause-under : goal.returns-clause-under
returns-clause-under c = under_walked _ (λ w. not (is_last All w)) (count_miss All) _ (λ k v b w h call. search rules) (λ w. refl) _ _ c.retain.ensures.filtered c.requires.under
