use Rattle.std.proofs.Common.{◌≡◌, ◌∙◌, sym, ap, nat_eq, ◌++◌, ◌∷◌, [], false}
use Rattle.std.specs.Prelude.{None}
use Rattle.std.specs.Cmp.Lexicographic.{pointwise}
use Rattle.indexmap.specs.IndexMap.{get}
use Rattle.indexmap.proofs.CallerLemmas.{insert_entry-new}
use Rattle.scp_fetch.specs.declared.want.Want.{Want}
use Rattle.scp_fetch.specs.inside.Table.{wants_in}
use Rattle.scp_fetch.proofs.Tables.{stands_of, none_of, wants_push, under_push}
use Rattle.scp_fetch.proofs.want.add_want.Goals as goal

pub returns-clause-added : goal.returns-clause-added
returns-clause-added c =
    let absent : get (pointwise nat_eq) c.args.wants.now c.args.hash.now.0 ≡ None = none_of _ ((stands_of c.args.hash.now c.args.wants.now.entries c.requires.under c.len-distinct.ensures.unique).wanted ∙ c.requires.new) in
    ap wants_in (c.in_ok-insert.ensures.entries ∙ insert_entry-new (pointwise nat_eq) c.args.wants.now c.args.hash.now.0 c.in_ok-want.want absent) ∙ wants_push c.args.wants.now.entries (c.args.hash.now.0, c.in_ok-want.want) ∙ ap (λ (w : Want). wants_in c.args.wants.now.entries ++ w ∷ []) c.in_ok-want.ensures.made

pub returns-clause-under : goal.returns-clause-under
returns-clause-under c =
    let absent : get (pointwise nat_eq) c.args.wants.now c.args.hash.now.0 ≡ None = none_of _ ((stands_of c.args.hash.now c.args.wants.now.entries c.requires.under c.len-distinct.ensures.unique).wanted ∙ c.requires.new) in
    rw (c.in_ok-insert.ensures.entries ∙ insert_entry-new (pointwise nat_eq) c.args.wants.now c.args.hash.now.0 c.in_ok-want.want absent) (under_push c.args.wants.now.entries (c.args.hash.now.0, c.in_ok-want.want) c.requires.under (ap (λ (w : Want). w.hash.0) (sym c.in_ok-want.ensures.made)))
