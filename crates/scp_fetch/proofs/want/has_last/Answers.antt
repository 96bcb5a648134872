use Rattle.std.proofs.Common.{◌∙◌, sym, ap, false}
use Rattle.std.specs.Option.{option_map_or}
use Rattle.scp_fetch.specs.Wants.{is_last}
use Rattle.scp_fetch.proofs.Tables.{stands_of}
use Rattle.scp_fetch.proofs.want.has_last.Goals as goal

pub returns-in-Some : goal.returns-in-Some
returns-in-Some c = c.ends.ensures ∙ sym ((stands_of c.args.hash.now c.args.wants.now.entries c.requires.under c.len-distinct.ensures.unique).found (is_last c.args.miss) ∙ ap (λ r. option_map_or (is_last c.args.miss) r false) (sym c.in-Some.ensures.value))

pub returns-in-None : goal.returns-in-None
returns-in-None c = sym ((stands_of c.args.hash.now c.args.wants.now.entries c.requires.under c.len-distinct.ensures.unique).found (is_last c.args.miss) ∙ ap (λ r. option_map_or (is_last c.args.miss) r false) (sym c.in-None.ensures.value))
