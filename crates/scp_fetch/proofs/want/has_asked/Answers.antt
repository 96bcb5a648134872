use Rattle.std.proofs.Common.{◌∙◌, sym, ap, false, Bool}
use Rattle.std.specs.Prelude.{slice_index_or}
use Rattle.std.specs.Option.{option_map_or}
use Rattle.scp_fetch.specs.declared.want.Want.{Want}
use Rattle.scp_fetch.proofs.Tables.{stands_of}
use Rattle.scp_fetch.proofs.want.has_asked.Goals as goal

pub returns-in-Some : goal.returns-in-Some
returns-in-Some c =
    let P : Want → Bool = λ w. slice_index_or w.asked c.args.link false in
    sym ((stands_of c.args.hash.now c.args.wants.now.entries c.requires.under c.len-distinct.ensures.unique).found P ∙ ap (λ r. option_map_or P r false) (sym c.in-Some.ensures.value))

pub returns-in-None : goal.returns-in-None
returns-in-None c =
    let P : Want → Bool = λ w. slice_index_or w.asked c.args.link false in
    sym ((stands_of c.args.hash.now c.args.wants.now.entries c.requires.under c.len-distinct.ensures.unique).found P ∙ ap (λ r. option_map_or P r false) (sym c.in-None.ensures.value))
