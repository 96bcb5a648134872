use Rattle.std.proofs.Common.{rules, Ok}
use Rattle.std.proofs.lemmas.Iterator.{items_from_collect, YieldsList-from_map}
use Rattle.std.proofs.lemmas.Iterator.Consumers.{YieldsList-from_filter, YieldsList-from_rest, YieldsList-at}
use Rattle.scp_fetch.specs.declared.want.Want.{Want}
use Rattle.scp_fetch.specs.declared.want.Miss.TheVariants.{All}
use Rattle.scp_fetch.specs.Wants.{is_last}
use Rattle.scp_fetch.specs.inside.Table.{wants_in}
use Rattle.scp_fetch.proofs.want.last_hashes.Goals as goal

pub returns-clause-hashes : goal.returns-clause-hashes
returns-clause-hashes c =
    items_from_collect {E = Unit {0}} (Ok c.in_ok-collect.field-0) c.in_ok-collect.ensures.ran
    (YieldsList-from_map _ (λ (w : Want). w.hash) (YieldsList-at c.map.ensures.source (YieldsList-from_filter _ (is_last All) (YieldsList-at c.filter.ensures.source (YieldsList-from_rest (wants_in c.args.wants.now.entries) c.values.ensures.rest)) c.filter.ensures.closure (λ x b q call. search rules))) c.map.ensures.closure (λ x r q call. search rules))
