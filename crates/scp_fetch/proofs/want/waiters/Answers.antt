use Rattle.std.proofs.Common.{◌∙◌, sym, ap, []}
use Rattle.std.specs.Option.{option_map_or}
use Rattle.scp_fetch.proofs.Tables.{stands_of, waiting_of}
use Rattle.scp_fetch.proofs.want.waiters.Goals as goal

pub returns-in-Some : goal.returns-in-Some
returns-in-Some c = c.as_slice.ensures ∙ sym ((stands_of c.args.hash.now c.args.wants.now.entries c.requires.under c.len-distinct.ensures.unique).listed ∙ ap (λ r. option_map_or waiting_of r []) (sym c.in-Some.ensures.value))

pub returns-in-None : goal.returns-in-None
returns-in-None c = sym ((stands_of c.args.hash.now c.args.wants.now.entries c.requires.under c.len-distinct.ensures.unique).listed ∙ ap (λ r. option_map_or waiting_of r []) (sym c.in-None.ensures.value))
