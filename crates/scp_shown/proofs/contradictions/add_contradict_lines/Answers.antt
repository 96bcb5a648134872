use Rattle.std.proofs.Common.{◌∙◌, List, map, subst, ap}
use Rattle.scp_shown.specs.Contradictions.{Placed}
use Rattle.scp_shown.specs.declared.contradictions.Placed.{Placed as There}
use Rattle.scp_shown.specs.inside.Placing.{placed}
use Rattle.scp_shown.proofs.Pairing.{lines_of_same}
use Rattle.scp_shown.proofs.contradictions.add_contradict_lines.Goals as goal

pub returns-clause-added : goal.returns-clause-added
returns-clause-added c = lines_of_same c.args.ledger _ _ c.args.lines.now.items c.add_all.new.lines.items (ap (λ (l : List There). map placed l) c.as_slice.ensures.value ∙ c.in_ok-all.ensures) c.in_ok-add_all.ensures
