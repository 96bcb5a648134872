use Rattle.std.proofs.Common.{◌≡◌, ◌∙◌, ap, sym, Some}
use Rattle.std.specs.Prelude.{slice_get}
use Rattle.std.proofs.lemmas.Option.{slice_get-get_or}
use Rattle.scp_turn.specs.Watch.{notes}
use Rattle.scp_turn.proofs.Lifting.{hear_one}
use Rattle.scp_turn.proofs.stepping.hear.Goals as goal

pub returns : goal.returns
returns g c =
    let nodes = c.args.nodes.now.items in
    let node = c.index_mut.result.now in
    let was : slice_get nodes c.args.index ≡ Some node = slice_get-get_or nodes c.args.index node c.requires.index ∙ ap (λ v. Some v) (sym c.index_mut.ensures.value) in
    hear_one (notes g.W.Watch.notes_before g.W.Watch.notes_after) nodes c.args.index node c.step_with.new.node c.args.event c.step_with.result c.args.watch.now c.step_with.new.watch was c.step_with.ensures.step c.step_with.ensures.theorem c.step_with.ensures.noted
