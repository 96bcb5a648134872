use Rattle.std.proofs.Common.{◌≡◌, ◌∙◌, ap, sym, Some}
use Rattle.std.specs.Prelude.{slice_get}
use Rattle.std.proofs.lemmas.Option.{slice_get-get_or}
use Rattle.scp_turn.specs.Watch.{notes}
use Rattle.scp_turn.proofs.Lifting.{works}
use Rattle.scp_turn.proofs.stepping.work_at.Goals as goal

pub returns : goal.returns
returns g c =
    let nodes = c.args.nodes.now.items in
    let node = c.index_mut.result.now in
    let was : slice_get nodes c.args.index ≡ Some node = slice_get-get_or nodes c.args.index node c.requires.index ∙ ap (λ v. Some v) (sym c.index_mut.ensures.value) in
    works (notes g.W.Watch.notes_before g.W.Watch.notes_after) nodes c.args.index c.args.links node c.work.new.node c.args.watch.now c.work.new.watch c.work.result was c.work.ensures
