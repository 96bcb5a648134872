use Rattle.std.proofs.Common.{◌≡◌, ◌∙◌, refl, ap, sym, Some}
use Rattle.std.specs.Prelude.{slice_get}
use Rattle.std.proofs.lemmas.Option.{slice_get-get_or}
use Rattle.scp_notices.specs.declared.commands.Queue.{Queue}
use Rattle.scp_notices.proofs.commands.next_at.Goals as goal

pub returns : goal.returns
returns c =
    let queues = c.args.queues.now.items in
    let queue = c.index_mut.result.now in
    let was : slice_get queues c.args.place ≡ Some queue = slice_get-get_or queues c.args.place queue c.requires.place ∙ ap (λ (q : Queue). Some q) (sym c.index_mut.ensures.value) in
    (queue, c.next.new.queue, was, c.next.ensures, refl)
