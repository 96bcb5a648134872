use Rattle.std.proofs.Common.{◌≡◌, length, refl, ◌∙◌, ap, set, get_or}
use Rattle.std.proofs.lemmas.List.{get_or_read_under}
use Rattle.scp_pending.specs.Queues.{resolved_one, is_hash}
use Rattle.scp_pending.specs.inside.Outcome.{outcome_of}
use Rattle.scp_pending.specs.declared.parked.Parked.{Parked}
use Rattle.scp_pending.proofs.Settling.{set_twice}
use Rattle.scp_pending.proofs.queue.settle_at.Goals as goal

pub returns : goal.returns
returns c = λ d.
    let xs = c.args.parked.now.items in
    let f = resolved_one (is_hash c.args.hash.now) (outcome_of c.args.outcome.now) in
    let at : c.index_mut.result.now ≡ get_or xs c.args.place d = get_or_read_under xs c.args.place (length xs) c.index_mut.result.now d c.index_mut.ensures.value c.requires.place refl in
    set_twice xs c.args.place c.replace-waiting.new.dest c.in_ok-parked.field-0
    ∙ ap (λ (p : Parked). set xs c.args.place p) (c.in_ok-parked.ensures ∙ ap f (c.replace-waiting.ensures.value ∙ at))
