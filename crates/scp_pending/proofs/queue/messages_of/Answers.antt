use Rattle.std.proofs.Common.{arith, ◌≡◌, List, [], ◌∷◌, ◌++◌, sym, ap, ◌∙◌, subst, append_assoc}
use Rattle.std.proofs.lemmas.List.{append-nil, nil_from_length}
use Rattle.scp_pending.specs.Queues.{QueueView}
use Rattle.scp_pending.specs.inside.Outcome.{Adds, parked_in_all}
use Rattle.scp_pending.proofs.Messaging.{added_queue}
use Rattle.scp_pending.proofs.queue.messages_of.Goals as goal

pub loop-queue-preserved : goal.loop-queue-preserved
loop-queue-preserved c = (
  added_queue c.loop-queue.yielded c.in-Some.queue [] c.loop-queue.messages.items c.add_messages.new.messages.items c.loop-queue.invariant.0 c.in_ok-add_messages.ensures.added,
  c.loop-queue.invariant.1 ∙ ap (λ (l : List QueueView). c.loop-queue.yielded ++ l) c.in-Some.ensures.steps.0 ∙ sym (append_assoc c.loop-queue.yielded (c.in-Some.queue ∷ []) c.next.new.self.rest.items),
)

pub returns-clause-added : goal.returns-clause-added
returns-clause-added c =
    let none : c.loop-queue.queue-iterator.rest.items ≡ [] = nil_from_length c.loop-queue.queue-iterator.rest.items (omega (arith, c.loop-queue.queue-iterator.rest.ok, c.in-None.ensures.steps.0)) in
    let all : c.args.queues.items ≡ c.loop-queue.yielded = c.loop-queue.invariant.1 ∙ ap (λ (l : List QueueView). c.loop-queue.yielded ++ l) none ∙ append-nil c.loop-queue.yielded in
    subst (λ (qs : List QueueView). Adds (parked_in_all qs) [] c.loop-queue.messages.items) (sym all) c.loop-queue.invariant.0
