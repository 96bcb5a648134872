use Rattle.std.proofs.Common.{◌≡◌, ◌<◌, ◌≤◌, length, ◌++◌, List, get_or, subst, sym, arith, ap, ◌∙◌, []}
use Rattle.std.proofs.lemmas.List.{drop_all, take_all, append-nil}
use Rattle.std.specs.Prelude.{take, drop}
use Rattle.std.proofs.lemmas.Option.{slice_get-get_or}
use Rattle.scp_wire.specs.declared.message.Message.{Message}
use Rattle.scp_outbox.specs.Outbox.{OutboxView, Puts}
use Rattle.scp_outbox.specs.Handing.{HandsOut, to_each}
use Rattle.scp_outbox.proofs.Putting.{PutBelow, none_put, one_more, all_put}
use Rattle.scp_outbox.proofs.outboxes.put_each.Goals as goal

pub loop-outbox-init : goal.loop-outbox-init
loop-outbox-init c = subst (λ (xs : List OutboxView). PutBelow c.args.outboxes.now.items c.args.message.now 0 xs) (sym c.deref_mut-outbox-items.ensures.value) (none_put c.args.outboxes.now.items c.args.message.now)

pub loop-outbox-preserved : goal.loop-outbox-preserved
loop-outbox-preserved c =
    let xs : List OutboxView = c.loop-outbox.outbox-items in
    let i = c.loop-outbox.outbox-index in
    let d : OutboxView = c.outbox-item.result in
    let inside : i < length xs = omega arith in
    one_more c.args.outboxes.now.items c.args.message.now i xs (get_or xs i d) c.put.new.self
    (slice_get-get_or xs i d inside)
    (subst (λ (m : Message). Puts (get_or xs i d) m c.put.new.self) c.in_ok-copy.ensures.same c.put.ensures)
    c.loop-outbox.invariant

pub returns-clause-puts : goal.returns-clause-puts
returns-clause-puts c =
    let xs : List OutboxView = c.loop-outbox.outbox-items in
    let ys : List OutboxView = c.args.outboxes.now.items in
    let count : length xs ≡ length ys = c.loop-outbox.invariant.count in
    let ended : length ys ≤ c.loop-outbox.outbox-index = omega (arith, c.loop-outbox.auto.outbox-items) in
    let full : c.args.outboxes.now.len ≡ length ys = omega (arith, c.deref_mut-outbox-items.ensures.len, ap length c.deref_mut-outbox-items.ensures.value) in
    let none : drop (length xs) ys ≡ [] = drop_all (length xs) ys (omega arith) in
    let all : take c.args.outboxes.now.len (xs ++ drop (length xs) ys) ≡ xs = ap (λ (t : List OutboxView). take c.args.outboxes.now.len (xs ++ t)) none ∙ ap (take c.args.outboxes.now.len) (append-nil xs) ∙ take_all c.args.outboxes.now.len xs (omega arith) in
    subst (HandsOut ys (to_each c.args.message.now)) (sym all) (all_put ys c.args.message.now c.loop-outbox.outbox-index xs c.get.ensures.fits ended c.loop-outbox.invariant)
