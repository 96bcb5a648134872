-- What a node holds, added up.
use Rattle.std.proofs.Common.{◌+◌, ◌*◌, ◌≤◌, List, [], ◌∷◌, length, Option, Some, None, ap, arith}
use Rattle.std.specs.Prelude.{All, sum_by, count_by, option_to_list}
use Rattle.std.proofs.lemmas.List.{length-append}
use Rattle.std.proofs.lemmas.List.Elements.{All-head, All-tail}
use Rattle.std.proofs.lemmas.List.Sums.{sum_by-cons}
use Rattle.scp_workers.specs.scp_wire.specs.declared.link.Inbound.{Inbound}
use Rattle.scp_workers.specs.scp_wire.specs.Reading.{ReadingIsSpelt}
use Rattle.scp_workers.specs.scp_pending.specs.declared.ready.Ready.{Ready}
use Rattle.scp_workers.specs.scp_pending.specs.Rules.{PendingView, Settled}
use Rattle.scp_gather.specs.Count.{FilledLink, IsInHand, IsLinkWithin, TookOne, is_message, parked_in_all, messages_held, link_held, link_room, HoldsAtMost}
use Rattle.scp_gather.proofs.Hand.{few_in_hand}
use Rattle.scp_gather.proofs.Small.{few_held}
use Rattle.scp_gather.proofs.Taking.{append_messages, one_take}

hand_few : ReadingIsSpelt → (hand : List Inbound) → IsInHand hand → length hand ≤ 32
hand_few spelt hand h = omega (arith, few_in_hand spelt h.at h.item h.bytes, ap (λ (l : List Inbound). length l) h.rest, length-append h.sent hand)

in_links : ReadingIsSpelt → (ks : List FilledLink) → All IsLinkWithin ks → sum_by link_held ks ≤ sum_by link_room ks
in_links spelt [] all = omega arith
in_links spelt (k ∷ ks) all =
    let here = All-head IsLinkWithin k ks all in
    omega (arith, sum_by-cons link_held k ks, sum_by-cons link_room k ks, here.channel, hand_few spelt k.hand here.hand, in_links spelt ks (All-tail IsLinkWithin k ks all))

in_pending : (old now : PendingView) → TookOne old now → messages_held now ≤ 64 * length old.settled.queues + 1
in_pending old now t =
    let out = append_messages t.out now.leaving in
    let all = ap (λ (rs : List Ready). count_by is_message rs) t.left in
    let parked = ap (λ (s : Settled). parked_in_all s.queues) t.settled in
    omega (arith, out, all, parked, one_take old.settled t.item, few_held t.me t.peers t.took t.gave old t.pends)

one_at_most : {T : Type 0} (o : Option T) → length (option_to_list o) ≤ 1
one_at_most None = omega arith
one_at_most (Some x) = omega arith

pub holds_at_most : ReadingIsSpelt → HoldsAtMost
holds_at_most spelt h k =
    omega (arith, in_links spelt h.links k.links, k.inbox, k.ready, k.decided, one_at_most h.given, one_at_most h.slot, one_at_most h.deciding, in_pending h.settled h.pending k.pending, k.applier.few)
