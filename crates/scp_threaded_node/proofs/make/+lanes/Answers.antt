use Rattle.std.proofs.Common.{◌≡◌, ◌∙◌, ℕ, List, ap, sym, subst, [], ◌∷◌, ◌++◌, length, arith}
use Rattle.std.proofs.lemmas.List.{length-append}
use Rattle.std.proofs.lemmas.Option.{slice_get-get_or}
use Rattle.std.specs.Prelude.{slice_get, get_or}
use Rattle.scp_gather.specs.scp_wire.specs.declared.link.Inbound.{Inbound}
use Rattle.scp_gather.specs.scp_ends.specs.Ends.{Line, Sender}
use Rattle.scp_threaded_node.specs.Seats.{IsLane}
use Rattle.scp_threaded_node.proofs.Lists.{fresh_front, fresh_last}
use Rattle.scp_threaded_node.proofs.Lanes.{lanes_more, unused_more, keep_more}
use Rattle.scp_threaded_node.proofs.make.+lanes.Goals as goal

pub lanes-requires : goal.lanes-requires
lanes-requires t c =
    let grown = ap (λ (l : List (Sender Inbound)). length l) c.in-Some.ensures.items in
    let one = length-append c.pop.new.self.items (c.in-Some.last ∷ []) in
    (omega (arith, grown, one), ((omega (arith, c.requires.few.0, grown, one), c.requires.few.1), (fresh_front c.args.rx.now.line c.pop.new.self.items c.args.ends.items c.in-Some.last c.in-Some.ensures.items c.requires.fresh, c.requires.room)))

pub make_lane-requires-clause-unused : goal.make_lane-requires-clause-unused
make_lane-requires-clause-unused t c =
    let is = fresh_last c.args.rx.now.line c.pop.new.self.items c.args.ends.items c.in-Some.last c.in-Some.ensures.items c.requires.fresh in
    (ap (λ (s : Sender Inbound). s.sent) is, omega (arith, ap (λ (s : Sender Inbound). s.number) is))

pub returns-clause-lanes : goal.returns-clause-lanes
returns-clause-lanes t c =
    let is = fresh_last c.args.rx.now.line c.pop.new.self.items c.args.ends.items c.in-Some.last c.in-Some.ensures.items c.requires.fresh in
    let grown = c.push_reserved.ensures.items ∙ ap (λ l. l ++ c.in_ok-next.next ∷ []) c.reserve.ensures.items in
    let count : length c.in_ok-lanes.lanes.items ≡ c.len-place.result = omega (arith, c.in_ok-lanes.ensures.count) in
    let few = ap (λ (l : List (Sender Inbound)). length l) c.in-Some.ensures.items in
    let one = length-append c.pop.new.self.items (c.in-Some.last ∷ []) in
    let peer = get_or c.args.peers.now c.len-place.result (record { 0 = [] }) in
    lanes_more c.args.me c.args.peers.now c.args.rx.now.line c.args.capacity c.in_ok-lanes.lanes.items c.push_reserved.new.self.items c.in_ok-next.next peer grown
    (ap (slice_get c.args.peers.now) count ∙ slice_get-get_or c.args.peers.now c.len-place.result (record { 0 = [] }) (omega (arith, few, one, c.requires.few.0)))
    (subst (λ (n : ℕ). IsLane c.args.me peer c.args.rx.now.line c.args.capacity n c.in_ok-next.next.tail c.in_ok-next.next.reader) (sym count)
    (subst (λ (line : Line Inbound). IsLane c.args.me peer line c.args.capacity c.len-place.result c.in_ok-next.next.tail c.in_ok-next.next.reader) (ap (λ (s : Sender Inbound). s.line) is) c.in_ok-next.ensures.lane))
    c.in_ok-lanes.ensures.lanes

pub returns-clause-unused : goal.returns-clause-unused
returns-clause-unused t c =
    let grown = c.push_reserved.ensures.items ∙ ap (λ l. l ++ c.in_ok-next.next ∷ []) c.reserve.ensures.items in
    unused_more c.in_ok-lanes.lanes.items c.push_reserved.new.self.items c.in_ok-next.next grown c.in_ok-next.ensures.unused c.in_ok-lanes.ensures.unused

pub returns-clause-keeps : goal.returns-clause-keeps
returns-clause-keeps t c =
    let grown = c.push_reserved.ensures.items ∙ ap (λ l. l ++ c.in_ok-next.next ∷ []) c.reserve.ensures.items in
    keep_more c.args.keeps c.in_ok-lanes.lanes.items c.push_reserved.new.self.items c.in_ok-next.next grown c.in_ok-next.ensures.keeps c.in_ok-lanes.ensures.keeps
