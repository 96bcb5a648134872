use Rattle.std.proofs.Common.{◌≡◌, ◌∙◌, ap, List, [], ◌∷◌, ◌++◌, length, Option, arith}
use Rattle.std.proofs.lemmas.List.{length-append}
use Rattle.scp_threaded_node.specs.declared.make.Lane.{Lane}
use Rattle.scp_threaded_node.specs.declared.node.Source.{Source}
use Rattle.scp_threaded_node.specs.Outlets.{is_keeping}
use Rattle.scp_threaded_node.proofs.Lanes.{lanes_front, running_more, sources_front, driven_more, unused_front, unused_last, fresh_front, fresh_last, couriers_more, keeping_more}
use Rattle.scp_threaded_node.proofs.node.+start_lanes.Goals as goal

pub start_lanes-requires-clause-unused : goal.start_lanes-requires-clause-unused
start_lanes-requires-clause-unused g t c = λ lives outlive. unused_front c.pop.new.self.items c.args.lanes.items c.in-Some.last c.in-Some.ensures.items c.requires.unused

pub start_lanes-requires-clause-fresh : goal.start_lanes-requires-clause-fresh
start_lanes-requires-clause-fresh g t c = λ lives outlive. fresh_front c.last_of-source.new.sources.items c.args.sources.items c.last_of-source.result c.last_of-source.ensures.last c.requires.fresh

pub start_lane-requires-clause-unused : goal.start_lane-requires-clause-unused
start_lane-requires-clause-unused g t c = λ lives outlive. unused_last c.pop.new.self.items c.args.lanes.items c.in-Some.last c.in-Some.ensures.items c.requires.unused

pub start_lane-requires-clause-fresh : goal.start_lane-requires-clause-fresh
start_lane-requires-clause-fresh g t c = λ lives outlive. fresh_last c.last_of-source.new.sources.items c.args.sources.items c.last_of-source.result c.last_of-source.ensures.last c.requires.fresh

pub returns-clause-couriers : goal.returns-clause-couriers
returns-clause-couriers g t c =
    let grown = c.push_reserved.ensures.items ∙ ap (λ l. l ++ c.in_ok-next.next ∷ []) c.reserve.ensures.items in
    couriers_more c.last_of-source.new.sources.items c.args.sources.items c.last_of-source.result c.in_ok-running.running.items c.push_reserved.new.self.items c.in_ok-next.next c.last_of-source.ensures.last grown c.in_ok-running.ensures.couriers c.in_ok-next.ensures.courier

pub returns-clause-lanes : goal.returns-clause-lanes
returns-clause-lanes g t c = λ me peers inbox room lanes.
    let grown = c.push_reserved.ensures.items ∙ ap (λ l. l ++ c.in_ok-next.next ∷ []) c.reserve.ensures.items in
    running_more me peers inbox room c.pop.new.self.items c.args.lanes.items c.in-Some.last c.in_ok-running.running.items c.push_reserved.new.self.items c.in_ok-next.next
    c.in-Some.ensures.items grown c.in_ok-running.ensures.count c.in_ok-next.ensures.tail c.in_ok-next.ensures.reader lanes
    (c.in_ok-running.ensures.lanes me peers inbox room (lanes_front me peers inbox room c.pop.new.self.items c.args.lanes.items c.in-Some.last c.in-Some.ensures.items lanes))

pub returns-clause-driven : goal.returns-clause-driven
returns-clause-driven g t c = λ driven sources.
    let grown = c.push_reserved.ensures.items ∙ ap (λ l. l ++ c.in_ok-next.next ∷ []) c.reserve.ensures.items in
    let len : length c.in_ok-running.running.items ≡ length c.last_of-source.new.sources.items = omega (arith, c.in_ok-running.ensures.count, c.requires.sources, ap (λ (l : List Lane). length l) c.in-Some.ensures.items, length-append c.pop.new.self.items (c.in-Some.last ∷ []), ap (λ (l : List (Option Source)). length l) c.last_of-source.ensures.last, length-append c.last_of-source.new.sources.items (c.last_of-source.result ∷ [])) in
    driven_more driven c.last_of-source.new.sources.items c.args.sources.items c.last_of-source.result c.in_ok-running.running.items c.push_reserved.new.self.items c.in_ok-next.next
    c.last_of-source.ensures.last grown len c.in_ok-next.ensures.driven sources
    (c.in_ok-running.ensures.driven driven (sources_front driven c.last_of-source.new.sources.items c.args.sources.items c.last_of-source.result c.last_of-source.ensures.last sources))

pub returns-clause-keeps : goal.returns-clause-keeps
returns-clause-keeps g t c =
    let grown = c.push_reserved.ensures.items ∙ ap (λ l. l ++ c.in_ok-next.next ∷ []) c.reserve.ensures.items in
    keeping_more c.pop.new.self.items c.args.lanes.items c.in-Some.last c.in_ok-running.running.items c.push_reserved.new.self.items c.in_ok-next.next c.in-Some.ensures.items grown c.in_ok-running.ensures.keeps (ap is_keeping c.in_ok-next.ensures.reader)
