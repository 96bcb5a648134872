use Rattle.std.proofs.Common.{arith, ◌≡◌, ◌∙◌, false, ap, sym, [], ◌∷◌, length, get_or}
use Rattle.std.specs.Prelude.{slice_get}
use Rattle.std.proofs.lemmas.List.{length-append}
use Rattle.std.proofs.lemmas.Option.{slice_get-get_or}
use Rattle.scp_threaded_node.proofs.Leaving.{left_more, sent_left, driven_front, driven_last}
use Rattle.std.specs.Result.{result_err}
use Rattle.scp_threaded_node.proofs.Told.{first_none, readers_more, ended_more}
use Rattle.scp_threaded_node.proofs.ending.+end_lanes.Goals as goal

pub returns-clause-left : goal.returns-clause-left
returns-clause-left g t c = λ lost whole.
    let added = c.add.ensures.kept lost whole in
    let before = first_none c.end_lanes-left.result.fault (result_err c.end_lane-reader.result.1) c.add.new.lanes.fault c.add.ensures.fault whole in
    left_more c.args.lanes.items c.pop.new.self.items c.in-Some.last c.in-Some.ensures.items c.end_lanes-left.result.readers.items c.end_lanes-left.result.links.items c.end_lanes-left.result.takers.items
    c.end_lane-reader.result.0 c.end_lane-reader.result.1 added.2 added.3 c.add.new.lanes.readers.items added.1 c.add.new.lanes.links.items added.4 c.add.new.lanes.takers.items added.5
    (c.end_lanes-left.ensures.left added.0 before) c.end_lane-reader.ensures.reader c.end_lane-reader.ensures.same c.end_lane-reader.ensures.back

pub returns-clause-sent : goal.returns-clause-sent
returns-clause-sent g t c = λ driven sent all lost whole.
    let added = c.add.ensures.kept lost whole in
    let before = first_none c.end_lanes-left.result.fault (result_err c.end_lane-reader.result.1) c.add.new.lanes.fault c.add.ensures.fault whole in
    let place : c.len-place.result ≡ length c.pop.new.self.items = omega arith in
    let within = c.end_lanes-left.ensures.left added.0 before in
    sent_left c.args.lanes.items c.pop.new.self.items c.in-Some.last c.in-Some.ensures.items c.end_lanes-left.result.readers.items c.end_lanes-left.result.links.items c.end_lanes-left.result.takers.items
    driven sent c.args.stood.now c.len-place.result place (get_or c.args.stood.now c.len-place.result (record { lives = 0; is_open = false }))
    (slice_get-get_or c.args.stood.now c.len-place.result (record { lives = 0; is_open = false }) (omega (arith, place, c.requires.stood, ap length c.in-Some.ensures.items, length-append c.pop.new.self.items (c.in-Some.last ∷ []))))
    c.end_lane-reader.result.1 added.2 added.3 c.add.new.lanes.links.items added.4 within.links_count
    (c.end_lanes-left.ensures.sent driven sent (driven_front c.args.lanes.items c.pop.new.self.items c.in-Some.last c.in-Some.ensures.items driven sent all) added.0 before)
    (c.end_lane-reader.ensures.sent (driven (length c.pop.new.self.items)) (sent (length c.pop.new.self.items)) (driven_last c.args.lanes.items c.pop.new.self.items c.in-Some.last c.in-Some.ensures.items driven sent all))

pub returns-clause-readers : goal.returns-clause-readers
returns-clause-readers g t c = λ lost whole.
    let added = c.add.ensures.kept lost whole in
    let before = first_none c.end_lanes-left.result.fault (result_err c.end_lane-reader.result.1) c.add.new.lanes.fault c.add.ensures.fault whole in
    readers_more c.end_lanes-left.result.readers.items c.add.new.lanes.readers.items c.end_lane-reader.result.0 c.end_lanes-left.result.failed c.add.new.lanes.failed
    added.1 c.add.ensures.failed (c.end_lanes-left.ensures.readers added.0 before)

pub returns-clause-ended : goal.returns-clause-ended
returns-clause-ended g t c =
    let rest = c.pop.new.self.items in
    let is = c.in-Some.ensures.items in
    let place : c.len-place.result ≡ length rest = omega arith in
    let st = get_or c.args.stood.now c.len-place.result (record { lives = 0; is_open = false }) in
    let at = slice_get-get_or c.args.stood.now c.len-place.result (record { lives = 0; is_open = false }) (omega (arith, place, c.requires.stood, ap length is, length-append rest (c.in-Some.last ∷ []))) in
    ended_more c.args.lanes.items rest c.in-Some.last c.args.stood.now st c.end_lane-reader.result.0 c.end_lanes-left.result.failed c.add.new.lanes.failed
    c.end_lanes-left.result.fault c.add.new.lanes.fault (result_err c.end_lane-reader.result.1)
    is (ap (slice_get c.args.stood.now) (sym place) ∙ at) c.end_lane-reader.ensures.reader c.end_lane-reader.ensures.why
    c.add.ensures.failed c.add.ensures.fault c.end_lanes-left.ensures.ended
