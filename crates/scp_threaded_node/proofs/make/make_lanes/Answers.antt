use Rattle.std.proofs.Common.{◌≡◌, ◌∙◌, ℕ, ap, subst, List, [], ◌∷◌, length, arith}
use Rattle.std.proofs.lemmas.List.{length-append}
use Rattle.scp_gather.specs.scp_wire.specs.declared.link.Inbound.{Inbound}
use Rattle.scp_gather.specs.scp_ends.specs.Ends.{Sender, fresh}
use Rattle.scp_threaded_node.specs.Seats.{AreLanes}
use Rattle.scp_threaded_node.proofs.Lists.{fresh_last}
use Rattle.scp_threaded_node.proofs.make.make_lanes.Goals as goal

pub returns-clause-lanes : goal.returns-clause-lanes
returns-clause-lanes c = (subst (λ (room : ℕ). AreLanes c.args.me c.args.peers.now c.in_ok-ends.rx.line room c.in_ok-lanes.lanes.items) c.from-room.ensures c.in_ok-lanes.ensures.lanes, c.in_ok-lanes.ensures.unused)

pub returns-clause-local : goal.returns-clause-local
returns-clause-local c =
    let line = c.in_ok-ends.rx.line in
    let rest = c.pop.new.self.items in
    let is = c.in-Some.ensures.items in
    let count : length rest ≡ length c.args.peers.now = omega (arith, c.in_ok-ends.ensures.ends.1, ap (λ (l : List (Sender Inbound)). length l) is, length-append rest (c.in-Some.local ∷ []), c.requires.few) in
    c.new.ensures ∙ fresh_last line rest c.in_ok-ends.ends.items c.in-Some.local is c.in_ok-ends.ensures.ends.0 ∙ ap (fresh line) count
