use Rattle.std.proofs.Common.{◌≡◌, ◌+◌, ◌-◌, Some, subst, string_bytes, arith}
use Rattle.std.specs.Prelude.{slice_get}
use Rattle.scp_line.specs.scp_turn.specs.Heard.{Nodes}
use Rattle.scp_trace.proofs.Seen.{seen_at, read_at, node_told}
use Rattle.scp_trace.proofs.standing.write_node.Goals as goal

pub write_stand-requires : goal.write_stand-requires
write_stand-requires c =
    let number = c.args.number in
    let node = c.in-Some.node.now in
    let place : number ≡ c.from.result + 1 = omega (arith, c.requires.number.0, c.from.ensures) in
    let there = c.in-Some.ensures.lookup in
    let at : slice_get c.args.network.now.nodes (number - 1) ≡ Some node = subst (λ (nodes : Nodes). slice_get nodes (number - 1) ≡ Some node) c.nodes-nodes.ensures (read_at c.nodes-nodes.result.now c.from.result number node place there.3.0 there.1) in
    record { seen = seen_at c.args.playing.count c.args.playing.commands.now c.args.playing.played.now c.args.network.now (number - 1) node c.requires.playing at }

pub returns-in-Some-clause-added : goal.returns-in-Some-clause-added
returns-in-Some-clause-added c =
    let number = c.args.number in
    let node = c.in-Some.node.now in
    let place : number ≡ c.from.result + 1 = omega (arith, c.requires.number.0, c.from.ensures) in
    let there = c.in-Some.ensures.lookup in
    let at : slice_get c.args.network.now.nodes (number - 1) ≡ Some node = subst (λ (nodes : Nodes). slice_get nodes (number - 1) ≡ Some node) c.nodes-nodes.ensures (read_at c.nodes-nodes.result.now c.from.result number node place there.3.0 there.1) in
    node_told c.args.playing.names.now c.args.playing.commands.now c.args.playing.played.now c.args.network.now number node (string_bytes c.args.out.now) (string_bytes c.write_stand.new.out) c.write_stand.result at c.write_stand.ensures.added
