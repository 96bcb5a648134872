use Rattle.std.proofs.Common.{◌≡◌, ◌≤◌, ◌+◌, ◌-◌, Some, length, take, string_bytes, arith}
use Rattle.std.specs.Prelude.{slice_get}
use Rattle.std.proofs.lemmas.Option.{slice_get_past}
use Rattle.scp_trace.proofs.Seen.{read_at}
use Rattle.scp_trace.proofs.Watching.{seen_among, stand_written, stand_left}
use Rattle.scp_trace.proofs.tracing.TraceWatch.write_number.Goals as goal

pub write_stand-requires : goal.write_stand-requires
write_stand-requires c =
    let number = c.args.number in
    let nodes = c.args.nodes.now in
    let node = c.in-Some.node.now in
    let place : number ≡ c.from.result + 1 = omega (arith, c.requires.number, c.from.ensures) in
    let there = c.in-Some.ensures.lookup in
    let at : slice_get nodes (number - 1) ≡ Some node = read_at nodes c.from.result number node place there.3.0 there.1 in
    record { seen = seen_among nodes (number - 1) node c.requires.playing at }

pub returns-in-Some-clause-added : goal.returns-in-Some-clause-added
returns-in-Some-clause-added c =
    let old = c.args.self.now in
    let number = c.args.number in
    let nodes = c.args.nodes.now in
    let node = c.in-Some.node.now in
    let place : number ≡ c.from.result + 1 = omega (arith, c.requires.number, c.from.ensures) in
    let there = c.in-Some.ensures.lookup in
    let at : slice_get nodes (number - 1) ≡ Some node = read_at nodes c.from.result number node place there.3.0 there.1 in
    stand_written old.names.now nodes number old.commands.now (take old.done old.commands.now) c.first_of.result.now node (string_bytes old.text) (string_bytes c.write_stand.new.out) c.write_stand.result c.first_of.ensures at c.write_stand.ensures.added

pub returns-in-None-clause-added : goal.returns-in-None-clause-added
returns-in-None-clause-added c =
    let old = c.args.self.now in
    let number = c.args.number in
    let nodes = c.args.nodes.now in
    let past : length nodes ≤ number - 1 = omega (arith, c.requires.number, c.from.ensures, c.in-None.ensures.lookup.3) in
    stand_left old.names.now old.commands.now (take old.done old.commands.now) (slice_get nodes (number - 1)) (string_bytes old.text) (slice_get_past nodes (number - 1) past)
