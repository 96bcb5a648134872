use Rattle.std.proofs.Common.{◌≡◌, ◌∙◌, ℕ, ap, sym, subst, ◌+◌, ◌≤◌, List, [], ◌∷◌, ◌++◌, length, arith}
use Rattle.std.proofs.lemmas.List.{length-append, nil_from_length}
use Rattle.scp_threaded_node.specs.scp_shared_outbox.specs.Ends.{TakerView}
use Rattle.scp_threaded_node.specs.scp_shared_outbox.specs.declared.outlets.Outlets.{Outlets}
use Rattle.scp_threaded_node.specs.scp_shared_outbox.specs.Table.{AreOutletsOf}
use Rattle.scp_script.specs.Nodes.{id_of, peers_of, set_at, capacities_in}
use Rattle.scp_threaded_node.specs.Kv.{Node}
use Rattle.scp_threaded_node.specs.Outlets.{given_to}
use Rattle.scp_threaded_node.specs.Seats.{Runs}
use Rattle.scp_threaded_script.specs.Reported.{AllRunSoFar}
use Rattle.scp_threaded_script.specs.inside.Outlets.{IsSeated}
use Rattle.scp_threaded_script.proofs.Starting.{started_none, started_more, next_unused, next_takers, next_number}
use Rattle.scp_threaded_script.proofs.running.start_all.Goals as goal

pub loop-own-init : goal.loop-own-init
loop-own-init g c = started_none c.args.keeps c.args.commands.now c.args.outlets.items c.into_iter-own-iterator.result.rest.items c.args.takers.items c.into_iter-rows.result.rest.items c.args.nodes.now.items c.into_iter-own-iterator.ensures.into_iter_gives.0 c.into_iter-rows.ensures.rest c.requires.none

pub start_node-requires-clause-unused : goal.start_node-requires-clause-unused
start_node-requires-clause-unused g c = λ lives outlive.
    next_unused c.args.keeps c.args.commands.now c.args.outlets.items c.loop-own.yielded c.loop-own.own-iterator.rest.items c.args.takers.items c.loop-own.rows.rest.items c.loop-own.nodes.items c.loop-own.invariant
    c.in-Some.own c.next.new.self.rest.items c.in-Some-next.row c.next-in-loop-own.new.self.rest.items c.in-Some.ensures.steps.0 c.in-Some-next.ensures.cases.0 c.requires.made.0 c.requires.made.1

pub start_node-requires-clause-takers : goal.start_node-requires-clause-takers
start_node-requires-clause-takers g c = λ lives outlive.
    let t = next_takers c.args.keeps c.args.commands.now c.args.outlets.items c.loop-own.yielded c.loop-own.own-iterator.rest.items c.args.takers.items c.loop-own.rows.rest.items c.loop-own.nodes.items c.loop-own.invariant
    c.in-Some.own c.next.new.self.rest.items c.in-Some-next.row c.next-in-loop-own.new.self.rest.items c.in-Some.ensures.steps.0 c.in-Some-next.ensures.cases.0 c.requires.made.0 c.requires.made.1 in
    (t.0 ∙ sym c.count_of_nodes-count.ensures.count, t.1)

pub returns-in_err-reserve-clause-so_far : goal.returns-in_err-reserve-clause-so_far
returns-in_err-reserve-clause-so_far g c = subst (AllRunSoFar c.args.commands.now) (sym c.in_err-reserve.ensures.items) c.loop-own.invariant.done.run

pub returns-in_err-node-clause-so_far : goal.returns-in_err-node-clause-so_far
returns-in_err-node-clause-so_far g c = subst (AllRunSoFar c.args.commands.now) (sym c.in_ok-reserve.ensures.items) c.loop-own.invariant.done.run

pub loop-own-preserved : goal.loop-own-preserved
loop-own-preserved g c =
    let commands = c.args.commands.now in
    let nodes = c.loop-own.nodes.items in
    let node = c.in_ok-node.node in
    let new = c.push_reserved.new.self.items in
    let is = c.push_reserved.ensures.items ∙ ap (λ (xs : List Node). xs ++ node ∷ []) c.in_ok-reserve.ensures.items in
    let number = c.len.result + 1 in
    let at : number ≡ length nodes + 1 = omega (arith, c.len.ensures, ap (λ (xs : List Node). length xs) c.in_ok-reserve.ensures.items) in
    let cnt = c.count_of_nodes-count.ensures.count in
    started_more c.args.keeps commands c.args.outlets.items c.loop-own.yielded c.loop-own.own-iterator.rest.items c.args.takers.items c.loop-own.rows.rest.items nodes c.loop-own.invariant
    c.in-Some.own c.next.new.self.rest.items c.in-Some-next.row c.next-in-loop-own.new.self.rest.items c.in-Some.ensures.steps.0 c.in-Some-next.ensures.cases.0
    node new number is at
    (subst (λ k. Runs (id_of number) (set_at number commands) (peers_of k number) (capacities_in commands) node) cnt c.in_ok-node.ensures.runs) c.in_ok-node.ensures.local c.in_ok-node.ensures.driven
    (λ markers own takers. subst (λ k. IsSeated k markers number (given_to node)) cnt (c.in_ok-node.ensures.given markers (subst (λ k. AreOutletsOf k markers number c.in-Some.own) (sym cnt) own) takers))
    c.in_ok-node.ensures.keeping

pub returns-clause-done : goal.returns-clause-done
returns-clause-done g c =
    let i = c.loop-own.invariant in
    let rest = c.loop-own.own-iterator.rest.items in
    let none : rest ≡ [] = nil_from_length rest (omega (arith, c.loop-own.own-iterator.rest.ok, c.in-None.ensures.steps.0)) in
    (omega (arith, i.count, ap (λ (os : List Outlets). length os) i.is, length-append c.loop-own.yielded rest, ap (λ (os : List Outlets). length os) none, c.requires.made.1.outlets_many), i.done)

pub returns-clause-seated : goal.returns-clause-seated
returns-clause-seated g c = λ markers made. c.loop-own.invariant.seated markers made

pub returns-clause-keeping : goal.returns-clause-keeping
returns-clause-keeping g c = c.loop-own.invariant.keeping
