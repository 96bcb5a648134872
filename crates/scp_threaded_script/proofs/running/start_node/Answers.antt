use Rattle.std.proofs.Common.{◌≡◌, ◌∙◌, ap, subst, length, Result, Ok, Err, arith}
use Rattle.std.specs.Prelude.{IfOk}
use Rattle.std.proofs.lemmas.Result.{err_from_is_err_and}
use Rattle.scp_threaded_node.specs.scp_types.specs.declared.capacities.Capacities.{Capacities}
use Rattle.scp_script.specs.Nodes.{id_of, peers_of, set_at, capacities_in}
use Rattle.scp_threaded_node.specs.Seats.{AreLanes, IsLocal, AreStages}
use Rattle.scp_threaded_node.specs.scp_types.specs.declared.fault.Fault.{Fault}
use Rattle.scp_threaded_node.specs.Kv.{Node}
use Rattle.scp_threaded_node.specs.Outlets.{GivenEnds, given_to}
use Rattle.scp_threaded_script.specs.Lines.{driven_to}
use Rattle.scp_threaded_script.proofs.Peers.{peer_count}
use Rattle.scp_threaded_script.specs.inside.Outlets.{IsKeeping}
use Rattle.scp_threaded_script.proofs.Keeping.{is_keeping}
use Rattle.scp_threaded_script.proofs.Seating.{seated, fresh_taken}
use Rattle.scp_threaded_script.proofs.running.start_node.Goals as goal

-- what holds of a node by what it was given holds of the one that was started
seated_ok : (P : Node → Type 0) (E : GivenEnds) (r : Result Node Fault) → ((x : (node : Node) × (given_to node ≡ E)) → P x.0) → IfOk r (λ node. given_to node ≡ E) → IfOk r P
seated_ok P E (Ok node) f h = f (node, h)
seated_ok P E (Err e) f h = tt

pub make_parts-requires-clause-few : goal.make_parts-requires-clause-few
make_parts-requires-clause-few g c =
    let e = c.as_slice.ensures.value ∙ c.in_ok-peers.ensures in
    omega (arith, ap length e, peer_count c.args.count c.args.number c.requires.number.0 c.requires.number.1, c.requires.few)

pub start-requires-clause-sources : goal.start-requires-clause-sources
start-requires-clause-sources g c κs within =
    let e = c.as_slice.ensures.value ∙ c.in_ok-peers.ensures in
    omega (arith, ap length e, c.in_ok-sources.ensures.count, c.in_ok-parts.ensures.count, peer_count c.args.count c.args.number c.requires.number.0 c.requires.number.1)

pub start-requires-clause-fresh : goal.start-requires-clause-fresh
start-requires-clause-fresh g c = λ lives outlive. fresh_taken c.args.takers.items c.in_ok-sources.sources.items c.in_ok-sources.ensures.count c.in_ok-sources.ensures.taken c.requires.takers.1

pub returns-clause-given : goal.returns-clause-given
returns-clause-given g c = seated_ok _ _ c.start.result
    (λ given markers own takers.
    let o = c.in_ok-parts.ensures.outlets in
    seated c.args.count markers c.args.number c.args.outlets c.args.takers.items c.in_ok-sources.sources.items (given_to given.0) own takers c.requires.takers.0 c.in_ok-sources.ensures.count c.in_ok-sources.ensures.taken
    (ap (λ (e : GivenEnds). e.replies) given.1 ∙ o.0) (ap (λ (e : GivenEnds). e.said) given.1 ∙ o.1) (ap (λ (e : GivenEnds). e.answers) given.1 ∙ o.2) (ap (λ (e : GivenEnds). e.takers) given.1))
    c.start.ensures.given

pub returns-clause-runs : goal.returns-clause-runs
returns-clause-runs g c =
    let me = id_of c.args.number in
    let peers = peers_of c.args.count c.args.number in
    let parts = c.in_ok-parts.parts in
    let e = c.as_slice.ensures.value ∙ c.in_ok-peers.ensures in
    c.start.ensures.runs me (set_at c.args.number c.args.commands.now) peers (capacities_in c.args.commands.now)
    (c.in_ok-parts.ensures.count ∙ ap length e)
    (subst (λ (caps : Capacities). AreLanes me peers parts.pend.input.line caps.link parts.lanes.items) c.capacities_of.ensures
    (subst (λ x. AreLanes x peers parts.pend.input.line c.capacities_of.result.link parts.lanes.items) c.id_from.ensures (subst (λ xs. AreLanes c.id_from.result xs parts.pend.input.line c.capacities_of.result.link parts.lanes.items) e c.in_ok-parts.ensures.lanes)))
    (subst (λ xs. IsLocal xs parts.pend parts.local) e c.in_ok-parts.ensures.local)
    (subst (λ (caps : Capacities). AreStages me (set_at c.args.number c.args.commands.now) peers caps parts.pend parts.slot parts.apply) c.capacities_of.ensures
    (subst (λ x. AreStages x (set_at c.args.number c.args.commands.now) peers c.capacities_of.result parts.pend parts.slot parts.apply) c.id_from.ensures
    (subst (λ x. AreStages c.id_from.result x peers c.capacities_of.result parts.pend parts.slot parts.apply) c.in_ok-set.ensures.set
    (subst (λ xs. AreStages c.id_from.result c.in_ok-set.set xs c.capacities_of.result parts.pend parts.slot parts.apply) e c.in_ok-parts.ensures.stages))))

pub returns-clause-driven : goal.returns-clause-driven
returns-clause-driven g c = c.start.ensures.driven (driven_to c.args.commands.now c.args.number) c.in_ok-sources.ensures.driven

pub returns-in_err-sources-clause-only_memory : goal.returns-in_err-sources-clause-only_memory
returns-in_err-sources-clause-only_memory g c =
    let p = err_from_is_err_and c.from_residual-in_err-sources.result c.from_residual-in_err-sources.ensures.1 in
    rw (p.1, p.2) c.in_err-sources.ensures.only_memory

pub returns-clause-keeping : goal.returns-clause-keeping
returns-clause-keeping g c = seated_ok (λ (node : Node). IsKeeping c.args.keeps (given_to node)) _ c.start.result
    (λ given. is_keeping c.args.keeps c.in_ok-parts.parts.lanes.items (given_to given.0) (ap (λ (e : GivenEnds). e.keeps) given.1) c.in_ok-parts.ensures.keeps)
    c.start.ensures.given
