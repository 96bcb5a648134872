use Rattle.std.proofs.Common.{◌≡◌, ◌∙◌, ℕ, ap, sym, subst, refl, ◌+◌, List, [], ◌∷◌, length, Option, None, Some, get_or, rules, arith}
use Rattle.std.specs.Prelude.{slice_get}
use Rattle.std.specs.Option.{option_or}
use Rattle.std.specs.Result.{result_err}
use Rattle.std.proofs.lemmas.Option.{slice_get_read}
use Rattle.scp_threaded_node.specs.Kv.{Node}
use Rattle.scp_threaded_script.specs.declared.running.NodeFault.{NodeFault}
use Rattle.scp_threaded_script.specs.Reported.{refused_at}
use Rattle.scp_threaded_script.specs.inside.Ending.{HaveAllEnded}
use Rattle.scp_threaded_node.specs.declared.ending.Stood.{Stood}
use Rattle.scp_threaded_node.specs.Faults.{IsNodeEnd, fault_of}
use Rattle.scp_threaded_script.proofs.Ending.{ended_more, nil_of, none_ended, told_refused}
use Rattle.std.proofs.lemmas.List.{length-append, length-map}
use Rattle.scp_script.specs.Script.{node_count}
use Rattle.scp_script.specs.Nodes.{id_of, peers_of, set_at, capacities_in}
use Rattle.scp_threaded_script.specs.Lines.{driven_to, items_to}
use Rattle.scp_threaded_script.proofs.Nodes.{runs_front, runs_last, done_front, last_sent, last_over, over_more, over_none, given_more, stands_at, lanes_fit}
use Rattle.scp_threaded_node.specs.Outlets.{given_to}
use Rattle.scp_threaded_script.specs.inside.Outlets.{all_given}
use Rattle.scp_threaded_script.specs.inside.Over.{IsOver, AreOver}
use Rattle.scp_threaded_script.proofs.Peers.{peers_apart}
use Rattle.scp_threaded_script.proofs.running.+end_nodes.Goals as goal

pub end_nodes-ended-requires : goal.end_nodes-ended-requires
end_nodes-ended-requires g t c κs within =
    let h = c.requires.nodes in
    let is = c.in-Some.ensures.items in
    let rest = c.pop.new.self.items in
    let one = length-append rest (c.in-Some.last ∷ []) in
    let count = ap length is in
    (search rules, (search rules, (omega (arith, one, count, c.requires.few), (h.0, runs_front h.0 rest c.args.nodes.items c.in-Some.last is h.1, h.2, omega (arith, one, count, h.3)))))

pub end-told-requires-clause-runs : goal.end-told-requires-clause-runs
end-told-requires-clause-runs g t c =
    let h = c.requires.nodes in
    let n = length c.pop.new.self.items + 1 in
    (id_of n, set_at n h.0, peers_of (node_count h.0) n, capacities_in h.0, runs_last h.0 c.pop.new.self.items c.args.nodes.items c.in-Some.last c.in-Some.ensures.items h.1)

pub end-told-requires-clause-stood : goal.end-told-requires-clause-stood
end-told-requires-clause-stood g t c =
    let h = c.requires.nodes in
    let is = c.in-Some.ensures.items in
    let rest = c.pop.new.self.items in
    let last = c.in-Some.last in
    let one = length-append rest (last ∷ []) in
    let count = ap length is in
    let stood = c.args.stood.now in
    let at : c.len-place.result ≡ length rest = omega (arith, c.len-place.ensures, c.pop.new.self.ok.0) in
    let stands = stands_at h.0 stood (length rest) c.index-stood-place.result c.as_slice.result.now h.2 (omega (arith, one, count, h.2.0, h.3)) (c.index-stood-place.is ∙ ap (λ k. get_or stood k c.index-stood-place.result) at) c.as_slice.ensures.value in
    lanes_fit h.0 (length rest + 1) last c.as_slice.result.now (omega arith) (omega (arith, one, count, h.3)) (runs_last h.0 rest c.args.nodes.items last is h.1) stands

pub returns-clause-over : goal.returns-clause-over
returns-clause-over g t c = λ commands done standing whole.
    let told = c.add.ensures.told whole in
    let h = c.requires.nodes in
    let is = c.in-Some.ensures.items in
    let nodes = c.args.nodes.items in
    let rest = c.pop.new.self.items in
    let last = c.in-Some.last in
    let n = length rest + 1 in
    let one = length-append rest (last ∷ []) in
    let count = ap length is in
    let stood = c.args.stood.now in
    let at : c.len-place.result ≡ length rest = omega (arith, c.len-place.ensures, c.pop.new.self.ok.0) in
    let before = c.end_nodes-ended.ensures.over commands (done_front commands commands rest nodes last is done) standing told.0 in
    let stands = stands_at commands stood (length rest) c.index-stood-place.result c.as_slice.result.now standing (omega (arith, one, count, h.2.0, h.3)) (c.index-stood-place.is ∙ ap (λ k. get_or stood k c.index-stood-place.result) at) c.as_slice.ensures.value in
    let ended = c.end-told.ensures.ended (id_of n) (set_at n commands) (peers_of (node_count commands) n) (capacities_in commands) (peers_apart (node_count commands) n (omega arith)) (runs_last commands rest nodes last is done.run) (driven_to commands n) (items_to n commands) (last_sent commands commands rest nodes last is done) in
    let here = last_over commands rest nodes last c.as_slice.result.now c.end-told.result told.1 is done stands told.2 ended in
    let many : length (all_given rest) ≡ length rest = length-map rest given_to in
    over_more commands (all_given rest) (all_given nodes) (given_to last) c.end_nodes-ended.result.all.items c.add.new.ended.all.items c.end_nodes-ended.result.outlets.items c.add.new.ended.outlets.items c.end_nodes-ended.result.takers.items c.add.new.ended.takers.items
    here.0 told.1.report told.1.outlets told.1.takers (given_more rest nodes last is) told.3 told.4 told.5 before
    (subst (λ (k : ℕ). IsOver commands (k + 1) (given_to last) here.0 told.1.report told.1.outlets told.1.takers) (sym many) here.1)

pub returns-in_default-clause-over : goal.returns-in_default-clause-over
returns-in_default-clause-over g t c = λ commands done standing whole.
    let none : c.args.nodes.items ≡ [] = nil_of c.args.nodes.items (omega (arith, c.in_default.ensures.cases.0, c.args.nodes.ok.0)) in
    over_none commands (all_given c.args.nodes.items) c.new.result.items c.new-in_default.result.items c.new-in_default-2.result.items (ap (λ (l : List Node). all_given l) none) c.new.ensures.items c.new-in_default.ensures.items c.new-in_default-2.ensures.items

pub returns-in_default-clause-ended : goal.returns-in_default-clause-ended
returns-in_default-clause-ended g t c =
    let none : c.args.nodes.items ≡ [] = nil_of c.args.nodes.items (omega (arith, c.in_default.ensures.cases.0, c.args.nodes.ok.0)) in
    subst (λ (l : List Node). HaveAllEnded l c.args.stood.now None) (sym none) (none_ended c.args.stood.now)

pub returns-clause-ended : goal.returns-clause-ended
returns-clause-ended g t c =
    let is = c.in-Some.ensures.items in
    let nodes = c.args.nodes.items in
    let rest = c.pop.new.self.items in
    let last = c.in-Some.last in
    let stood = c.args.stood.now in
    let h = c.requires.nodes in
    let one = length-append rest (last ∷ []) in
    let count = ap length is in
    let at : c.len-place.result ≡ length rest = omega (arith, c.len-place.ensures, c.pop.new.self.ok.0) in
    let here : slice_get stood (length rest) ≡ Some c.index-stood-place.result = slice_get_read stood (length stood) (length rest) c.index-stood-place.result refl (omega (arith, one, count, h.2.0, h.3)) (c.index-stood-place.is ∙ ap (λ k. get_or stood k c.index-stood-place.result) at) in
    let x = c.end-told.ensures.fault in
    let number : c.len-place.result + 1 ≡ length rest + 1 = omega (arith, at) in
    ended_more nodes rest last stood c.index-stood-place.result c.end_nodes-ended.result.refused c.add.new.ended.refused x.0 is here
    (subst (λ (l : List Stood). IsNodeEnd last l x.0) c.as_slice.ensures.value x.1)
    (c.add.ensures.refused
    ∙ ap (λ (n : ℕ). option_or c.end_nodes-ended.result.refused (refused_at n (result_err c.end-told.result))) number
    ∙ ap (λ (o : Option NodeFault). option_or c.end_nodes-ended.result.refused o) (told_refused (length rest + 1) (fault_of x.0) c.end-told.result x.2))
    c.end_nodes-ended.ensures.ended
