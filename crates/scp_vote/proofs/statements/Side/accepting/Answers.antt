use Rattle.std.proofs.Common.{◌≡◌, true, cond, set, take, drop, ◌++◌, length, Some, ap, ◌∙◌, subst}
use Rattle.std.specs.BTreeMap as node_map
use Rattle.std.specs.Map.Iter.{deref_pair}
use Rattle.std.proofs.lemmas.Map.Views.{All-turn}
use Rattle.scp_quorum.specs.NodeSet.{node_cmp}
use Rattle.scp_quorum.specs.Places.{marked}
use Rattle.scp_vote.specs.declared.claim.Support.TheVariants.{Accepts}
use Rattle.scp_vote.specs.Claims.{Stands}
use Rattle.scp_vote.specs.Board.{Has}
use Rattle.scp_vote.specs.inside.Seats.{place_in}
use Rattle.scp_vote.specs.inside.Side.{side}
use Rattle.scp_vote.proofs.Picking.{Entries, IsPicking}
use Rattle.scp_vote.proofs.Seating.{walk_step, written, marked_len}
use Rattle.scp_vote.proofs.statements.Side.accepting.Goals as goal

pub loop-entry-preserved : goal.loop-entry-preserved
loop-entry-preserved c =
    let es = c.args.self.now.table.now.entries in
    let item : node_map.get node_cmp es c.in-Some.field-0-0.now ≡ Some c.in-Some.entry.now =
    All-turn deref_pair (λ e. node_map.get node_cmp es e.0 ≡ Some e.1) _ _ _ _ _ _ _ c.into_iter-entry-iterator.ensures.into_iter_gives.6 c.into_iter-entry-iterator.ensures.into_iter_gives.0 c.loop-entry.yielded_by c.in-Some.is c.next.ensures.steps
    in
    let accepting_now = take c.loop-entry.accepting.len (c.mark.new.marks ++ drop (length c.mark.new.marks) c.loop-entry.accepting.items) in
    let accepting_same : accepting_now ≡ cond c.stands-accepts.result (set c.loop-entry.accepting.items c.in-Some.entry.now.place true) c.loop-entry.accepting.items =
    written c.loop-entry.accepting.len c.loop-entry.accepting.items c.deref_mut.result.now c.mark.new.marks c.deref_mut.ensures.value c.mark.ensures.len c.loop-entry.accepting.ok.0
    ∙ c.mark.ensures.marked ∙ ap (λ m. cond c.stands-accepts.result (set m c.in-Some.entry.now.place true) m) c.deref_mut.ensures.value
    in
    let accepting_before : Entries → Type 0 = λ rest. IsPicking (Has (side c.args.self.now) (Stands Accepts c.args.claim.now)) (marked (place_in es) c.loop-entry.accepting.items) rest in
    record {
      picking = walk_step c.args.self.now (Stands Accepts c.args.claim.now) c.loop-entry.accepting.items accepting_now c.in-Some.field-0-0.now c.in-Some.entry.now _ c.stands-accepts.result item (rw c.get.ensures at c.stands-accepts.ensures) accepting_same c.loop-entry.invariant.len (subst accepting_before c.in-Some.ensures.steps c.loop-entry.invariant.picking);
      len = marked_len c.loop-entry.accepting.items accepting_now c.in-Some.entry.now.place c.stands-accepts.result accepting_same ∙ c.loop-entry.invariant.len;
    }
