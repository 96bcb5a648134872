use Rattle.std.proofs.Common.{List, sym, subst, All}
use Rattle.scp_slot.specs.scp_xdr.specs.Kind.{Fits}
use Rattle.scp_slot.specs.scp_quorum.specs.QuorumKind.{set_kind, set_value}
use Rattle.scp_slot.specs.scp_quorum.specs.QuorumTree.{QuorumTree}
use Rattle.std.proofs.lemmas.List.Elements.{All-push}
use Rattle.scp_stand_slot.proofs.Listing.{sets_more, fits_as}
use Rattle.scp_stand_slot.proofs.names.sets_of_nodes.Goals as goal

pub loop-index-preserved : goal.loop-index-preserved
loop-index-preserved c = record {
  sets = sets_more c.args.commands.now c.loop-index.index _ _ c.in_ok-set_of_node.field-0 c.in_ok-push.ensures.items c.in_ok-set_of_node.ensures.set c.loop-index.invariant.sets;
  fits = subst (λ (xs : List QuorumTree). All (λ set. Fits set_kind (set_value set)) xs) (sym c.in_ok-push.ensures.items)
      (All-push (λ (set : QuorumTree). Fits set_kind (set_value set)) _ c.in_ok-set_of_node.field-0 c.loop-index.invariant.fits (fits_as _ c.in_ok-set_of_node.field-0 c.in_ok-set_of_node.ensures.set c.in_ok-set_of_node.ensures.sane));
}
