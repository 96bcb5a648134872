use Rattle.std.proofs.Common.{◌++◌, ◌∷◌, [], List, take, sym, ◌∙◌, ap, subst}
use Rattle.std.proofs.lemmas.List.{take_more}
use Rattle.scp_slot.specs.scp_quorum.specs.QuorumTree.{QuorumTree}
use Rattle.scp_stand_slot.specs.Names.{AreNamesOf}
use Rattle.scp_stand_slot.proofs.names.Names.of_sets.Goals as goal

pub loop-set-preserved : goal.loop-set-preserved
loop-set-preserved c =
    let sets = c.args.sets.now in
    let i = c.loop-set.set-index in
    subst (λ (done : List QuorumTree). AreNamesOf done [] c.add.new.self)
    (ap (λ (set : QuorumTree). take i sets ++ set ∷ []) c.set-item.is ∙ sym (take_more sets i c.set-item.result c.loop-set-test.true))
    (c.in_ok-add.ensures.added (take i sets) [] c.loop-set.invariant)
