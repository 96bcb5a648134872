-- What became of a node's own commands.
use Rattle.std.proofs.Common.{◌≡◌, List, [], ◌∷◌, ◌++◌, filter, refl, sym, ◌∙◌, ap, subst, append-nil}
use Rattle.std.specs.Prelude.{Option}
use Rattle.scp_workers.specs.scp_driver.specs.Driver.{Says}
use Rattle.scp_workers.specs.scp_types.specs.declared.names.NodeId.{NodeId}
use Rattle.scp_workers.specs.scp_quorum.specs.QuorumTree.{QuorumTree}
use Rattle.scp_workers.specs.scp_wire.specs.declared.link.Command.{Command}
use Rattle.scp_workers.specs.scp_wire.specs.declared.link.Inbound.{Inbound}
use Rattle.scp_workers.specs.scp_wire.specs.declared.link.Inbound.TheVariants as inbound
use Rattle.scp_workers.specs.scp_pending.specs.declared.ready.Ready.{Ready}
use Rattle.scp_workers.specs.scp_pending.specs.Endings.{passing_command, commands_in, commands_of}
use Rattle.scp_workers.specs.scp_pending.specs.Laws.{CommandsPass}
use Rattle.scp_workers.specs.scp_ledger.specs.declared.took.Onward.{Onward}
use Rattle.scp_workers.specs.scp_ends.specs.Ends.{Sender}
use Rattle.scp_workers.specs.scp_ends.specs.Order.{values}
use Rattle.scp_workers.specs.Working.{sent_by}
use Rattle.scp_workers.specs.Slot.{IsFor as JournalsFor, HaveFates}
use Rattle.scp_gather.specs.Left.{Left}
use Rattle.scp_gather.specs.Node.{IsNode, EndWell}
use Rattle.scp_gather.specs.Gathered.{is_command, Gathered}
use Rattle.scp_gather.proofs.Hearing.{sole_is}
use Rattle.scp_gather.proofs.Joining.{node_pends}

-- what is no command passes as none
commands_alone : (xs : List Inbound) → commands_in (filter is_command xs) ≡ commands_in xs
commands_alone [] = refl
commands_alone (inbound.Opened conn ∷ xs) = commands_alone xs
commands_alone (inbound.Carried x ∷ xs) = commands_alone xs
commands_alone (inbound.Side conn message ∷ xs) = commands_alone xs
commands_alone (inbound.Closed conn cause ∷ xs) = commands_alone xs
commands_alone (inbound.Local command ∷ xs) = ap (λ (cs : List Command). passing_command command ++ cs) (commands_alone xs)

module _ {D : Type 0} (says : Says D) where
  module _ (passes : CommandsPass) (me : NodeId) (set : QuorumTree) (peers : List NodeId) (e : Left D) (n : IsNode me set peers e) (w : EndWell says e) (g : Gathered says me set peers e) where
    -- what the slot stage and the applier received is what the stage before sent
    pub on_way : values e.slot.input.got ≡ w.given.sent
    on_way = sole_is e.slot.input w.given n.ready w.journals.heard w.ready

    pub onwards : values e.apply.input.got ≡ w.onward.sent
    onwards = sole_is e.apply.input w.onward n.decided w.applies.heard w.decided

    -- those that were taken are those that came
    pub came : commands_of (values e.slot.input.got) ≡ commands_in (values e.pend.input.got)
    came =
        ap (λ (rs : List Ready). commands_of rs) (on_way ∙ sym (append-nil w.given.sent) ∙ ap (λ (rs : List Ready). w.given.sent ++ rs) (sym w.pends.nothing_left))
        ∙ passes me peers (values e.pend.input.got) w.given.sent e.pend.stage (node_pends says me set peers e n w)

    -- and those that were sent
    pub passed : commands_of (values e.slot.input.got) ≡ commands_in e.local.sent
    passed =
        came
        ∙ sym (commands_alone (values e.pend.input.got))
        ∙ ap (λ (xs : List Inbound). commands_in xs) g.told

    -- of the node's own ledger
    pub told_of : HaveFates says me set peers (values e.slot.input.got) w.onward.sent w.journals.out e.slot.stage.fates.items e.slot.stage.ledger
    told_of =
        let took = values e.slot.input.got in
        let out = w.journals.out in
        let fates = e.slot.stage.fates.items in
        let first = e.slot.first.ledger in
        let f : JournalsFor me peers set first = n.journals_for in
        let here : HaveFates says first.me first.local first.peers took w.onward.sent out fates e.slot.stage.ledger =
        subst (λ (o : Option (Sender Onward)). HaveFates says first.me first.local first.peers took (sent_by o) out fates e.slot.stage.ledger) w.slot_ended w.journals.all.told in
        subst (λ (q : QuorumTree). HaveFates says me q peers took w.onward.sent out fates e.slot.stage.ledger) f.local_is
        (subst (λ (ps : List NodeId). HaveFates says me first.local ps took w.onward.sent out fates e.slot.stage.ledger) f.peers_are
        (subst (λ (m : NodeId). HaveFates says m first.local first.peers took w.onward.sent out fates e.slot.stage.ledger) f.me_is here))
