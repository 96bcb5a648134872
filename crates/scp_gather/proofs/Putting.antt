-- What the stages of a node put into the outboxes of its links, and what became of its commands in the same run.
use Rattle.std.proofs.Common.{◌≡◌, ℕ, List, [], refl, sym, ◌∙◌, ap, subst, append-nil}
use Rattle.scp_workers.specs.scp_driver.specs.Driver.{Says}
use Rattle.scp_workers.specs.scp_types.specs.declared.names.NodeId.{NodeId}
use Rattle.scp_workers.specs.scp_quorum.specs.QuorumTree.{QuorumTree}
use Rattle.scp_workers.specs.scp_wire.specs.declared.link.Inbound.{Inbound}
use Rattle.scp_workers.specs.scp_pending.specs.Laws.{CommandsPass}
use Rattle.scp_workers.specs.scp_pending.specs.Rules.{fresh}
use Rattle.scp_workers.specs.scp_apply.specs.Applier.{ApplierView}
use Rattle.scp_workers.specs.scp_theorem.specs.Account.{Ran}
use Rattle.scp_workers.specs.scp_theorem.specs.Handed.{replies_from, nothing_applied, AnswersEach}
use Rattle.scp_workers.specs.scp_ends.specs.Order.{values}
use Rattle.scp_workers.specs.Pending.{IsFor as PendsFor}
use Rattle.scp_gather.specs.Left.{Left}
use Rattle.scp_gather.specs.Node.{IsNode, EndWell}
use Rattle.scp_gather.specs.Gathered.{account_gathered, Gathered}
use Rattle.scp_gather.specs.Report.{AreFatesOf}
use Rattle.scp_gather.specs.Sending.{ArePutOut}
use Rattle.scp_gather.proofs.Commands.{on_way, onwards, passed, told_of}
use Rattle.scp_gather.proofs.Joining.{node_pends, node_journals}

module _ {D : Type 0} (says : Says D) where
  module _ (passes : CommandsPass) (me : NodeId) (set : QuorumTree) (peers : List NodeId) (e : Left D) (n : IsNode me set peers e) (w : EndWell says e) (g : Gathered says me set peers e) where
    -- each stage took all that the one before it gave
    abbrev ran : Ran says.level says.extracted says.combined says.place (account_gathered me set peers e)
    ran = record {
      links = g.keeps.links;
      read = g.keeps.read;
      local = w.pends.all.local_is ∙ n.pends_for.local_is;
      given = w.given.sent;
      pends = node_pends says me set peers e n w;
      took = values e.slot.input.got;
      ready = sym (on_way says passes me set peers e n w g) ∙ sym (append-nil (values e.slot.input.got));
      onwards = w.onward.sent;
      journals = node_journals says me set peers e n w;
      applied = values e.apply.input.got;
      decided = sym (onwards says passes me set peers e n w g) ∙ sym (append-nil (values e.apply.input.got));
      applies = w.applies.all.applies;
      first = w.applies.all.from_one ∙ sym w.journals.all.from_one;
    }

    -- the applier began as a new one of the ledger's first slot, with its own bytes
    begun : e.apply.first ≡ nothing_applied e.slot.stage.ledger.first e.apply.stage.base
    begun = w.applies.all.begun ∙ ap (λ (n : ℕ). nothing_applied n []) (sym w.journals.all.from_one) ∙ ap (λ (base : List ℕ). nothing_applied e.slot.stage.ledger.first base) (sym w.applies.all.no_base)

    pub fates_of_node : AreFatesOf says me set peers e e.slot.stage.fates.items
    fates_of_node =
        let told = told_of says passes me set peers e n w g in
        let f : PendsFor me peers set e.pend.first = n.pends_for in
        let taken : List Inbound = values e.pend.input.got in
        let put : ArePutOut says me set peers e = record {
          replies = w.pends.out;
          said = w.journals.out;
          answers = w.applies.out;
          handed = record {
            ran = ran;
            replies_are =
                w.pends.all.out_is
                ∙ ap (λ (m : NodeId). replies_from (fresh m e.pend.first.settled.peers e.pend.first.settled.store.local) taken) f.me_is
                ∙ ap (λ (ps : List NodeId). replies_from (fresh me ps e.pend.first.settled.store.local) taken) f.peers_are
                ∙ ap (λ (q : QuorumTree). replies_from (fresh me peers q) taken) f.local_is;
            takes = told.takes;
            took_are = told.took_are;
            onwards_are = told.onwards_are;
            served = told.told;
            said_are = sym told.outs_are;
            answered = subst (λ (v : ApplierView). AnswersEach v (values e.apply.input.got) w.applies.out e.apply.stage) begun w.applies.all.answers;
          };
          replies_put = w.pends.put;
          said_put = w.journals.put;
          answers_put = w.applies.put;
        } in
        record {
          commands = passed says passes me set peers e n w g;
          put = put;
          told = record {
            takes = told.takes;
            took_are = told.took_are;
            onwards_are = told.onwards_are ∙ sym (onwards says passes me set peers e n w g);
            outs_are = told.outs_are;
            fates_are = told.fates_are;
            told = told.told;
          };
          same_run = refl;
        }

    pub put_out : ArePutOut says me set peers e
    put_out = fates_of_node.put
