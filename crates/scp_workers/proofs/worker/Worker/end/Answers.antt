use Rattle.std.proofs.Common.{◌∙◌, sym, ap, subst}
use Rattle.std.specs.Prelude.{Option}
use Rattle.scp_ends.specs.Order.{values}
use Rattle.scp_ends.specs.Ends.{Sender, Receiver, HeardAll}
use Rattle.scp_workers.specs.Working.{sent_by}
use Rattle.scp_workers.proofs.worker.Worker.end.Goals as goal

pub invariant_of-result : goal.invariant_of-result
invariant_of-result g c =
    let s = c.self.inside in (
      λ e. let went = c.stop-done.ensures.well e in
          let did = c.is_well-well.ensures went.0 in
          let ran = c.self.invariant.2 (ap (λ w. w.failed) c.self.view_is ∙ did.0) in
          record {
            heard = subst (λ (r : Receiver g.row.T.Denot). HeardAll r) (sym (ap (λ w. w.input) c.self.view_is)) did.1;
            out = ran.out;
            all = subst (λ (o : Option (Sender g.row.U.Denot)). g.S.Stage.runs s.first.value (values s.rx.got) (sent_by o) ran.out s.stage) (sym (c.stop-done.ensures.same went.1)) ran.all;
            put = ran.put;
            nothing_left = ran.nothing_left;
            ended = went.1;
          },
      λ e. subst (λ (r : Receiver g.row.T.Denot). HeardAll r) (sym (ap (λ w. w.input) c.self.view_is)) (c.requires (sym (ap (λ w. w.cut_off) c.self.view_is) ∙ e)),
    )
