use Rattle.std.proofs.Common.{List, ap, subst, rules}
use Rattle.scp_shared_outbox.specs.Ends.{PutterView}
use Rattle.scp_workers.specs.Working.{AreSameOutlets}
use Rattle.scp_workers.proofs.Outlets.{same_on}
use Rattle.scp_workers.proofs.worker.Worker.run.Goals as goal

pub returns : goal.returns
returns g c =
    let kept = subst (λ (os : List PutterView). AreSameOutlets os c.end.result.outlets) (ap (λ w. w.outlets) c.self.view_is) c.end.ensures.outlets in
    record {
      input = search rules;
      outlets = same_on c.args.self.outlets c.work.new.self.outlets c.end.result.outlets c.work.ensures.same.outlets kept;
      first = search rules;
      output = search rules;
    }
