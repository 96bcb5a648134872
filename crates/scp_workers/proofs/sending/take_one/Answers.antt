use Rattle.std.proofs.Common.{List, [], ◌∷◌, ◌++◌, sym, subst}
use Rattle.scp_workers.specs.Handing.{outgoing_of}
use Rattle.scp_workers.specs.Working.{sent_by}
use Rattle.scp_workers.proofs.Running.{takes_on}
use Rattle.scp_workers.proofs.sending.take_one.Goals as goal

pub returns-then-send_any-clause-takes : goal.returns-then-send_any-clause-takes
returns-then-send_any-clause-takes g c = λ went.
    let runs = g.S.Stage.runs in
    let gave = sent_by c.args.tx.now in
    let outs = outgoing_of c.in-Some.given.outs in
    let sent = c.send_any.ensures.sent c.if-send_any.true in
    let did = c.give_all.ensures.gives went in (
      takes_on runs c.args.thing c.args.stage.now c.take.new.self c.give_all.new.stage gave (sent_by c.send_any.new.tx) (sent_by c.give_all.new.tx) outs c.args.outlets.now.items c.hand_out.new.outlets.items
          (λ first took out h. subst (λ (ys : List g.row.U.Denot). runs first (took ++ c.args.thing ∷ []) ys (out ++ outs) c.take.new.self) (sym sent) (c.in-Some.ensures.runs first took gave out h).0)
          c.hand_out.ensures.same c.in-Ok.ensures.puts did.0,
      did.1,
    )
