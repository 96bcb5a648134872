use Rattle.std.proofs.Common.{inl, inr, subst}
use Rattle.scp_draw.specs.Drawn.{IsDrawFault}
use Rattle.scp_command.proofs.looks.of_draw.Goals as goal

pub returns-in-Unread : goal.returns-in-Unread
returns-in-Unread c = λ input given bad. inl (c.of_read.ensures input given (subst (IsDrawFault c.args.given.now.text.items) c.in-Unread.is bad))

pub returns-in-Stopped : goal.returns-in-Stopped
returns-in-Stopped c = λ input given stopped.
    let is = subst (IsDrawFault c.args.given.now.text.items) c.in-Stopped.is stopped in
    inr (record {
      given = c.args.given.now;
      is_given = given;
      commands = is.0;
      lines = is.1;
      said = is.2;
      before = is.3.before;
      fault = c.in-Stopped.fault;
      stopped = is.3.stopped;
      of_stop = c.of_play.ensures.stop is.3.named;
    })
