use Rattle.std.proofs.Common.{◌<◌, ℕ, List, length, take, sym, subst, arith}
use Rattle.std.proofs.lemmas.List.{length-take}
use Rattle.scp_batches.specs.Lines.{Gives}
use Rattle.scp_batches.proofs.Splitting.{was_left}
use Rattle.scp_batches.proofs.lines.Lines.next.Goals as goal

pub returns-clause-read : goal.returns-clause-read
returns-clause-read g c =
    let gives = c.in_ok-lines.ensures.gives in
    record {
      bytes = take c.in_ok-count.count c.read.new.buffer;
      some = omega (arith, length-take c.in_ok-count.count c.read.new.buffer, c.in_ok-count.ensures.count, c.if-count-eq0.false, c.read.auto.buffer);
      read = c.in_ok-count.ensures.bytes;
      gives = λ text given g. gives text given (subst (λ (l : List ℕ). Gives text given l) (sym c.self.view_is) g);
    }

pub returns-in_err-lines-clause-memory : goal.returns-in_err-lines-clause-memory
returns-in_err-lines-clause-memory g c memory =
    let some : 0 < length (take c.in_ok-count.count c.read.new.buffer) = omega (arith, length-take c.in_ok-count.count c.read.new.buffer, c.in_ok-count.ensures.count, c.if-count-eq0.false, c.read.auto.buffer) in
    was_left (g.R.ScriptIn.left c.args.reader.now) (g.R.ScriptIn.left c.read.new.self) (take c.in_ok-count.count c.read.new.buffer) some c.in_ok-count.ensures.bytes
