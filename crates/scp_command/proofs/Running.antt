-- Why a script isn't played to its end.
use Rattle.std.proofs.Common.{inl, inr, List, ℕ}
use Rattle.scp_convert.specs.scp_prompt.specs.declared.asked.Mode.TheVariants.{Serial, Threads}
use Rattle.scp_convert.specs.scp_prompt.specs.declared.asked.Shape.{Shape}
use Rattle.scp_convert.specs.scp_prompt.specs.declared.asked.Task.TheVariants.{Run}
use Rattle.scp_convert.specs.scp_prompt.specs.declared.failure.Failure.{Failure}
use Rattle.scp_notices.specs.declared.playing.RunFault.{RunFault}
use Rattle.scp_notices.specs.declared.playing.RunFault.TheVariants as runs
use Rattle.scp_notices.specs.Run.{IsRunFault}
use Rattle.scp_notices.specs.Threads.{IsThreadsFault}
use Rattle.scp_command.specs.declared.given.Given.{Given}
use Rattle.scp_command.specs.Given.{IsGiven}
use Rattle.scp_command.specs.Causes.{Fails}
use Rattle.scp_command.specs.inside.Runs.{IsOfRun}
use Rattle.scp_command.proofs.Causing.{read_cause}

pub run_cause : (input : List ℕ) (given : Given) (shape : Shape) (fault : RunFault) (failure : Failure) → IsGiven input given → IsRunFault given.text.items fault → IsOfRun given.expanded fault failure → Fails (Run Serial shape) input failure
run_cause input given shape (runs.Unread fault) failure g h e = inl (read_cause input given fault failure g h e)
run_cause input given shape (runs.Stopped line fault) failure g h e = inr (record { given = given; is_given = g; line = line; fault = fault; stopped = h; of_stop = e h.3.named })
run_cause input given shape (runs.GivenUp fault) failure g h e = absurd h

pub threads_cause : (input : List ℕ) (given : Given) (shape : Shape) (fault : RunFault) (failure : Failure) → IsGiven input given → IsThreadsFault given.text.items fault → IsOfRun given.expanded fault failure → Fails (Run Threads shape) input failure
threads_cause input given shape (runs.Unread fault) failure g h e = inl (read_cause input given fault failure g h e)
threads_cause input given shape (runs.Stopped line fault) failure g h e = absurd h
threads_cause input given shape (runs.GivenUp fault) failure g h e = inr (record { given = given; is_given = g; fault = fault; ended = h; of_stop = e h.4 })
