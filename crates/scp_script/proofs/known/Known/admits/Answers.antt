use Rattle.std.proofs.Common.{sym, subst, ◌↔◌, IsTrue}
use Rattle.scp_script.specs.declared.command.Command.{Command}
use Rattle.scp_script.specs.Script.{Admits}
use Rattle.scp_script.proofs.known.Known.admits.Goals as goal

pub returns-in-Open : goal.returns-in-Open
returns-in-Open c = λ before knows. subst (λ (command : Command). IsTrue c.admits_open.result ↔ Admits before command) (sym c.in-Open.is) (c.admits_open.ensures before knows)
