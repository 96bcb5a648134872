use Rattle.std.proofs.Common.{ap, sym, refl}
use Rattle.toml.specs.Data.{no_members}
use Rattle.scp_live_config.specs.Config.{table_said}
use Rattle.scp_live_config.proofs.queues.read_capacities.Goals as goal

pub returns-in-None-clause-read : goal.returns-in-None-clause-read
returns-in-None-clause-read c =
    let found = rw c.in-None.is at c.find.ensures in
    (no_members, ap table_said (sym found), record { keys = refl; link = refl; inbox = refl; ready = refl; decided = refl })
