use Rattle.scp_live_process.proofs.Running.{live_seen}
use Rattle.scp_live_process.proofs.stand.write_named.Goals as goal

pub write_stand-requires : goal.write_stand-requires
write_stand-requires c = record { seen = live_seen c.args.node.now c.requires.live }
