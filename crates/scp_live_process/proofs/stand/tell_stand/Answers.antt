use Rattle.std.proofs.Common.{List, string_bytes, subst}
use Rattle.scp_live.specs.scp_live_config.specs.Names.{Identity}
use Rattle.scp_live_process.specs.Stands.{AreNamesIn}
use Rattle.scp_live_process.proofs.Standing.{stand_named}
use Rattle.scp_live_process.proofs.stand.tell_stand.Goals as goal

pub returns-clause-told : goal.returns-clause-told
returns-clause-told c =
    stand_named c.write_named.result c.args.live.now c.in_ok-names.names c.node.result.now (string_bytes c.args.text.now) (string_bytes c.write_named.new.text) c.node.ensures
    (subst (λ (nodes : List Identity). AreNamesIn nodes c.in_ok-names.names) c.nodes.ensures c.in_ok-names.ensures) c.write_named.ensures.told
