use Rattle.std.proofs.Common.{sym, ap, ◌∙◌}
use Rattle.std.specs.FinMap as map
use Rattle.scp_kv.specs.Map.{KvMap}
use Rattle.scp_kv.proofs.Maps.{get-seen}
use Rattle.scp_kv.proofs.state.KvState.get.Goals as goal

pub returns : goal.returns
returns c =
    c.get.ensures.value ∙ sym (get-seen c.self.inside.entries.entries c.args.key.now)
    ∙ ap (λ (m : KvMap). map.get m c.args.key.now) c.self.view_is
