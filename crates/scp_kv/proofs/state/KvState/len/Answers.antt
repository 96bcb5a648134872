use Rattle.std.proofs.Common.{sym, ap, ◌∙◌}
use Rattle.std.specs.FinMap as map
use Rattle.scp_kv.specs.Map.{KvMap}
use Rattle.scp_kv.proofs.Maps.{len-seen}
use Rattle.scp_kv.proofs.state.KvState.len.Goals as goal

pub returns : goal.returns
returns c =
    c.len.ensures.len ∙ sym (len-seen c.self.inside.entries.entries c.len.ensures.ordered)
    ∙ ap (λ (m : KvMap). map.len m) c.self.view_is
