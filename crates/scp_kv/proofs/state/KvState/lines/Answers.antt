use Rattle.std.proofs.Common.{sym, ap, ◌∙◌}
use Rattle.std.specs.FinMap as map
use Rattle.scp_kv.specs.Map.{KvMap}
use Rattle.scp_kv.proofs.Maps.{entries-seen}
use Rattle.scp_kv.proofs.state.KvState.lines.Goals as goal

pub returns-clause-entries : goal.returns-clause-entries
returns-clause-entries c =
    c.iter.ensures.rest ∙ sym (entries-seen c.self.inside.entries.entries c.iter.ensures.ordered)
    ∙ ap (λ (m : KvMap). map.entries m) c.self.view_is
