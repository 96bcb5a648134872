use Rattle.std.proofs.Common.{sym, ◌∙◌}
use Rattle.scp_kv.proofs.Maps.{seen_empty, empty_seen}
use Rattle.scp_kv.proofs.state.KvState.is_empty.Goals as goal

pub returns : goal.returns
returns c = (
  λ t. sym c.self.view_is ∙ seen_empty c.self.inside.entries.entries (c.is_empty.ensures.0 t),
  λ e. c.is_empty.ensures.1 (empty_seen c.self.inside.entries.entries (c.self.view_is ∙ e)),
)
