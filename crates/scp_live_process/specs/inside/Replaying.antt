-- What calls do while entries are played.
use Rattle.std.specs.Prelude.{ℕ, ◌≡◌, List, [], ◌∷◌, ◌++◌, map}
use Rattle.scp_stand_node.specs.scp_core.specs.History.{Exchange}
use Rattle.scp_batches.specs.scp_live_log.specs.Log.{EntryView}
use Rattle.scp_live.specs.Live.{LiveView}
use Rattle.scp_live.specs.Replays.{IsReplayed, AreReplayed}
use Rattle.scp_live_process.specs.Closing.{close_line}
use Rattle.scp_live_process.specs.Adding.{BatchView}

-- The entry of a link's `close` line was added, and what the node did is a replay of it.
pub record AddsClose (link : ℕ) (old : LiveView) (heard : List Exchange) (new : LiveView) (before after' : BatchView) : Type 0 where
  pub entry : EntryView
  pub line : entry.line ≡ close_line old.names link
  pub replayed : IsReplayed entry old heard new
  pub entries : after'.entries ≡ before.entries ++ entry ∷ []

-- The same of links, in order.
pub record AddsCloses (links : List ℕ) (old : LiveView) (heard : List Exchange) (new : LiveView) (before after' : BatchView) : Type 0 where
  pub kept : List EntryView
  pub lines : map (λ (entry : EntryView). entry.line) kept ≡ map (close_line old.names) links
  pub replayed : AreReplayed kept old heard new
  pub entries : after'.entries ≡ before.entries ++ kept
