-- What is kept is what was played, and it determines the node.
use Rattle.std.specs.Prelude.{ℕ, ◌≡◌, false, List, ◌++◌}
use Rattle.scp_stand_node.specs.scp_core.specs.History.{Exchange}
use Rattle.scp_batches.specs.scp_live_log.specs.Log.{EntryView}
use Rattle.scp_stand_node.specs.scp_core.specs.Kv.{HoldsLedger}
use Rattle.scp_stand_node.specs.scp_core.specs.Same.{ShowSameNode}
use Rattle.scp_live.specs.scp_again.specs.Laws.{NeverGoesBack}
use Rattle.scp_live.specs.scp_live_config.specs.declared.settings.Settings.{Settings}
use Rattle.scp_live.specs.Live.{LiveView}
use Rattle.scp_live_process.specs.Answers.{AreAnswered}
use Rattle.scp_live.specs.Replays.{AreReplayed}
use Rattle.scp_live.specs.Beginning.{Configures, IsNew}

-- What the node did while it answered lines is a replay of what is kept of these lines.
abbrev pub KeptIsPlayed : Type 0
KeptIsPlayed = (number : ℕ) (lines : List (List ℕ)) (old : LiveView) (heard : List Exchange) (new : LiveView) (kept : List EntryView) (text : List ℕ) → AreAnswered number lines old heard new kept text → AreReplayed kept old heard new

-- Take two runs of a node with one configuration that played the same entries and still run. They received and replied the same, and
-- their nodes show the same.
abbrev pub LogsMakeOneNode : Type 0
LogsMakeOneNode =
    (config : List ℕ) (settings : Settings) (a b v w : LiveView) (x y : List Exchange) (entries : List EntryView) → Configures config settings → IsNew settings a → IsNew settings b → AreReplayed entries a x v → AreReplayed entries b y w → v.node.failed ≡ false → w.node.failed ≡ false → (x ≡ y) × ShowSameNode v.node w.node

-- Take two lives of a node with one configuration that still run. The earlier one played these entries, and the later one a log that has
-- grown since: these entries, and then more. The later life received and replied all that the earlier one did, and then more, and it holds
-- its ledger for all of this. So what the earlier life sent over a link is a beginning of what was sent over it in both, and there each
-- statement is newer than those of its slot and kind before it.
-- Nor does the node go back by what it sends once more. Of each link take, in this order: what the earlier life sent, what it would send once
-- more at its end, what was sent since, and what the later life would send once more at its end. Of two statements of one slot and kind the
-- later one is the same or newer. An earlier life may be the same life up to any event, so this is about each answer to `again`.
abbrev pub LogsGoOn : Type 0
LogsGoOn =
    (config : List ℕ) (settings : Settings) (a b v w : LiveView) (x y : List Exchange) (entries more : List EntryView) → Configures config settings → IsNew settings a → IsNew settings b → AreReplayed entries a x v → AreReplayed (entries ++ more) b y w → v.node.failed ≡ false → w.node.failed ≡ false → (rest : List Exchange) × (y ≡ x ++ rest) × HoldsLedger y w.node × ((link : ℕ) → NeverGoesBack link x rest v.node w.node)
