-- The account of a node that runs as a process, made from its log (this project's profile).
use Rattle.std.specs.Prelude.{ℕ, ◌≡◌, List, [], ◌∷◌, ◌++◌, Option}
use Rattle.scp_stand_node.specs.scp_core.specs.History.{Exchange}
use Rattle.scp_stand_node.specs.scp_core.specs.Kv.{HoldsLedger, HoldsHeadline}
use Rattle.scp_stand_node.specs.scp_device.specs.Device.{Gains}
use Rattle.scp_stand_node.specs.scp_turn.specs.Kv.{Watched}
use Rattle.scp_batches.specs.scp_live_log.specs.declared.kept.Kept.{Kept}
use Rattle.scp_batches.specs.scp_live_log.specs.Kept.{IsAllAndMore}
use Rattle.scp_batches.specs.scp_live_log.specs.Log.{EntryView, Marked, AreEntries, entries_of, log_of}
use Rattle.scp_live.specs.scp_live_config.specs.declared.settings.Settings.{Settings}
use Rattle.scp_trace_text.specs.scp_facts.specs.declared.happening.Kept.{Kept as Happened}
use Rattle.scp_trace_text.specs.scp_facts.specs.Kept.{Keeps}
use Rattle.scp_account.specs.scp_report.specs.Node.{reports_of}
use Rattle.scp_account.specs.declared.node.Mode.TheVariants as ways
use Rattle.scp_account.specs.Account.{account_text}
use Rattle.scp_live.specs.Live.{LiveView}
use Rattle.scp_live.specs.Beginning.{Configures, IsNew, digest_of, header_of}
use Rattle.scp_live.specs.Replays.{AreReplayed}

-- The node played what its log says, this was recorded of its steps, and the text is the account made from the node's record and from that.
pub record IsAccountOf {L : Type 0} (holds : L → List ℕ → Type 0) (header : List ℕ) (log : Kept L) (old : LiveView) (heard : List Exchange) (new : LiveView) (text : List ℕ) : Type 0 where
  pub entries : List EntryView
  pub replayed : AreReplayed entries old heard new
  -- Everything that was kept is played. If nothing followed it in the file, there is nothing more.
  pub all : (ms : List Marked) (rest : List ℕ) → AreEntries ms → holds log.log (log_of header ms ++ rest) → IsAllAndMore (entries_of ms) rest entries
  pub kept : List Happened
  pub noted : Watched Keeps 1 [] old.node heard new.node kept
  pub is : text ≡ account_text ways.Serial (reports_of (new.node ∷ [])) kept

-- The account of a node with these settings was written. From the newly made node on, it played what the log says. It holds its ledger and its
-- headline, for all that it received and replied.
pub record AccountsFor {L : Type 0} (holds : L → List ℕ → Type 0) (settings : Settings) (written longer : Option (List ℕ)) (log : L) : Type 0 where
  pub begun : LiveView
  pub is_new : IsNew settings begun
  pub on : Kept L
  pub on_log : on.log ≡ log
  pub heard : List Exchange
  pub node : LiveView
  pub text : List ℕ
  pub account : IsAccountOf holds (header_of (digest_of settings)) on begun heard node text
  pub ledger : HoldsLedger heard node.node
  pub headline : HoldsHeadline heard node.node
  pub told : Gains written text longer

-- The text is a configuration, and the account of a node with it was written.
pub record IsAccounted {L : Type 0} (holds : L → List ℕ → Type 0) (config : List ℕ) (written longer : Option (List ℕ)) (log : L) : Type 0 where
  pub settings : Settings
  pub configures : Configures config settings
  pub accounts : AccountsFor holds settings written longer log
