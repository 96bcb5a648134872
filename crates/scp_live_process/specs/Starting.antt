-- How a node starts as a process (this project's profile).
use Rattle.std.specs.Prelude.{ℕ, zero, suc, ◌≡◌, ◌⊎◌, List, [], ◌++◌, length, codes, Option}
use Rattle.std.specs.Fmt.{decimal}
use Rattle.scp_stand_node.specs.scp_core.specs.History.{Exchange}
use Rattle.scp_stand_node.specs.scp_core.specs.Kv.{LedgerTheorem, HoldsLedger, HoldsHeadline}
use Rattle.scp_stand_node.specs.scp_device.specs.Device.{Gains}
use Rattle.scp_batches.specs.scp_live_log.specs.declared.kept.Kept.{Kept}
use Rattle.scp_batches.specs.scp_live_log.specs.declared.wanted.Wanted.{Wanted}
use Rattle.scp_batches.specs.scp_live_log.specs.declared.wanted.Wanted.TheVariants.{New}
use Rattle.scp_batches.specs.scp_live_log.specs.Disk.{StartsWith}
use Rattle.scp_batches.specs.scp_live_log.specs.Wanted.{Fits}
use Rattle.scp_batches.specs.scp_live_log.specs.Kept.{IsRecovered, IsAllAndMore, IsTornBy}
use Rattle.scp_batches.specs.scp_live_log.specs.Log.{EntryView, Marked, AreEntries, entries_of, log_of}
use Rattle.scp_live.specs.scp_live_config.specs.declared.settings.Settings.{Settings}
use Rattle.scp_live.specs.scp_live_lines.specs.Replies.{ok_line}
use Rattle.scp_live.specs.Live.{LiveView}
use Rattle.scp_live.specs.Questions.{state_of}
use Rattle.scp_stand_node.specs.scp_stand_slot.specs.declared.names.Names.{Names}
use Rattle.scp_trace_text.specs.Tracing.{IsTraced}
use Rattle.scp_live.specs.Beginning.{Configures, digest_of, header_of, IsNew}
use Rattle.scp_live.specs.Replays.{AreReplayed, Then}
use Rattle.scp_live_process.specs.declared.starting.Restarted.{Restarted}
use Rattle.scp_live_process.specs.Closing.{AreClosed}
use Rattle.scp_live_process.specs.Serving.{HasServed}
use Rattle.scp_live_process.specs.Stands.{AreNamesIn}

-- The line that reports a torn end, if there is one: how many bytes were cut off, and behind how many events.
abbrev pub torn_line : ℕ → ℕ → List ℕ
torn_line zero events = []
torn_line (suc n) events = codes "torn " ++ decimal (suc n) ++ codes " " ++ decimal events ++ codes "\n"

-- What is written before any line is read: how many events the log has, whether its end was torn, the state of the node, and `ok 0`.
abbrev pub greeting : Restarted → LiveView → List ℕ
greeting found v = codes "ready " ++ decimal found.count ++ codes "\n" ++ torn_line found.torn found.behind ++ state_of v ++ ok_line 0

-- The file of a log was read, and these are its entries: all that were kept and, if something followed them in the file, perhaps more.
-- The log is exactly these entries now, all of it on the disk.
pub record HasRead {L : Type 0} (holds may_leave : L → List ℕ → Type 0) (header : List ℕ) (entries : List EntryView) (log log' : Kept L) : Type 0 where
  pub all : (ms : List Marked) (rest : List ℕ) → AreEntries ms → holds log.log (log_of header ms ++ rest) → IsAllAndMore (entries_of ms) rest entries
  pub recovered : (c : List ℕ) → holds log.log c → IsRecovered holds may_leave header entries log'

-- The node played what its log says, and then closed each link that was open. The log contains these events, too.
pub record IsRestarted {L : Type 0} (holds may_leave : L → List ℕ → Type 0) (wanted : Wanted) (header : List ℕ) (log log' : Kept L) (old : LiveView) (heard : List Exchange) (new : LiveView) (found : Restarted) : Type 0 where
  pub entries : List EntryView
  pub closes : List EntryView
  pub played : Then (AreReplayed entries) (AreClosed closes) old heard new
  pub count_is : found.count ≡ length (entries ++ closes)
  -- The log is the one that was wanted, and a first line that was torn was written again only where a new one was.
  pub wanted_is : Fits wanted (length entries)
  pub begun : (c : List ℕ) → holds log.log c → StartsWith header c ⊎ ((wanted ≡ New) × StartsWith c header)
  -- So many bytes of its file were cut off, behind these entries.
  pub behind_is : found.behind ≡ length entries
  pub torn : (c : List ℕ) → holds log.log c → IsTornBy header entries found.torn c
  -- Everything that was kept is played. If nothing followed it in the file, there is nothing more.
  pub all : (ms : List Marked) (rest : List ℕ) → AreEntries ms → holds log.log (log_of header ms ++ rest) → IsAllAndMore (entries_of ms) rest entries
  pub recovered : (c : List ℕ) → holds log.log c → IsRecovered holds may_leave header (entries ++ closes) log'

-- The node started and wrote its greeting, and then it served all of its input.
pub record HasRun {L : Type 0} (holds may_leave : L → List ℕ → Type 0) (wanted : Wanted) (header : List ℕ) (left written longer : Option (List ℕ)) (log log' : Kept L) (old : LiveView) (heard : List Exchange) (new : LiveView) : Type 0 where
  pub started : LiveView
  pub ready : Kept L
  pub found : Restarted
  pub greeted : Option (List ℕ)
  pub heard_first : List Exchange
  pub heard_next : List Exchange
  pub heard_is : heard ≡ heard_first ++ heard_next
  pub restarted : IsRestarted holds may_leave wanted header log ready old heard_first started found
  pub greets : Gains written (greeting found started) greeted
  pub served : HasServed holds may_leave left greeted longer ready log' started heard_next new

-- A node with these settings ran until its input ended. It holds its ledger and its headline, for all that it received and replied.
pub record RunsAs {L : Type 0} (holds may_leave : L → List ℕ → Type 0) (wanted : Wanted) (settings : Settings) (left written longer : Option (List ℕ)) (log : L) : Type 0 where
  pub begun : LiveView
  pub is_new : IsNew settings begun
  pub empty : Kept L
  pub on_log : empty.log ≡ log
  pub kept : Kept L
  pub heard : List Exchange
  pub node : LiveView
  pub ran : HasRun holds may_leave wanted (header_of (digest_of settings)) left written longer empty kept begun heard node
  pub config : node.node.config ≡ begun.node.config
  pub theorem : LedgerTheorem heard node.node
  pub ledger : HoldsLedger heard node.node
  pub headline : HoldsHeadline heard node.node

-- The text is a configuration, and a node with it ran until its input ended.
pub record IsRun {L : Type 0} (holds may_leave : L → List ℕ → Type 0) (wanted : Wanted) (config : List ℕ) (left written longer : Option (List ℕ)) (log : L) : Type 0 where
  pub settings : Settings
  pub configures : Configures config settings
  pub runs : RunsAs holds may_leave wanted settings left written longer log

-- A node with these settings ran until its input ended. What happened in its steps, from the first one on, was written to a trace. The
-- trace calls a node by its name, and a quorum set by its hash.
pub record TracesRun {L : Type 0} (holds may_leave : L → List ℕ → Type 0) (wanted : Wanted) (settings : Settings) (left written longer : Option (List ℕ)) (log : L) (trace traced : Option (List ℕ)) : Type 0 where
  pub runs : RunsAs holds may_leave wanted settings left written longer log
  pub names : Names
  pub named : AreNamesIn settings.names.items names
  pub is : IsTraced names runs.begun.node runs.heard runs.node.node trace traced

-- The text is a configuration, and a node with it ran until its input ended, with such a trace.
pub record IsTracedRun {L : Type 0} (holds may_leave : L → List ℕ → Type 0) (wanted : Wanted) (config : List ℕ) (left written longer : Option (List ℕ)) (log : L) (trace traced : Option (List ℕ)) : Type 0 where
  pub settings : Settings
  pub configures : Configures config settings
  pub runs : TracesRun holds may_leave wanted settings left written longer log trace traced
