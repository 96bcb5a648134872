-- How a node that runs as a process ends with another status than 0: what it did, why it ended, and its last line (this project's
-- profile).
use Rattle.std.specs.Prelude.{ℕ, ◌≡◌, ◌≢◌, ◌⊎◌, ◌↔◌, ◌<◌, Bool, true, List, ◌++◌, Option, Err}
use Rattle.scp_stand_node.specs.scp_types.specs.declared.fault.Fault.{Fault}
use Rattle.scp_stand_node.specs.scp_types.specs.declared.fault.Fault.TheVariants.{NoMemory, TooLong, AlreadyOpen, BadConfig, JournalFull, Device}
use Rattle.scp_stand_node.specs.scp_device.specs.Device.{Fails, Gains, GainsPart}
use Rattle.scp_stand_node.specs.scp_core.specs.Config.{IsConfigOfMany}
use Rattle.scp_stand_node.specs.scp_core.specs.History.{Exchange}
use Rattle.scp_stand_node.specs.scp_core.specs.Kv.{LedgerTheorem, HoldsLedger, HoldsHeadline}
use Rattle.scp_stand_node.specs.scp_turn.specs.Turn.{links_of}
use Rattle.scp_stand_node.specs.scp_turn.specs.Episode.{finds_full}
use Rattle.scp_batches.specs.scp_live_log.specs.declared.kept.Kept.{Kept}
use Rattle.scp_batches.specs.scp_live_log.specs.declared.kept.LogFault.{LogFault}
use Rattle.scp_batches.specs.scp_live_log.specs.declared.kept.LogFault.TheVariants.{Another, Unbegun, Count, Damaged, Moved, Failed}
use Rattle.scp_batches.specs.scp_live_log.specs.declared.wanted.Unfit.{Unfit}
use Rattle.scp_batches.specs.scp_live_log.specs.declared.wanted.Unfit.TheVariants.{Chain}
use Rattle.scp_batches.specs.scp_live_log.specs.declared.wanted.Wanted.{Wanted}
use Rattle.scp_batches.specs.scp_live_log.specs.declared.wanted.Wanted.TheVariants.{New}
use Rattle.scp_batches.specs.scp_live_log.specs.Wanted.{Fits}
use Rattle.scp_batches.specs.scp_live_log.specs.Disk.{StartsWith, Only}
use Rattle.scp_batches.specs.scp_live_log.specs.Kept.{IsAnother, IsUnbegun, HasEntries, IsDamaged}
use Rattle.scp_batches.specs.scp_live_log.specs.Log.{EntryView, Marked, AreEntries, entries_of, log_of}
use Rattle.scp_live.specs.scp_live_config.specs.declared.settings.Settings.{Settings}
use Rattle.scp_live.specs.scp_live_config.specs.declared.fault.ConfigFault.{ConfigFault}
use Rattle.scp_live.specs.Live.{LiveView}
use Rattle.scp_live.specs.Beginning.{Configures, IsNew, config_in, digest_of, header_of}
use Rattle.scp_live.specs.Replays.{AreReplayed, Then, IsUnfitAt}
use Rattle.scp_live.specs.Failing.{Writing, IsReported, IsConfigFault, fault_line, fault_status, config_line, config_status}
use Rattle.scp_live_process.specs.declared.starting.Restarted.{Restarted}
use Rattle.scp_live_process.specs.Closing.{open_links, MayBeOpen, HasNoCloseLine}
use Rattle.scp_live_process.specs.Serving.{HasServedPart}
use Rattle.scp_live_process.specs.Starting.{HasRead, IsRestarted, RunsAs, greeting}

-- ---- the host and the disk

-- What contracts see of a reader and a writer: what is left to be read and what was written, where that is known, and how often each has
-- failed.
pub record Streams : Type 0 where
  pub left : Option (List ℕ)
  pub reads_failed : ℕ
  pub written : Option (List ℕ)
  pub writes_failed : ℕ

-- The same, of these four.
abbrev pub streams : Option (List ℕ) → ℕ → Option (List ℕ) → ℕ → Streams
streams left reads written writes = record { left = left; reads_failed = reads; written = written; writes_failed = writes }

-- The reader, the writer or the disk failed.
abbrev pub HasFailed : Streams → Streams → ℕ → ℕ → Type 0
HasFailed old new disk disk' = Fails old.reads_failed new.reads_failed ⊎ (Fails disk disk' ⊎ Fails old.writes_failed new.writes_failed)

-- None of them failed.
abbrev pub NoneFailed : Streams → Streams → ℕ → ℕ → Type 0
NoneFailed old new disk disk' = (new.reads_failed ≡ old.reads_failed) × (disk' ≡ disk) × (new.writes_failed ≡ old.writes_failed)

-- The file begins with a log whose entries begin with these.
pub record BeginsWith (header : List ℕ) (entries : List EntryView) (file : List ℕ) : Type 0 where
  pub marked : List Marked
  pub more : List EntryView
  pub are : entries_of marked ≡ entries ++ more
  pub starts : StartsWith (log_of header marked) file

-- All entries that were kept in a log are in it still, whatever a crash leaves now.
abbrev pub StaysKept : {L : Type 0} → (L → List ℕ → Type 0) → (L → List ℕ → Type 0) → List ℕ → Kept L → Kept L → Type 0
StaysKept holds may_leave header log log' =
    (ms : List Marked) (rest : List ℕ) → AreEntries ms → holds log.log (log_of header ms ++ rest) → Only (log_of header ms ++ rest) (may_leave log.log) → (c : List ℕ) → may_leave log'.log c → BeginsWith header (entries_of ms) c

-- ---- why a node ends

-- The entries of the log were read and played, and then one of the links that were open has no `close` line.
pub record LacksCloseLine {L : Type 0} (holds may_leave : L → List ℕ → Type 0) (header : List ℕ) (log log' : Kept L) (old : LiveView) (heard : List Exchange) (new : LiveView) : Type 0 where
  pub entries : List EntryView
  pub read : HasRead holds may_leave header entries log log'
  pub played : Then (AreReplayed entries) (λ played rest end. HasNoCloseLine played.names (open_links played.node (links_of played.node))) old heard new

-- The entries of the log were read, and the one at this index can't be played, for this reason.
pub record IsUnplayed {L : Type 0} (holds may_leave : L → List ℕ → Type 0) (header : List ℕ) (place : ℕ) (unfit : Unfit) (log log' : Kept L) (old : LiveView) (heard : List Exchange) (new : LiveView) : Type 0 where
  pub entries : List EntryView
  pub read : HasRead holds may_leave header entries log log'
  pub at : IsUnfitAt entries place unfit old heard new

-- Why a node doesn't start with its log, by the fault that it reports:
-- - `Another`: the file is no log with this first line, and no beginning of that line, so it isn't only torn;
-- - `Unbegun`: the file is a beginning of the first line, and no new log was wanted;
-- - `Count`: the file has exactly so many entries at its front, and this isn't what was wanted;
-- - `Damaged`: the entry at this index doesn't fit the digests, and a batch begins after it; or it can't be played;
-- - `Device`: the disk failed. `JournalFull`: a step found the journal full. `NoMemory`: the disk didn't fail;
-- - `AlreadyOpen`: a link may be open still. `BadConfig`: a link has no `close` line. No known configuration ends so.
abbrev pub IsStartFault : {L : Type 0} → (L → List ℕ → Type 0) → (L → List ℕ → Type 0) → (L → ℕ) → Wanted → List ℕ → Kept L → Kept L → LiveView → List Exchange → LiveView → LogFault → Type 0
IsStartFault holds may_leave faults wanted header log log' old heard new Another = (c : List ℕ) → holds log.log c → IsAnother header c
IsStartFault holds may_leave faults wanted header log log' old heard new Unbegun = (wanted ≢ New) × ((c : List ℕ) → holds log.log c → IsUnbegun header c)
IsStartFault holds may_leave faults wanted header log log' old heard new (Count n w) = (w ≡ wanted) × ¬ (Fits wanted n) × ((c : List ℕ) → holds log.log c → HasEntries header n c)
IsStartFault holds may_leave faults wanted header log log' old heard new (Damaged place Chain) = (c : List ℕ) → holds log.log c → IsDamaged header place c
IsStartFault holds may_leave faults wanted header log log' old heard new (Damaged place unfit) = IsUnplayed holds may_leave header place unfit log log' old heard new
IsStartFault holds may_leave faults wanted header log log' old heard new (Failed Device) = Fails (faults log.log) (faults log'.log)
IsStartFault holds may_leave faults wanted header log log' old heard new (Failed JournalFull) = finds_full heard ≡ true
IsStartFault holds may_leave faults wanted header log log' old heard new (Failed NoMemory) = faults log'.log ≡ faults log.log
IsStartFault holds may_leave faults wanted header log log' old heard new (Failed AlreadyOpen) = MayBeOpen new.node
IsStartFault holds may_leave faults wanted header log log' old heard new (Failed BadConfig) = LacksCloseLine holds may_leave header log log' old heard new
IsStartFault holds may_leave faults wanted header log log' old heard new other = ⊥

-- Why a node that started doesn't serve its input to the end:
-- - `Device`: the reader, the writer or the disk failed. `JournalFull`: a step found the journal full;
-- - `NoMemory` and `TooLong`: none of these failed. `HasServedPart` says that `NoMemory` comes only with more input.
abbrev pub IsServeFault : Streams → Streams → ℕ → ℕ → List Exchange → Fault → Type 0
IsServeFault old new disk disk' heard Device = HasFailed old new disk disk'
IsServeFault old new disk disk' heard JournalFull = finds_full heard ≡ true
IsServeFault old new disk disk' heard NoMemory = NoneFailed old new disk disk'
IsServeFault old new disk disk' heard TooLong = NoneFailed old new disk disk'
IsServeFault old new disk disk' heard other = ⊥

-- ---- what it did

-- The node didn't start. Nothing was read or written, and all that was kept before is in the log still.
pub record IsUnstarted {L : Type 0} (holds may_leave : L → List ℕ → Type 0) (faults : L → ℕ) (wanted : Wanted) (header : List ℕ) (before after' : Streams) (log log' : Kept L) (old : LiveView) (heard : List Exchange) (new : LiveView) (fault : LogFault) : Type 0 where
  pub same : after' ≡ before
  pub stays : StaysKept holds may_leave header log log'
  pub why : IsStartFault holds may_leave faults wanted header log log' old heard new fault

-- The node started, and its greeting isn't written whole: there was no memory for it, or the writer failed.
pub record IsUngreeted {L : Type 0} (holds may_leave : L → List ℕ → Type 0) (wanted : Wanted) (header : List ℕ) (before after' : Streams) (log log' : Kept L) (old : LiveView) (heard : List Exchange) (new : LiveView) (fault : LogFault) : Type 0 where
  pub found : Restarted
  pub restarted : IsRestarted holds may_leave wanted header log log' old heard new found
  pub unread : after' ≡ record before { written = after'.written; writes_failed = after'.writes_failed }
  pub why : ((fault ≡ Failed NoMemory) × (after' ≡ before)) ⊎ ((fault ≡ Failed Device) × Fails before.writes_failed after'.writes_failed × GainsPart before.written (greeting found new) after'.written)

-- The node started and wrote its greeting, and then it served only a part of its input. What it wrote is of events that are in the log.
pub record IsUnserved {L : Type 0} (holds may_leave : L → List ℕ → Type 0) (faults : L → ℕ) (wanted : Wanted) (header : List ℕ) (before after' : Streams) (log log' : Kept L) (old : LiveView) (heard : List Exchange) (fault : LogFault) : Type 0 where
  pub started : LiveView
  pub ready : Kept L
  pub found : Restarted
  pub greeted : Streams
  pub heard_first : List Exchange
  pub heard_next : List Exchange
  pub heard_is : heard ≡ heard_first ++ heard_next
  pub restarted : IsRestarted holds may_leave wanted header log ready old heard_first started found
  pub unread : greeted ≡ record before { written = greeted.written }
  pub greets : Gains before.written (greeting found started) greeted.written
  pub cause : Fault
  pub is : fault ≡ Failed cause
  pub served : HasServedPart may_leave holds (Err cause) greeted.left greeted.written after'.written ready log' started heard_next
  pub why : IsServeFault greeted after' (faults ready.log) (faults log'.log) heard_next cause

-- The node stopped by this fault: before it started, before it greeted its host, or while it served it. A full journal is the fault exactly if
-- a step found the journal full.
abbrev pub StopsBy : {L : Type 0} → (L → List ℕ → Type 0) → (L → List ℕ → Type 0) → (L → ℕ) → Wanted → List ℕ → Streams → Streams → Kept L → Kept L → LiveView → List Exchange → LiveView → LogFault → Type 0
StopsBy holds may_leave faults wanted header before after' log log' old heard new fault =
    ((fault ≡ Failed JournalFull) ↔ (finds_full heard ≡ true))
    × (IsUnstarted holds may_leave faults wanted header before after' log log' old heard new fault
    ⊎ (IsUngreeted holds may_leave wanted header before after' log log' old heard new fault ⊎ IsUnserved holds may_leave faults wanted header before after' log log' old heard fault))

-- What is reported of the fault that stopped a node: that its log was moved, if a device failed and this was found of the log; otherwise the
-- fault itself.
abbrev pub IsReportedAs : Bool → LogFault → LogFault → Type 0
IsReportedAs moved cause fault = ((moved ≡ true) × (cause ≡ Failed Device) × (fault ≡ Moved)) ⊎ (((moved ≡ true) → cause ≢ Failed Device) × (fault ≡ cause))

-- A node with these settings stopped, and this fault is reported. It holds its ledger and its headline, for all that it received and replied.
pub record StopsAs {L : Type 0} (holds may_leave : L → List ℕ → Type 0) (faults : L → ℕ) (moved : L → Bool) (wanted : Wanted) (settings : Settings) (before after' : Streams) (log : L) (fault : LogFault) : Type 0 where
  pub begun : LiveView
  pub is_new : IsNew settings begun
  pub empty : Kept L
  pub on_log : empty.log ≡ log
  pub kept : Kept L
  pub heard : List Exchange
  pub node : LiveView
  pub cause : LogFault
  pub stops : StopsBy holds may_leave faults wanted (header_of (digest_of settings)) before after' empty kept begun heard node cause
  pub told : IsReportedAs (moved kept.log) cause fault
  pub theorem : LedgerTheorem heard node.node
  pub ledger : HoldsLedger heard node.node
  pub headline : HoldsHeadline heard node.node

-- No node was made: there was no memory for it, or no node can have these settings. Nothing was read or written.
pub record IsUnmade (settings : Settings) (before after' : Streams) (fault : LogFault) : Type 0 where
  pub same : after' ≡ before
  pub why : (fault ≡ Failed NoMemory) ⊎ ((fault ≡ Failed BadConfig) × ¬ (IsConfigOfMany (config_in settings)))

-- A node with these settings wasn't made, or it stopped by this fault.
abbrev pub Stops : {L : Type 0} → (L → List ℕ → Type 0) → (L → List ℕ → Type 0) → (L → ℕ) → (L → Bool) → Wanted → Settings → Streams → Streams → L → LogFault → Type 0
Stops holds may_leave faults moved wanted settings before after' log fault = IsUnmade settings before after' fault ⊎ StopsAs holds may_leave faults moved wanted settings before after' log fault

-- ---- the table of ends

-- What is written, and how often the writer has failed.
abbrev pub writing : Streams → Writing
writing streams = record { failures = streams.writes_failed; written = streams.written }

-- The line is written with this status, or the writer failed at it. Nothing more was read.
abbrev pub Reports : List ℕ → ℕ → Streams → Streams → ℕ → Type 0
Reports line status old new result = (new ≡ record old { written = new.written; writes_failed = new.writes_failed }) × IsReported line status (writing old) (writing new) result

-- The text is no configuration, and its fault is reported, or that there was no memory for that.
pub record IsUnconfigured (config : List ℕ) (before after' : Streams) (result : ℕ) : Type 0 where
  pub fault : ConfigFault
  pub why : IsConfigFault config fault
  pub told : Reports (config_line fault) (config_status fault) before after' result ⊎ Reports (fault_line (Failed NoMemory)) 3 before after' result

-- A run stopped so by a fault, and then the line of this fault was reported.
pub record EndsBy (Stop : Streams → LogFault → Type 0) (after' : Streams) (result : ℕ) : Type 0 where
  pub fault : LogFault
  pub stopped : Streams
  pub stops : Stop stopped fault
  pub told : Reports (fault_line fault) (fault_status fault) stopped after' result

-- How a run ends with another status than 0: the text is no configuration, or a node with it stopped by a fault.
abbrev pub EndsUnserved : {L : Type 0} → (L → List ℕ → Type 0) → (L → List ℕ → Type 0) → (L → ℕ) → (L → Bool) → Wanted → List ℕ → Streams → Streams → L → ℕ → Type 0
EndsUnserved holds may_leave faults moved wanted config before after' log result =
    IsUnconfigured config before after' result
    ⊎ ((settings : Settings) × Configures config settings × EndsBy (λ stopped fault. Stops holds may_leave faults moved wanted settings before stopped log fault) after' result)

-- ---- with a trace

-- A node ran until its input ended, but not all that happened is in its trace: the trace's writer has failed, or memory ran out.
pub record IsUntraced {L : Type 0} (holds may_leave : L → List ℕ → Type 0) (wanted : Wanted) (settings : Settings) (before after' : Streams) (log : L) (failures : ℕ) (fault : LogFault) : Type 0 where
  pub runs : RunsAs holds may_leave wanted settings before.left before.written after'.written log
  pub why : (fault ≡ Failed NoMemory) ⊎ ((fault ≡ Failed Device) × (0 < failures))

-- A node with these settings wasn't made, it stopped by this fault, or it lacks a part of its trace.
abbrev pub StopsTraced : {L : Type 0} → (L → List ℕ → Type 0) → (L → List ℕ → Type 0) → (L → ℕ) → (L → Bool) → Wanted → Settings → Streams → Streams → L → ℕ → LogFault → Type 0
StopsTraced holds may_leave faults moved wanted settings before after' log failures fault =
    Stops holds may_leave faults moved wanted settings before after' log fault ⊎ IsUntraced holds may_leave wanted settings before after' log failures fault

-- How a run with a trace ends with another status than 0. The trace's writer has failed so often then.
abbrev pub EndsUntraced : {L : Type 0} → (L → List ℕ → Type 0) → (L → List ℕ → Type 0) → (L → ℕ) → (L → Bool) → Wanted → List ℕ → Streams → Streams → L → ℕ → ℕ → Type 0
EndsUntraced holds may_leave faults moved wanted config before after' log failures result =
    IsUnconfigured config before after' result
    ⊎ ((settings : Settings) × Configures config settings × EndsBy (λ stopped fault. StopsTraced holds may_leave faults moved wanted settings before stopped log failures fault) after' result)
