-- What `gather` requires, and what it reports.
use Rattle.std.specs.Prelude.{◌≡◌, ℕ, Bool, false, not, List, length, map, Option, Some, None, is_some, slice_get, if◌then◌else◌}
use Rattle.std.specs.Global.{Vec}
use Rattle.std.specs.List.{list_any}
use Rattle.std.specs.List.Sorted.{IsStrictlySortedBy}
use Rattle.scp_workers.specs.scp_driver.specs.Driver.{Says}
use Rattle.scp_workers.specs.scp_types.specs.declared.fault.Stage.{Stage}
use Rattle.scp_workers.specs.scp_types.specs.declared.fault.Stage.TheVariants.{Reader, Pend, Slot, Apply}
use Rattle.scp_workers.specs.scp_types.specs.declared.names.NodeId.{NodeId}
use Rattle.scp_workers.specs.scp_quorum.specs.QuorumTree.{QuorumTree}
use Rattle.scp_workers.specs.scp_wire.specs.declared.carried.Carried.{Carried}
use Rattle.scp_workers.specs.scp_wire.specs.declared.link.Inbound.{Inbound}
use Rattle.scp_workers.specs.scp_wire.specs.declared.link.LinkItem.{LinkItem}
use Rattle.scp_workers.specs.scp_pending.specs.Endings.{commands_in, commands_of}
use Rattle.scp_workers.specs.scp_pending.specs.Messages.{AreParked, message_cmp}
use Rattle.scp_workers.specs.scp_ledger.specs.declared.journal.Decision.{Decision}
use Rattle.scp_workers.specs.scp_ledger.specs.declared.journal.Fate.{Fate}
use Rattle.scp_workers.specs.scp_ledger.specs.declared.took.CommandFate.{CommandFate}
use Rattle.scp_workers.specs.scp_ends.specs.Ends.{Line, Sender}
use Rattle.scp_workers.specs.scp_ends.specs.Links.{LinkEnd}
use Rattle.scp_workers.specs.scp_ends.specs.Order.{values}
use Rattle.scp_workers.specs.Working.{End}
use Rattle.scp_workers.specs.Reading.{ReaderEnd}
use Rattle.scp_workers.specs.Slot.{HaveFates}
use Rattle.scp_gather.specs.Left.{Left, sent_over}
use Rattle.scp_gather.specs.Gathered.{account_gathered, AreLeftParked, Gathered}
use Rattle.scp_gather.specs.Sending.{ArePutOut}

-- ---- whose ends they are

-- if the worker's end was received, the worker left a sending end of this channel
abbrev pub SendsTo : {T U S : Type 0} → Line U → End T U S → Type 0
SendsTo {T} {U} {S} line e = e.unheard ≡ false → (s : Sender U) × (e.output ≡ Some s) × (s.line ≡ line)

-- the reader reads this link, and sends to this inbox
abbrev pub IsJoined : Line Inbound → LinkEnd → ReaderEnd → Type 0
IsJoined inbox k r = (k.tail.line ≡ r.input.line) × SendsTo inbox r

-- each link and its reader are joined, at each place
abbrev pub AreJoinedTo : Line Inbound → List LinkEnd → List ReaderEnd → Type 0
AreJoinedTo inbox links readers = (l : ℕ) → (k : LinkEnd) → slice_get links l ≡ Some k → (r : ReaderEnd) → slice_get readers l ≡ Some r → IsJoined inbox k r

module _ {D : Type 0} where
  -- each sending end belongs to the channel of its receiving end
  pub record AreJoined (e : Left D) : Type 0 where
    pub links : AreJoinedTo e.pend.input.line e.links e.readers
    pub local : e.local.line ≡ e.pend.input.line
    pub ready : SendsTo e.slot.input.line e.pend
    pub decided : SendsTo e.apply.input.line e.slot

-- ---- who failed

-- the worker failed: it didn't end well
abbrev pub has_failed : {T U S : Type 0} → End T U S → Bool
has_failed e = not e.well

-- the first stage, in the order of the pipeline, whose worker failed
abbrev pub first_so : Bool → Bool → Bool → Bool → Option Stage
first_so reader pend slot apply = if reader then Some Reader else (if pend then Some Pend else (if slot then Some Slot else (if apply then Some Apply else None)))

module _ {D : Type 0} where
  -- the first stage whose worker failed, in the order reader, pend, slot, apply
  abbrev pub first_failed : Left D → Option Stage
  first_failed e = first_so (list_any has_failed e.readers) (has_failed e.pend) (has_failed e.slot) (has_failed e.apply)

-- ---- what is reported

module _ {D : Type 0} (says : Says D) where
  -- the journal, what is parked and what is applied are those of the node that was gathered
  pub record IsReportOf (me : NodeId) (set : QuorumTree) (peers : List NodeId) (e : Left D) (journal : List Fate) (parked : List Carried) (applied : List Decision) : Type 0 where
    pub gathered : Gathered says me set peers e
    pub journal_is : journal ≡ e.slot.stage.ledger.journal
    -- each connection's parked messages are what was sent on it and has no entry, ascending by sender, life and number
    pub parked_is : AreParked e.pend.stage parked
    pub left : AreLeftParked (account_gathered me set peers e) parked
    pub ascending : IsStrictlySortedBy message_cmp parked
    pub applied_is : applied ≡ e.apply.stage.applied

  -- This became of the node's own commands, except ticks, one each, in order. Exactly these commands are among what its ledger took, in that
  -- order. This is what the ledger reported of each, as it was then: in the same run in which it handed out what was put into the outboxes.
  pub record AreFatesOf (me : NodeId) (set : QuorumTree) (peers : List NodeId) (e : Left D) (fates : List CommandFate) : Type 0 where
    pub commands : commands_of (values e.slot.input.got) ≡ commands_in e.local.sent
    pub put : ArePutOut says me set peers e
    pub told : HaveFates says me set peers (values e.slot.input.got) (values e.apply.input.got) put.said fates e.slot.stage.ledger
    pub same_run : told.takes ≡ put.handed.takes

-- ---- what came over its links

-- the link's reader was to keep what it received
abbrev pub keeps_by : ReaderEnd → Bool
keeps_by r = is_some r.first.kept

module _ {D : Type 0} where
  -- There is one row for each link, in order. Each row that was kept is all that was sent over its link, in order.
  pub record AreCame (e : Left D) (came : List (Option (Vec LinkItem))) : Type 0 where
    pub count : length came ≡ length e.links
    pub each : (l : ℕ) → (row : Vec LinkItem) → slice_get came l ≡ Some (Some row) → row.items ≡ sent_over e.links l

-- a link's row is there exactly if this says that it was to be kept
abbrev pub AreKept : List Bool → List (Option (Vec LinkItem)) → Type 0
AreKept keeps came = map is_some came ≡ keeps
