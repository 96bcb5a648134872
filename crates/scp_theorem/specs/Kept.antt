-- The ledger theorem, in one record.
use Rattle.std.specs.Prelude.{ℕ, ◌≡◌, ◌≢◌, ◌≤◌, true, not, ◌&&◌, List, [], ◌∷◌, ◌++◌, Some, All, Contains, length, slice_get, map, flat_map, fold, Option}
use Rattle.std.specs.List.{AllByRecursion}
use Rattle.std.specs.List.Sorted.{IsPermutation}
use Rattle.scp_outbox.specs.scp_types.specs.declared.limits.TheConstants.{CARRIED_LIMIT}
use Rattle.scp_outbox.specs.scp_types.specs.declared.names.ConnId.{ConnId}
use Rattle.scp_outbox.specs.scp_types.specs.declared.names.NodeId.{NodeId}
use Rattle.scp_apply.specs.scp_driver.specs.declared.driver.Level.{Level}
use Rattle.scp_outbox.specs.scp_quorum.specs.Sane.{IsSane}
use Rattle.scp_outbox.specs.scp_wire.specs.declared.carried.Carried.{Carried}
use Rattle.scp_outbox.specs.scp_wire.specs.declared.message.Message.{Message}
use Rattle.scp_outbox.specs.scp_wire.specs.declared.link.Command.{Command}
use Rattle.scp_outbox.specs.scp_wire.specs.declared.link.Command.TheVariants.{Ask}
use Rattle.scp_outbox.specs.scp_wire.specs.declared.link.Inbound.{Inbound}
use Rattle.scp_outbox.specs.scp_wire.specs.declared.link.Inbound.TheVariants as inbound
use Rattle.scp_outbox.specs.scp_wire.specs.Connections.{conn_at}
use Rattle.scp_outbox.specs.scp_wire.specs.LinkReading.{unread, readings}
use Rattle.scp_outbox.specs.scp_wire.specs.Parts.{IsNumbered}
use Rattle.scp_outbox.specs.scp_wire.specs.Shape.{AreOfLink, never_open, comes, nothing_came, of_peer}
use Rattle.scp_outbox.specs.scp_wire.specs.Lanes.{slots_of, in_lane}
use Rattle.scp_outbox.specs.scp_wire.specs.Marks.{Mark, marks_in, IsWhole}
use Rattle.scp_outbox.specs.scp_wire.specs.Sent.{sent, is_closed, carried_of, line_of_sent}
use Rattle.scp_apply.specs.scp_pending.specs.declared.ready.Ready.{Ready}
use Rattle.scp_apply.specs.scp_pending.specs.Independence.{MayPass, StandsDelivered, AreLed}
use Rattle.scp_apply.specs.scp_pending.specs.Endings.{Exits, ways, commands_in, commands_of}
use Rattle.scp_apply.specs.scp_pending.specs.Line.{marks_of, held, HaveMessages}
use Rattle.scp_apply.specs.scp_pending.specs.Living.{stands, is_cut_off}
use Rattle.scp_apply.specs.scp_pending.specs.Messages.{AreParked}
use Rattle.scp_apply.specs.scp_pending.specs.Placing.{StandsAt}
use Rattle.scp_apply.specs.scp_pending.specs.Queues.{is_open}
use Rattle.scp_apply.specs.scp_pending.specs.Rules.{Settled, fresh, settled_by, released_by}
use Rattle.scp_apply.specs.scp_ledger.specs.declared.journal.Asking.{Asking}
use Rattle.scp_apply.specs.scp_ledger.specs.declared.journal.TheConstants.{JOURNAL_LIMIT}
use Rattle.scp_apply.specs.scp_ledger.specs.Decisions.{OnePerSlot, AreInWindow, IsFounded, HasItsDecision, IsLowest}
use Rattle.scp_apply.specs.scp_ledger.specs.Journals.{entry_in, entry_of}
use Rattle.scp_apply.specs.scp_ledger.specs.Marks.{marks_of as marks_on}
use Rattle.scp_apply.specs.scp_ledger.specs.Onwards.{decisions_on}
use Rattle.scp_apply.specs.scp_ledger.specs.Runs.{Taking, things, nothing_taken, Leads, stood_by, verdict_in, verdict_by, AreJudged}
use Rattle.scp_apply.specs.scp_ledger.specs.Seen.{is_asked}
use Rattle.scp_apply.specs.scp_ledger.specs.Verdicts.{HasItsSet, link_of}
use Rattle.scp_apply.specs.Applied.{AreInOrder}
use Rattle.scp_apply.specs.Applier.{next_of}
use Rattle.scp_theorem.specs.Account.{Account, Ran}
use Rattle.scp_theorem.specs.Fates.{Fates, conn_of, IsOfLink, FateHasCause, ways_on}

module _ {D : Type 0} where
  -- the pending stage before anything came
  abbrev pub start_of : Account D → Settled
  start_of a = fresh a.me a.peers a.set

  -- what has left the pending stage's queues and isn't in the journal yet
  abbrev pub leaving : Account D → List Ready
  leaving a = a.on_way ++ a.pending.leaving

  -- ---- one connection

  -- the slots that its messages name, by their numbers
  abbrev pub slots_sent : Account D → ℕ → ConnId → ℕ → ℕ
  slots_sent a l c = slots_of (carried_of CARRIED_LIMIT (sent c (a.sent l)))

  -- what was sent on the connection: the numbers of its messages, and then its end
  abbrev pub line_sent : Account D → ℕ → ConnId → List Mark
  line_sent a l c = line_of_sent 0 CARRIED_LIMIT (sent c (a.sent l)) (is_closed c (a.sent l))

  -- what the node holds of the connection without a fate: on its way, parked, in the inbox, and on the link
  abbrev pub line_held : Account D → ℕ → ConnId → List Mark
  line_held a l c = marks_of c a.on_way ++ (held c a.pending ++ (marks_in c a.inbox ++ marks_in c (a.upcoming l)))

  -- the connection's messages
  abbrev pub messages_sent : Account D → ℕ → ConnId → List Message
  messages_sent a l c = carried_of CARRIED_LIMIT (sent c (a.sent l))

  -- What the node holds of a connection is messages, and not only numbers. Each is the message of its number: on its way with its set,
  -- parked, in the inbox, or on the link.
  pub record HeldAreMessages (a : Account D) (l : ℕ) (c : ConnId) : Type 0 where
    pub on_way : HaveMessages c (messages_sent a l c) (leaving a)
    pub parked : (parked : List Carried) → AreParked a.pending parked → AllByRecursion (λ (x : Carried). IsNumbered c (messages_sent a l c) (inbound.Carried x)) parked
    pub inbox : AllByRecursion (IsNumbered c (messages_sent a l c)) a.inbox
    pub upcoming : AllByRecursion (IsNumbered c (messages_sent a l c)) (a.upcoming l)

  -- At each place of what came, what comes of the connection next is live exactly if the connection is open. It is open exactly if what came
  -- before opened it and didn't close it, and no parked-full end had left by then.
  abbrev pub IsLiveByPlace : Account D → ConnId → Type 0
  IsLiveByPlace a c = (before rest : List Inbound) → a.came ≡ before ++ rest → is_open c (settled_by (start_of a) before).queues ≡ (stands c.life (fold comes nothing_came (of_peer c.from before)) && not (is_cut_off c (released_by (start_of a) before)))

  -- Its messages have at most one fate each: within each slot from the first on, in the order sent, none after its end, each the message of
  -- its number. In each slot the fates, followed by what is held, are all that was sent, so nothing is lost. If it was cut off, what is
  -- before the cut is a beginning of that. It ends by its cause, what is held of it is messages, and what is live of it is so by its place.
  pub record HasItsFates (a : Account D) (l : ℕ) (c : ConnId) : Type 0 where
    pub fates : Fates c (messages_sent a l c) a.ledger.journal
    pub whole : (s : ℕ) → IsWhole (in_lane (slots_sent a l c) s (line_sent a l c)) (in_lane (slots_sent a l c) s (marks_on c a.ledger.journal ++ line_held a l c))
    pub ends : Exits (start_of a) (slots_sent a l c) a.came c (is_open c (settled_by (start_of a) a.came).queues) (ways_on c a.ledger.journal ++ ways c (leaving a))
    pub held_are : HeldAreMessages a l c
    pub live : IsLiveByPlace a c

  -- ---- verdicts and commands

  -- The slot stage took one thing after another, from a ledger that had taken nothing, and each gave what is noted with it. These things,
  -- followed by what is leaving, are what the pending stage's rules release for what came. The journal has their entries, with the verdicts
  -- that were given. Each verdict is the first that fits by what was there before it. Each command but Tick that came is among them once, in
  -- its place. So is each carried message that came live, waited for no quorum set and found nothing of its lane parked, whatever was parked
  -- in other lanes. A link was asked for a slot only where a command said so.
  pub record AreJudgedInTurn (level : D → ℕ → List ℕ → Level) (extracted : D → ℕ → List ℕ → Option (List ℕ)) (combined : D → ℕ → List (List ℕ) → List ℕ) (place : D → ℕ → ℕ → ℕ → ℕ) (a : Account D) : Type 0 where
    pub takes : List Taking
    pub leads : Leads level extracted combined place (nothing_taken a.me a.set a.ledger.driver a.peers a.ledger.first) takes a.ledger
    pub released : things takes ++ leaving a ≡ released_by (start_of a) a.came
    pub entries : map entry_in a.ledger.journal ≡ flat_map entry_of (things takes)
    pub verdicts : flat_map verdict_in a.ledger.journal ≡ flat_map verdict_by takes
    pub judged : AreJudged a.ledger.first (level a.ledger.driver) a.me a.peers [] takes
    pub decided : a.ledger.decisions ≡ (stood_by takes).decisions
    pub commands : commands_of (things takes ++ leaving a) ≡ commands_in a.came
    pub places : (before : List Inbound) (command : Command) (after' : List Inbound) → a.came ≡ before ++ inbound.Local command ∷ after' → StandsAt (start_of a) before command (things takes ++ leaving a)
    pub at_once : (before : List Inbound) (x : Carried) (later : List Inbound) → a.came ≡ before ++ inbound.Carried x ∷ later → MayPass (settled_by (start_of a) before) x → StandsDelivered (start_of a) before x (things takes ++ leaving a)
    pub asked : (asking : Asking) → is_asked a.ledger.asked asking ≡ true → Contains a.came (inbound.Local (Ask asking.link asking.slot))

  -- ---- decisions

  -- At most one decision per slot, each in the window where it was made. Each has its certificate, or a taken record named it, from a link
  -- that was asked for the slot. A certificate is the own EXTERNALIZE with a quorum at this node; the last fresh ballot statements of its
  -- other members in the journal accept the commit. Each entry with the verdict Decided has its decision. Each taken envelope has a sane
  -- quorum set with the hash that it names.
  pub record AreDecided (a : Account D) : Type 0 where
    pub one : OnePerSlot a.ledger.decisions
    pub placed : AreInWindow a.ledger.first [] a.ledger.decisions
    pub founded : All (IsFounded a.me a.set (link_of a.peers) a.ledger.asked a.ledger.journal) a.ledger.decisions
    pub named : All (HasItsDecision a.ledger.decisions) a.ledger.journal
    pub sets : All HasItsSet a.ledger.journal
    pub few : length a.ledger.journal ≤ JOURNAL_LIMIT
    pub lowest : IsLowest a.ledger.first a.ledger.decisions a.ledger.lowest

  -- ---- what is applied

  -- The slots from the first on, with which the slot stage and the applier began, are applied once each, in order,
  -- each with its decision. Every other decision is buffered or on its way to the applier. The next slot isn't buffered.
  pub record AreApplied (a : Account D) : Type 0 where
    pub first : a.applier.first ≡ a.ledger.first
    pub in_order : AreInOrder a.applier.first a.applier.applied
    pub decided : All (Contains a.ledger.decisions) a.applier.applied
    pub shared_out : IsPermutation a.ledger.decisions (a.applier.applied ++ (a.applier.buffer ++ decisions_on a.onward))
    pub next_missing : All (λ d. d.slot.0 ≢ next_of a.applier) a.applier.buffer

  -- ---- the theorem

  -- The ledger theorem: what holds of all that was sent to a node and of all that its stages made of it.
  pub record KeepsLedger (level : D → ℕ → List ℕ → Level) (extracted : D → ℕ → List ℕ → Option (List ℕ)) (combined : D → ℕ → List (List ℕ) → List ℕ) (place : D → ℕ → ℕ → ℕ → ℕ) (a : Account D) : Type 0 where
    -- the node's own quorum set is sane
    pub sane : IsSane a.set
    -- Each link carries what its tail may send. What came of it, followed by what isn't in the inbox yet, is what is read of that. The
    -- pending stage is what its rules make of what came.
    pub links : (l : ℕ) → (peer : NodeId) → slice_get a.peers l ≡ Some peer → AreOfLink peer a.me never_open (a.sent l)
    pub read : (l : ℕ) → (peer : NodeId) → slice_get a.peers l ≡ Some peer → readings unread (a.sent l) ≡ of_peer peer (a.came ++ a.inbox) ++ a.upcoming l
    pub stands : a.pending.settled ≡ settled_by (start_of a) a.came
    -- a slot whose quorum set is never found delays no other slot: the head of what is parked in each lane waits for its own set
    pub led : AreLed a.pending.settled
    -- each connection's messages have at most one fate each, in order, and nothing is lost; no entry is of any other connection
    pub fates : (l : ℕ) → (peer : NodeId) → slice_get a.peers l ≡ Some peer → (life : ℕ) → HasItsFates a l (conn_at peer a.me life)
    pub of_links : AllByRecursion (λ fate. IsOfLink a.me a.peers (conn_of fate)) a.ledger.journal
    -- each fate has its cause among what came; each taken envelope has its set, which was in the store
    pub causes : AllByRecursion (FateHasCause (start_of a) a.came) a.ledger.journal
    -- each thing was taken once, in its place, and each verdict is the first that fits
    pub verdicts : AreJudgedInTurn level extracted combined place a
    -- each decision is the one of its slot, certified by a quorum or named by a taken record
    pub decisions : AreDecided a
    -- the slots from the first on are applied, in order
    pub applied : AreApplied a

-- the ledger theorem follows from `Ran`
abbrev pub RanKeepsLedger : {D : Type 0} → (D → ℕ → List ℕ → Level) → (D → ℕ → List ℕ → Option (List ℕ)) → (D → ℕ → List (List ℕ) → List ℕ) → (D → ℕ → ℕ → ℕ → ℕ) → Type 0
RanKeepsLedger {D} level extracted combined place = (a : Account D) → Ran level extracted combined place a → KeepsLedger level extracted combined place a
