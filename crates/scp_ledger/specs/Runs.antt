-- A run of the slot stage: the things that it took, one after another, what each gave, and the verdict on each.
use Rattle.std.specs.Prelude.{ℕ, ◌≡◌, Bool, false, ◌&&◌, if◌then◌else◌, List, [], ◌∷◌, ◌++◌, Option, Some, None, IsSomeAnd, option_to_list, map, filter, flat_map}
use Rattle.std.specs.List.{list_any}
use Rattle.std.specs.BTreeMap as tree
use Rattle.scp_slot.specs.scp_types.specs.declared.names.ConnId.{ConnId}
use Rattle.scp_slot.specs.scp_types.specs.declared.names.NodeId.{NodeId}
use Rattle.scp_slot.specs.scp_driver.specs.declared.driver.Level.{Level}
use Rattle.scp_slot.specs.scp_quorum.specs.QuorumTree.{QuorumTree}
use Rattle.scp_slot.specs.scp_vote.specs.Board.{kind_of_pledges}
use Rattle.scp_pending.specs.scp_wire.specs.declared.link.Command.{Command}
use Rattle.scp_pending.specs.scp_wire.specs.declared.link.Command.TheVariants.{Propose, Round, Timer, Tick, Ask}
use Rattle.scp_pending.specs.scp_wire.specs.declared.message.Message.{Message}
use Rattle.scp_pending.specs.scp_wire.specs.declared.message.Message.TheVariants.{Envelope, GetSet, Set, NoSet, GetRecord, Record, Records}
use Rattle.scp_pending.specs.declared.ready.Ready.{Ready}
use Rattle.scp_pending.specs.declared.ready.Ready.TheVariants as ready
use Rattle.scp_slot.specs.declared.output.Verdict.{Verdict as Found}
use Rattle.scp_ledger.specs.declared.journal.Asking.{Asking}
use Rattle.scp_ledger.specs.declared.journal.Decision.{Decision}
use Rattle.scp_ledger.specs.declared.journal.Fate.{Fate}
use Rattle.scp_ledger.specs.declared.journal.Fate.TheVariants.{Taken, Dropped, Closed}
use Rattle.scp_ledger.specs.declared.journal.Verdict.{Verdict}
use Rattle.scp_ledger.specs.declared.journal.Verdict.TheVariants.{Forwarded}
use Rattle.scp_ledger.specs.declared.took.Onward.{Onward}
use Rattle.scp_ledger.specs.declared.took.Took.{Took}
use Rattle.scp_ledger.specs.Decisions.{IsLowest}
use Rattle.scp_ledger.specs.Journal.{Heard, is_fresh, is_of, last_of, fresh_in}
use Rattle.scp_ledger.specs.Onwards.{decisions_on}
use Rattle.scp_ledger.specs.Seen.{LedgerView, is_asked, asking_cmp}
use Rattle.scp_ledger.specs.Takes.{Takes, verdict_from}
use Rattle.scp_ledger.specs.Verdicts.{BehindWindow, IsHeardAs, IsVerdictOnRecord, IsVerdictOnAsk, link_of}

-- a thing that was taken, and what came of it
pub record Taking : Type 0 where
  pub thing : Ready
  pub gave : Took

-- the thing that was taken
abbrev pub thing_of : Taking → Ready
thing_of t = t.thing

-- what was taken, in order
abbrev pub things : List Taking → List Ready
things takes = map thing_of takes

-- what taking one thing gave to the applier
abbrev pub onward_of : Taking → List Onward
onward_of t = option_to_list t.gave.onward

-- what went on to the applier
abbrev pub onwards_of : List Taking → List Onward
onwards_of takes = flat_map onward_of takes

-- ---- one after another

-- a ledger of this node, set, driver, peers and first slot that took nothing
abbrev pub nothing_taken : {D : Type 0} → NodeId → QuorumTree → D → List NodeId → ℕ → LedgerView D
nothing_taken me local driver peers first = record { me = me; local = local; driver = driver; peers = peers; first = first; failed = false; journal = []; decisions = []; lowest = first; asked = []; machines = [] }

-- each thing was taken by the ledger that the one before it left
abbrev pub Leads : {D : Type 0} → (D → ℕ → List ℕ → Level) → (D → ℕ → List ℕ → Option (List ℕ)) → (D → ℕ → List (List ℕ) → List ℕ) → (D → ℕ → ℕ → ℕ → ℕ) → LedgerView D → List Taking → LedgerView D → Type 0
Leads {D} level extracted combined place old [] new = new ≡ old
Leads {D} level extracted combined place old (t ∷ takes) new = (between : LedgerView D) × Takes level extracted combined place old t.thing t.gave between × Leads level extracted combined place between takes new

-- ---- what was there before a thing was taken

-- the verdict was Fresh
abbrev pub was_fresh : Option Verdict → Bool
was_fresh None = false
was_fresh (Some verdict) = is_fresh verdict

-- an envelope's statement, with the set that came with it
abbrev pub heard_beside : Message → Option QuorumTree → List Heard
heard_beside (Envelope envelope) (Some set) = record { statement = envelope.value.statement; set = set } ∷ []
heard_beside (Envelope envelope) None = []
heard_beside (GetSet hash) set = []
heard_beside (Set inside) set = []
heard_beside (NoSet hash) set = []
heard_beside (GetRecord slot) set = []
heard_beside (Record slot value) set = []
heard_beside (Records first values) set = []

-- the statement that a thing brings
abbrev pub heard_on : Ready → List Heard
heard_on (ready.Deliver d) = heard_beside d.message d.set
heard_on (ready.Dropped conn seq cause) = []
heard_on (ready.Closed conn cause) = []
heard_on (ready.Local command) = []

-- the statement of an envelope that was taken as fresh
abbrev pub freshly_heard : Taking → List Heard
freshly_heard t = if was_fresh t.gave.verdict then heard_on t.thing else []

-- the command asks this link for this slot
abbrev pub is_asking : Asking → Command → Bool
is_asking a (Propose slot value) = false
is_asking a (Round slot) = false
is_asking a (Timer slot) = false
is_asking a Tick = false
is_asking a (Ask link slot) = tree.is_at (asking_cmp (record { link = link; slot = slot })) a

-- the thing is that command
abbrev pub is_ask : Asking → Ready → Bool
is_ask a (ready.Deliver d) = false
is_ask a (ready.Dropped conn seq cause) = false
is_ask a (ready.Closed conn cause) = false
is_ask a (ready.Local command) = is_asking a command

-- the thing is that command, and was fresh
abbrev pub freshly_asks : Asking → Taking → Bool
freshly_asks a t = was_fresh t.gave.verdict && is_ask a t.thing

-- the decisions that were made, the envelopes that were fresh, and which link was asked for which slot
pub record Stood : Type 0 where
  pub decisions : List Decision
  pub heard : List Heard
  pub asked : Asking → Bool

-- these three, from what was taken and what that gave
abbrev pub stood_by : List Taking → Stood
stood_by takes = record { decisions = decisions_on (onwards_of takes); heard = flat_map freshly_heard takes; asked = λ a. list_any (freshly_asks a) takes }

-- ---- the verdict on each: the first that fits, by what was there before it

-- the verdict on a message that came over a connection
abbrev pub IsMessageVerdict : (ℕ → List ℕ → Level) → NodeId → List NodeId → ℕ → Stood → ConnId → Message → Verdict → Type 0
IsMessageVerdict level me peers lowest stood conn (Envelope e) verdict =
    BehindWindow lowest stood.decisions e.value.statement.slot.0
    (IsHeardAs (level e.value.statement.slot.0) me (last_of (filter (is_of e.value.statement.slot.0 (kind_of_pledges e.value.statement.pledges) e.value.statement.node) stood.heard)) e.value.statement)
    verdict
IsMessageVerdict level me peers lowest stood conn (GetSet hash) verdict = ⊥
IsMessageVerdict level me peers lowest stood conn (Set inside) verdict = ⊥
IsMessageVerdict level me peers lowest stood conn (NoSet hash) verdict = ⊥
IsMessageVerdict level me peers lowest stood conn (Records first values) verdict = ⊥
IsMessageVerdict level me peers lowest stood conn (GetRecord at) verdict = verdict ≡ Forwarded
IsMessageVerdict level me peers lowest stood conn (Record at value) verdict =
    IsVerdictOnRecord lowest stood.decisions at.0 (stood.asked (record { link = link_of peers conn; slot = at })) verdict

-- what a slot's machine finds
abbrev pub IsFound : Verdict → Type 0
IsFound verdict = (found : Found) × (verdict ≡ verdict_from found)

-- the verdict on a command; a Tick has none
abbrev pub IsCommandVerdict : ℕ → Stood → Command → Option Verdict → Type 0
IsCommandVerdict lowest stood (Propose at value) said = IsSomeAnd said (BehindWindow lowest stood.decisions at.0 IsFound)
IsCommandVerdict lowest stood (Round at) said = IsSomeAnd said (BehindWindow lowest stood.decisions at.0 IsFound)
IsCommandVerdict lowest stood (Timer at) said = IsSomeAnd said (BehindWindow lowest stood.decisions at.0 IsFound)
IsCommandVerdict lowest stood Tick said = said ≡ None
IsCommandVerdict lowest stood (Ask link at) said =
    IsSomeAnd said (IsVerdictOnAsk lowest stood.decisions at.0 (stood.asked (record { link = link; slot = at })))

-- the verdict on each thing; what was dropped and the end of a connection have none
abbrev pub IsVerdict : (ℕ → List ℕ → Level) → NodeId → List NodeId → ℕ → Stood → Ready → Option Verdict → Type 0
IsVerdict level me peers lowest stood (ready.Deliver d) said = IsSomeAnd said (IsMessageVerdict level me peers lowest stood d.conn d.message)
IsVerdict level me peers lowest stood (ready.Dropped conn seq cause) said = said ≡ None
IsVerdict level me peers lowest stood (ready.Closed conn cause) said = said ≡ None
IsVerdict level me peers lowest stood (ready.Local command) said = IsCommandVerdict lowest stood command said

-- the verdict is that by the lowest slot, from the first on, that had no decision then
abbrev pub IsJudged : ℕ → (ℕ → List ℕ → Level) → NodeId → List NodeId → Stood → Taking → Type 0
IsJudged first level me peers stood t = (lowest : ℕ) × IsLowest first stood.decisions lowest × IsVerdict level me peers lowest stood t.thing t.gave.verdict

-- each is judged by what was there before it
abbrev pub AreJudged : ℕ → (ℕ → List ℕ → Level) → NodeId → List NodeId → List Taking → List Taking → Type 0
AreJudged first level me peers earlier [] = Unit {0}
AreJudged first level me peers earlier (t ∷ takes) = IsJudged first level me peers (stood_by earlier) t × AreJudged first level me peers (earlier ++ t ∷ []) takes

-- ---- the journal's verdicts

-- the verdict of an entry
abbrev pub verdict_in : Fate → List Verdict
verdict_in (Taken conn seq message set verdict) = verdict ∷ []
verdict_in (Dropped conn seq cause) = []
verdict_in (Closed conn cause) = []

-- the verdict, where the thing is a message
abbrev pub verdict_on : Ready → Option Verdict → List Verdict
verdict_on (ready.Deliver d) said = option_to_list said
verdict_on (ready.Dropped conn seq cause) said = []
verdict_on (ready.Closed conn cause) said = []
verdict_on (ready.Local command) said = []

-- the verdict that the take of a message gave
abbrev pub verdict_by : Taking → List Verdict
verdict_by t = verdict_on t.thing t.gave.verdict

-- A ledger of this node, set and peers took these, one after another, and each gave what is noted with it.
pub record IsRun {D : Type 0} (level : D → ℕ → List ℕ → Level) (extracted : D → ℕ → List ℕ → Option (List ℕ)) (combined : D → ℕ → List (List ℕ) → List ℕ) (place : D → ℕ → ℕ → ℕ → ℕ) (me : NodeId) (local : QuorumTree) (peers : List NodeId) (takes : List Taking) (v : LedgerView D) : Type 0 where
  -- the first was taken by a ledger that took nothing, each other one by the ledger that the one before it left
  pub leads : Leads level extracted combined place (nothing_taken me local v.driver peers v.first) takes v
  -- each verdict is the first that fits by what was there before it
  pub judged : AreJudged v.first (level v.driver) me peers [] takes
  -- the journal's entries have the verdicts on messages, in order
  pub verdicts : flat_map verdict_in v.journal ≡ flat_map verdict_by takes
  -- the decisions, the fresh statements in the journal and the asked slots are those of what was taken
  pub decided : v.decisions ≡ (stood_by takes).decisions
  pub heard : fresh_in v.journal ≡ (stood_by takes).heard
  pub asked : (a : Asking) → is_asked v.asked a ≡ (stood_by takes).asked a
