-- What a node may send to the peer of a link, and what that rests on (this project's profile).
use Rattle.std.specs.Prelude.{ℕ, ◌≡◌, true, List, [], ◌∷◌, ◌++◌, Option, Some, All, Any, Contains, slice_get}
use Rattle.std.specs.List.{AllZip}
use Rattle.scp_outbox.specs.scp_types.specs.declared.names.ConnId.{ConnId}
use Rattle.scp_outbox.specs.scp_types.specs.declared.names.Hash.{Hash}
use Rattle.scp_outbox.specs.scp_types.specs.declared.names.NodeId.{NodeId}
use Rattle.scp_outbox.specs.scp_types.specs.declared.names.Seq.{Seq}
use Rattle.scp_outbox.specs.scp_types.specs.declared.names.Slot.{Slot}
use Rattle.scp_outbox.specs.scp_quorum.specs.QuorumTree.{QuorumTree}
use Rattle.scp_outbox.specs.scp_quorum.specs.SharedSet.{SharedSet}
use Rattle.scp_outbox.specs.scp_envelope.specs.Kinds.{set_hash_of}
use Rattle.scp_outbox.specs.scp_envelope.specs.Sane.{IsSane}
use Rattle.scp_outbox.specs.scp_envelope.specs.declared.statement.Envelope.{Envelope as Enveloped}
use Rattle.scp_outbox.specs.scp_envelope.specs.declared.statement.Pledges.{Pledges}
use Rattle.scp_outbox.specs.scp_envelope.specs.declared.statement.Pledges.TheVariants.{Prepare, Confirm, Externalize, Nominate}
use Rattle.scp_outbox.specs.scp_wire.specs.Connections.{conn_at}
use Rattle.scp_outbox.specs.scp_wire.specs.Message.{message_value, SpellsMessage}
use Rattle.scp_outbox.specs.scp_wire.specs.declared.link.Command.{Command}
use Rattle.scp_outbox.specs.scp_wire.specs.declared.link.Command.TheVariants.{Propose, Round, Timer, Tick, Ask}
use Rattle.scp_outbox.specs.scp_wire.specs.declared.link.Inbound.{Inbound}
use Rattle.scp_outbox.specs.scp_wire.specs.declared.link.Inbound.TheVariants as inbound
use Rattle.scp_outbox.specs.scp_wire.specs.declared.message.Message.{Message}
use Rattle.scp_outbox.specs.scp_wire.specs.declared.message.Message.TheVariants as message
use Rattle.scp_outbox.specs.scp_wire.specs.declared.side.SideMessage.TheVariants as side
use Rattle.scp_outbox.specs.Sent.{AreNewer}
use Rattle.scp_apply.specs.scp_pending.specs.Queues.{is_open, named, hash_of}
use Rattle.scp_apply.specs.scp_pending.specs.Rules.{Settled, fresh, settled_by}
use Rattle.scp_apply.specs.scp_ledger.specs.declared.journal.Decision.{Decision}
use Rattle.scp_apply.specs.scp_ledger.specs.declared.journal.Fate.{Fate}
use Rattle.scp_apply.specs.scp_ledger.specs.declared.journal.Fate.TheVariants.{Taken}
use Rattle.scp_apply.specs.scp_ledger.specs.declared.journal.Origin.{Origin}
use Rattle.scp_apply.specs.scp_ledger.specs.declared.journal.Origin.TheVariants.{Machine, Named}
use Rattle.scp_apply.specs.scp_ledger.specs.declared.journal.Verdict.{Verdict}

-- ---- what a message rests on

-- who a node is: its own id, its peers in the order of their links, and its quorum set
pub record Who : Type 0 where
  pub me : NodeId
  pub peers : List NodeId
  pub set : QuorumTree

-- what its pending stage is before anything came
abbrev pub start_of : Who → Settled
start_of who = fresh who.me who.peers who.set

-- who the node is, what its pending stage took, and what its slot stage and its applier made of that
pub record Grounds : Type 0 where
  pub who : Who
  pub taken : List Inbound
  pub journal : List Fate
  pub decisions : List Decision
  pub applied : List Decision

-- the connection is one of the lives of the link: it leads from the link's peer to the node
pub record IsLifeOf (who : Who) (link : ℕ) (conn : ConnId) : Type 0 where
  pub peer : NodeId
  pub there : slice_get who.peers link ≡ Some peer
  pub life : ℕ
  pub is : conn ≡ conn_at peer who.me life

-- a sane statement of the node, which names the node's quorum set, without a signature
pub record IsOwn (who : Who) (e : Enveloped) : Type 0 where
  pub node : e.statement.node ≡ who.me
  pub set : set_hash_of e.statement.pledges ≡ hash_of who.set
  pub unsigned : e.signature ≡ []
  pub sane : IsSane e.statement.pledges

-- the own statement that a decision came from; one that a record named has none
abbrev pub IsOwnOf : Enveloped → Origin → Type 0
IsOwnOf e (Machine n quorum own) = own ≡ e
IsOwnOf e (Named conn seq) = ⊥

-- an EXTERNALIZE is that of a decision
abbrev pub IsDecided : List Decision → Enveloped → Pledges → Type 0
IsDecided decisions e (Prepare p) = Unit {0}
IsDecided decisions e (Confirm p) = Unit {0}
IsDecided decisions e (Externalize p) = Any (λ (d : Decision). IsOwnOf e d.origin) decisions
IsDecided decisions e (Nominate p) = Unit {0}

-- an envelope that names the quorum set of this hash
abbrev pub NamesSet : Hash → Inbound → Type 0
NamesSet hash (inbound.Opened conn) = ⊥
NamesSet hash (inbound.Carried x) = named x.message ≡ Some hash
NamesSet hash (inbound.Side conn message) = ⊥
NamesSet hash (inbound.Closed conn cause) = ⊥
NamesSet hash (inbound.Local command) = ⊥

-- a live request for the quorum set of this hash was taken over the link
pub record AsksForSet (g : Grounds) (link : ℕ) (hash : Hash) : Type 0 where
  pub conn : ConnId
  pub of_link : IsLifeOf g.who link conn
  pub before : List Inbound
  pub rest : List Inbound
  pub at : g.taken ≡ before ++ inbound.Side conn (side.GetSet hash) ∷ rest
  pub live : is_open conn (settled_by (start_of g.who) before).queues ≡ true

-- a command to ask the link for the record of the slot
abbrev pub Tells : ℕ → Slot → Command → Type 0
Tells link slot (Propose at value) = ⊥
Tells link slot (Round at) = ⊥
Tells link slot (Timer at) = ⊥
Tells link slot Tick = ⊥
Tells link slot (Ask l at) = (l ≡ link) × (at ≡ slot)

-- it is the command to ask this link for this slot
abbrev pub TellsToAsk : ℕ → Slot → Inbound → Type 0
TellsToAsk link slot (inbound.Opened conn) = ⊥
TellsToAsk link slot (inbound.Carried x) = ⊥
TellsToAsk link slot (inbound.Side conn message) = ⊥
TellsToAsk link slot (inbound.Closed conn cause) = ⊥
TellsToAsk link slot (inbound.Local command) = Tells link slot command

-- the journal has a request for the record of the slot, from a connection of the link
pub record AsksForRecord (g : Grounds) (link : ℕ) (slot : Slot) : Type 0 where
  pub conn : ConnId
  pub of_link : IsLifeOf g.who link conn
  pub seq : Seq
  pub set : Option SharedSet
  pub verdict : Verdict
  pub taken : Contains g.journal (Taken conn seq (message.GetRecord slot) set verdict)

-- the slot is applied with this value
abbrev pub IsApplied : Grounds → Slot → List ℕ → Type 0
IsApplied g slot value = Any (λ (d : Decision). (d.slot ≡ slot) × (d.value ≡ value)) g.applied

-- what may be sent over a link: own statements, and requests and answers that were asked for
abbrev pub MaySend : Grounds → ℕ → Message → Type 0
MaySend g link (message.Envelope e) = IsOwn g.who e.value × IsDecided g.decisions e.value e.value.statement.pledges
MaySend g link (message.GetSet hash) = Any (NamesSet hash) g.taken
MaySend g link (message.Set set) = AsksForSet g link (hash_of set)
MaySend g link (message.NoSet hash) = AsksForSet g link hash
MaySend g link (message.GetRecord slot) = Any (TellsToAsk link slot) g.taken
MaySend g link (message.Record slot value) = IsApplied g slot value × AsksForRecord g link slot
MaySend g link (message.Records first values) = ⊥  -- never: each record is sent by itself

-- ---- all that was sent

-- what was sent encodes messages that may be sent, and each statement is newer than all of its slot and kind sent before
pub record IsSentOut (g : Grounds) (link : ℕ) (sent : List (List ℕ)) : Type 0 where
  pub messages : List Message
  pub spelt : AllZip (λ bytes m. SpellsMessage bytes (message_value m)) sent messages
  pub allowed : All (MaySend g link) messages
  pub newer : AreNewer messages
