-- What is stored and what is replied, by what was taken (this project's profile).
use Rattle.std.specs.Prelude.{ℕ, ◌-◌, ◌≡◌, ◌≤◌, true, false, not, ◌&&◌, List, [], ◌∷◌, ◌++◌, Option, Some, None, length, drop, slice_get, is_some, if◌then◌else◌}
use Rattle.std.specs.List.{AllByRecursion}
use Rattle.scp_wire.specs.scp_types.specs.declared.names.ConnId.{ConnId}
use Rattle.scp_wire.specs.scp_types.specs.declared.names.Hash.{Hash}
use Rattle.scp_wire.specs.scp_types.specs.declared.names.NodeId.{NodeId}
use Rattle.scp_wire.specs.scp_quorum.specs.QuorumTree.{QuorumTree}
use Rattle.scp_wire.specs.scp_quorum.specs.Sane.{IsSane}
use Rattle.scp_wire.specs.declared.carried.Carried.{Carried}
use Rattle.scp_wire.specs.declared.message.Message.{Message}
use Rattle.scp_wire.specs.declared.message.Message.TheVariants as message
use Rattle.scp_wire.specs.declared.side.SideMessage.TheVariants.{GetSet, Set, NoSet}
use Rattle.scp_wire.specs.declared.link.Inbound.{Inbound}
use Rattle.scp_wire.specs.declared.link.Inbound.TheVariants as inbound
use Rattle.scp_fetch.specs.Store.{StoreView, lookup}
use Rattle.scp_fetch.specs.Wants.{is_asked}
use Rattle.scp_pending.specs.Sanity.{is_sane}
use Rattle.scp_pending.specs.Queues.{is_open, named, hash_of}
use Rattle.scp_pending.specs.Rules.{Settled, fresh, rules, settled_by, is_answer, reply}

-- ---- what is stored

-- the quorum set that an item brings: it came live and was wanted, it is sane, and none with its hash is stored
abbrev pub set_brought : Settled → Inbound → List QuorumTree
set_brought s (inbound.Opened c) = []
set_brought s (inbound.Carried x) = []
set_brought s (inbound.Side c (GetSet hash)) = []
set_brought s (inbound.Side c (Set set)) = if is_open c s.queues && is_answer set s && is_sane set && not (is_some (lookup (hash_of set) s.store)) then set ∷ [] else []
set_brought s (inbound.Side c (NoSet hash)) = []
set_brought s (inbound.Closed c cause) = []
set_brought s (inbound.Local command) = []

-- the sets that a list of items brings, in order
abbrev pub sets_brought : Settled → List Inbound → List QuorumTree
sets_brought s [] = []
sets_brought s (item ∷ items) = set_brought s item ++ sets_brought (rules s item) items

-- the last n of a list
abbrev pub last_of : {X : Type 0} → ℕ → List X → List X
last_of n xs = drop (length xs - n) xs

-- Besides the local set, exactly the last 256 sets that were brought are stored, so that of 257 the first is removed. Each is
-- sane, and is found only by its own hash.
pub record AreStored (brought : List QuorumTree) (store : StoreView) : Type 0 where
  pub last : store.others ≡ last_of 256 brought
  pub few : length store.others ≤ 256
  pub local_is_sane : IsSane store.local
  pub others_are_sane : AllByRecursion IsSane store.others
  pub found : (hash : Hash) (set : QuorumTree) → lookup hash store ≡ Some set → IsSane set × (hash_of set ≡ hash)

-- besides its own set, a stage stores exactly the last 256 of the sane sets that came live, were wanted, and had a hash under which none was stored
abbrev pub TheLastAreStored : Type 0
TheLastAreStored = (me : NodeId) (peers : List NodeId) (local : QuorumTree) (taken : List Inbound) → IsSane local → AreStored (sets_brought (fresh me peers local) taken) (settled_by (fresh me peers local) taken).store

-- ---- what is replied

-- an envelope that names the hash came live over the link; its set isn't stored, and the link wasn't asked for it yet
pub record IsToBeAsked (s : Settled) (item : Inbound) (link : ℕ) (hash : Hash) : Type 0 where
  pub x : Carried
  pub came : item ≡ inbound.Carried x
  pub live : is_open x.conn s.queues ≡ true
  pub over : slice_get s.peers link ≡ Some x.conn.from
  pub names : named x.message ≡ Some hash
  pub unknown : lookup hash s.store ≡ None
  pub unasked : is_asked hash link s.wanted ≡ false

-- a request for the hash came live over the link
pub record IsAskedFor (s : Settled) (item : Inbound) (link : ℕ) (hash : Hash) : Type 0 where
  pub conn : ConnId
  pub came : item ≡ inbound.Side conn (GetSet hash)
  pub live : is_open conn s.queues ≡ true
  pub over : slice_get s.peers link ≡ Some conn.from

-- a request for a set that is to be asked for; or, to whoever asked for it, the set if it is stored, and else that there is none
abbrev pub IsReplied : Settled → Inbound → ℕ → Message → Type 0
IsReplied s item link (message.Envelope envelope) = ⊥
IsReplied s item link (message.GetSet hash) = IsToBeAsked s item link hash
IsReplied s item link (message.Set set) = IsAskedFor s item link (hash_of set) × (lookup (hash_of set) s.store ≡ Some set)
IsReplied s item link (message.NoSet hash) = IsAskedFor s item link hash × (lookup hash s.store ≡ None)
IsReplied s item link (message.GetRecord slot) = ⊥
IsReplied s item link (message.Record slot value) = ⊥
IsReplied s item link (message.Records first values) = ⊥

-- if there is a reply, it was asked for
abbrev pub IfReplied : Settled → Inbound → Option (ℕ × Message) → Type 0
IfReplied s item None = Unit {0}
IfReplied s item (Some reply) = IsReplied s item reply.0 reply.1

-- after any items, the reply to an item was asked for
abbrev pub RepliesAreAskedFor : Type 0
RepliesAreAskedFor = (me : NodeId) (peers : List NodeId) (local : QuorumTree) (taken : List Inbound) (item : Inbound) → IfReplied (settled_by (fresh me peers local) taken) item (reply (settled_by (fresh me peers local) taken) item)
