-- Each message's fate has its cause in what was taken.
use Rattle.std.specs.Prelude.{ℕ, ◌+◌, ◌<◌, ◌≡◌, ◌⊎◌, Bool, true, false, not, ◌&&◌, ◌||◌, List, [], ◌∷◌, ◌++◌, Option, Some, None}
use Rattle.std.specs.List.{AllByRecursion}
use Rattle.scp_wire.specs.scp_types.specs.declared.names.ConnId.{ConnId}
use Rattle.scp_wire.specs.scp_types.specs.declared.names.Hash.{Hash}
use Rattle.scp_wire.specs.scp_types.specs.declared.names.Seq.{Seq}
use Rattle.scp_wire.specs.scp_quorum.specs.QuorumTree.{QuorumTree}
use Rattle.scp_wire.specs.declared.carried.Carried.{Carried}
use Rattle.scp_wire.specs.declared.side.SideMessage.TheVariants.{GetSet, Set, NoSet}
use Rattle.scp_wire.specs.declared.link.Command.TheVariants.{Tick, Propose, Round, Timer, Ask}
use Rattle.scp_wire.specs.declared.link.Inbound.{Inbound}
use Rattle.scp_wire.specs.declared.link.Inbound.TheVariants as inbound
use Rattle.scp_wire.specs.Sets.{IsSetOf}
use Rattle.scp_pending.specs.Sanity.{is_sane, has_spelling}
use Rattle.scp_fetch.specs.Hashes.{same_hash}
use Rattle.scp_fetch.specs.Store.{lookup}
use Rattle.scp_pending.specs.Delivery.{DeliveryView}
use Rattle.scp_pending.specs.Queues.{is_open, at_slot, named, hash_of}
use Rattle.scp_pending.specs.Rules.{PendingView, Settled, rules, settled_by}
use Rattle.scp_pending.specs.declared.parked.Parked.{Parked}
use Rattle.scp_pending.specs.declared.parked.Parked.TheVariants.{Waits, Free, Lost}
use Rattle.scp_pending.specs.declared.ready.DropCause.TheVariants.{BadSet, GaveUp, Closed as ByClose, ParkedFull as ByFull}
use Rattle.scp_pending.specs.declared.ready.Ready.{Ready}
use Rattle.scp_pending.specs.declared.ready.Ready.TheVariants.{Deliver, Dropped, Closed, Local}

-- ---- tests of an item, by what is settled before it: an item of a connection is live if the connection is open

-- a live Set with this hash; a set without an encoding has no hash
abbrev pub is_set : Hash → Settled → Inbound → Bool
is_set hash s (inbound.Opened c) = false
is_set hash s (inbound.Carried x) = false
is_set hash s (inbound.Side c (GetSet h)) = false
is_set hash s (inbound.Side c (Set set)) = is_open c s.queues && (has_spelling set && same_hash hash (hash_of set))
is_set hash s (inbound.Side c (NoSet h)) = false
is_set hash s (inbound.Closed c cause) = false
is_set hash s (inbound.Local command) = false

-- a live Set with this hash that isn't sane
abbrev pub is_bad : Hash → Settled → Inbound → Bool
is_bad hash s (inbound.Opened c) = false
is_bad hash s (inbound.Carried x) = false
is_bad hash s (inbound.Side c (GetSet h)) = false
is_bad hash s (inbound.Side c (Set set)) = is_set hash s (inbound.Side c (Set set)) && not (is_sane set)
is_bad hash s (inbound.Side c (NoSet h)) = false
is_bad hash s (inbound.Closed c cause) = false
is_bad hash s (inbound.Local command) = false

-- a live miss of this hash: a NoSet that names it, or a Tick
abbrev pub is_miss : Hash → Settled → Inbound → Bool
is_miss hash s (inbound.Opened c) = false
is_miss hash s (inbound.Carried x) = false
is_miss hash s (inbound.Side c (GetSet h)) = false
is_miss hash s (inbound.Side c (Set set)) = false
is_miss hash s (inbound.Side c (NoSet h)) = is_open c s.queues && same_hash h hash
is_miss hash s (inbound.Closed c cause) = false
is_miss hash s (inbound.Local Tick) = true
is_miss hash s (inbound.Local (Propose slot value)) = false
is_miss hash s (inbound.Local (Round slot)) = false
is_miss hash s (inbound.Local (Timer slot)) = false
is_miss hash s (inbound.Local (Ask link slot)) = false

-- whether the test holds for an item of a list that comes after s
abbrev pub has : (Settled → Inbound → Bool) → Settled → List Inbound → Bool
has test s [] = false
has test s (item ∷ items) = test s item || has test (rules s item) items

-- one more if the flag is true
abbrev pub plus : ℕ → Bool → ℕ
plus n true = n + 1
plus n false = n

-- for how many items of a list the test holds, each tested by what is settled before it
abbrev pub times : (Settled → Inbound → Bool) → Settled → List Inbound → ℕ
times test s [] = 0
times test s (item ∷ items) = plus (times test (rules s item) items) (test s item)

-- ---- where a message was taken: what came before it, and after

-- where the message came: what came before it and after it, and that its connection was open then
pub record Place (start : Settled) (taken : List Inbound) (x : Carried) : Type 0 where
  pub before : List Inbound
  pub after : List Inbound
  pub at : taken ≡ before ++ inbound.Carried x ∷ after
  pub live : is_open x.conn (settled_by start before).queues ≡ true

-- what is settled right after it
abbrev pub behind : {start : Settled} {taken : List Inbound} {x : Carried} → Place start taken x → Settled
behind {start} {taken} {x} place = rules (settled_by start place.before) (inbound.Carried x)

-- the message is an envelope whose set wasn't stored when it came, and since then no live Set with its hash came
pub record Waiting (start : Settled) (taken : List Inbound) (x : Carried) (hash : Hash) : Type 0 where
  pub place : Place start taken x
  pub names : named x.message ≡ Some hash
  pub unknown : lookup hash (settled_by start place.before).store ≡ None
  pub no_set : has (is_set hash) (behind place) place.after ≡ false

-- how many live misses of the hash came since then
abbrev pub misses_since : {start : Settled} {taken : List Inbound} {x : Carried} {hash : Hash} → Waiting start taken x hash → ℕ
misses_since {start} {taken} {x} {hash} w = times (is_miss hash) (behind w.place) w.place.after

-- the message waits: its set wasn't stored when it came, and since then no live Set with its hash came, and fewer than
-- twelve live misses of it
pub record IsWaiting (start : Settled) (taken : List Inbound) (x : Carried) : Type 0 where
  pub hash : Hash
  pub waiting : Waiting start taken x hash
  pub patient : misses_since waiting < 12

-- ---- causes

-- The set wasn't stored when the message came. The first live Set with its hash after the message brought it, before the
-- twelfth live miss of the hash, and then it was stored.
pub record CameAfter (start : Settled) (taken : List Inbound) (x : Carried) (place : Place start taken x) (hash : Hash) (set : QuorumTree) : Type 0 where
  pub unknown : lookup hash (settled_by start place.before).store ≡ None
  pub between : List Inbound
  pub conn : ConnId
  pub rest : List Inbound
  pub at : place.after ≡ between ++ inbound.Side conn (Set set) ∷ rest
  pub no_set : has (is_set hash) (behind place) between ≡ false
  pub patient : times (is_miss hash) (behind place) between < 12
  pub first : is_set hash (settled_by (behind place) between) (inbound.Side conn (Set set)) ≡ true
  pub stood : lookup hash (settled_by (behind place) (between ++ inbound.Side conn (Set set) ∷ [])).store ≡ Some set

-- the store had the set with the hash that the message names: right before the message came, or since the set came after it
abbrev pub StoodThen : (start : Settled) (taken : List Inbound) (x : Carried) → Place start taken x → Option Hash → Option QuorumTree → Type 0
StoodThen start taken x place None set = Unit {0}
StoodThen start taken x place (Some hash) None = ⊥
StoodThen start taken x place (Some hash) (Some set) = (lookup hash (settled_by start place.before).store ≡ Some set) ⊎ CameAfter start taken x place hash set

-- The message was taken live. With an envelope comes a sane set whose hash it names, and which the store had under that hash
-- then.
pub record IsTaken (start : Settled) (taken : List Inbound) (delivery : DeliveryView) : Type 0 where
  pub x : Carried
  pub place : Place start taken x
  pub conn : x.conn ≡ delivery.conn
  pub seq : x.seq ≡ delivery.seq
  pub message : x.message ≡ delivery.message
  pub set : IsSetOf delivery.message delivery.set
  pub stood : StoodThen start taken x place (named x.message) delivery.set

-- after the envelope came a live Set with its hash that isn't sane
pub record IsBadSet (start : Settled) (taken : List Inbound) (c : ConnId) (seq : Seq) : Type 0 where
  pub x : Carried
  pub conn : x.conn ≡ c
  pub seq_is : x.seq ≡ seq
  pub hash : Hash
  pub names : named x.message ≡ Some hash
  pub place : Place start taken x
  pub bad : has (is_bad hash) (behind place) place.after ≡ true

-- since some live envelope with this hash, exactly this many live misses of it came, and no live Set
pub record IsMissed (start : Settled) (taken : List Inbound) (hash : Hash) (misses : ℕ) : Type 0 where
  pub first : Carried
  pub place : Place start taken first
  pub names : named first.message ≡ Some hash
  pub no_set : has (is_set hash) (behind place) place.after ≡ false
  pub count : times (is_miss hash) (behind place) place.after ≡ misses

-- After the envelope came the twelfth live miss of its hash: there were twelve since some live envelope with this hash, and
-- no live Set in between.
pub record IsGivenUp (start : Settled) (taken : List Inbound) (c : ConnId) (seq : Seq) : Type 0 where
  pub x : Carried
  pub conn : x.conn ≡ c
  pub seq_is : x.seq ≡ seq
  pub hash : Hash
  pub names : named x.message ≡ Some hash
  pub until : List Inbound  -- up to the twelfth
  pub last : Inbound
  pub rest : List Inbound
  pub at : taken ≡ (until ++ last ∷ []) ++ rest
  pub place : Place start until x
  pub last_miss : is_miss hash (settled_by start until) last ≡ true
  pub twelve : IsMissed start (until ++ last ∷ []) hash 12

-- Each message is taken with its set, or dropped with its cause. For what the end of its connection drops, the cause is in
-- what is said of that end.
abbrev pub HasCause : Settled → List Inbound → Ready → Type 0
HasCause start taken (Deliver delivery) = IsTaken start taken delivery
HasCause start taken (Dropped c seq BadSet) = IsBadSet start taken c seq
HasCause start taken (Dropped c seq GaveUp) = IsGivenUp start taken c seq
HasCause start taken (Dropped c seq ByClose) = Unit {0}
HasCause start taken (Dropped c seq ByFull) = Unit {0}
HasCause start taken (Closed c cause) = Unit {0}
HasCause start taken (Local command) = Unit {0}

-- ---- when nothing is ready

-- the head of a lane is an envelope that waits
abbrev pub HeadWaits : Settled → List Inbound → ConnId → List Parked → Type 0
HeadWaits start taken c [] = Unit {0}
HeadWaits start taken c (Waits x ∷ ps) = (x.conn ≡ c) × IsWaiting start taken x
HeadWaits start taken c (Free delivery ∷ ps) = ⊥
HeadWaits start taken c (Lost x cause ∷ ps) = ⊥

-- Nothing is ready, and the head of each lane is an envelope whose set wasn't stored when it came. Since then no live Set with its hash
-- came, and fewer than twelve live misses of it.
pub record IsSettledBy (start : Settled) (taken : List Inbound) (v : PendingView) : Type 0 where
  pub nothing_ready : v.leaving ≡ []
  pub heads_wait : AllByRecursion (λ q. (s : ℕ) → HeadWaits start taken q.conn (at_slot s q.parked)) v.settled.queues
