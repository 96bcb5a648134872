-- How each message of a connection left, and how the connection ended.
use Rattle.std.specs.Prelude.{ℕ, ◌+◌, ◌≤◌, ◌≡◌, ◌≢◌, Bool, true, false, List, [], ◌∷◌, ◌++◌, ◌⊎◌, length, map, filter, nat_eq, flat_map}
use Rattle.std.specs.List.{AllByRecursion, range_with_len}
use Rattle.std.specs.List.Sorted.{IsPermutation}
use Rattle.scp_wire.specs.scp_types.specs.declared.names.ConnId.{ConnId}
use Rattle.scp_wire.specs.scp_types.specs.declared.names.Seq.{Seq}
use Rattle.scp_wire.specs.declared.carried.Carried.{Carried}
use Rattle.scp_wire.specs.declared.link.Cause.{Cause}
use Rattle.scp_wire.specs.declared.link.Cause.TheVariants.{ParkedFull}
use Rattle.scp_wire.specs.declared.link.Command.{Command}
use Rattle.scp_wire.specs.declared.link.Command.TheVariants.{Tick, Propose, Round, Timer, Ask}
use Rattle.scp_wire.specs.declared.link.Inbound.{Inbound}
use Rattle.scp_wire.specs.declared.link.Inbound.TheVariants as inbound
use Rattle.scp_wire.specs.Connections.{same_conn}
use Rattle.scp_wire.specs.Marks.{one_if}
use Rattle.scp_pending.specs.Queues.{is_open}
use Rattle.scp_pending.specs.Rules.{Settled, settled_by}
use Rattle.scp_pending.specs.Causes.{IsWaiting}
use Rattle.scp_pending.specs.declared.pending.TheConstants.{PARKED_LIMIT}
use Rattle.scp_pending.specs.declared.ready.DropCause.{DropCause}
use Rattle.scp_pending.specs.declared.ready.DropCause.TheVariants.{BadSet, GaveUp, Closed as ByClose, ParkedFull as ByFull}
use Rattle.scp_pending.specs.declared.ready.Ready.{Ready}
use Rattle.scp_pending.specs.declared.ready.Ready.TheVariants.{Deliver, Dropped, Closed, Local}

-- how a message left, by its number; or the connection ended
pub data Way : Type 0 where
  went : Seq → Way  -- by its own fate: delivered, or lost by its set
  by_close : Seq → Way
  by_full : Seq → Way
  over : Cause → Way

-- how a dropped message left, by its cause
abbrev pub way_by : DropCause → Seq → Way
way_by BadSet seq = went seq
way_by GaveUp seq = went seq
way_by ByClose seq = by_close seq
way_by ByFull seq = by_full seq

-- how one thing left, if it belongs to the connection
abbrev pub way : ConnId → Ready → List Way
way c (Deliver delivery) = one_if (same_conn delivery.conn c) (went delivery.seq)
way c (Dropped conn seq cause) = one_if (same_conn conn c) (way_by cause seq)
way c (Closed conn cause) = one_if (same_conn conn c) (over cause)
way c (Local command) = []

-- how the messages of the connection left, in order, and its end
abbrev pub ways : ConnId → List Ready → List Way
ways c readies = flat_map (way c) readies

-- the number of the message that left; none for an end
abbrev pub number_of : Way → List ℕ
number_of (went seq) = seq.0 ∷ []
number_of (by_close seq) = seq.0 ∷ []
number_of (by_full seq) = seq.0 ∷ []
number_of (over cause) = []

-- the numbers of the messages that left
abbrev pub numbers_of : List Way → List ℕ
numbers_of ws = flat_map number_of ws

-- it left by its own fate, and not because its connection ended
abbrev pub HasWent : Way → Type 0
HasWent (went seq) = Unit {0}
HasWent (by_close seq) = ⊥
HasWent (by_full seq) = ⊥
HasWent (over cause) = ⊥

-- each of them left by its own fate
abbrev pub AllWent : List Way → Type 0
AllWent ws = AllByRecursion HasWent ws

-- those of these numbers whose messages name the slot
abbrev pub seqs_at : (ℕ → ℕ) → ℕ → List Seq → List Seq
seqs_at slots s seqs = filter (λ seq. nat_eq (slots seq.0) s) seqs

-- the numbers ascend, from n on
abbrev pub Ascend : ℕ → List Seq → Type 0
Ascend n [] = Unit {0}
Ascend n (seq ∷ seqs) = (n ≤ seq.0) × Ascend (seq.0 + 1) seqs

-- the first of these numbers, if there is one, is that of an envelope of the connection that waits
abbrev pub FirstWaits : Settled → List Inbound → ConnId → List Seq → Type 0
FirstWaits start taken c [] = Unit {0}
FirstWaits start taken c (seq ∷ seqs) = (x : Carried) × (x.conn ≡ c) × (x.seq ≡ seq) × IsWaiting start taken x

-- The connection was closed from outside. After the messages that had their own fates, what was parked is dropped, by
-- ascending numbers, and then comes the end. The first of each lane was waiting.
pub record IsClosedOff (start : Settled) (slots : ℕ → ℕ) (taken : List Inbound) (c : ConnId) (ws : List Way) : Type 0 where
  pub front : List Way
  pub seqs : List Seq
  pub cause : Cause
  pub before : List Inbound
  pub rest : List Inbound
  pub at : taken ≡ before ++ inbound.Closed c cause ∷ rest
  pub outside : cause ≢ ParkedFull
  pub ways_are : ws ≡ front ++ (map by_close seqs ++ over cause ∷ [])
  pub fates : AllWent front
  pub ascend : Ascend 0 seqs
  pub first : (s : ℕ) → FirstWaits start before c (seqs_at slots s seqs)

-- The connection was cut off by one message too many. 65 messages are dropped, by ascending numbers, the last of which came
-- then, and then comes the end. The first of each lane was waiting. Nothing that came before is lost: the numbers of those that
-- left are all from 0 to that last one.
pub record IsCutOff (start : Settled) (slots : ℕ → ℕ) (taken : List Inbound) (c : ConnId) (ws : List Way) : Type 0 where
  pub front : List Way
  pub seqs : List Seq
  pub last : Carried
  pub before : List Inbound
  pub rest : List Inbound
  pub at : taken ≡ (before ++ inbound.Carried last ∷ []) ++ rest
  pub mine : last.conn ≡ c
  pub ways_are : ws ≡ front ++ (map by_full (seqs ++ last.seq ∷ []) ++ over ParkedFull ∷ [])
  pub fates : AllWent front
  pub count : length (seqs ++ last.seq ∷ []) ≡ PARKED_LIMIT + 1
  pub ascend : Ascend 0 (seqs ++ last.seq ∷ [])
  pub shuts : is_open c (settled_by start (before ++ inbound.Carried last ∷ [])).queues ≡ false
  pub all : IsPermutation (range_with_len 0 (last.seq.0 + 1)) (numbers_of ws)
  pub first : (s : ℕ) → FirstWaits start (before ++ inbound.Carried last ∷ []) c (seqs_at slots s (seqs ++ last.seq ∷ []))

-- while it is open, all that left had their own fates; later this still holds, or it was closed off or cut off
pub record Exits (start : Settled) (slots : ℕ → ℕ) (taken : List Inbound) (c : ConnId) (open' : Bool) (ws : List Way) : Type 0 where
  pub running : open' ≡ true → AllWent ws
  pub ended : AllWent ws ⊎ (IsClosedOff start slots taken c ws ⊎ IsCutOff start slots taken c ws)

-- the local command, if it passes: all pass except Tick
abbrev pub passing_command : Command → List Command
passing_command Tick = []
passing_command (Propose slot value) = (Propose slot value) ∷ []
passing_command (Round slot) = (Round slot) ∷ []
passing_command (Timer slot) = (Timer slot) ∷ []
passing_command (Ask link slot) = (Ask link slot) ∷ []

-- the command of an item, if it passes
abbrev pub passing : Inbound → List Command
passing (inbound.Opened c) = []
passing (inbound.Carried x) = []
passing (inbound.Side c message) = []
passing (inbound.Closed c cause) = []
passing (inbound.Local command) = passing_command command

-- the commands that pass among what came, in order
abbrev pub commands_in : List Inbound → List Command
commands_in items = flat_map passing items

-- the command that was given, if a command was
abbrev pub passed : Ready → List Command
passed (Deliver delivery) = []
passed (Dropped c seq cause) = []
passed (Closed c cause) = []
passed (Local command) = command ∷ []

-- the commands among what was given, in order
abbrev pub commands_of : List Ready → List Command
commands_of readies = flat_map passed readies
