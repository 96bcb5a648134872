-- What contracts see of a worker that works, and of what it ends with.
use Rattle.std.specs.Prelude.{◌≡◌, ◌⊎◌, ℕ, Bool, true, false, List, [], length, slice_get, Option, Some, None}
use Rattle.scp_shared_outbox.specs.Ends.{PutterView}
use Rattle.scp_theorem.specs.scp_ledger.specs.declared.took.Outgoing.{Outgoing}
use Rattle.scp_theorem.specs.Handed.{handed_by}
use Rattle.scp_ends.specs.Order.{values}
use Rattle.scp_ends.specs.Ends.{Sender, Receiver, HeardAll}

-- ---- what it is

-- what contracts see of a worker that works: its ends, the stage that it was made of, whether it failed, and whether it was cut off
pub record Work (T U S : Type 0) : Type 0 where
  pub input : Receiver T
  pub output : Option (Sender U)  -- None where it sends nowhere
  pub outlets : List PutterView  -- its ends of the outboxes of the links, by their places
  pub first : S
  pub failed : Bool
  pub cut_off : Bool  -- nobody sends to it any more

-- what it ends with: its receiving end, what is left of its sending end, its ends of the outboxes,
-- the stage as it was at first and as it is, and how it ended
pub record End (T U S : Type 0) : Type 0 where
  pub input : Receiver T
  pub output : Option (Sender U)
  pub outlets : List PutterView  -- its ends of the outboxes of the links, by their places
  pub first : S
  pub stage : S
  pub well : Bool
  pub cut_off : Bool  -- nobody sends to it any more
  pub unheard : Bool  -- nobody received its end any more

-- what was sent; nothing where there is no sending end
abbrev pub sent_by : {U : Type 0} → Option (Sender U) → List U
sent_by None = []
sent_by (Some s) = s.sent

-- ---- whose ends they are

-- the same receiving end: of the same channel, with as many producers and as much room
pub record IsSameInput {T : Type 0} (r s : Receiver T) : Type 0 where
  pub line : s.line ≡ r.line
  pub producers : s.producers ≡ r.producers
  pub room : s.room ≡ r.room

-- what comes of all producers fits: if there is one producer, what it sends does; if there are more, whatever comes does
abbrev pub FitsAlone : {T : Type 0} → (List T → Type 0) → Receiver T → Type 0
FitsAlone {T} fits r = (r.producers ≡ 1) ⊎ ((xs : List T) → fits xs)

-- the same producer's end
abbrev pub IsSameEnd : {U : Type 0} → Sender U → Sender U → Type 0
IsSameEnd s t = (t.line ≡ s.line) × (t.number ≡ s.number)

-- the same sending end, or none
abbrev pub IsSameOutput : {U : Type 0} → Option (Sender U) → Option (Sender U) → Type 0
IsSameOutput {U} (Some s) o = (t : Sender U) × (o ≡ Some t) × IsSameEnd s t
IsSameOutput None o = o ≡ None

-- what is left of a sending end: that end, ended, if there was one; nothing, if nobody received its end any more
abbrev pub IsLeftOf : {U : Type 0} → Bool → Option (Sender U) → Option (Sender U) → Type 0
IsLeftOf false o left = IsSameOutput o left
IsLeftOf true o left = left ≡ None

-- the same ends of outboxes: as many, and at each place the same outbox and the same number there
pub record AreSameOutlets (old new : List PutterView) : Type 0 where
  pub many : length new ≡ length old
  pub each : (l : ℕ) (p q : PutterView) → slice_get old l ≡ Some p → slice_get new l ≡ Some q → (q.desk ≡ p.desk) × (q.number ≡ p.number)

-- It has the receiving end, the ends of outboxes and the stage that the worker was given. Its sending end is ended, whether the worker failed
-- or not, unless nobody received its end any more.
pub record Holds {T U S : Type 0} (w : Work T U S) (e : End T U S) : Type 0 where
  pub input : IsSameInput w.input e.input
  pub outlets : AreSameOutlets w.outlets e.outlets
  pub first : e.first ≡ w.first
  pub output : IsLeftOf e.unheard w.output e.output

-- ---- what it did

-- nothing was put into an outbox
abbrev pub AreUnused : List PutterView → Type 0
AreUnused outlets = (l : ℕ) (p : PutterView) → slice_get outlets l ≡ Some p → p.put ≡ []

-- what was put into each link's outbox is what is handed out for it, in order
abbrev pub HavePut : List Outgoing → List PutterView → Type 0
HavePut out outlets = (l : ℕ) (p : PutterView) → slice_get outlets l ≡ Some p → p.put ≡ handed_by out l

-- Each producer ended. What was sent is what the stage gives for what was received, followed by the end. What was put into the outboxes is
-- what the stage handed out. Nothing is left to give.
pub record HasRun {T U S : Type 0} (runs : S → List T → List U → List Outgoing → S → Type 0) (rests : S → Type 0) (e : End T U S) : Type 0 where
  pub heard : HeardAll e.input
  pub out : List Outgoing
  pub all : runs e.first (values e.input.got) (sent_by e.output) out e.stage
  pub put : HavePut out e.outlets
  pub nothing_left : rests e.stage
  pub ended : e.unheard ≡ false

-- a worker that ended well gave on, and handed out, all that its stage gives for what it received
abbrev pub EndsWell : {T U S : Type 0} → (S → List T → List U → List Outgoing → S → Type 0) → (S → Type 0) → End T U S → Type 0
EndsWell runs rests e = e.well ≡ true → HasRun runs rests e
