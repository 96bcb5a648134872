-- What contracts see of the ends by which threads reach an outbox.
use Rattle.std.specs.Prelude.{◌≡◌, ℕ, ◌<◌, List, [], length, slice_get, Option, Some, None}
use Rattle.atomic_table.specs.Seated.{TableId}
use Rattle.scp_outbox.specs.scp_wire.specs.declared.message.Message.{Message}
use Rattle.scp_outbox.specs.declared.mark.Mark.{Mark}
use Rattle.scp_outbox.specs.declared.mark.Out.{Out}

-- a producer's end: which outbox it is, the producer's number, and what it put
pub record PutterView : Type 0 where
  pub desk : TableId
  pub number : ℕ
  pub put : List Message

-- the end that leaves marks: which outbox it is, and what was marked
pub record MarkerView : Type 0 where
  pub desk : TableId
  pub marked : List Mark

-- the end that is given what waits: which outbox it is, how many producers it has, and what was given
pub record TakerView : Type 0 where
  pub desk : TableId
  pub producers : ℕ
  pub gave : List Out

-- the ends of producers 0, 1, 2, .., which have put nothing
abbrev pub AreFresh : TableId → List PutterView → Type 0
AreFresh desk putters = (i : ℕ) → i < length putters → slice_get putters i ≡ Some (record { desk = desk; number = i; put = [] })

-- the ends of a new outbox: those of producers 0, 1, 2, .., the one that leaves marks, and the one that is given what waits
pub record AreNew (producers : ℕ) (putters : List PutterView) (marker : MarkerView) (taker : TakerView) : Type 0 where
  pub many : length putters ≡ producers
  pub putters_are : AreFresh taker.desk putters
  pub marker_is : marker ≡ record { desk = taker.desk; marked = [] }
  pub taker_is : taker ≡ record { desk = taker.desk; producers = producers; gave = [] }

-- the ends of the producers 0, 1, 2, .. of this outbox
abbrev pub AreOf : TableId → List PutterView → Type 0
AreOf desk putters = (i : ℕ) (p : PutterView) → slice_get putters i ≡ Some p → (p.desk ≡ desk) × (p.number ≡ i)

-- all ends of the taker's outbox, with its producers' in the order of their numbers
pub record AreAll (putters : List PutterView) (marker : MarkerView) (taker : TakerView) : Type 0 where
  pub many : length putters ≡ taker.producers
  pub putters_are : AreOf taker.desk putters
  pub marker_is : marker.desk ≡ taker.desk

-- what the producer of this end put; nothing if there is none
abbrev pub put_of : Option PutterView → List Message
put_of None = []
put_of (Some p) = p.put

-- what each of these producers put, by its number
abbrev pub puts_of : List PutterView → ℕ → List Message
puts_of putters number = put_of (slice_get putters number)
