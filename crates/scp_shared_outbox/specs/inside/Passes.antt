-- What a pass of an outbox's place is to the end that holds it; nothing here need be believed.
use Rattle.std.specs.Prelude.{◌≡◌, ℕ, true, List, slice_get, Some}
use Rattle.crossbeam_queue.specs.Passes.{Pass, view}
use Rattle.scp_outbox.specs.Outbox.{OutboxView}
use Rattle.scp_shared_outbox.specs.declared.turn.Part.{Part}
use Rattle.scp_shared_outbox.specs.declared.turn.Turn.{Turn}
use Rattle.scp_shared_outbox.specs.Turns.{put_by}
use Rattle.scp_shared_outbox.specs.inside.Rule.{IsPutter}
use Rattle.scp_shared_outbox.specs.Ends.{PutterView, MarkerView, TakerView}

abbrev pub putter_of : ℕ → Pass OutboxView Part → PutterView
putter_of number p = record { desk = p.table_id; number = number; put = (view p).put }

abbrev pub marker_of : Pass OutboxView Part → MarkerView
marker_of p = record { desk = p.table_id; marked = (view p).marked }

abbrev pub taker_of : Pass OutboxView Part → TakerView
taker_of p = record { desk = p.table_id; producers = (view p).made; gave = (view p).gave }

abbrev pub IsMarking : Pass OutboxView Part → Type 0
IsMarking p = (view p).marks ≡ true

abbrev pub IsTaking : Pass OutboxView Part → Type 0
IsTaking p = (view p).takes ≡ true

-- the pass of the producer with this number
abbrev pub IsPutting : ℕ → Pass OutboxView Part → Type 0
IsPutting number p = IsPutter number (view p)

-- what each of these producers put is what it put in these turns
abbrev pub HavePut : List Turn → List PutterView → Type 0
HavePut turns putters = (i : ℕ) (p : PutterView) → slice_get putters i ≡ Some p → put_by i turns ≡ p.put
