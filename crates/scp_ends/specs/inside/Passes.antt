-- What a channel's pass is for the end that holds it; nothing here need be believed.
use Rattle.std.specs.Prelude.{◌≡◌, ℕ, true, false, List, []}
use Rattle.crossbeam_channel.specs.Claims.{Pass, view}
use Rattle.scp_ends.specs.declared.item.Item.{Item}
use Rattle.scp_ends.specs.declared.item.View.{View}
use Rattle.scp_ends.specs.Order.{values}
use Rattle.scp_ends.specs.Ends.{Line, Sender, Receiver, ones, ended}

module _ {T : Type 0} where
  abbrev pub line_of : Pass (Item T) (View T) → Line T
  line_of p = record { table = p.table_id; key = p.me.0.of }

  -- the pass of producer n, which has sent only things, and not its end
  abbrev pub IsSending : ℕ → Pass (Item T) (View T) → Type 0
  IsSending n p = let v = view p in (v.sends ≡ true) × (v.number ≡ n) × (v.put ≡ ones n (values v.put))

  -- the pass knows the capacity
  abbrev pub HasRoom : ℕ → Pass (Item T) (View T) → Type 0
  HasRoom room p = (view p).room ≡ room

  -- the pass of producer n, which has sent things and then its end
  abbrev pub IsEnded : ℕ → Pass (Item T) (View T) → Type 0
  IsEnded n p = let v = view p in (v.sends ≡ true) × (v.number ≡ n) × (v.put ≡ ended n (values v.put))

  abbrev pub sender_of : ℕ → Pass (Item T) (View T) → Sender T
  sender_of n p = record { line = line_of p; number = n; sent = values (view p).put }

  abbrev pub receiver_of : Pass (Item T) (View T) → Receiver T
  receiver_of p = record { line = line_of p; producers = (view p).made; room = (view p).room; got = (view p).got }

  abbrev pub IsReceiving : Pass (Item T) (View T) → Type 0
  IsReceiving p = (view p).gets ≡ true

  -- the pass of the producer of this number, when it has sent these items
  abbrev pub sender : ℕ → ℕ → List (Item T) → View T
  sender room n put = record { sends = true; number = n; put = put; gets = false; got = []; made = 0; knows = false; room = room }

  abbrev pub spent : View T
  spent = record { sends = false; number = 0; put = []; gets = false; got = []; made = 0; knows = false; room = 0 }
