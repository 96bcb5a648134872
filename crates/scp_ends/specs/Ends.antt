-- What contracts see of the ends of a channel.
use Rattle.std.specs.Prelude.{◌≡◌, ℕ, ◌<◌, ◌≤◌, ◌==◌, ◌||◌, Bool, true, false, List, [], ◌∷◌, ◌++◌, length, slice_get, Some}
use Rattle.scp_ledger.specs.scp_types.specs.declared.limits.TheConstants.{CAPACITY_LIMIT, NODE_LIMIT}
use Rattle.atomic_table.specs.Seated.{TableId}
use Rattle.atomic_table.specs.declared.badge.Badge.{Badge}
use Rattle.crossbeam_channel.specs.declared.flavors.array.Key.{Key}
use Rattle.scp_ends.specs.declared.item.Item.{Item}
use Rattle.scp_ends.specs.declared.item.Item.TheVariants.{One, Stop}
use Rattle.scp_ends.specs.Order.{of, values}

-- which channel it is
pub record Line (T : Type 0) : Type 0 where
  pub table : TableId
  pub key : Badge (Key (Item T))

-- a sending end: its channel, its producer's number, and what it sent
pub record Sender (T : Type 0) : Type 0 where
  pub line : Line T
  pub number : ℕ
  pub sent : List T

-- a receiving end: its channel, how many producers it has, how much the channel holds at most, and what it received
pub record Receiver (T : Type 0) : Type 0 where
  pub line : Line T
  pub producers : ℕ
  pub room : ℕ
  pub got : List (Item T)

-- there are 1 to 8 producers, and the channel holds 1 to `CAPACITY_LIMIT` items
pub record IsOfSize (producers capacity : ℕ) : Type 0 where
  pub some_producer : 0 < producers
  pub few_producers : producers ≤ NODE_LIMIT
  pub some_room : 0 < capacity
  pub little_room : capacity ≤ CAPACITY_LIMIT

module _ {T : Type 0} where
  -- the items by which producer n sends these
  abbrev pub ones : ℕ → List T → List (Item T)
  ones n [] = []
  ones n (x ∷ xs) = One n x ∷ ones n xs

  -- all items that producer n sends, with its end last
  abbrev pub ended : ℕ → List T → List (Item T)
  ended n xs = ones n xs ++ Stop n ∷ []

  -- whether producer n has ended, by these items
  abbrev pub stopped : ℕ → List (Item T) → Bool
  stopped p [] = false
  stopped p (One n x ∷ xs) = stopped p xs
  stopped p (Stop n ∷ xs) = (n == p) || stopped p xs

  -- a producer that has sent nothing yet
  abbrev pub fresh : Line T → ℕ → Sender T
  fresh line n = record { line = line; number = n; sent = [] }

  -- the ends of producers 0, 1, 2, ..
  abbrev pub AreFresh : Line T → List (Sender T) → Type 0
  AreFresh line xs = (i : ℕ) → i < length xs → slice_get xs i ≡ Some (fresh line i)

  -- the things that were received from producer p
  abbrev pub heard : ℕ → List (Item T) → List T
  heard p got = values (of p got)

-- each producer's end was received
abbrev pub HeardAll : {T : Type 0} → Receiver T → Type 0
HeardAll r = (p : ℕ) → p < r.producers → stopped p r.got ≡ true

-- One producer that ended, and its consumer. What it sent is what was received of it, followed by what the channel holds of it, in order, its
-- end last. No item has a number that no producer has. The channel holds no more than its room.
pub record IsQueued {T : Type 0} (r : Receiver T) (s : Sender T) : Type 0 where
  pub number : s.number < r.producers
  pub queue : List (Item T)
  pub room : length queue ≤ r.room
  pub order : ended s.number s.sent ≡ of s.number (r.got ++ queue)
  pub others : (p : ℕ) → r.producers ≤ p → of p (r.got ++ queue) ≡ []
