-- What the calls of a reader and the decoders promise.
use Rattle.std.specs.Prelude.{◌≡◌, ◌≢◌, ℕ, ◌+◌, ◌<◌, List, ◌++◌, Option, Some, None, Result, Ok, Err}
use Rattle.scp_types.specs.declared.fault.Fault.{Fault}
use Rattle.scp_types.specs.declared.fault.Fault.TheVariants.{NoMemory, Malformed, TooLong}
use Rattle.scp_xdr.specs.Reading.{Cursor, Read}

-- The call gave what the definition reads, and moved the reader there; a refusal leaves the reader as it was.
abbrev pub Reads : {X Y : Type 0} → (X → Y) → Cursor → Cursor → Result X Fault → Read Y → Type 0
Reads view old new (Ok x) read = read ≡ Ok (view x, new)
Reads view old new (Err f) read = (read ≡ Err f) × (new ≡ old)

-- The call passed over a value, or met the first fault; a refusal leaves the reader anywhere.
abbrev pub GoesPast : {X : Type 0} → Cursor → Result X Fault → Result Cursor Fault → Type 0
GoesPast new (Ok x) passed = passed ≡ Ok new
GoesPast new (Err f) passed = passed ≡ Err f

-- The same of a call that allocates, and may run out of memory. A refusal leaves the reader anywhere.
abbrev pub Decodes : {X Y : Type 0} → (X → Y) → Cursor → Result X Fault → Read Y → Type 0
Decodes view new (Ok x) read = read ≡ Ok (view x, new)
Decodes view new (Err f) read = f ≢ NoMemory → read ≡ Err f

-- a call gave what the definition reads, or ran out of memory
abbrev pub Gives : {X Y : Type 0} → (X → Y) → Result X Fault → Result Y Fault → Type 0
Gives view (Ok x) read = read ≡ Ok (view x)
Gives view (Err f) read = f ≢ NoMemory → read ≡ Err f

-- The text was appended to the bytes; the only refusal is out of memory, and leaves the bytes as they were.
abbrev pub Appends : {X : Type 0} → List ℕ → List ℕ → Result X Fault → List ℕ → Type 0
Appends old new (Ok x) text = new ≡ old ++ text
Appends old new (Err f) text = (f ≡ NoMemory) × (new ≡ old)

-- The same of a call whose refusal may leave bytes appended, of which nothing is said.
abbrev pub Extends : {X : Type 0} → List ℕ → List ℕ → Result X Fault → List ℕ → Type 0
Extends old new (Ok x) text = new ≡ old ++ text
Extends old new (Err f) text = (f ≡ NoMemory) × ((part : List ℕ) × (new ≡ old ++ part))

-- The call passed over all of the bytes, or met the first fault.
abbrev pub PassesWhole : {X Y : Type 0} → Result X Fault → Result Y Fault → Type 0
PassesWhole {X} {Y} (Ok x) read = (y : Y) × (read ≡ Ok y)
PassesWhole (Err f) read = read ≡ Err f

-- Why bytes encode nothing.
abbrev pub IsReadingFault : Fault → Type 0
IsReadingFault (Malformed place) = Unit {0}
IsReadingFault TooLong = Unit {0}
IsReadingFault fault = ⊥

-- What is left of the room after this many bytes, or nothing if they are more than the room.
abbrev pub Leaves : ℕ → Option ℕ → ℕ → Type 0
Leaves room (Some left) len = room ≡ left + len
Leaves room None len = room < len
