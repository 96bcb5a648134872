-- What the private calls of a reader and the decoders promise.
-- No public clause reaches these definitions: nothing here need be believed.
use Rattle.std.specs.Prelude.{◌≡◌, Result, Ok, Err}
use Rattle.scp_types.specs.declared.fault.Fault.{Fault}
use Rattle.scp_xdr.specs.Reading.{Cursor, Read}

-- What a call read is what the definition reads. It takes no memory, and a refusal leaves the reader anywhere.
abbrev pub Parses : {X Y : Type 0} → (X → Y) → Cursor → Result X Fault → Read Y → Type 0
Parses view new (Ok x) read = read ≡ Ok (view x, new)
Parses view new (Err f) read = read ≡ Err f

-- The same of a call that returns nothing of the value that it read.
abbrev pub Passes : {X Y : Type 0} → Cursor → Result X Fault → Read Y → Type 0
Passes {X} {Y} new (Ok x) read = (y : Y) × (read ≡ Ok (y, new))
Passes new (Err f) read = read ≡ Err f
