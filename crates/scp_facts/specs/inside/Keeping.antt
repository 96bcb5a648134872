-- What a watch adds.
-- No public clause reaches this definition: nothing here need be believed.
use Rattle.std.specs.Prelude.{ℕ, ◌≡◌, ◌⊎◌, true, ◌++◌, Option}
use Rattle.scp_facts.specs.declared.happening.Happening.{Happening}
use Rattle.scp_facts.specs.Kept.{kept_of}
use Rattle.scp_facts.specs.Keeping.{WatchView}

-- this was kept, or the watch is out of memory
abbrev pub Adds : WatchView → ℕ → Option Happening → WatchView → Type 0
Adds old number happening new = (new.lacks_memory ≡ true) ⊎ (new ≡ record old { kept = old.kept ++ kept_of number happening })
