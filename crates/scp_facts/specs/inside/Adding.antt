-- What a watch adds.
-- Here stands what no public clause reaches: nothing here need be believed.
use Rattle.std.specs.Prelude.{ℕ, ◌≡◌, ◌⊎◌, true, List, ◌++◌, map}
use Rattle.scp_facts.specs.declared.fact.Fact.{Fact}
use Rattle.scp_facts.specs.Telling.{of_node}
use Rattle.scp_facts.specs.Watching.{WatchView}

-- these were told, or there was no memory for them
abbrev pub Adds : WatchView → ℕ → List Fact → WatchView → Type 0
Adds old number facts new = (new.lacks_memory ≡ true) ⊎ (new ≡ record old { tellings = old.tellings ++ map (of_node number) facts })
