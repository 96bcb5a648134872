-- What is told of a step (this project's profile).
use Rattle.std.specs.Prelude.{ℕ, ◌≡◌, List, ◌++◌, map}
use Rattle.scp_turn.specs.Kv.{Noting}
use Rattle.scp_facts.specs.declared.fact.Fact.{Fact}
use Rattle.scp_facts.specs.declared.fact.Telling.{Telling}
use Rattle.scp_facts.specs.declared.fact.Telling.TheVariants.{Of}
use Rattle.scp_facts.specs.Facts.{facts_in}

-- a fact, as of the node of this number
abbrev pub of_node : ℕ → Fact → Telling
of_node number fact = Of (record { node = number; fact = fact })

-- what is told so far grows by the facts of a step, in their order
abbrev pub Tells : Noting (List Telling)
Tells old number event reply before after' new = new ≡ old ++ map (of_node number) (facts_in event reply before after')
