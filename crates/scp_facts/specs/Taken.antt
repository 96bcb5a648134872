-- What a slot stage took, from what happened at its node (this project's profile).
use Rattle.std.specs.Prelude.{ℕ, Bool, true, false, List, [], ◌∷◌, filter, flat_map, length, map, nat_eq}
use Rattle.scp_turn.specs.scp_wire.specs.declared.link.Command.{Command}
use Rattle.scp_turn.specs.scp_wire.specs.declared.link.Command.TheVariants.{Tick}
use Rattle.scp_turn.specs.scp_ledger.specs.declared.journal.Fate.{Fate}
use Rattle.scp_turn.specs.scp_ledger.specs.declared.took.CommandFate.{CommandFate}
use Rattle.scp_turn.specs.Commands.{TakenCommand}
use Rattle.scp_facts.specs.declared.happening.Happening.{Happening}
use Rattle.scp_facts.specs.declared.happening.Happening.TheVariants.{Given, Entered, Obeyed}
use Rattle.scp_facts.specs.declared.happening.Kept.{Kept}

-- what happened at the node of this number
abbrev pub happenings_at : ℕ → List Kept → List Happening
happenings_at number kept = map (λ k. k.happening) (filter (λ k. nat_eq k.node number) kept)

-- a tick came
abbrev pub is_tick : Happening → Bool
is_tick (Given Tick) = true
is_tick happening = false

-- how many ticks came
abbrev pub ticks : List Happening → ℕ
ticks happenings = length (filter is_tick happenings)

-- the command that was taken, with its fate
abbrev pub obeyed_by : Happening → List TakenCommand
obeyed_by (Obeyed taken fate) = record { command = taken; fate = fate } ∷ []
obeyed_by happening = []

-- the commands that were taken, each with its fate, in order
abbrev pub obeyed_in : List Happening → List TakenCommand
obeyed_in happenings = flat_map obeyed_by happenings

-- The entries and commands in the order in which they were taken, each written by its function. Each step that took an entry gives the next
-- entry. Each step that took a command gives that command with what became of it. The entries that are left come last, so that none is left
-- out.
abbrev pub in_order : {X : Type 0} → (Fate → X) → (Command → CommandFate → X) → List Happening → List Fate → List X
in_order {X} entry command [] fates = map entry fates
in_order {X} entry command (Entered ∷ more) [] = in_order entry command more []
in_order {X} entry command (Entered ∷ more) (first ∷ fates) = entry first ∷ in_order entry command more fates
in_order {X} entry command (Obeyed taken fate ∷ more) fates = command taken fate ∷ in_order entry command more fates
in_order {X} entry command (happening ∷ more) fates = in_order entry command more fates
