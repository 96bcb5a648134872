-- What is drawn of the lines of a script (this project's profile).
use Rattle.std.specs.Prelude.{ℕ, ◌≡◌, List, [], ◌∷◌, ◌++◌, Option, Some, None}
use Rattle.scp_trace.specs.scp_turn.specs.Network.{NetworkView}
use Rattle.scp_trace.specs.scp_script.specs.declared.command.Command.{Command}
use Rattle.scp_trace.specs.scp_line.specs.declared.player.Stopped.{Stopped}
use Rattle.scp_trace.specs.scp_line.specs.Player.{Lining, IsRun, IsCutOff}
use Rattle.scp_trace.specs.scp_facts.specs.declared.fact.Telling.{Telling}
use Rattle.scp_trace.specs.scp_facts.specs.declared.fact.Telling.TheVariants.{Line}
use Rattle.scp_trace.specs.scp_facts.specs.Telling.{Tells}

-- what is noted of a line: its number before it, and then exactly the facts of each of its steps
abbrev pub telling : Lining (List Telling)
telling = record {
  begins = λ old line command nodes new. new ≡ old ++ Line line ∷ [];
  steps = Tells;
  ends = λ old line command calm nodes new. new ≡ old;
}

-- The nodes of a script played all its commands, and this was noted of them, line by line, from the moment when the nodes were made.
abbrev pub IsTelling : List Command → List ℕ → NetworkView → List Telling → Type 0
IsTelling commands lines network tellings = IsRun telling commands lines network [] tellings

-- what was noted: of the whole run, or up to the line that stopped it
abbrev pub IsToldTo : Option Stopped → List Command → List ℕ → NetworkView → List Telling → Type 0
IsToldTo None commands lines network tellings = IsTelling commands lines network tellings
IsToldTo (Some stopped) commands lines network tellings = IsCutOff telling commands lines network [] tellings stopped
