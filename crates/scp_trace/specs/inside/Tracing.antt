-- What is shown of a line, as the code does it.
-- No public clause reaches these definitions: nothing here need be believed.
use Rattle.std.specs.Prelude.{ℕ, ◌+◌, ◌-◌, ◌<◌, ◌≡◌, ◌⊎◌, ◌||◌, Bool, true, false, List, [], ◌++◌, Option, Some, None, length, slice_get, string_bytes, take}
use Rattle.scp_line.specs.scp_core.specs.declared.event.Event.{Event}
use Rattle.scp_line.specs.scp_core.specs.declared.event.Reply.{Reply}
use Rattle.scp_line.specs.scp_core.specs.Kv.{NodeView}
use Rattle.scp_line.specs.scp_turn.specs.Heard.{Nodes as NodeList}
use Rattle.scp_line.specs.scp_script.specs.declared.command.Command.{Command}
use Rattle.scp_line.specs.scp_script.specs.declared.command.Command.TheVariants.{Report}
use Rattle.scp_line.specs.Player.{Lining}
use Rattle.scp_stand_node.specs.scp_stand_slot.specs.declared.names.Names.{Names}
use Rattle.scp_trace_text.specs.scp_facts.specs.declared.fact.Telling.{Telling}
use Rattle.scp_trace_text.specs.scp_facts.specs.Telling.{Tells}
use Rattle.scp_trace_text.specs.scp_facts.specs.Watching.{WatchView, Awaits, TellsStep}
use Rattle.scp_trace.specs.declared.depth.Depth.{Depth}
use Rattle.scp_trace.specs.declared.depth.Depth.TheVariants.{Stands, Whole}
use Rattle.scp_trace.specs.declared.tracing.TraceWatch.{TraceWatch}
use Rattle.scp_trace.specs.Standing.{IsStandIn}
use Rattle.scp_trace.specs.Traced.{line_part, facts_part}

-- what is shown so far, of how many lines, and the facts of the line that is done now
pub record Told : Type 0 where
  pub depth : Depth
  pub names : Names
  pub all : List Command
  pub done : ℕ
  pub text : List ℕ
  pub tellings : List Telling

-- what a watch has written and noted so far
abbrev pub held : TraceWatch → Told
held w = record { depth = w.depth; names = w.names.now; all = w.commands.now; done = w.done; text = string_bytes w.text; tellings = w.facts.tellings }

-- the watch ran out of memory for something
abbrev pub lacks : TraceWatch → Bool
lacks w = w.lacks_memory || w.facts.lacks_memory

-- ---- a step

-- what is noted before a step, if its facts are shown
abbrev pub FactsBefore : Depth → WatchView → ℕ → Event → NodeView → WatchView → Type 0
FactsBefore Whole old number event node new = Awaits old number event node new
FactsBefore Stands old number event node new = new ≡ old

-- what is noted after it, for the same reason
abbrev pub FactsAfter : Depth → WatchView → ℕ → Reply → NodeView → WatchView → Type 0
FactsAfter Whole old number reply node new = TellsStep old number reply node new
FactsAfter Stands old number reply node new = new ≡ old

-- what the watch notes before a step
abbrev pub StepBegins : TraceWatch → ℕ → Event → NodeView → TraceWatch → Type 0
StepBegins old number event node new = (new ≡ record old { facts = new.facts }) × FactsBefore old.depth old.facts number event node new.facts

-- what is noted after it, for the same reason
abbrev pub StepEnds : TraceWatch → ℕ → Reply → NodeView → TraceWatch → Type 0
StepEnds old number reply node new = (new ≡ record old { facts = new.facts }) × FactsAfter old.depth old.facts number reply node new.facts

-- the facts of a step, if they are shown
abbrev pub TellsBy : Depth → List Telling → ℕ → Event → Reply → NodeView → NodeView → List Telling → Type 0
TellsBy Whole old number event reply before after' new = Tells old number event reply before after' new
TellsBy Stands old number event reply before after' new = new ≡ old

-- ---- a line

-- where a node stands after these lines, if there is one
abbrev pub StandsIf : Names → List Command → List Command → Option NodeView → List ℕ → Type 0
StandsIf names all before None text = text ≡ []
StandsIf names all before (Some node) text = IsStandIn names all before node text

-- After a `report` line the text shows where its node stands. After any other line there is nothing.
abbrev pub StandsBy : Names → List Command → List Command → NodeList → Command → List ℕ → Type 0
StandsBy names all before nodes (Report number) text = StandsIf names all before (slice_get nodes (number - 1)) text
StandsBy names all before nodes command text = text ≡ []

-- what is shown after a line that was done: the facts of its steps, and where its node stands
abbrev pub Ends : Told → ℕ → Command → NodeList → Told → Type 0
Ends old line command nodes new =
    (stand : List ℕ) × StandsBy old.names old.all (take old.done old.all) nodes command stand
    × (old.done < length old.all → new ≡ record old { done = old.done + 1; text = old.text ++ (facts_part old.depth old.names line nodes old.tellings ++ stand); tellings = [] })

-- what is shown of lines
abbrev pub tracing : Lining Told
tracing = record {
  begins = λ old line command nodes new. new ≡ record old { text = old.text ++ line_part old.depth old.names line command };
  steps = λ old number event reply before after' new. (new ≡ record old { tellings = new.tellings }) × TellsBy old.depth old.tellings number event reply before after' new.tellings;
  ends = λ old line command calm nodes new. Ends old line command nodes new;
}

-- what the watch notes before a line
abbrev pub LineBegins : TraceWatch → ℕ → Command → NodeList → TraceWatch → Type 0
LineBegins old line command nodes new = (lacks new ≡ true) ⊎ ((lacks new ≡ lacks old) × (held new ≡ record (held old) { text = string_bytes old.text ++ line_part old.depth old.names.now line command }))

-- what the watch notes after a line
abbrev pub LineEnds : TraceWatch → ℕ → Command → Bool → NodeList → TraceWatch → Type 0
LineEnds old line command calm nodes new = (lacks new ≡ true) ⊎ ((lacks old ≡ false) × Ends (held old) line command nodes (held new))
