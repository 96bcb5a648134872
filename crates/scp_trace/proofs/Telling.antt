-- What a watch that lacked no memory told of lines is what is told of them.
use Rattle.std.proofs.Common.{◌≡◌, ◌∙◌, ℕ, Bool, true, false, sym, ap, subst, refl, inl, inr}
use Rattle.std.specs.Prelude.{◌||◌, string_bytes}
use Rattle.scp_line.specs.scp_core.specs.declared.event.Event.{Event}
use Rattle.scp_line.specs.scp_core.specs.declared.event.Reply.{Reply}
use Rattle.scp_line.specs.scp_core.specs.Kv.{NodeView}
use Rattle.scp_line.specs.scp_turn.specs.Heard.{Nodes as NodeList}
use Rattle.scp_line.specs.scp_script.specs.declared.command.Command.{Command}
use Rattle.scp_line.specs.Player.{Lining, lining}
use Rattle.scp_line.specs.inside.Player.{NotesAs}
use Rattle.scp_trace_text.specs.scp_facts.specs.Watching.{WatchView, StepIsTold}
use Rattle.scp_trace.specs.declared.depth.Depth.{Depth}
use Rattle.scp_trace.specs.declared.depth.Depth.TheVariants.{Stands, Whole}
use Rattle.scp_trace.specs.declared.tracing.TraceWatch.{TraceWatch}
use Rattle.scp_trace.specs.inside.Tracing.{Told, held, lacks, tracing, TellsBy, FactsBefore, FactsAfter, StepBegins, StepEnds, LineBegins, LineEnds}

-- what the watch notes
abbrev pub tracer : Lining TraceWatch
tracer = lining LineBegins LineEnds StepBegins StepEnds

neither : (a b : Bool) → (a || b) ≡ false → (a ≡ false) × (b ≡ false)
neither true b e = absurd (let no : true ≡ false = e in cc)
neither false b e = (refl, e)

both_none : (a b : Bool) → a ≡ false → b ≡ false → (a || b) ≡ false
both_none a b p q = rw p q

-- the facts of a step
facts_told : StepIsTold → (depth : Depth) (number : ℕ) (e : Event) (r : Reply) (before after' : NodeView) (w m v : WatchView) → FactsBefore depth w number e before m → FactsAfter depth m number r after' v → v.lacks_memory ≡ false → (w.lacks_memory ≡ false) × TellsBy depth w.tellings number e r before after' v.tellings
facts_told law Whole number e r before after' w m v b a calm = law number e r before after' w v calm (m, b, a)
facts_told law Stands number e r before after' w m v b a calm = (sym (ap (λ (x : WatchView). x.lacks_memory) (a ∙ b)) ∙ calm, ap (λ (x : WatchView). x.tellings) (a ∙ b))

step_told : StepIsTold → (old mid new : TraceWatch) (number : ℕ) (e : Event) (r : Reply) (before after' : NodeView) → lacks new ≡ false → StepBegins old number e before mid → StepEnds mid number r after' new → (lacks old ≡ false) × tracing.steps (held old) number e r before after' (held new)
step_told law old mid new number e r before after' calm b a =
    let none = neither new.lacks_memory new.facts.lacks_memory calm in
    let same : mid.depth ≡ old.depth = ap (λ (w : TraceWatch). w.depth) b.0 in
    let behind = subst (λ (d : Depth). FactsAfter d mid.facts number r after' new.facts) same a.1 in
    let told = facts_told law old.depth number e r before after' old.facts mid.facts new.facts b.1 behind none.1 in
    let own : old.lacks_memory ≡ false = sym (ap (λ (w : TraceWatch). w.lacks_memory) b.0) ∙ sym (ap (λ (w : TraceWatch). w.lacks_memory) a.0) ∙ none.0 in
    let bare = λ (w : TraceWatch). let t : Told = record { depth = w.depth; names = w.names.now; all = w.commands.now; done = w.done; text = string_bytes w.text; tellings = new.facts.tellings } in t in
    (both_none old.lacks_memory old.facts.lacks_memory own told.0, (ap bare a.0 ∙ ap bare b.0, told.1))

line_begun : (old new : TraceWatch) (line : ℕ) (command : Command) (nodes : NodeList) → lacks new ≡ false → LineBegins old line command nodes new → (lacks old ≡ false) × tracing.begins (held old) line command nodes (held new)
line_begun old new line command nodes calm (inl want) = absurd (let no : true ≡ false = sym want ∙ calm in cc)
line_begun old new line command nodes calm (inr is) = (sym is.0 ∙ calm, is.1)

line_ended : (old new : TraceWatch) (line : ℕ) (command : Command) (rests : Bool) (nodes : NodeList) → lacks new ≡ false → LineEnds old line command rests nodes new → (lacks old ≡ false) × tracing.ends (held old) line command rests nodes (held new)
line_ended old new line command rests nodes calm (inl want) = absurd (let no : true ≡ false = sym want ∙ calm in cc)
line_ended old new line command rests nodes calm (inr is) = is

pub notes_as : StepIsTold → NotesAs tracer lacks tracing held
notes_as law = record {
  begins = λ old new line command nodes calm is. line_begun old new line command nodes calm is;
  steps = λ old new number event reply before after' calm is. step_told law old is.0 new number event reply before after' calm is.1 is.2;
  ends = λ old new line command rests nodes calm is. line_ended old new line command rests nodes calm is;
}
