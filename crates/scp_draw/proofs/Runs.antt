-- A script is played line by line, and told.
use Rattle.std.proofs.Common.{◌≡◌, ◌≢◌, ◌∙◌, ℕ, Bool, true, false, List, [], ◌∷◌, ◌++◌, sym, ap, subst, inl, inr}
use Rattle.scp_trace.specs.scp_types.specs.declared.fault.Fault.TheVariants.{NoMemory}
use Rattle.scp_trace.specs.scp_turn.specs.Network.{NetworkView}
use Rattle.scp_trace.specs.scp_script.specs.declared.command.Command.{Command}
use Rattle.scp_trace.specs.scp_line.specs.declared.player.Stopped.{Stopped}
use Rattle.scp_trace.specs.scp_line.specs.Player.{Lining, lining, IsRun, IsCutOff, IsStoppedBy}
use Rattle.scp_trace.specs.scp_line.specs.inside.Player.{NotesAs}
use Rattle.scp_trace.proofs.Player.{run_as, run_from, cut_as}
use Rattle.scp_trace.specs.scp_facts.specs.declared.fact.Telling.{Telling}
use Rattle.scp_trace.specs.scp_facts.specs.declared.fact.Telling.TheVariants.{Line}
use Rattle.scp_trace.specs.scp_facts.specs.Watching.{WatchView, Awaits, TellsStep, BeginsLine, StepIsTold}
use Rattle.scp_draw.specs.declared.playing.LineFacts.{LineFacts}
use Rattle.scp_draw.specs.Lines.{telling, IsTelling}
use Rattle.scp_draw.specs.inside.Playing.{begun}

-- what the watch notes of lines
abbrev pub drawing : Lining LineFacts
drawing = lining {W = LineFacts} (λ old line command nodes new. BeginsLine old.facts line new.facts) (λ old line command calm nodes new. new ≡ old) (λ old number event node new. Awaits old.facts number event node new.facts) (λ old number reply node new. TellsStep old.facts number reply node new.facts)

-- what it told, and whether it lacked memory
abbrev pub held : LineFacts → List Telling
held w = w.facts.tellings

abbrev pub lacks : LineFacts → Bool
lacks w = w.facts.lacks_memory

-- the beginning of a line, where there was memory
line_told : (w u : WatchView) (line : ℕ) → BeginsLine w line u → u.lacks_memory ≡ false → (w.lacks_memory ≡ false) × (u.tellings ≡ w.tellings ++ Line line ∷ [])
line_told w u line (inl none) calm = absurd (let no : true ≡ false = sym none ∙ calm in cc)
line_told w u line (inr is) calm = (sym (ap (λ (x : WatchView). x.lacks_memory) is) ∙ calm, ap (λ (x : WatchView). x.tellings) is)

-- where there was memory, that is what is told
notes_as : StepIsTold → NotesAs drawing lacks telling held
notes_as law = record {
  begins = λ old new line command nodes calm is. line_told old.facts new.facts line is calm;
  steps = λ old new number event reply before after' calm is. law number event reply before after' old.facts new.facts calm (is.0.facts, is.1, is.2);
  ends = λ old new line command rests nodes calm is. (sym (ap lacks is) ∙ calm, ap held is);
}

-- all were played
pub all_told : StepIsTold → (commands : List Command) (lines : List ℕ) (network : NetworkView) (old watch : LineFacts) (tellings : List Telling) → old ≡ begun → lacks watch ≡ false → tellings ≡ held watch → IsRun drawing commands lines network old watch → IsTelling commands lines network tellings
all_told law commands lines network old watch tellings first calm is run =
    subst (λ (l : List Telling). IsTelling commands lines network l) (sym is)
    (run_from telling commands lines network (held old) [] (held watch) (ap held first) (run_as drawing lacks telling held (notes_as law) commands lines network old watch run calm))

-- one wasn't done
pub cut_off : StepIsTold → (commands : List Command) (lines : List ℕ) (network : NetworkView) (old watch : LineFacts) (tellings : List Telling) (stopped : Stopped) → old ≡ begun → lacks watch ≡ false → tellings ≡ held watch → stopped.fault.fault ≢ NoMemory → IsStoppedBy drawing commands lines network old watch stopped → IsCutOff telling commands lines network [] tellings stopped
cut_off law commands lines network old watch tellings stopped first calm is other (inl want) = absurd (other want.0)
cut_off law commands lines network old watch tellings stopped first calm is other (inr cut) =
    subst (λ (l : List Telling). IsCutOff telling commands lines network [] l stopped) (sym is)
    (subst (λ (l : List Telling). IsCutOff telling commands lines network l (held watch) stopped) (ap held first) (cut_as drawing lacks telling held (notes_as law) commands lines network old watch stopped cut calm))
