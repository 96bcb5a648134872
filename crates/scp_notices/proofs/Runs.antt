-- A run, of which its notices are told and another watch too.
use Rattle.std.proofs.Common.{◌≡◌, ◌≢◌, ◌≤◌, ◌∙◌, ℕ, Bool, false, List, [], ◌∷◌, All, length, refl, sym, ap, subst, arith, inl, inr}
use Rattle.std.specs.Prelude.{Result, Ok, Err, IfOk}
use Rattle.scp_line.specs.scp_types.specs.declared.limits.TheConstants.{NODE_LIMIT}
use Rattle.scp_line.specs.scp_types.specs.declared.fault.Fault.TheVariants as faults
use Rattle.scp_line.specs.scp_core.specs.declared.event.Event.{Event}
use Rattle.scp_line.specs.scp_core.specs.declared.event.Reply.{Reply}
use Rattle.scp_line.specs.scp_core.specs.Kv.{NodeView}
use Rattle.scp_line.specs.scp_turn.specs.Heard.{Nodes, Heard}
use Rattle.scp_line.specs.scp_turn.specs.Network.{NetworkView}
use Rattle.scp_line.specs.scp_script.specs.declared.command.Command.{Command}
use Rattle.scp_line.specs.scp_script.specs.Nodes.{NamesNodes}
use Rattle.scp_line.specs.declared.player.Stopped.{Stopped}
use Rattle.scp_line.specs.declared.watch.Both.{Both}
use Rattle.scp_line.specs.Commands.{FatesAreOfTheirLines}
use Rattle.scp_line.specs.Player.{Lining, lining, AreLines, IsRun, IsStoppedBy}
use Rattle.scp_line.specs.scp_report.specs.Node.{reports_of}
use Rattle.scp_line.proofs.Runs.{run_as, run_from, cut_at, first_notes, second_notes, noted_count}
use Rattle.scp_line.proofs.Standing.{few_nodes}
use Rattle.scp_script_check.specs.declared.reading.Script.{Script}
use Rattle.scp_script_check.specs.Lines.{IsSaid}
use Rattle.scp_notices.specs.declared.commands.Told.{Told}
use Rattle.scp_notices.specs.declared.notice.Notice.{Notice}
use Rattle.scp_notices.specs.declared.playing.RunFault.{RunFault}
use Rattle.scp_notices.specs.declared.playing.Watched.{Watched}
use Rattle.scp_notices.specs.Run.{nothing_noted, noticing, run_notices, IsRan, IsWatched, IsStoppedIn}
use Rattle.scp_notices.specs.inside.Playing.{ShowsBoth}
use Rattle.scp_notices.specs.inside.Watching.{WatchView, notes_line, notes_step}
use Rattle.scp_notices.proofs.Owning.{reports_own}
use Rattle.scp_notices.proofs.Watching.{notes_event, watching, held, notes_as}

-- what both watches of a run note of it
abbrev pub both_note : {W : Type 0} → (W → ℕ → Command → Nodes → W → Type 0) → (W → ℕ → Command → Bool → Nodes → W → Type 0) → (W → ℕ → Event → NodeView → W → Type 0) → (W → ℕ → Reply → NodeView → W → Type 0) → Lining (Both WatchView W)
both_note {W} Begins Ends Before After = lining {W = Both WatchView W}
    (λ old line command nodes new. (new.first ≡ old.first) × Begins old.second line command nodes new.second)
    (λ old line command calm nodes new. notes_line old.first line command calm nodes new.first × Ends old.second line command calm nodes new.second)
    (λ old number event node new. notes_event old.first number event node new.first × Before old.second number event node new.second)
    (λ old number reply node new. notes_step old.first number reply node new.first × After old.second number reply node new.second)

-- two watches
abbrev pub pair : {W : Type 0} → WatchView → W → Both WatchView W
pair {W} first second = record { first = first; second = second }

-- all lines were played
pub both_shown : {W : Type 0} → FatesAreOfTheirLines → (Begins : W → ℕ → Command → Nodes → W → Type 0) (Ends : W → ℕ → Command → Bool → Nodes → W → Type 0) (Before : W → ℕ → Event → NodeView → W → Type 0) (After : W → ℕ → Reply → NodeView → W → Type 0) (commands : List Command) (lines : List ℕ) (network : NetworkView) (first : WatchView) (watch : W) (new : Both WatchView W) (told : List Told) (cut : List ℕ) (notices : List Notice)
    → IsRun (both_note Begins Ends Before After) commands lines network (pair first watch) new → held first ≡ nothing_noted → new.first.lacks_memory ≡ false → told ≡ new.first.told → cut ≡ new.first.cut → notices ≡ run_notices commands lines (reports_of network.nodes) told cut → ShowsBoth (lining Begins Ends Before After) commands lines network notices watch new.second
both_shown {W} law Begins Ends Before After commands lines network first watch new told cut notices run begun calm told_are cut_are is =
    let mine = run_as (both_note Begins Ends Before After) (λ (w : Both WatchView W). false) watching (λ (w : Both WatchView W). w.first) (first_notes (λ old line command nodes new. new ≡ old) notes_line notes_event notes_step Begins Ends Before After) commands lines network (pair first watch) new run refl in
    let noted = run_from noticing commands lines network (held first) nothing_noted (held new.first) begun (run_as watching (λ (w : WatchView). w.lacks_memory) noticing held notes_as commands lines network first new.first mine calm) in
    let other = run_as (both_note Begins Ends Before After) (λ (w : Both WatchView W). false) (lining Begins Ends Before After) (λ (w : Both WatchView W). w.second) (second_notes (λ old line command nodes new. new ≡ old) notes_line notes_event notes_step Begins Ends Before After) commands lines network (pair first watch) new run refl in (
      record {
        noted = held new.first;
        run = noted;
        own = reports_own law commands lines network (held new.first) noted;
        notices_are = is ∙ ap (λ (t : List Told). run_notices commands lines (reports_of network.nodes) t cut) told_are ∙ ap (λ (k : List ℕ). run_notices commands lines (reports_of network.nodes) new.first.told k) cut_are;
      },
      record { run = other; one = refl },
    )

-- one wasn't done
pub stopped_in : {W : Type 0} (L : Lining W) (commands : List Command) (lines : List ℕ) (network : NetworkView) (old new : W) (stopped : Stopped) → IsStoppedBy L commands lines network old new stopped → stopped.fault.fault ≢ faults.NoMemory → IsStoppedIn commands lines stopped.line stopped.fault
stopped_in L commands lines network old new stopped (inl want) other = absurd (other want.0)
stopped_in L commands lines network old new stopped (inr cut) other = record {
  before = cut.before;
  command = cut.command;
  after' = cut.after';
  split = cut.split;
  place = cut_at L commands lines network old new stopped cut;
  named = other;
  stopped = cut.why;
}

-- what is shown of a script is shown of the script of its run
pub watched_so : {W : Type 0} (L : Lining W) (text : List ℕ) (script : Script) (watch : W) (r : Result (Watched W) RunFault) → IsSaid text script.commands.items script.lines.items → IfOk r (λ played. played.ran.script ≡ script) → IfOk r (λ played. ShowsBoth L script.commands.items script.lines.items played.ran.network played.ran.notices.items watch played.watch)
    → IfOk r (λ played. (is : IsRan text played.ran.script played.ran.network played.ran.notices.items) × IsWatched L played.ran.script.commands.items played.ran.script.lines.items played.ran.network played.ran.notices.items is.shows watch played.watch)
watched_so L text script watch (Ok played) said same both =
    subst (λ (s : Script). (is : IsRan text s played.ran.network played.ran.notices.items) × IsWatched L s.commands.items s.lines.items played.ran.network played.ran.notices.items is.shows watch played.watch) (sym same)
    (record { said = said; shows = both.0 }, both.1)
watched_so L text script watch (Err fault) said same both = tt

-- there are as many nodes as before these lines
lines_count : {W : Type 0} (L : Lining W) (all : List Command) (lines : List ℕ) (commands : List Command) (old new : W) (first last : Nodes) (heard : List Heard) → AreLines L all lines commands old first heard last new → length last ≡ length first
lines_count L all [] [] old new first last heard so = ap (λ (ns : Nodes). length ns) so.1
lines_count L all [] (c ∷ commands) old new first last heard so = absurd so
lines_count L all (l ∷ lines) [] old new first last heard so = absurd so
lines_count L all (l ∷ lines) (c ∷ commands) old new first last heard so =
    lines_count L all lines commands so.0 new so.1 last so.3 so.6 ∙ noted_count L.steps so.5.begun so.5.done first so.1 so.2 so.5.noted

-- the nodes of a script are at most eight
pub few_ran : {W : Type 0} (L : Lining W) (commands : List Command) (lines : List ℕ) (network : NetworkView) (old new : W) → All NamesNodes commands → IsRun L commands lines network old new → length network.nodes ≤ NODE_LIMIT
few_ran L commands lines network old new names run =
    let count = lines_count L commands lines commands old new run.first network.nodes run.played.heard run.noted in
    omega (arith, count, run.made.count, few_nodes commands names)
