-- What a watch kept of a script's run is what happened in it.
use Rattle.std.proofs.Common.{◌≡◌, ◌∙◌, ℕ, false, List, [], ◌∷◌, refl, sym, ap, subst}
use Rattle.scp_line.specs.scp_turn.specs.Heard.{Nodes, Heard, Noted}
use Rattle.scp_line.specs.declared.watch.Steps.{Steps}
use Rattle.scp_line.proofs.Runs.{quiet_lines}
use Rattle.scp_facts.specs.declared.happening.Kept.{Kept}
use Rattle.scp_facts.specs.Kept.{Keeps}
use Rattle.scp_facts.specs.Keeping.{WatchView, StepIsKept}
use Rattle.scp_account.specs.Run.{keeping, RunIsKept}

-- all steps
noted_kept : StepIsKept → (w z : Steps WatchView) (old new : Nodes) (heard : List Heard) → Noted keeping.steps w z old heard new → z.watch.lacks_memory ≡ false → (w.watch.lacks_memory ≡ false) × Noted Keeps w.watch.kept z.watch.kept old heard new
noted_kept law w z old new [] noted calm = (sym (ap (λ (x : Steps WatchView). x.watch.lacks_memory) noted.1) ∙ calm, (noted.0, ap (λ (x : Steps WatchView). x.watch.kept) noted.1))
noted_kept law w z old new (h ∷ heard) noted calm =
    let rest = noted_kept law noted.1 z noted.0 new heard noted.4 calm in
    let here = law h.node h.event h.reply noted.2.before noted.2.after' w.watch noted.1.watch rest.0 (noted.3.0.watch, noted.3.1, noted.3.2) in
    (here.0, (noted.0, noted.1.watch.kept, noted.2, here.1, rest.1))

-- a run of a script
pub run_is_kept : StepIsKept → RunIsKept
run_is_kept law commands lines network first last calm none run =
    let noted = quiet_lines keeping (λ old new line command nodes is. is) (λ old new line command rests nodes is. is) commands lines commands first last run.first network.nodes run.played.heard run.noted in
    let kept = (noted_kept law first last run.first network.nodes run.played.heard noted calm).1 in (
      record {
        played = run.played;
        first = run.first;
        new = run.made;
        noted = subst (λ (l : List Kept). Noted Keeps l last.watch.kept run.first run.played.heard network.nodes) none kept;
      },
      refl,
    )
