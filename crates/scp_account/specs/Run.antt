-- What is kept of a script's run, for its account.
use Rattle.std.specs.Prelude.{ℕ, ◌≡◌, false, List, []}
use Rattle.scp_line.specs.scp_turn.specs.Heard.{Nodes, Noted}
use Rattle.scp_line.specs.scp_turn.specs.Network.{NetworkView}
use Rattle.scp_line.specs.scp_script.specs.declared.command.Command.{Command}
use Rattle.scp_line.specs.declared.watch.Steps.{Steps}
use Rattle.scp_line.specs.Nodes.{HasPlayed}
use Rattle.scp_line.specs.Play.{AreNew}
use Rattle.scp_line.specs.Player.{Lining, lining, IsRun}
use Rattle.scp_facts.specs.declared.happening.Kept.{Kept}
use Rattle.scp_facts.specs.Kept.{Keeps}
use Rattle.scp_facts.specs.Keeping.{WatchView, Awaits, KeepsStep}

-- The nodes of a script played all its commands. What was kept is what happened in each of the steps, in order, from the moment when the
-- nodes were made.
pub record IsKept (commands : List Command) (network : NetworkView) (kept : List Kept) : Type 0 where
  pub played : HasPlayed commands commands network
  pub first : Nodes
  pub new : AreNew commands first
  pub noted : Noted Keeps [] kept first played.heard network.nodes

-- What a watch of the steps of a script's run notes of it. It notes nothing of lines.
abbrev pub keeping : Lining (Steps WatchView)
keeping = lining (λ old line command nodes new. new ≡ old) (λ old line command calm nodes new. new ≡ old)
    (λ old number event node new. Awaits old.watch number event node new.watch)
    (λ old number reply node new. KeepsStep old.watch number reply node new.watch)

-- If a watch never ran out of memory in a script's run, and had kept nothing before, what it kept is what is kept of the run.
abbrev pub RunIsKept : Type 0
RunIsKept = (commands : List Command) (lines : List ℕ) (network : NetworkView) (first last : Steps WatchView) → last.watch.lacks_memory ≡ false → first.watch.kept ≡ [] → (run : IsRun keeping commands lines network first last) → (kept : IsKept commands network last.watch.kept) × (kept.played.heard ≡ run.played.heard)
