-- What is left is what was told.
use Rattle.std.proofs.Common.{◌≡◌, ◌≢◌, sym, subst}
use Rattle.std.specs.Prelude.{ℕ, [], Option, Some, None, List}
use Rattle.scp_trace.specs.scp_types.specs.declared.fault.Fault.TheVariants.{NoMemory}
use Rattle.scp_trace.specs.scp_turn.specs.Network.{NetworkView}
use Rattle.scp_trace.specs.scp_script.specs.declared.command.Command.{Command}
use Rattle.scp_trace.specs.scp_line.specs.declared.player.Stopped.{Stopped}
use Rattle.scp_trace.specs.scp_line.specs.Player.{IsRun, IsCutOff, IsStoppedBy}
use Rattle.scp_trace.specs.scp_facts.specs.Watching.{StepIsTold}
use Rattle.scp_draw.specs.Lines.{telling, IsTelling, IsToldTo}
use Rattle.scp_draw.specs.inside.Playing.{begun}
use Rattle.scp_draw.specs.inside.Leaving.{IsLeft}
use Rattle.scp_draw.specs.declared.playing.LineFacts.{LineFacts}
use Rattle.scp_draw.specs.declared.playing.ToldRun.{ToldRun}
use Rattle.scp_draw.proofs.Runs.{drawing, all_told, cut_off}

-- all lines were played
pub all_left : StepIsTold → (commands : List Command) (lines : List ℕ) (network : NetworkView) (old watch : LineFacts) (run : ToldRun) → old ≡ begun → IsRun drawing commands lines network old watch → IsLeft network watch None run → IsToldTo run.stopped commands lines run.network run.tellings.items
all_left law commands lines network old watch run first so left =
    subst (λ (s : Option Stopped). IsToldTo s commands lines run.network run.tellings.items) (sym left.same_stop)
    (subst (λ (n : NetworkView). IsTelling commands lines n run.tellings.items) (sym left.same_network) (all_told law commands lines network old watch run.tellings.items first left.calm left.told so))

-- one wasn't done
pub cut_left : StepIsTold → (commands : List Command) (lines : List ℕ) (network : NetworkView) (old watch : LineFacts) (stopped : Stopped) (run : ToldRun) → old ≡ begun → stopped.fault.fault ≢ NoMemory → IsStoppedBy drawing commands lines network old watch stopped → IsLeft network watch (Some stopped) run → IsToldTo run.stopped commands lines run.network run.tellings.items
cut_left law commands lines network old watch stopped run first other by left =
    subst (λ (s : Option Stopped). IsToldTo s commands lines run.network run.tellings.items) (sym left.same_stop)
    (subst (λ (n : NetworkView). IsCutOff telling commands lines n [] run.tellings.items stopped) (sym left.same_network) (cut_off law commands lines network old watch run.tellings.items stopped first left.calm left.told other by))
