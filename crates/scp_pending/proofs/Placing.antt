-- A local command is given in the place where it came.
use Rattle.std.proofs.Common.{◌≡◌, List, [], ◌∷◌, ◌++◌, refl, ◌∙◌, ap, map}
use Rattle.scp_wire.specs.declared.link.Command.{Command}
use Rattle.scp_wire.specs.declared.link.Command.TheVariants.{Tick, Propose, Round, Timer, Ask}
use Rattle.scp_wire.specs.declared.link.Inbound.TheVariants as inbound
use Rattle.scp_pending.specs.declared.ready.Ready.{Ready}
use Rattle.scp_pending.specs.Endings.{passing_command}
use Rattle.scp_pending.specs.Pends.{start_of}
use Rattle.scp_pending.specs.Placing.{as_given, CommandsKeepPlace}
use Rattle.scp_pending.specs.Rules.{Settled, rules, releases, settled_by, released_by}
use Rattle.scp_pending.proofs.Ending.{passed_along}
use Rattle.scp_pending.proofs.Passing.{released-append}
use Rattle.scp_pending.proofs.Sound.{sound_start, sound_along}

-- it leaves first, unless it is a Tick
leaves_first : (s : Settled) (command : Command) (later : List Ready) → (rest : List Ready) × (releases s (inbound.Local command) ++ later ≡ map as_given (passing_command command) ++ rest)
leaves_first s Tick later = (releases s (inbound.Local Tick) ++ later, refl)
leaves_first s (Propose slot value) later = (later, refl)
leaves_first s (Round slot) later = (later, refl)
leaves_first s (Timer slot) later = (later, refl)
leaves_first s (Ask link slot) later = (later, refl)

pub commands_keep_place : CommandsKeepPlace
commands_keep_place me peers taken given v p before command after' at =
    let start : Settled = start_of me peers v in
    let s : Settled = settled_by start before in
    let one = leaves_first s command (released_by (rules s (inbound.Local command)) after') in
    record {
      front = released_by start before;
      rest = one.0;
      at = p.left ∙ ap (released_by start) at ∙ released-append start before (inbound.Local command ∷ after') ∙ ap (λ (xs : List Ready). released_by start before ++ xs) one.1;
      released = refl;
      causes = (sound_along start [] before start [] (sound_start me peers v.settled.store.local p.local_is_sane)).causes;
      commands = passed_along start before;
    }
