-- The commands that are kept of a script's run as taken are those of its lines.
use Rattle.std.proofs.Common.{◌≡◌, ◌+◌, ◌<◌, ℕ, List, [], ◌++◌, Some, length, get_or, nat_eq, refl, sym, ◌∙◌, ap, subst, arith, map-id}
use Rattle.std.specs.Prelude.{if◌then◌else◌}
use Rattle.std.proofs.lemmas.Option.{same_Some, slice_get-get_or, slice_get_within}
use Rattle.scp_line.specs.scp_core.specs.Kv.{NodeView}
use Rattle.scp_line.specs.scp_turn.specs.Commands.{TakenCommand, taken_by, AreInTurn}
use Rattle.scp_line.specs.scp_turn.specs.Kv.{taken_over}
use Rattle.scp_line.specs.scp_turn.specs.Heard.{past_at}
use Rattle.scp_line.specs.Commands.{commands_to, FatesAreOfTheirLines}
use Rattle.scp_line.proofs.Turns.{Went, NotesTaken, went}
use Rattle.scp_facts.specs.declared.happening.Kept.{Kept}
use Rattle.scp_facts.specs.Kept.{Keeps}
use Rattle.scp_facts.specs.Taken.{happenings_at, obeyed_in}
use Rattle.scp_facts.proofs.InTurn.{keeps_taken}
use Rattle.scp_account.specs.InTurn.{ScriptIsKeptInTurn}

step_keeps : (place : ℕ) → NotesTaken Keeps (λ (kept : List Kept). obeyed_in (happenings_at (place + 1) kept)) (λ (t : TakenCommand). t) place
step_keeps place = λ w v number e r before after' step kept.
    keeps_taken (place + 1) number w v e r before after' step kept
    ∙ ap (λ (l : List TakenCommand). obeyed_in (happenings_at (place + 1) w) ++ (if nat_eq number (place + 1) then l else [])) (sym (map-id (taken_by e r before after')))

pub script_in_turn : FatesAreOfTheirLines → ScriptIsKeptInTurn
script_in_turn law commands network kept is place node at =
    let heard = is.played.heard in
    let within : place < length is.first = omega (arith, slice_get_within network.nodes place node at, is.played.count, is.new.count) in
    let made : NodeView = get_or is.first place node in
    let w : Went (λ (t : TakenCommand). t) place network.nodes made (past_at (place + 1) heard) [] (obeyed_in (happenings_at (place + 1) kept)) =
    went Keeps (λ (k : List Kept). obeyed_in (happenings_at (place + 1) k)) (λ (t : TakenCommand). t) place (step_keeps place) [] kept is.first network.nodes heard made (slice_get-get_or is.first place node within) is.noted in
    let taken = taken_over made (past_at (place + 1) heard) w.node w.does in
    let own : AreInTurn (commands_to (place + 1) commands) taken w.node = law commands commands heard network.nodes is.played.played (place + 1) made w.node (is.new.each place node within).theorem w.does in
    subst (λ (v : NodeView). AreInTurn (commands_to (place + 1) commands) (obeyed_in (happenings_at (place + 1) kept)) v) (same_Some w.node node (sym w.there ∙ at))
    (subst (λ (ts : List TakenCommand). AreInTurn (commands_to (place + 1) commands) ts w.node) (sym (w.adds ∙ map-id taken)) own)
