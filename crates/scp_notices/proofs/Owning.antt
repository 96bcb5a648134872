-- What a node reported is each time of its own command.
use Rattle.std.proofs.Common.{◌≡◌, ◌+◌, ◌<◌, ℕ, Bool, true, false, cond, List, [], ◌∷◌, ◌++◌, Option, Some, None, map, filter, length, get_or, nat_eq, refl, sym, ◌∙◌, ap, subst, arith}
use Rattle.std.specs.Prelude.{option_to_list, slice_get, if◌then◌else◌}
use Rattle.std.proofs.lemmas.List.{map-append}
use Rattle.std.proofs.lemmas.List.Elements.{filter-append}
use Rattle.std.proofs.lemmas.Option.{same_Some, slice_get-get_or, slice_get_within}
use Rattle.scp_line.specs.scp_ledger.specs.declared.took.CommandFate.{CommandFate}
use Rattle.scp_line.specs.scp_core.specs.declared.event.Event.{Event}
use Rattle.scp_line.specs.scp_core.specs.declared.event.Event.TheVariants as event
use Rattle.scp_line.specs.scp_core.specs.declared.event.Reply.{Reply}
use Rattle.scp_line.specs.scp_core.specs.declared.event.Reply.TheVariants as reply
use Rattle.scp_line.specs.scp_turn.specs.Commands.{TakenCommand, fates_taken, taken_at, taken_by, AreInTurn}
use Rattle.scp_line.specs.scp_core.specs.Kv.{NodeView, Step}
use Rattle.scp_line.specs.scp_turn.specs.Kv.{taken_over}
use Rattle.scp_line.specs.scp_turn.specs.Heard.{past_at, Noted}
use Rattle.scp_line.specs.scp_turn.specs.Network.{NetworkView}
use Rattle.scp_line.specs.scp_script.specs.declared.command.Command.{Command}
use Rattle.scp_line.specs.Commands.{commands_to, FatesAreOfTheirLines}
use Rattle.scp_line.specs.Player.{Lining, IsRun}
use Rattle.scp_line.specs.inside.Player.{NotesAs}
use Rattle.scp_line.proofs.Fates.{taken_fates}
use Rattle.scp_line.proofs.Runs.{quiet_lines, run_as}
use Rattle.scp_line.proofs.Turns.{Went, NotesTaken, went}
use Rattle.scp_notices.specs.declared.commands.Told.{Told}
use Rattle.scp_notices.specs.Ignoring.{told_at, Tells, fates_at}
use Rattle.scp_notices.specs.Own.{ReportsOwn}
use Rattle.scp_notices.specs.Run.{Notes, nothing_noted, noticing}
use Rattle.scp_notices.proofs.Placing.{of_their_lines}

-- ---- what was noted of all steps

-- the reports alone
abbrev told_only : Lining (List Told)
told_only = record {
  begins = λ old line command nodes new. new ≡ old;
  steps = Tells;
  ends = λ old line command calm nodes new. new ≡ old;
}

told_notes : NotesAs noticing (λ (n : Notes). false) told_only (λ (n : Notes). n.told)
told_notes = record {
  begins = λ old new line command nodes calm is. (refl, ap (λ (n : Notes). n.told) is);
  steps = λ old new number event reply before after' calm is. (refl, is.0);
  ends = λ old new line command rests nodes calm is. (refl, ap (λ (n : Notes). n.told) is);
}

all_told : (commands : List Command) (lines : List ℕ) (network : NetworkView) (noted : Notes) → (run : IsRun noticing commands lines network nothing_noted noted) → Noted Tells [] noted.told run.first run.played.heard network.nodes
all_told commands lines network noted run =
    let told = run_as noticing (λ (n : Notes). false) told_only (λ (n : Notes). n.told) told_notes commands lines network nothing_noted noted run refl in
    quiet_lines told_only (λ old new line command nodes is. is) (λ old new line command rests nodes is. is) commands lines commands [] noted.told run.first network.nodes run.played.heard told.noted

-- ---- one step

no_choice : (b : Bool) → ◌≡◌ {A = List CommandFate} [] (if b then [] else [])
no_choice true = refl
no_choice false = refl

-- where no command is taken nothing is reported
none_taken : (b : Bool) (taken : List TakenCommand) → taken ≡ [] → ◌≡◌ {A = List CommandFate} [] (if b then fates_taken taken else [])
none_taken b taken none = no_choice b ∙ ap (λ (t : List TakenCommand). if b then fates_taken t else []) (sym none)

no_take : (e : Event) (r : Reply) (before after' : NodeView) → taken_at e before after' ≡ [] → taken_by e r before after' ≡ []
no_take e reply.Moved before after' none = none
no_take e r before after' none = refl

-- a fate of this node or another
fate_here : (b : Bool) (number : ℕ) (fate : CommandFate) → map (λ (t : Told). t.fate) (cond b (record { node = number; fate = fate } ∷ []) []) ≡ (if b then fate ∷ [] else [])
fate_here true number fate = refl
fate_here false number fate = refl

told_here : (n number : ℕ) (fate : Option CommandFate) → fates_at n (map (λ (f : CommandFate). record { node = number; fate = f }) (option_to_list fate)) ≡ (if nat_eq number n then option_to_list fate else [])
told_here n number None = no_choice (nat_eq number n)
told_here n number (Some fate) = fate_here (nat_eq number n) number fate

one_told : (n number : ℕ) (e : Event) (r : Reply) (before after' : NodeView) → Step before e r after' → fates_at n (told_at number e r after') ≡ (if nat_eq number n then fates_taken (taken_by e r before after') else [])
one_told n number event.SlotTake reply.Moved before after' step =
    told_here n number after'.last_command
    ∙ ap (λ (fates : List CommandFate). if nat_eq number n then fates else []) (sym (taken_fates before after' step.1))
one_told n number event.SlotTake r before after' step = none_taken (nat_eq number n) [] refl
one_told n number e r before after' step = none_taken (nat_eq number n) (taken_by e r before after') (no_take e r before after' refl)

fates_on : (n : ℕ) (x y : List Told) → fates_at n (x ++ y) ≡ fates_at n x ++ fates_at n y
fates_on n x y =
    ap (λ (l : List Told). map (λ (t : Told). t.fate) l) (filter-append (λ (t : Told). nat_eq t.node n) x y)
    ∙ map-append (λ (t : Told). t.fate) (filter (λ (t : Told). nat_eq t.node n) x) (filter (λ (t : Told). nat_eq t.node n) y)

fates_noted : (place : ℕ) → NotesTaken Tells (λ (told : List Told). fates_at (place + 1) told) (λ (t : TakenCommand). t.fate) place
fates_noted place = λ w v number e r before after' step told.
    ap (λ (l : List Told). fates_at (place + 1) l) told
    ∙ fates_on (place + 1) w (told_at number e r after')
    ∙ ap (λ (l : List CommandFate). fates_at (place + 1) w ++ l) (one_told (place + 1) number e r before after' step)

-- ---- all steps

pub reports_own : FatesAreOfTheirLines → (commands : List Command) (lines : List ℕ) (network : NetworkView) (noted : Notes) → (run : IsRun noticing commands lines network nothing_noted noted) → (place : ℕ) (node : NodeView) → slice_get network.nodes place ≡ Some node → ReportsOwn commands run.played.heard noted.told place node
reports_own law commands lines network noted run place node at =
    let heard = run.played.heard in
    let within : place < length run.first = omega (arith, slice_get_within network.nodes place node at, run.played.count, run.made.count) in
    let made : NodeView = get_or run.first place node in
    let new = run.made.each place node within in
    let w : Went (λ (t : TakenCommand). t.fate) place network.nodes made (past_at (place + 1) heard) [] (fates_at (place + 1) noted.told) =
    went Tells (λ (told : List Told). fates_at (place + 1) told) (λ (t : TakenCommand). t.fate) place (fates_noted place) [] noted.told run.first network.nodes heard made (slice_get-get_or run.first place node within) (all_told commands lines network noted run) in
    let taken = taken_over made (past_at (place + 1) heard) w.node w.does in
    let turn : AreInTurn (commands_to (place + 1) commands) taken w.node = law commands commands heard network.nodes run.played.played (place + 1) made w.node new.theorem w.does in
    let own : ReportsOwn commands heard noted.told place w.node = record {
      made = made;
      is_new = new;
      does = w.does;
      fates = w.adds;
      in_turn = turn;
      lines = of_their_lines commands noted.told (place + 1) taken turn.rest w.adds turn.first;
    }
    in
    subst (λ (v : NodeView). ReportsOwn commands heard noted.told place v) (same_Some w.node node (sym w.there ∙ at)) own
