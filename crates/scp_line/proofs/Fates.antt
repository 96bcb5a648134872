-- A fate of a command is that of its line.
use Rattle.std.proofs.Common.{◌≡◌, ◌+◌, List, [], ◌∷◌, ◌++◌, Option, Some, None, IsSomeAnd, flat_map, refl, sym, ◌∙◌, ap, subst, append-nil}
use Rattle.std.specs.Prelude.{option_to_list, slice_get}
use Rattle.std.proofs.lemmas.Grind.{flat_map-append}
use Rattle.std.proofs.lemmas.List.{map-append}
use Rattle.scp_turn.specs.scp_driver.specs.declared.kv_driver.KvDriver.{KvDriver}
use Rattle.scp_turn.specs.scp_driver.specs.Kv.{kv_says}
use Rattle.scp_turn.specs.scp_wire.specs.declared.link.Command.{Command as LocalCommand}
use Rattle.scp_turn.specs.scp_wire.specs.declared.link.Command.TheVariants as local
use Rattle.scp_turn.specs.scp_wire.specs.declared.link.Inbound.{Inbound}
use Rattle.scp_turn.specs.scp_wire.specs.declared.link.Inbound.TheVariants as inbound
use Rattle.scp_turn.specs.scp_pending.specs.declared.ready.Ready.{Ready}
use Rattle.scp_turn.specs.scp_pending.specs.declared.ready.Ready.TheVariants as ready
use Rattle.scp_turn.specs.scp_pending.specs.Endings.{passing_command, passed, commands_in, commands_of}
use Rattle.scp_turn.specs.scp_ledger.specs.declared.took.CommandFate.{CommandFate}
use Rattle.scp_turn.specs.scp_ledger.specs.declared.took.Took.{Took}
use Rattle.scp_turn.specs.scp_ledger.specs.By.{TellsBy}
use Rattle.scp_turn.specs.scp_ledger.specs.CommandFates.{IsProposalFate, IsRoundFate, IsTimerFate, IsAskFate, TellsCommand}
use Rattle.scp_turn.specs.scp_ledger.specs.Runs.{Taking, things}
use Rattle.scp_turn.specs.scp_ledger.specs.Seen.{LedgerView}
use Rattle.scp_turn.specs.scp_theorem.specs.Handed.{ServesEach}
use Rattle.scp_turn.specs.scp_core.specs.declared.event.Event.TheVariants.{SlotTake}
use Rattle.scp_turn.specs.Commands.{TakenCommand, with_fate, command_taken, front_taken, commands_taken, fates_taken, taken_at, AreInTurn}
use Rattle.scp_turn.specs.scp_core.specs.Kv.{NodeView, Moves}
use Rattle.scp_turn.specs.Kv.{taken_over, AllIsTakenInTurn}
use Rattle.scp_turn.specs.Heard.{past_at}
use Rattle.scp_threaded_script.specs.scp_workers.specs.Slot.{fates_of}
use Rattle.scp_threaded_script.specs.Lines.{commands_for}
use Rattle.scp_line.specs.Commands.{taken_among, FatesAreOfTheirLines, ReportedAreOfTheirLines}
use Rattle.scp_line.proofs.Given.{lines_are_given}

-- ---- one step after another

pub fates_are_of_lines : AllIsTakenInTurn → FatesAreOfTheirLines
fates_are_of_lines law commands done heard nodes played number old new h does =
    subst (λ (given : List LocalCommand). AreInTurn given (taken_over old (past_at number heard) new does) new) (lines_are_given commands done heard nodes played number) (law (past_at number heard) old new h does)

-- ---- in threads

-- what passes passes again
passes_again : (command : LocalCommand) → flat_map passing_command (passing_command command) ≡ passing_command command
passes_again local.Tick = refl
passes_again (local.Propose slot value) = refl
passes_again (local.Round slot) = refl
passes_again (local.Timer slot) = refl
passes_again (local.Ask link slot) = refl

all_pass_again : (xs : List Inbound) → flat_map passing_command (commands_in xs) ≡ commands_in xs
all_pass_again [] = refl
all_pass_again (inbound.Opened conn ∷ xs) = all_pass_again xs
all_pass_again (inbound.Carried x ∷ xs) = all_pass_again xs
all_pass_again (inbound.Side conn message ∷ xs) = all_pass_again xs
all_pass_again (inbound.Closed conn cause ∷ xs) = all_pass_again xs
all_pass_again (inbound.Local command ∷ xs) =
    flat_map-append passing_command (passing_command command) (commands_in xs)
    ∙ ap (λ (l : List LocalCommand). l ++ flat_map passing_command (commands_in xs)) (passes_again command)
    ∙ ap (λ (l : List LocalCommand). passing_command command ++ l) (all_pass_again xs)

-- one thing
has_fate : (command : LocalCommand) (fate : Option CommandFate) (P : CommandFate → Type 0) → IsSomeAnd fate P → commands_taken (with_fate command fate) ≡ command ∷ []
has_fate command None P told = absurd told
has_fate command (Some fate) P told = refl

command_is : (v : LedgerView KvDriver) (command : LocalCommand) (took : Took) → TellsCommand kv_says.level v command took → commands_taken (with_fate command took.command) ≡ passing_command command
command_is v local.Tick took tells = ap (λ (fate : Option CommandFate). commands_taken (with_fate local.Tick fate)) tells
command_is v (local.Propose at value) took tells = has_fate (local.Propose at value) took.command (IsProposalFate kv_says.level v at value) tells
command_is v (local.Round at) took tells = has_fate (local.Round at) took.command (IsRoundFate v at) tells
command_is v (local.Timer at) took tells = has_fate (local.Timer at) took.command (IsTimerFate v at took.outgoing) tells
command_is v (local.Ask link at) took tells = has_fate (local.Ask link at) took.command (IsAskFate v link at) tells

thing_is : (v : LedgerView KvDriver) (x : Ready) (took : Took) → TellsBy kv_says v x took → commands_taken (command_taken x took.command) ≡ flat_map passing_command (passed x)
thing_is v (ready.Deliver delivery) took tells = refl
thing_is v (ready.Dropped conn seq cause) took tells = refl
thing_is v (ready.Closed conn cause) took tells = refl
thing_is v (ready.Local command) took tells = command_is v command took tells ∙ sym (append-nil (passing_command command))

its_fate : (command : LocalCommand) (fate : Option CommandFate) → fates_taken (with_fate command fate) ≡ option_to_list fate
its_fate command None = refl
its_fate command (Some fate) = refl

fate_is : (v : LedgerView KvDriver) (x : Ready) (took : Took) → TellsBy kv_says v x took → fates_taken (command_taken x took.command) ≡ option_to_list took.command
fate_is v (ready.Deliver delivery) took tells = sym (ap (λ (fate : Option CommandFate). option_to_list fate) tells)
fate_is v (ready.Dropped conn seq cause) took tells = sym (ap (λ (fate : Option CommandFate). option_to_list fate) tells)
fate_is v (ready.Closed conn cause) took tells = sym (ap (λ (fate : Option CommandFate). option_to_list fate) tells)
fate_is v (ready.Local command) took tells = its_fate command took.command

-- the fate that a node shows after a step is that of the command that its slot stage took in it
pub taken_fates : (before after' : NodeView) → Moves before SlotTake after' → fates_taken (taken_at SlotTake before after') ≡ option_to_list after'.last_command
taken_fates before after' moved =
    let b = moved.1 in
    let shown : after'.last_command ≡ b.took.command = ap (λ (v : NodeView). v.last_command) b.is in
    ap (λ (q : List Ready). fates_taken (front_taken (slice_get q 0) after'.last_command)) b.ready
    ∙ ap (λ (fate : Option CommandFate). fates_taken (command_taken b.x fate)) shown
    ∙ fate_is before.ledger b.x b.took b.tells
    ∙ ap (λ (fate : Option CommandFate). option_to_list fate) (sym shown)

-- all of them, one after another
commands_are : (old : LedgerView KvDriver) (takes : List Taking) (new : LedgerView KvDriver) → ServesEach kv_says old takes new → commands_taken (taken_among takes) ≡ flat_map passing_command (commands_of (things takes))
commands_are old [] new h = refl
commands_are old (t ∷ takes) new h =
    map-append (λ (c : TakenCommand). c.command) (command_taken t.thing t.gave.command) (taken_among takes)
    ∙ ap (λ (l : List LocalCommand). l ++ commands_taken (taken_among takes)) (thing_is old t.thing t.gave h.1.tells)
    ∙ ap (λ (l : List LocalCommand). flat_map passing_command (passed t.thing) ++ l) (commands_are h.0 takes new h.2)
    ∙ sym (flat_map-append passing_command (passed t.thing) (commands_of (things takes)))

fates_are : (old : LedgerView KvDriver) (takes : List Taking) (new : LedgerView KvDriver) → ServesEach kv_says old takes new → fates_taken (taken_among takes) ≡ fates_of takes
fates_are old [] new h = refl
fates_are old (t ∷ takes) new h =
    map-append (λ (c : TakenCommand). c.fate) (command_taken t.thing t.gave.command) (taken_among takes)
    ∙ ap (λ (l : List CommandFate). l ++ fates_taken (taken_among takes)) (fate_is old t.thing t.gave h.1.tells)
    ∙ ap (λ (l : List CommandFate). option_to_list t.gave.command ++ l) (fates_are h.0 takes new h.2)

pub reported_are_of_lines : ReportedAreOfTheirLines
reported_are_of_lines commands all are i r at =
    let one = are.reported i r at in
    let ended = one.2.ended in
    let fates = ended.fates_are in
    let told = fates.told in
    let own : commands_of (things told.takes) ≡ commands_in (commands_for (i + 1) commands) =
    ap (λ (l : List Ready). commands_of l) told.took_are ∙ fates.commands ∙ ap (λ (l : List Inbound). commands_in l) ended.commands_are in
    record {
      left = one.0;
      fates = fates;
      commands_are = commands_are _ told.takes one.0.slot.stage.ledger told.told ∙ ap (λ (l : List LocalCommand). flat_map passing_command l) own ∙ all_pass_again (commands_for (i + 1) commands);
      fates_are = fates_are _ told.takes one.0.slot.stage.ledger told.told ∙ told.fates_are;
    }
