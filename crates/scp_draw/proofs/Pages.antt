-- A page is made of what is told.
use Rattle.std.proofs.Common.{true, ◌≡◌, ◌+◌, ◌++◌, ◌∷◌, ◌∙◌, [], ℕ, suc, List, None, inl, length, map, sym, ap, refl, subst}
use Rattle.std.specs.Prelude.{Option, Some, option_to_list}
use Rattle.scp_trace.specs.scp_core.specs.Kv.{NodeView}
use Rattle.scp_trace.specs.scp_turn.specs.Network.{NetworkView}
use Rattle.scp_trace.specs.scp_script.specs.declared.command.Command.{Command}
use Rattle.scp_trace.specs.scp_script.specs.Words.{words_of}
use Rattle.scp_trace.specs.scp_script.specs.Script.{command_in, commands_of, node_count}
use Rattle.scp_trace.specs.scp_line.specs.declared.player.Stopped.{Stopped as StoppedAt}
use Rattle.scp_trace.specs.scp_line.specs.Player.{IsCutOff}
use Rattle.scp_trace.specs.scp_line.specs.Nodes.{HasPlayed}
use Rattle.scp_trace.specs.scp_device.specs.declared.bad.ReadFault.TheVariants as reads
use Rattle.scp_trace.specs.scp_script_check.specs.declared.warning.Warning.{Warning}
use Rattle.scp_trace.specs.scp_script_check.specs.Lines.{IsSaid, MayWant, numbers_of}
use Rattle.scp_trace.specs.scp_script_check.specs.Texts.{warnings_text}
use Rattle.scp_trace.specs.scp_script_check.specs.Warnings.{AreWarnings}
use Rattle.scp_trace.specs.scp_stand_slot.specs.declared.names.Names.{Names}
use Rattle.scp_trace.specs.scp_stand_slot.specs.Adding.{Adds}
use Rattle.scp_trace.specs.scp_stand_slot.specs.Names.{AreNames}
use Rattle.scp_trace.specs.Playing.{moment_at}
use Rattle.scp_trace.specs.Standing.{IsEnd}
use Rattle.scp_trace.specs.scp_facts.specs.declared.fact.Telling.{Telling}
use Rattle.scp_draw.specs.Page.{page_text}
use Rattle.scp_draw.specs.Lines.{telling, IsTelling, IsToldTo}
use Rattle.scp_draw.specs.Drawn.{IsPageOf, IsDrawn, IsStopped, IsDrawFault}
use Rattle.scp_draw.specs.declared.drawing.DrawFault.{DrawFault}
use Rattle.scp_draw.specs.declared.drawing.DrawFault.TheVariants.{Unread, Stopped}
use Rattle.scp_draw.specs.inside.Refusing.{IsCauseOf}

-- ---- the lines of a script

one_each : (o : Option Command) (number : ℕ) (rest : List ℕ) (others : List Command) → length rest ≡ length others → length (map (λ (command : Command). number) (option_to_list o) ++ rest) ≡ length (option_to_list o ++ others)
one_each None number rest others e = e
one_each (Some command) number rest others e = ap (λ (n : ℕ). suc n) e

numbers_fit : (number : ℕ) (digits : List (List ℕ)) → length (numbers_of number digits) ≡ length (commands_of digits)
numbers_fit number [] = refl
numbers_fit number (line ∷ digits) = one_each (command_in (words_of line)) number (numbers_of (number + 1) digits) (commands_of digits) (numbers_fit (number + 1) digits)

-- each command has the number of its line
pub lines_fit : (text : List ℕ) (commands : List Command) (lines : List ℕ) → IsSaid text commands lines → length lines ≡ length commands
lines_fit text commands lines said =
    ap (λ (l : List ℕ). length l) said.lines_are ∙ numbers_fit 1 said.digits ∙ sym (ap (λ (l : List Command). length l) said.commands_are)

-- ---- the end, and the page

-- the text is of where the nodes of commands stand at the end, and of a script's warnings
abbrev pub IsEnding : Names → (all commands : List Command) → List ℕ → (network : NetworkView) → HasPlayed all all network → List ℕ → Type 0
IsEnding names all commands lines network far text = (ending : List ℕ) × (found : List Warning) × IsEnd true names all (moment_at far.heard network) ending × AreWarnings commands lines found × (text ≡ ending ++ warnings_text found)

-- of an empty text where the nodes stand, and then the warnings
pub end_and_warnings : (names : Names) (all commands : List Command) (lines : List ℕ) (network : NetworkView) (far : HasPlayed all all network) (start mid text : List ℕ) (warnings : List Warning) → start ≡ [] → Adds start mid (IsEnd true names all (moment_at far.heard network)) → AreWarnings commands lines warnings → text ≡ mid ++ warnings_text warnings
    → IsEnding names all commands lines network far text
end_and_warnings names all commands lines network far start mid text warnings none ended warned is =
    let from : mid ≡ ended.0 = ended.1 ∙ ap (λ (l : List ℕ). l ++ ended.0) none in
    (ended.0, warnings, ended.2, warned, is ∙ ap (λ (l : List ℕ). l ++ warnings_text warnings) from)

-- a page that was empty
filled : (shown_of : List NodeView → ℕ → List ℕ → List ℕ) (old new text more ending : List ℕ) (nodes all : List NodeView) (count number : ℕ) → new ≡ old ++ shown_of nodes count text → old ≡ [] → nodes ≡ all → count ≡ number → text ≡ more → more ≡ ending → new ≡ shown_of all number ending
filled shown_of old new text more ending nodes all count number added none stands many shown is =
    added
    ∙ ap (λ (l : List ℕ). l ++ shown_of nodes count text) none
    ∙ ap (λ (ns : List NodeView). shown_of ns count text) stands
    ∙ ap (λ (n : ℕ). shown_of all n text) many
    ∙ ap (λ (l : List ℕ). shown_of all number l) (shown ∙ is)

-- the page of what was told
pub is_page : (commands all : List Command) (lines : List ℕ) (names : Names) (network : NetworkView) (tellings : List Telling) (nodes : List NodeView) (count : ℕ) (old page shown text : List ℕ) → all ≡ commands → AreNames all names → IsTelling commands lines network tellings → count ≡ node_count all → ((far : HasPlayed all all network) → IsEnding names all commands lines network far text)
    → page ≡ old ++ page_text names nodes tellings count shown → old ≡ [] → nodes ≡ network.nodes → shown ≡ text → IsPageOf commands lines page
is_page commands all lines names network tellings nodes count old page shown text same named told many ending added none stands is =
    let ends : (far : HasPlayed commands commands network) → IsEnding names commands commands lines network far text = subst (λ (cs : List Command). (far : HasPlayed cs cs network) → IsEnding names cs commands lines network far text) same ending in
    let end : IsEnding names commands commands lines network told.played text = ends told.played in
    let number : count ≡ node_count commands = many ∙ ap (λ (cs : List Command). node_count cs) same in
    record {
      names = names;
      named = subst (λ (cs : List Command). AreNames cs names) same named;
      network = network;
      tellings = tellings;
      told = told;
      ending = end.0;
      ended = end.2;
      warnings = end.1;
      warned = end.3;
      is = filled (λ ns n t. page_text names ns tellings n t) old page shown text (end.0 ++ warnings_text end.1) nodes network.nodes count (node_count commands) added none stands number is end.4;
    }

-- ---- nothing is drawn

pub said_wants : (text : List ℕ) (commands : List Command) (lines : List ℕ) → IsSaid text commands lines → MayWant text
said_wants text commands lines said = inl (commands, lines, said)

pub cause_told : (text : List ℕ) (commands : List Command) (lines : List ℕ) → IsSaid text commands lines → (fault : DrawFault) → IsCauseOf commands fault → IsDrawFault text fault
cause_told text commands lines said (Unread reads.NoMemory) so = said_wants text commands lines said
cause_told text commands lines said (Unread (reads.Bad bad)) so = absurd so
cause_told text commands lines said (Unread (reads.BadAt number)) so = absurd so
cause_told text commands lines said (Stopped fault) so = (commands, lines, said, so)

-- the fault that stopped it
pub cut_stopped : (commands all : List Command) (lines : List ℕ) (network : NetworkView) (tellings : List Telling) (found : Option StoppedAt) (at : StoppedAt) → found ≡ Some at → all ≡ commands → IsToldTo found all lines network tellings → IsStopped commands at.fault
cut_stopped commands all lines network tellings found at is same told =
    let cut : IsCutOff telling all lines network [] tellings at = subst (λ (o : Option StoppedAt). IsToldTo o all lines network tellings) is told in
    let stopped : IsStopped all at.fault = record { before = cut.before; named = cut.named; stopped = cut.why } in
    subst (λ (cs : List Command). IsStopped cs at.fault) same stopped

-- none did
pub whole_told : (commands all : List Command) (lines numbers : List ℕ) (network : NetworkView) (tellings slice : List Telling) (found : Option StoppedAt) → found ≡ None → all ≡ commands → numbers ≡ lines → slice ≡ tellings → IsToldTo found all numbers network tellings → IsTelling commands lines network slice
whole_told commands all lines numbers network tellings slice found is same each tells told =
    let whole : IsTelling all numbers network tellings = subst (λ (o : Option StoppedAt). IsToldTo o all numbers network tellings) is told in
    subst (λ (l : List Telling). IsTelling commands lines network l) (sym tells)
    (subst (λ (ns : List ℕ). IsTelling commands ns network tellings) each (subst (λ (cs : List Command). IsTelling cs numbers network tellings) same whole))

-- ---- what is returned

pub page_drawn : (text page : List ℕ) (commands : List Command) (lines : List ℕ) → IsSaid text commands lines → IsPageOf commands lines page → IsDrawn text page
page_drawn text page commands lines said is = record { commands = commands; lines = lines; said = said; page_is = is }
