-- The lines of a node's state, one behind the other.
use Rattle.std.proofs.Common.{◌≡◌, ℕ, List, ◌++◌, length, ◌∙◌, ap, append_assoc}
use Rattle.std.specs.Prelude.{Result, OnOk}
use Rattle.std.proofs.lemmas.Result.{on_ok_weaker}
use Rattle.scp_again.specs.scp_slot.specs.declared.timers.Timer.{Timer}
use Rattle.scp_turn.specs.Turn.{links_of}
use Rattle.scp_live_lines.specs.Timers.{running}
use Rattle.scp_live_lines.specs.State.{lowest_line, applied_count_line, journal_line, warning_lines}
use Rattle.scp_live.specs.Live.{LiveView}
use Rattle.scp_live.specs.Questions.{link_lines, idle_lines, state_of}

joined : (t a b c d e f g : List ℕ) → ((((((t ++ a) ++ b) ++ c) ++ d) ++ e) ++ f) ++ g ≡ t ++ ((((((a ++ b) ++ c) ++ d) ++ e) ++ f) ++ g)
joined t a b c d e f g = simp append_assoc

-- each line follows those before it
pub state_told : {T E : Type 0} (r : Result T E) (v : LiveView) (t a b c d e f g : List ℕ) (slot count entries : ℕ) (timers : List Timer) → slot ≡ v.node.ledger.lowest → count ≡ length v.node.applier.applied → entries ≡ length v.node.ledger.journal → timers ≡ v.timers
    → a ≡ t ++ lowest_line slot → b ≡ a ++ applied_count_line count → c ≡ b ++ journal_line entries → d ≡ c ++ warning_lines entries → e ≡ d ++ link_lines v (links_of v.node) → f ≡ e ++ idle_lines v (links_of v.node)
    → OnOk r (g ≡ f ++ running timers) → OnOk r (g ≡ t ++ state_of v)
state_told r v t a b c d e f g slot count entries timers slot_is count_is entries_are timers_are lowest counted journal warned linked idle last =
    let links : List ℕ = link_lines v (links_of v.node) in
    let idles : List ℕ = idle_lines v (links_of v.node) in
    let first_two = counted ∙ ap (λ (l : List ℕ). l ++ applied_count_line count) lowest in
    let first_three = journal ∙ ap (λ (l : List ℕ). l ++ journal_line entries) first_two in
    let first_four = warned ∙ ap (λ (l : List ℕ). l ++ warning_lines entries) first_three in
    let first_five = linked ∙ ap (λ (l : List ℕ). l ++ links) first_four in
    let first_six = idle ∙ ap (λ (l : List ℕ). l ++ idles) first_five in
    on_ok_weaker r
    (λ (is : g ≡ f ++ running timers).
    is ∙ ap (λ (l : List ℕ). l ++ running timers) first_six
    ∙ joined t (lowest_line slot) (applied_count_line count) (journal_line entries) (warning_lines entries) links idles (running timers)
    ∙ (λ i. t ++ (lowest_line (slot_is i) ++ applied_count_line (count_is i) ++ journal_line (entries_are i) ++ warning_lines (entries_are i) ++ links ++ idles ++ running (timers_are i))))
    last
