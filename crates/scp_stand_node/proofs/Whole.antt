-- The lines of a slot and of a node, one behind the other.
use Rattle.std.proofs.Common.{◌≡◌, ◌⊎◌, inl, inr, ◌↔◌, ℕ, Bool, true, false, List, [], ◌++◌, ap, sym, ◌∙◌, refl, append_assoc, append-nil}
use Rattle.std.specs.Prelude.{Option, find, IsTrue}
use Rattle.std.proofs.lemmas.Bool.{false≢true}
use Rattle.scp_turn.specs.scp_types.specs.declared.limits.TheConstants.{WINDOW}
use Rattle.scp_turn.specs.scp_types.specs.declared.names.NodeId.{NodeId}
use Rattle.scp_turn.specs.scp_nominate.specs.Turns.{AreInTurn}
use Rattle.scp_turn.specs.scp_ledger.specs.Decisions.{is_at}
use Rattle.scp_turn.specs.scp_ledger.specs.Seen.{machine_at}
use Rattle.scp_turn.specs.scp_core.specs.Kv.{NodeView}
use Rattle.scp_turn.specs.Turn.{links_of}
use Rattle.scp_stand_slot.specs.declared.names.Names.{Names}
use Rattle.scp_stand_slot.specs.Adding.{Adds}
use Rattle.scp_stand_node.specs.Links.{of_links, link_text, queues_text, unsent_text, ScriptLines}
use Rattle.scp_stand_node.specs.Holding.{wants_text, held_on}
use Rattle.scp_stand_node.specs.Slots.{decided_text, asked_of, asked_text, IsToldOf, IsSlotText, IsTextAbove, AreTexts}
use Rattle.scp_stand_node.specs.Stand.{stands_line, IsStand}

three : (old a b c : List ℕ) → ((old ++ a) ++ b) ++ c ≡ old ++ ((a ++ b) ++ c)
three old a b c = simp append_assoc

pub slot_told : (names : Names) (members : List NodeId) (lines : Option ScriptLines) (v : NodeView) (lowest slot : ℕ) (old one two new : List ℕ)
    → lowest ≡ v.ledger.lowest
    → one ≡ old ++ decided_text names v.config.me lowest slot (find (is_at slot) v.ledger.decisions)
    → two ≡ one ++ asked_text names v.config.me slot (asked_of v slot)
    → Adds two new (IsToldOf names v.config.me members slot v.ledger.journal lines (machine_at v.ledger.machines slot))
    → Adds old new (IsSlotText names members lines v slot)
slot_told names members lines v lowest slot old one two new same decided asked (machine, is, told) =
    let first = decided_text names v.config.me v.ledger.lowest slot (find (is_at slot) v.ledger.decisions) in
    let second = asked_text names v.config.me slot (asked_of v slot) in (
      first ++ second ++ machine,
      is
          ∙ ap (λ l. l ++ machine) (asked ∙ ap (λ l. l ++ second) (decided ∙ ap (λ (n : ℕ). old ++ decided_text names v.config.me n slot (find (is_at slot) v.ledger.decisions)) same))
          ∙ three old first second machine,
      record { machine = machine; is = refl; told = told },
    )

-- ---- a machine's text

-- it is left out where it is blank, and nothing began its slot
pub left_out : (b : Bool) (Blank : Type 0) (begun : Bool) → begun ≡ false → IsTrue b ↔ Blank → IsTrue b ↔ (Blank × (begun ≡ false))
left_out b Blank begun still same = (λ t. (same.0 t, still), λ h. same.1 h.0)

pub told_of : (Blank : Type 0) (begun : Bool) → begun ≡ true → IsTrue false ↔ (Blank × (begun ≡ false))
told_of Blank true is = (λ t. absurd (false≢true t), λ h. absurd (false≢true (sym h.1)))
told_of Blank false is = absurd (false≢true is)

unhidden : (b : Bool) (H : Type 0) → IsTrue b ↔ H → b ≡ false → ¬ H
unhidden true H same is = absurd (cc)
unhidden false H same is = λ h. false≢true (same.1 h)

pub machine_told : (P : List ℕ → Type 0) (b : Bool) (H : Type 0) (old new : List ℕ) → IsTrue b ↔ H → b ≡ false → Adds old new P → Adds old new (λ text. (H × (text ≡ [])) ⊎ ((¬ H) × P text))
machine_told P b H old new same is (text, more, told) = (text, more, inr (unhidden b H same is, told))

pub machine_hidden : (P : List ℕ → Type 0) (H : Type 0) (old : List ℕ) → H → Adds old old (λ text. (H × (text ≡ [])) ⊎ ((¬ H) × P text))
machine_hidden P H old h = ([], sym (append-nil old), inl (h, refl))

pub nothing_told : (old : List ℕ) → Adds old old (λ text. text ≡ [])
nothing_told old = ([], sym (append-nil old), refl)

-- ---- a node's text

seven : (old a b c d e f g one two three four five six new : List ℕ)
    → one ≡ old ++ a → two ≡ one ++ b → three ≡ two ++ c → four ≡ three ++ d → five ≡ four ++ e → six ≡ five ++ f → new ≡ six ++ g
    → new ≡ old ++ (a ++ b ++ c ++ d ++ e ++ f ++ g)
seven old a b c d e f g one two three four five six new p q r s t u v =
    v
    ∙ ap (λ l. l ++ g) (u ∙ ap (λ l. l ++ f) (t ∙ ap (λ l. l ++ e) (s ∙ ap (λ l. l ++ d) (r ∙ ap (λ l. l ++ c) (q ∙ ap (λ l. l ++ b) p)))))
    ∙ simp append_assoc

pub stand_told : (names : Names) (lines : Option ScriptLines) (v : NodeView) (members : List NodeId) (old one two three four five six new : List ℕ)
    → AreInTurn v.config.me v.config.set members
    → one ≡ old ++ stands_line names v
    → two ≡ one ++ of_links (link_text names v) (links_of v)
    → Adds two three (AreTexts (IsTextAbove names members lines v) WINDOW)
    → four ≡ three ++ wants_text names v
    → five ≡ four ++ of_links (held_on names v) (links_of v)
    → six ≡ five ++ queues_text names v
    → new ≡ six ++ of_links (unsent_text names lines v) (links_of v)
    → Adds old new (IsStand names lines v)
stand_told names lines v members old one two three four five six new these first links (slots, is, are) wants holds queues unsent = (
  _,
  seven old (stands_line names v) (of_links (link_text names v) (links_of v)) slots (wants_text names v) (of_links (held_on names v) (links_of v)) (queues_text names v) (of_links (unsent_text names lines v) (links_of v))
      one two three four five six new first links is wants holds queues unsent,
  record { members = members; these = these; slots = slots; of_slots = are; is = refl },
)
