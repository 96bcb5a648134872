-- Lines that say messages once more, one behind the other.
use Rattle.std.proofs.Common.{◌≡◌, ℕ, ◌+◌, ◌<◌, List, [], ◌∷◌, ◌++◌, length, get_or, take, sym, ◌∙◌, ap, subst, append_assoc, append-nil}
use Rattle.std.proofs.Math.Seq.{take-length}
use Rattle.std.proofs.lemmas.List.{take_more}
use Rattle.std.specs.Prelude.{flat_map}
use Rattle.std.specs.List.{AllZip}
use Rattle.std.proofs.lemmas.Grind.{flat_map-append}
use Rattle.scp_again.specs.scp_wire.specs.declared.message.Message.{Message}
use Rattle.scp_again.specs.scp_wire.specs.Message.{message_value, SpellsMessage}
use Rattle.scp_live_lines.specs.Sent.{again_line}
use Rattle.scp_live.specs.Again.{SaysAgain}

-- these bytes spell these messages, one by one
abbrev Spell : List (List ℕ) → List Message → Type 0
Spell spelled messages = AllZip (λ bytes message. SpellsMessage bytes (message_value message)) spelled messages

spell_on : (a b : List (List ℕ)) (ms ns : List Message) → Spell a ms → Spell b ns → Spell (a ++ b) (ms ++ ns)
spell_on [] b [] ns p q = q
spell_on [] b (m ∷ ms) ns p q = absurd p
spell_on (x ∷ a) b [] ns p q = absurd p
spell_on (x ∷ a) b (m ∷ ms) ns p q = (p.0, spell_on a b ms ns p.1 q)

pub says_none : (name text : List ℕ) → SaysAgain name [] text text
says_none name text = record { spelled = []; spelt = tt; lines = sym (append-nil text) }

pub says_one : (name bytes text longer : List ℕ) (m : Message) → SpellsMessage bytes (message_value m) → longer ≡ text ++ again_line name bytes → SaysAgain name (m ∷ []) text longer
says_one name bytes text longer m spells is = record {
  spelled = bytes ∷ [];
  spelt = (spells, tt);
  lines = is ∙ ap (λ (l : List ℕ). text ++ l) (sym (append-nil (again_line name bytes)));
}

says_on : (name a b c : List ℕ) (ms ns : List Message) → SaysAgain name ms a b → SaysAgain name ns b c → SaysAgain name (ms ++ ns) a c
says_on name a b c ms ns p q = record {
  spelled = p.spelled ++ q.spelled;
  spelt = spell_on p.spelled q.spelled ms ns p.spelt q.spelt;
  lines = q.lines ∙ ap (λ (l : List ℕ). l ++ flat_map (again_line name) q.spelled) p.lines ∙ append_assoc a (flat_map (again_line name) p.spelled) (flat_map (again_line name) q.spelled)
      ∙ ap (λ (l : List ℕ). a ++ l) (sym (flat_map-append (again_line name) p.spelled q.spelled));
}

says_as : (name a b : List ℕ) (ms ns : List Message) → ms ≡ ns → SaysAgain name ms a b → SaysAgain name ns a b
says_as name a b ms ns is p = subst (λ (l : List Message). SaysAgain name l a b) is p

-- what the next of these messages says
pub says_more : (name a b c : List ℕ) (ms : List Message) (i : ℕ) (m : Message) → i < length ms → m ≡ get_or ms i m → SaysAgain name (take i ms) a b → SaysAgain name (m ∷ []) b c → SaysAgain name (take (i + 1) ms) a c
says_more name a b c ms i m lt is p q =
    let more : take (i + 1) ms ≡ take i ms ++ m ∷ [] = take_more ms i m lt ∙ ap (λ y. take i ms ++ y ∷ []) (sym is) in
    says_as name a c (take i ms ++ m ∷ []) (take (i + 1) ms) (sym more) (says_on name a b c (take i ms) (m ∷ []) p q)

-- what all of these messages say
pub says_all : (name a b : List ℕ) (ms : List Message) (i : ℕ) → i ≡ length ms → SaysAgain name (take i ms) a b → SaysAgain name ms a b
says_all name a b ms i is p = says_as name a b (take i ms) ms (ap (λ k. take k ms) is ∙ take-length ms) p
