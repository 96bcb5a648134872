-- Texts that are added one after the other, and answers to one input more.
use Rattle.std.proofs.Common.{◌≡◌, ◌++◌, List, ℕ, [], ◌∷◌, refl, sym, ◌∙◌, ap, subst, codes, arith, length, map, map-id, flat_map}
use Rattle.std.proofs.lemmas.List.{append_assoc, append-nil, flat_map_more}
use Rattle.hex.specs.Hex.{encode_lower}
use Rattle.scp_slot.specs.scp_types.specs.declared.names.NodeId.{NodeId}
use Rattle.scp_slot.specs.scp_driver.specs.declared.driver.Level.{Level}
use Rattle.scp_slot.specs.declared.output.SlotInput.{SlotInput}
use Rattle.scp_slot.specs.declared.output.SlotOutput.{SlotOutput}
use Rattle.scp_slot.specs.Slot.{SlotView, Begins}
use Rattle.scp_script_slot.specs.declared.script.Setup.{Setup}
use Rattle.scp_script_slot.specs.Answers.{verdict_word, hex_word, node_word, decided_text, more_text, IsEmitted, IsOutput, IsAnswer, AreAnswers, Answers}
use Rattle.scp_script_slot.specs.inside.Answers.{Appends}

-- what was added is added to by what comes next
pub added : (s p n t u : List ℕ) → t ≡ s ++ p → u ≡ t ++ n → u ≡ s ++ (p ++ n)
added s p n t u e f = f ∙ ap (λ x. x ++ n) e ∙ append_assoc s p n

pub hex_of_none : (bytes : List ℕ) → length bytes ≡ 0 → hex_word bytes ≡ codes "-"
hex_of_none [] e = refl
hex_of_none (byte ∷ bytes) e = absurd (omega (arith, e))

pub hex_of_some : (bytes : List ℕ) → ¬ (length bytes ≡ 0) → hex_word bytes ≡ encode_lower bytes
hex_of_some [] e = absurd (e refl)
hex_of_some (byte ∷ bytes) e = refl

-- the word of one node more
pub node_added : (s t u w : List ℕ) (nodes : List NodeId) (node : NodeId) → t ≡ s ++ flat_map node_word nodes → u ≡ t ++ codes " " → w ≡ u ++ hex_word node.0 → w ≡ s ++ flat_map node_word (nodes ++ node ∷ [])
node_added s t u w nodes node e f g =
    added t (codes " ") (hex_word node.0) u w f g ∙ ap (λ x. x ++ node_word node) e ∙ flat_map_more node_word s nodes node

-- the parts of an output, one after the other
pub output_added : (out : SlotOutput) (a b c d e f : List ℕ) → b ≡ a ++ (verdict_word out.verdict ++ codes "\n") → Appends (IsEmitted out.emitted.nomination) b c → Appends (IsEmitted out.emitted.ballot) c d
    → e ≡ d ++ decided_text out.decided → f ≡ e ++ more_text out.more → Appends (IsOutput out) a f
output_added out a b c d e f verdict (first, nominated, one) (second, balloted, two) decided more =
    let v = verdict_word out.verdict ++ codes "\n" in
    let third : c ≡ a ++ (v ++ first) = added a v first b c verdict one in
    let fourth : d ≡ a ++ (v ++ first ++ second) = added a (v ++ first) second c d third two in
    let fifth : e ≡ a ++ (v ++ first ++ second ++ decided_text out.decided) = added a (v ++ first ++ second) (decided_text out.decided) d e fourth decided in (
      v ++ first ++ second ++ decided_text out.decided ++ more_text out.more,
      record { nomination = first; ballot = second; nominated = nominated; balloted = balloted; whole = refl },
      added a (v ++ first ++ second ++ decided_text out.decided) (more_text out.more) e f fifth more,
    )

module _ (level : ℕ → List ℕ → Level) (combined : ℕ → List (List ℕ) → List ℕ) where
  -- the answer to one input more stands behind those before it
  pub one_more : (inputs : List SlotInput) (input : SlotInput) (a b c : SlotView) (s t : List ℕ) → AreAnswers level combined inputs a s b → IsAnswer level combined input b t c → AreAnswers level combined (inputs ++ input ∷ []) a (s ++ t) c
  one_more [] input a b c s t ran answer =
      (t, [], c, ap (λ x. x ++ t) ran.0 ∙ sym (append-nil t), subst (λ (x : SlotView). IsAnswer level combined input x t c) ran.1 answer, (refl, refl))
  one_more (i ∷ inputs) input a b c s t (first, rest, mid, is, one, others) answer =
      (first, rest ++ t, mid, ap (λ x. x ++ t) is ∙ append_assoc first rest t, one, one_more inputs input mid b c rest t others answer)

module _ {D : Type 0} (level : D → ℕ → List ℕ → Level) (combined : D → ℕ → List (List ℕ) → List ℕ) where
  -- the same by drivers that are one, where the text is one that was added
  pub turn : (d e : D) (inputs : List SlotInput) (input : SlotInput) (a b c : SlotView) (s t : List ℕ) → e ≡ d → AreAnswers (level d) (combined d) inputs a s b → Appends (λ text. IsAnswer (level e) (combined e) input b text c) s t
      → AreAnswers (level d) (combined d) (inputs ++ input ∷ []) a t c
  turn d e inputs input a b c s t same ran (text, answer, is) =
      subst (λ (u : List ℕ). AreAnswers (level d) (combined d) (inputs ++ input ∷ []) a u c) (sym is)
      (one_more (level d) (combined d) inputs input a b c s text ran (subst (λ (x : D). IsAnswer (level x) (combined x) input b text c) same answer))

  -- all inputs are answered
  pub answered : (d e : D) (setup : Setup) (done inputs : List SlotInput) (a b : SlotView) (t : List ℕ) → e ≡ d → map (λ (x : SlotInput). x) done ≡ inputs → Begins setup.me setup.slot.0 setup.set.value a → AreAnswers (level e) (combined e) done a t b
      → Answers (level d) (combined d) setup inputs t
  answered d e setup done inputs a b t same all begins ran = record {
    first = a;
    last = b;
    begins = begins;
    answers = subst (λ (x : D). AreAnswers (level x) (combined x) inputs a t b) same (subst (λ (l : List SlotInput). AreAnswers (level e) (combined e) l a t b) (sym (map-id done) ∙ all) ran);
  }
