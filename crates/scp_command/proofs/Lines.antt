-- Lines that are converted, one after another.
use Rattle.std.proofs.Common.{◌≡◌, inl, inr, ℕ, ◌+◌, ◌≤◌, Bool, true, false, List, [], ◌∷◌, ◌++◌, append_assoc, append-nil, ap, ◌∙◌, sym, subst, refl, suc, length, get_or, drop, drop-cons, ◌<◌, codes, Option, arith}
use Rattle.std.proofs.lemmas.List.{drop_all}
use Rattle.std.specs.Prelude.{Result, Ok, Err, OnOk, OnErr}
use Rattle.scp_script_short.specs.scp_types.specs.declared.fault.Fault.{Fault}
use Rattle.scp_script_short.specs.scp_device.specs.Device.{Gains, Fails}
use Rattle.scp_convert.specs.scp_prompt.specs.declared.asked.Conversion.{Conversion}
use Rattle.scp_convert.specs.declared.refusal.Refusal.{Refusal}
use Rattle.scp_convert.specs.Words.{IsConverted}
use Rattle.scp_convert.specs.Refusals.{IsNotConverted, IsRefusedLine}
use Rattle.scp_command.specs.declared.converting.RefusedLine.{RefusedLine}
use Rattle.scp_command.specs.Converting.{is_skipped, IsLineConverted, AreConverted, AreReported}
use Rattle.scp_command.specs.inside.Converting.{AddsLine}
use Rattle.scp_command.specs.Serving.{AreTold}

-- a line that is skipped
pub nothing_added : (conversion : Conversion) (place : ℕ) (line out : List ℕ) (refused : List RefusedLine) → is_skipped line ≡ true → AddsLine conversion place line out refused out refused
nothing_added conversion place line out refused skipped =
    ([], [], subst (λ (b : Bool). IsLineConverted conversion b place line [] []) (sym skipped) (refl, refl), sym (append-nil out), sym (append-nil refused))

-- a line that has its text
text_added : (conversion : Conversion) (place : ℕ) (line old new text : List ℕ) (refused : List RefusedLine) → is_skipped line ≡ false → IsConverted conversion place line text → new ≡ old ++ (text ++ codes "\n") → AddsLine conversion place line old refused new refused
text_added conversion place line old new text refused said h e =
    (text ++ codes "\n", [], subst (λ (b : Bool). IsLineConverted conversion b place line (text ++ codes "\n") []) (sym said) (inl (text, h, refl, refl)), e, sym (append-nil refused))

-- a line that is refused
refusal_added : (conversion : Conversion) (place : ℕ) (line out : List ℕ) (refusal : Refusal) (olds news : List RefusedLine) → is_skipped line ≡ false → IsNotConverted conversion line refusal → news ≡ olds ++ record { line = place; refusal = refusal } ∷ [] → AddsLine conversion place line out olds out news
refusal_added conversion place line out refusal olds news said h e =
    ([], record { line = place; refusal = refusal } ∷ [], subst (λ (b : Bool). IsLineConverted conversion b place line [] (record { line = place; refusal = refusal } ∷ [])) (sym said) (inr (refusal, h, refl, refl)), sym (append-nil out), e)

-- the same, where there was memory to add them
pub text_if_added : {E : Type 0} (r : Result (Unit {0}) E) (conversion : Conversion) (place : ℕ) (line old new text : List ℕ) (refused : List RefusedLine) → is_skipped line ≡ false → IsConverted conversion place line text
    → OnOk r (new ≡ old ++ (text ++ codes "\n")) → OnOk r (AddsLine conversion place line old refused new refused)
text_if_added (Ok done) conversion place line old new text refused said h e = text_added conversion place line old new text refused said h e
text_if_added (Err error) conversion place line old new text refused said h e = tt

pub refusal_if_added : {E : Type 0} (r : Result (Unit {0}) E) (conversion : Conversion) (place : ℕ) (line out : List ℕ) (refusal : Refusal) (olds news : List RefusedLine) → is_skipped line ≡ false → IsNotConverted conversion line refusal
    → OnOk r (news ≡ olds ++ record { line = place; refusal = refusal } ∷ []) → OnOk r (AddsLine conversion place line out olds out news)
refusal_if_added (Ok done) conversion place line out refusal olds news said h e = refusal_added conversion place line out refusal olds news said h e
refusal_if_added (Err error) conversion place line out refusal olds news said h e = tt

-- one line more
more_converted : (conversion : Conversion) (place : ℕ) (lines : List (List ℕ)) (line out text : List ℕ) (refused these : List RefusedLine)
    → AreConverted conversion place lines out refused → IsLineConverted conversion (is_skipped line) (place + length lines) line text these
    → AreConverted conversion place (lines ++ line ∷ []) (out ++ text) (refused ++ these)
more_converted conversion place [] line out text refused these h one =
    let here : place + 0 ≡ place = omega arith in (
      text,
      [],
      these,
      [],
      subst (λ (n : ℕ). IsLineConverted conversion (is_skipped line) n line text these) here one,
      (refl, refl),
      ap (λ (l : List ℕ). l ++ text) h.0 ∙ sym (append-nil text),
      ap (λ (l : List RefusedLine). l ++ these) h.1 ∙ sym (append-nil these),
    )
more_converted conversion place (first ∷ lines) line out text refused these h one =
    let there : place + length (first ∷ lines) ≡ (place + 1) + length lines = omega arith in (
      h.0,
      h.1 ++ text,
      h.2,
      h.3 ++ these,
      h.4,
      more_converted conversion (place + 1) lines line h.1 text h.3 these h.5 (subst (λ (n : ℕ). IsLineConverted conversion (is_skipped line) n line text these) there one),
      ap (λ (l : List ℕ). l ++ text) h.6 ∙ append_assoc h.0 h.1 text,
      ap (λ (l : List RefusedLine). l ++ these) h.7 ∙ append_assoc h.2 h.3 these,
    )

-- the same, of what was added
pub each_converted : (conversion : Conversion) (place : ℕ) (lines more : List (List ℕ)) (line old new : List ℕ) (olds news : List RefusedLine) → more ≡ lines ++ line ∷ [] → place ≡ 1 + length lines
    → AreConverted conversion 1 lines old olds → AddsLine conversion place line old olds new news → AreConverted conversion 1 more new news
each_converted conversion place lines more line old new olds news e at h added =
    let one = subst (λ (n : ℕ). IsLineConverted conversion (is_skipped line) n line added.0 added.1) at added.2 in
    let all = more_converted conversion 1 lines line old added.0 olds added.1 h one in
    let here = subst (λ (o : List ℕ). AreConverted conversion 1 (lines ++ line ∷ []) o (olds ++ added.1)) (sym added.3) all in
    let both = subst (λ (r : List RefusedLine). AreConverted conversion 1 (lines ++ line ∷ []) new r) (sym added.4) here in
    subst (λ (ls : List (List ℕ)). AreConverted conversion 1 ls new news) (sym e) both

-- the lines at a place and behind it, with the first of them in front of the others
drop_step : (refused : List RefusedLine) (i : ℕ) (d : RefusedLine) → i < length refused → drop i refused ≡ get_or refused i d ∷ drop (i + 1) refused
drop_step refused i d lt =
    let s : suc i ≡ i + 1 = omega arith in
    drop-cons refused i d lt ∙ ap (λ (k : ℕ). get_or refused i d ∷ drop k refused) s

-- the line of one more was written, and then those of the others
pub one_reported : (conversion : Conversion) (name input : List ℕ) (refused : List RefusedLine) (i : ℕ) (d : RefusedLine) (first rest : List ℕ) → i < length refused
    → IsRefusedLine conversion.kind conversion.coding name input (get_or refused i d).line (get_or refused i d).refusal first → AreReported conversion name input (drop (i + 1) refused) rest
    → AreReported conversion name input (drop i refused) (first ++ rest)
one_reported conversion name input refused i d first rest lt one others =
    subst (λ (l : List RefusedLine). AreReported conversion name input l (first ++ rest)) (sym (drop_step refused i d lt)) (first, rest, one, others, refl)

-- no line is left to be reported
pub none_reported : (conversion : Conversion) (name input : List ℕ) (refused : List RefusedLine) (i : ℕ) → length refused ≤ i → AreReported conversion name input (drop i refused) []
none_reported conversion name input refused i long = subst (λ (l : List RefusedLine). AreReported conversion name input l []) (sym (drop_all i refused long)) refl

-- the lines were written whole, or the writer failed
pub all_told : {W : Type 0} (written : W → Option (List ℕ)) (count : W → ℕ) (old new : W) (conversion : Conversion) (name input : List ℕ) (refused : List RefusedLine) (r : Result (Unit {0}) Fault)
    → OnOk r ((told : List ℕ) × AreReported conversion name input refused told × Gains (written old) told (written new)) → OnOk r (count new ≡ count old) → OnErr r (Fails (count old) (count new)) → AreTold written count old conversion name input refused new
all_told written count old new conversion name input refused (Ok done) whole kept raised = inl (whole.0, whole.1, whole.2, kept)
all_told written count old new conversion name input refused (Err fault) whole kept raised = inr raised
