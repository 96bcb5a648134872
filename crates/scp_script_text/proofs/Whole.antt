-- A script that was made text is in digits again what it was.
use Rattle.std.proofs.Common.{◌≡◌, ℕ, Bool, true, false, ◌<◌, List, [], ◌∷◌, ◌++◌, length, refl, sym, ◌∙◌, ap, subst, arith}
use Rattle.std.specs.List.{AllByRecursion, join_with_byte}
use Rattle.scp_text.specs.Laws.{HasNo}
use Rattle.scp_text.specs.scp_device.specs.declared.bad.BadWord.{BadWord}
use Rattle.scp_text.specs.scp_device.specs.declared.bad.WordFault.TheVariants.{Bad}
use Rattle.scp_script_text.specs.declared.script.Form.TheVariants.{Hex, Text}
use Rattle.scp_script_text.specs.declared.script.Kind.TheVariants.{Nodes}
use Rattle.scp_script_text.specs.Scripts.{lines_of, IsLineIn, IsNoLineIn, AreLines, IsScriptOf, IsRefusedLine, IsReadableLine, IsReadable, ScriptsComeBack, NoneIsRefused}
use Rattle.scp_script_text.proofs.Marks.{parts_clear, joined_again, IsSome, some_line, parts_of_joined}
use Rattle.scp_script_text.proofs.ComeBack.{Laws, line_again, line_not_refused, line_clear}

lines_again : (laws : Laws) (lines outs again : List (List ℕ)) → AllByRecursion IsReadableLine lines → AreLines (IsLineIn Nodes Text) lines outs → AreLines (IsLineIn Nodes Hex) outs again → again ≡ lines
lines_again laws [] [] [] r t h = refl
lines_again laws [] [] (a ∷ more) r t h = absurd h
lines_again laws [] (o ∷ os) more r t h = absurd t
lines_again laws (l ∷ ls) [] more r t h = absurd t
lines_again laws (l ∷ ls) (o ∷ os) [] r t h = absurd h
lines_again laws (l ∷ ls) (o ∷ os) (a ∷ more) r t h =
    ap (λ x. x ∷ more) (line_again laws l o a r.0 t.0 h.0) ∙ ap (λ x. l ∷ x) (lines_again laws ls os more r.1 t.1 h.1)

lines_clear : (laws : Laws) (lines outs : List (List ℕ)) → AllByRecursion IsReadableLine lines → AllByRecursion (HasNo 10) lines → AreLines (IsLineIn Nodes Text) lines outs → AllByRecursion (HasNo 10) outs
lines_clear laws [] [] r c t = tt
lines_clear laws [] (o ∷ os) r c t = absurd t
lines_clear laws (l ∷ ls) [] r c t = absurd t
lines_clear laws (l ∷ ls) (o ∷ os) r c t = (line_clear laws l o r.0 t.0 c.0, lines_clear laws ls os r.1 c.1 t.1)

not_refused : (laws : Laws) (lines outs front : List (List ℕ)) (line : List ℕ) (back : List (List ℕ)) (r : BadWord) → AllByRecursion IsReadableLine lines → AreLines (IsLineIn Nodes Text) lines outs → outs ≡ front ++ line ∷ back → IsNoLineIn Nodes Hex line (Bad r) → ⊥
not_refused laws [] [] [] line back r q t e h = absurd cc
not_refused laws [] [] (f ∷ fs) line back r q t e h = absurd cc
not_refused laws [] (o ∷ os) front line back r q t e h = absurd t
not_refused laws (l ∷ ls) [] front line back r q t e h = absurd t
not_refused laws (l ∷ ls) (o ∷ os) [] line back r q t e h =
    let same : o ≡ line = cc in
    line_not_refused laws l o r q.0 t.0 (subst (λ (x : List ℕ). IsNoLineIn Nodes Hex x (Bad r)) (sym same) h)
not_refused laws (l ∷ ls) (o ∷ os) (f ∷ fs) line back r q t e h =
    let same : os ≡ fs ++ line ∷ back = cc in
    not_refused laws ls os fs line back r q.1 t.1 same h

some_outs : (lines outs : List (List ℕ)) → IsSome lines → AreLines (IsLineIn Nodes Text) lines outs → IsSome outs
some_outs [] outs s t = absurd s
some_outs (l ∷ ls) [] s t = absurd t
some_outs (l ∷ ls) (o ∷ os) s t = tt

-- the lines of the text are those that were written
text_lines : (laws : Laws) (script text : List ℕ) → IsReadable script → (t : IsScriptOf Nodes Text script text) → lines_of text ≡ t.0
text_lines laws script text r t =
    ap lines_of t.2 ∙ parts_of_joined t.0 (some_outs (lines_of script) t.0 (some_line script) t.1) (lines_clear laws (lines_of script) t.0 r (parts_clear 10 script) t.1)

pub come_back : Laws → ScriptsComeBack
come_back laws script text again r t h =
    let hexed : AreLines (IsLineIn Nodes Hex) t.0 h.0 = subst (λ (ls : List (List ℕ)). AreLines (IsLineIn Nodes Hex) ls h.0) (text_lines laws script text r t) h.1 in
    h.2 ∙ ap (join_with_byte 10) (lines_again laws (lines_of script) t.0 h.0 r t.1 hexed) ∙ joined_again 10 script

pub none_refused : Laws → NoneIsRefused
none_refused laws script text bad r t h =
    not_refused laws (lines_of script) t.0 h.front h.line h.back bad.bad r t.1 (sym (text_lines laws script text r t) ∙ h.lines) h.refused
