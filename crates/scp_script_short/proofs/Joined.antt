-- Lines that are joined, one line more.
use Rattle.std.proofs.Common.{◌≡◌, ℕ, Bool, true, false, List, [], ◌∷◌, ◌++◌, map, refl, sym, ◌∙◌, ap, append_assoc}
use Rattle.std.specs.Prelude.{if◌then◌else◌}
use Rattle.std.specs.List.{join_with_byte}
use Rattle.std.proofs.lemmas.List.{map_push}
use Rattle.scp_script_short.specs.declared.placed.PlacedLine.{PlacedLine}
use Rattle.scp_script_short.specs.Scripts.{script_of}

abbrev pub is_nil : {X : Type 0} → List X → Bool
is_nil [] = true
is_nil (x ∷ xs) = false

joined_more : (outs : List (List ℕ)) (out : List ℕ) → join_with_byte 10 (outs ++ out ∷ []) ≡ join_with_byte 10 outs ++ (if is_nil outs then out else 10 ∷ out)
joined_more [] out = refl
joined_more (o ∷ []) out = refl
joined_more (o ∷ p ∷ ps) out = ap (λ l. o ++ 10 ∷ l) (joined_more (p ∷ ps) out) ∙ sym (append_assoc o (10 ∷ join_with_byte 10 (p ∷ ps)) (10 ∷ out))

nil_map : (lines : List PlacedLine) → is_nil (map (λ p. p.line) lines) ≡ is_nil lines
nil_map [] = refl
nil_map (p ∷ ps) = refl

-- a line more
pub script_more : (lines : List PlacedLine) (next : PlacedLine) (first : Bool) (script : List ℕ) → script ≡ script_of lines → first ≡ is_nil lines
    → script ++ (if first then next.line else 10 ∷ next.line) ≡ script_of (lines ++ next ∷ [])
script_more lines next first script e f =
    let texts : List (List ℕ) = map (λ p. p.line) lines in
    ap (λ s. s ++ (if first then next.line else 10 ∷ next.line)) e
    ∙ ap (λ (b : Bool). script_of lines ++ (if b then next.line else 10 ∷ next.line)) (f ∙ sym (nil_map lines))
    ∙ sym (joined_more texts next.line)
    ∙ sym (ap (join_with_byte 10) (map_push (λ p. p.line) lines next))

pub some_more : (lines : List PlacedLine) (next : PlacedLine) → false ≡ is_nil (lines ++ next ∷ [])
some_more [] next = refl
some_more (p ∷ ps) next = refl
