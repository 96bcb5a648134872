-- The lines of sides, by how many there are.
use Rattle.std.proofs.Common.{◌≡◌, ℕ, Bool, true, false, List, [], ◌∷◌, ◌++◌, flat_map, refl, sym, ap, ◌∙◌, append-nil}
use Rattle.std.specs.Prelude.{Option, Some, None, Result, Ok, Err, OnOk, slice_get}
use Rattle.scp_history.specs.scp_types.specs.declared.names.NodeId.{NodeId}
use Rattle.scp_history.specs.scp_ledger.specs.Journal.{Heard}
use Rattle.scp_history.specs.declared.line.Line.{Line}
use Rattle.scp_history.specs.declared.line.Line.TheVariants.{Split}
use Rattle.scp_history.specs.declared.side.Side.{Side}
use Rattle.scp_shown.specs.Sides.{against_line, side_lines}
use Rattle.scp_shown.specs.inside.Siding.{has_two}

split_lines : (ledger : ℕ) (hs : List Heard) (nodes : List NodeId) (sides : List Side) → has_two sides ≡ true → side_lines ledger hs nodes sides ≡ Split ledger sides ∷ []
split_lines ledger hs nodes [] e = absurd cc
split_lines ledger hs nodes (s ∷ []) e = absurd cc
split_lines ledger hs nodes (s ∷ t ∷ rest) e = refl

-- several sides: their split is added
pub added_split : (ledger : ℕ) (hs : List Heard) (nodes : List NodeId) (sides these : List Side) (b : Bool) (old new : List Line) → b ≡ has_two sides → b ≡ true → these ≡ sides → new ≡ old ++ Split ledger these ∷ [] → new ≡ old ++ side_lines ledger hs nodes sides
added_split ledger hs nodes sides these b old new is holds same added =
    added ∙ ap (λ (l : List Side). old ++ Split ledger l ∷ []) same ∙ ap (λ (l : List Line). old ++ l) (sym (split_lines ledger hs nodes sides (sym is ∙ holds)))

no_lines : (ledger : ℕ) (hs : List Heard) (nodes : List NodeId) (sides : List Side) → None ≡ slice_get sides 0 → side_lines ledger hs nodes sides ≡ []
no_lines ledger hs nodes [] e = refl
no_lines ledger hs nodes (s ∷ rest) e = absurd cc

-- no side: nothing is added
pub added_none : (ledger : ℕ) (hs : List Heard) (nodes : List NodeId) (sides : List Side) (old : List Line) → None ≡ slice_get sides 0 → old ≡ old ++ side_lines ledger hs nodes sides
added_none ledger hs nodes sides old e = sym (append-nil old) ∙ ap (λ (l : List Line). old ++ l) (sym (no_lines ledger hs nodes sides e))

same_side : (s t : Side) → Some s ≡ Some t → s ≡ t
same_side s t e = cc

one_side : (ledger : ℕ) (hs : List Heard) (nodes : List NodeId) (sides : List Side) (s : Side) → has_two sides ≡ false → Some s ≡ slice_get sides 0 → flat_map (against_line ledger hs s.value) nodes ≡ side_lines ledger hs nodes sides
one_side ledger hs nodes [] s one e = absurd cc
one_side ledger hs nodes (t ∷ []) s one e = ap (λ (u : Side). flat_map (against_line ledger hs u.value) nodes) (same_side s t e)
one_side ledger hs nodes (t ∷ u ∷ rest) s one e = absurd cc

-- one side: those who are against it are added
pub added_against : {Y E : Type 0} (r : Result Y E) (ledger : ℕ) (hs : List Heard) (nodes : List NodeId) (sides : List Side) (s : Side) (x : List ℕ) (b : Bool) (old new : List Line) → b ≡ has_two sides → b ≡ false → Some s ≡ slice_get sides 0 → x ≡ s.value → OnOk r (new ≡ old ++ flat_map (against_line ledger hs x) nodes) → OnOk r (new ≡ old ++ side_lines ledger hs nodes sides)
added_against (Ok y) ledger hs nodes sides s x b old new is isnt first same added =
    added
    ∙ ap (λ (v : List ℕ). old ++ flat_map (against_line ledger hs v) nodes) same
    ∙ ap (λ (l : List Line). old ++ l) (one_side ledger hs nodes sides s (sym is ∙ isnt) first)
added_against (Err e) ledger hs nodes sides s x b old new is isnt first same added = tt
