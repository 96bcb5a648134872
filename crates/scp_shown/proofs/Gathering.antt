-- The lines of a ledger, part after part.
use Rattle.std.proofs.Common.{◌≡◌, ◌+◌, ◌<◌, ℕ, List, [], ◌∷◌, ◌++◌, length, take, get_or, map, flat_map, ap, ◌∙◌, append_assoc, sym, refl, subst}
use Rattle.std.specs.Prelude.{Result, Ok, Err, OnOk}
use Rattle.scp_history.specs.scp_types.specs.declared.names.NodeId.{NodeId}
use Rattle.scp_history.specs.scp_ledger.specs.Journal.{Heard}
use Rattle.scp_history.specs.declared.line.Line.{Line}
use Rattle.scp_history.specs.declared.side.Side.{Side}
use Rattle.scp_shown.specs.Listed.{AddsEach}
use Rattle.scp_shown.specs.Parts.{Entry, entry_of}
use Rattle.scp_shown.specs.declared.part.Part.{Part}
use Rattle.scp_shown.specs.Spoken.{values_heard}
use Rattle.scp_shown.specs.ValueLines.{AreValueLines}
use Rattle.scp_shown.specs.Sides.{IsSide, side_lines}
use Rattle.scp_shown.specs.LedgerLines.{AreHeardLines}
use Rattle.scp_shown.proofs.Listing.{map_push, flat_push, taken}

-- the lines of the entries so far, with one entry more
pub lines_taken : (g : Entry → List Line) (ps : List Part) (i : ℕ) (p : Part) (first old new : List Line) → i < length ps → p ≡ get_or ps i p → old ≡ first ++ flat_map g (map entry_of (take i ps)) → new ≡ old ++ g (entry_of p) → new ≡ first ++ flat_map g (map entry_of (take (i + 1) ps))
lines_taken g ps i p first old new lt e so_far added =
    added
    ∙ ap (λ (l : List Line). l ++ g (entry_of p)) so_far
    ∙ append_assoc first (flat_map g (map entry_of (take i ps))) (g (entry_of p))
    ∙ ap (λ (l : List Line). first ++ l)
    (sym (flat_push g (map entry_of (take i ps)) (entry_of p))
    ∙ ap (λ (l : List Entry). flat_map g l) (sym (map_push entry_of (take i ps) p))
    ∙ ap (λ (l : List Part). flat_map g (map entry_of l)) (sym (taken ps i p lt e)))

-- the lines of what is heard, where the last of them could be added
pub heard_lines : {Y E : Type 0} (r : Result Y E) (ledger : ℕ) (hs : List Heard) (nodes : List NodeId) (values : List (List ℕ)) (old mid new : List Line) (none sides : List Side) → none ≡ [] → values ≡ values_heard hs nodes
    → ((more : List Line) × AddsEach (AreValueLines ledger hs nodes) values more × (mid ≡ old ++ more))
    → ((more : List Side) × AddsEach (IsSide hs nodes) values more × (sides ≡ none ++ more))
    → OnOk r (new ≡ mid ++ side_lines ledger hs nodes sides)
    → OnOk r ((more : List Line) × AreHeardLines ledger hs nodes more × (new ≡ old ++ more))
heard_lines (Ok y) ledger hs nodes values old mid new none sides empty are lines certified added =
    let these : sides ≡ certified.0 = certified.2 ∙ ap (λ (l : List Side). l ++ certified.0) empty in (
      lines.0 ++ side_lines ledger hs nodes sides,
      record {
        of_values = lines.0;
        sides = sides;
        values = subst (λ (l : List (List ℕ)). AddsEach (AreValueLines ledger hs nodes) l lines.0) are lines.1;
        certified = subst (λ (l : List (List ℕ)). AddsEach (IsSide hs nodes) l sides) are (subst (λ (l : List Side). AddsEach (IsSide hs nodes) values l) (sym these) certified.1);
        all = refl;
      },
      added ∙ ap (λ (l : List Line). l ++ side_lines ledger hs nodes sides) lines.2 ∙ append_assoc old lines.0 (side_lines ledger hs nodes sides),
    )
heard_lines (Err e) ledger hs nodes values old mid new none sides empty are lines certified added = tt

-- four parts are added to nothing
pub added_four : (none one two three four a b c d : List Line) → none ≡ [] → one ≡ none ++ a → two ≡ one ++ b → three ≡ two ++ c → four ≡ three ++ d → four ≡ ((a ++ b) ++ c) ++ d
added_four none one two three four a b c d z p q r s =
    s
    ∙ ap (λ (l : List Line). l ++ d) (r ∙ ap (λ (l : List Line). l ++ c) (q ∙ ap (λ (l : List Line). l ++ b) (p ∙ ap (λ (l : List Line). l ++ a) z)))
