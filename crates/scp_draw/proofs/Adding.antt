-- What is added, piece by piece.
use Rattle.std.proofs.Common.{◌≡◌, ◌+◌, ℕ, suc, List, ◌++◌, Result, Ok, Err, OnOk, flat_map, sym, ap, ◌∙◌, append_assoc, arith}
use Rattle.scp_trace.specs.scp_types.specs.declared.fault.Fault.{Fault}
use Rattle.scp_trace.specs.scp_core.specs.Kv.{NodeView}
use Rattle.scp_trace.specs.scp_stand_slot.specs.declared.names.Names.{Names}
use Rattle.scp_trace.specs.scp_facts.specs.declared.fact.Telling.{Telling}
use Rattle.scp_draw_marks.specs.Pieces.{escaped}
use Rattle.scp_draw_marks.specs.declared.marks.Mark.{Mark}
use Rattle.scp_draw_marks.specs.declared.marks.Pen.{Pen}
use Rattle.scp_draw_marks.specs.Places.{DrawingView}
use Rattle.scp_draw.specs.Frame.{head, legend, stands_head, tail}
use Rattle.scp_draw.specs.Page.{for_nodes, box_text, section_in, drawn_page}

pub nodes_more : (text : ℕ → List ℕ) (n : ℕ) (first old new : List ℕ) → new ≡ old ++ text (n + 1) → old ≡ first ++ for_nodes text n → new ≡ first ++ for_nodes text (n + 1)
nodes_more text n first old new e before =
    let s : n + 1 ≡ suc n = omega arith in
    e ∙ ap (λ (l : List ℕ). l ++ text (n + 1)) before ∙ append_assoc first (for_nodes text n) (text (n + 1)) ∙ ap (λ k. first ++ for_nodes text k) (sym s)

pieces : (old a b l s rest : List ℕ) → ((old ++ (a ++ (b ++ l))) ++ s) ++ rest ≡ old ++ (a ++ (b ++ (l ++ (s ++ rest))))
pieces old a b l s rest = simp append_assoc

joined : (r : Result (Unit {0}) Fault) (old one two new a b l s rest : List ℕ) → one ≡ old ++ (a ++ (b ++ l)) → two ≡ one ++ s → OnOk r (new ≡ two ++ rest) → OnOk r (new ≡ old ++ (a ++ (b ++ (l ++ (s ++ rest)))))
joined (Ok done) old one two new a b l s rest first second third = third ∙ ap (λ (x : List ℕ). x ++ rest) (second ∙ ap (λ (x : List ℕ). x ++ s) first) ∙ pieces old a b l s rest
joined (Err error) old one two new a b l s rest first second third = tt

-- two texts, one after the other
pub two_added : (old one new a b : List ℕ) → one ≡ old ++ a → new ≡ one ++ b → new ≡ old ++ (a ++ b)
two_added old one new a b first second = second ∙ ap (λ (l : List ℕ). l ++ b) first ∙ append_assoc old a b

-- a section, whose front is the same as this one
pub section_added : (old one two new front same elements ending : List ℕ) → front ≡ same → one ≡ old ++ front → two ≡ one ++ elements → new ≡ two ++ ending → new ≡ old ++ (same ++ (elements ++ ending))
section_added old one two new front same elements ending is first second third =
    third
    ∙ ap (λ (l : List ℕ). l ++ ending) (second ∙ ap (λ (l : List ℕ). l ++ elements) (first ∙ ap (λ (l : List ℕ). old ++ l) is))
    ∙ append_assoc (old ++ same) elements ending
    ∙ append_assoc old same (elements ++ ending)

-- the page of a picture with these sections and marks
pub drawn_more : (r : Result (Unit {0}) Fault) (names : Names) (nodes : List NodeView) (tellings : List Telling) (count : ℕ) (ending : List ℕ) (d : DrawingView) (pens : List Pen) (marks : List Mark) (old one two new : List ℕ)
    → d.pens ≡ pens → d.marks ≡ marks
    → one ≡ old ++ (head ++ (for_nodes box_text count ++ legend))
    → two ≡ one ++ flat_map (section_in names nodes tellings count marks pens) pens
    → OnOk r (new ≡ two ++ (stands_head ++ (escaped ending ++ tail)))
    → OnOk r (new ≡ old ++ drawn_page names nodes tellings count ending d)
drawn_more r names nodes tellings count ending d pens marks old one two new p m first second third =
    let sections : flat_map (section_in names nodes tellings count marks pens) pens ≡ flat_map (section_in names nodes tellings count d.marks d.pens) d.pens =
    ap (λ (ps : List Pen). flat_map (section_in names nodes tellings count marks ps) ps) (sym p) ∙ ap (λ (ms : List Mark). flat_map (section_in names nodes tellings count ms d.pens) d.pens) (sym m) in
    joined r old one two new head (for_nodes box_text count) legend (flat_map (section_in names nodes tellings count d.marks d.pens) d.pens) (stands_head ++ (escaped ending ++ tail))
    first (second ∙ ap (λ (s : List ℕ). one ++ s) sections) third

-- parts that are the same as these, the second as it stands in a page
pub filled : (old f f' t t' b b' new : List ℕ) → f ≡ f' → t ≡ t' → b ≡ b' → new ≡ old ++ (f ++ (escaped t ++ b)) → new ≡ old ++ (f' ++ (escaped t' ++ b'))
filled old f f' t t' b b' new e g k h =
    h ∙ (ap (λ (x : List ℕ). old ++ (x ++ (escaped t ++ b))) e ∙ (ap (λ (x : List ℕ). old ++ (f' ++ (escaped x ++ b))) g ∙ ap (λ (x : List ℕ). old ++ (f' ++ (escaped t' ++ x))) k))
