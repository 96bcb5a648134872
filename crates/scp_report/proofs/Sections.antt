-- The lines of connections in a map.
use Rattle.std.proofs.Common.{◌≡◌, ℕ, Bool, true, false, ◌&&◌, cond, List, [], ◌∷◌, ◌++◌, String, string_bytes, Option, Some, None, refl, sym, ◌∙◌, ap, append_assoc, append-nil, nat_eq, arith, ◌<◌, ◌+◌, length, get_or, take}
use Rattle.std.proofs.lemmas.List.{take_more}
use Rattle.std.specs.Prelude.{if◌then◌else◌}
use Rattle.std.specs.Ordering.{nat_cmp, is_eq, ordering_then}
use Rattle.std.specs.declared.cmp.Ordering.{Ordering}
use Rattle.std.specs.declared.cmp.Ordering.TheVariants.{Less, Equal, Greater}
use Rattle.std.specs.Cmp.Lexicographic.{slice_cmp, texts_ties, bytes_decides}
use Rattle.std.specs.Cmp.{unsigned_ties}
use Rattle.std.proofs.lemmas.Bool.Decides.{nat_tests}
use Rattle.scp_core.specs.scp_types.specs.declared.names.ConnId.{ConnId}
use Rattle.scp_core.specs.scp_wire.specs.Connections.{same_conn, same_node}
use Rattle.scp_core.specs.scp_types.specs.Order.{conn_cmp}
use Rattle.scp_report.specs.Settled.{lines_in}
use Rattle.scp_report.specs.inside.Sections.{text_of}

-- in place of what was taken out stands what was put in, with a line more
pub sorted_in : (at : Bool) (new old between lines before line own : List ℕ) → new ≡ (if at then lines else between) → between ≡ (if at then [] else old) → lines ≡ before ++ line → before ≡ own → new ≡ (if at then own ++ line else old)
sorted_in true new old between lines before line own p q r e = p ∙ r ∙ ap (λ b. b ++ line) e
sorted_in false new old between lines before line own p q r e = p ∙ q

pub taken_text : {Z : Type 0} (at : Bool) (new old : Option (String Z)) → new ≡ cond at None old → text_of new ≡ (if at then [] else text_of old)
taken_text true new old e = ap text_of e
taken_text false new old e = ap text_of e

pub put_text : {Z : Type 0} (at : Bool) (lines : String Z) (new old : Option (String Z)) → new ≡ cond at (Some lines) old → text_of new ≡ (if at then string_bytes lines else text_of old)
put_text true lines new old e = ap text_of e
put_text false lines new old e = ap text_of e

and_assoc : (a b c : Bool) → (a && (b && c)) ≡ ((a && b) && c)
and_assoc true b c = refl
and_assoc false b c = refl

is_eq-then : (a b : Ordering) → is_eq (ordering_then a b) ≡ (is_eq a && is_eq b)
is_eq-then Less b = refl
is_eq-then Equal b = refl
is_eq-then Greater b = refl

-- the order of connections tells the same connection
pub ties : (a b : ConnId) → is_eq (conn_cmp a b) ≡ same_conn a b
ties a b =
    is_eq-then (slice_cmp nat_cmp a.from.0 b.from.0) (ordering_then (slice_cmp nat_cmp a.to.0 b.to.0) (nat_cmp a.life b.life))
    ∙ ap (λ r. is_eq (slice_cmp nat_cmp a.from.0 b.from.0) && r) (is_eq-then (slice_cmp nat_cmp a.to.0 b.to.0) (nat_cmp a.life b.life))
    ∙ ap (λ r. r && (is_eq (slice_cmp nat_cmp a.to.0 b.to.0) && is_eq (nat_cmp a.life b.life))) (sym (texts_ties a.from.0 b.from.0))
    ∙ ap (λ r. same_node a.from b.from && (r && is_eq (nat_cmp a.life b.life))) (sym (texts_ties a.to.0 b.to.0))
    ∙ ap (λ r. same_node a.from b.from && (same_node a.to b.to && r)) (sym (unsigned_ties a.life b.life))
    ∙ and_assoc (same_node a.from b.from) (same_node a.to b.to) (nat_eq a.life b.life)

both_true : (a b : Bool) → (a && b) ≡ true → (a ≡ true) × (b ≡ true)
both_true true b h = (refl, h)
both_true false b h = absurd (cc h)

-- connections that are the same are equal
pub same_is_equal : (a b : ConnId) → same_conn a b ≡ true → a ≡ b
same_is_equal a b h =
    let outer = both_true (same_node a.from b.from && same_node a.to b.to) (nat_eq a.life b.life) h in
    let nodes = both_true (same_node a.from b.from) (same_node a.to b.to) outer.0 in
    let from = (bytes_decides a.from.0 b.from.0).0 nodes.0 in
    let to = (bytes_decides a.to.0 b.to.0).0 nodes.1 in
    let life : a.life ≡ b.life = grind (arith, nat_tests, outer.1) in
    λ i. record { from = record { 0 = from i }; to = record { 0 = to i }; life = life i }

-- an item of the connection adds its line
line_more : {X : Type 0} (key : X → ConnId) (line : X → List ℕ) (done : List X) (item : X) (conn : ConnId) → same_conn (key item) conn ≡ true → lines_in key line (done ++ item ∷ []) conn ≡ lines_in key line done conn ++ line item
line_more key line [] item conn h = rw h (append-nil (line item))
line_more key line (x ∷ done) item conn h = by (same_conn (key x) conn) refl (line_more key line done item conn h)
  where
    by : (b : Bool) → same_conn (key x) conn ≡ b → lines_in key line (done ++ item ∷ []) conn ≡ lines_in key line done conn ++ line item → lines_in key line (x ∷ (done ++ item ∷ [])) conn ≡ lines_in key line (x ∷ done) conn ++ line item
    by true e more = rw e (ap (λ l. line x ++ l) more ∙ sym (append_assoc (line x) (lines_in key line done conn) (line item)))
    by false e more = rw e more

-- an item of another connection adds none
line_same : {X : Type 0} (key : X → ConnId) (line : X → List ℕ) (done : List X) (item : X) (conn : ConnId) → same_conn (key item) conn ≡ false → lines_in key line (done ++ item ∷ []) conn ≡ lines_in key line done conn
line_same key line [] item conn h = rw h refl
line_same key line (x ∷ done) item conn h = by (same_conn (key x) conn) refl (line_same key line done item conn h)
  where
    by : (b : Bool) → same_conn (key x) conn ≡ b → lines_in key line (done ++ item ∷ []) conn ≡ lines_in key line done conn → lines_in key line (x ∷ (done ++ item ∷ [])) conn ≡ lines_in key line (x ∷ done) conn
    by true e more = rw e (ap (λ l. line x ++ l) more)
    by false e more = rw e more

-- texts that hold the lines so far, behind those that they held before, hold those with an item more
pub sections-more : {X : Type 0} (key : X → ConnId) (line : X → List ℕ) (base : ConnId → List ℕ) (done : List X) (item : X) (new old : ConnId → List ℕ) → ((q : ConnId) → new q ≡ (if is_eq (conn_cmp (key item) q) then old (key item) ++ line item else old q)) → ((q : ConnId) → old q ≡ base q ++ lines_in key line done q) → (q : ConnId) → new q ≡ base q ++ lines_in key line (done ++ item ∷ []) q
sections-more key line base done item new old step is q = by (same_conn (key item) q) refl
  where
    by : (b : Bool) → same_conn (key item) q ≡ b → new q ≡ base q ++ lines_in key line (done ++ item ∷ []) q
    by true e =
        let at : is_eq (conn_cmp (key item) q) ≡ true = ties (key item) q ∙ e in
        let same = same_is_equal (key item) q e in
        step q
        ∙ ap (λ b. if b then old (key item) ++ line item else old q) at
        ∙ ap (λ l. l ++ line item) (ap old same ∙ is q)
        ∙ append_assoc (base q) (lines_in key line done q) (line item)
        ∙ ap (λ l. base q ++ l) (sym (line_more key line done item q e))
    by false e =
        let at : is_eq (conn_cmp (key item) q) ≡ false = ties (key item) q ∙ e in
        step q
        ∙ ap (λ b. if b then old (key item) ++ line item else old q) at
        ∙ is q
        ∙ ap (λ l. base q ++ l) (sym (line_same key line done item q e))

-- the same of the next of the items that lie there
pub sections-next : {X : Type 0} (key : X → ConnId) (line : X → List ℕ) (base : ConnId → List ℕ) (items : List X) (i : ℕ) (d : X) (new old : ConnId → List ℕ) → i < length items → ((q : ConnId) → new q ≡ (if is_eq (conn_cmp (key (get_or items i d)) q) then old (key (get_or items i d)) ++ line (get_or items i d) else old q)) → ((q : ConnId) → old q ≡ base q ++ lines_in key line (take i items) q) → (q : ConnId) → new q ≡ base q ++ lines_in key line (take (i + 1) items) q
sections-next key line base items i d new old lt step is = rw (take_more items i d lt) (sections-more key line base (take i items) (get_or items i d) new old step is)
