-- The entries of connections in a map.
use Rattle.std.proofs.Common.{◌≡◌, Bool, true, false, cond, List, [], ◌∷◌, ◌++◌, map, Option, Some, None, Bor, Vec, refl, sym, ◌∙◌, ap}
use Rattle.std.specs.Prelude.{if◌then◌else◌}
use Rattle.std.specs.Ordering.{is_eq}
use Rattle.scp_core.specs.scp_types.specs.declared.names.ConnId.{ConnId}
use Rattle.scp_core.specs.scp_types.specs.Order.{conn_cmp}
use Rattle.scp_core.specs.scp_wire.specs.Connections.{same_conn}
use Rattle.scp_core.specs.scp_ledger.specs.declared.journal.Fate.{Fate}
use Rattle.scp_core.specs.scp_theorem.specs.Fates.{conn_of}
use Rattle.scp_report.proofs.Sections.{ties, same_is_equal}
use Rattle.scp_report.specs.Json.{fates_on}
use Rattle.scp_report.specs.inside.Grouped.{fates_or_none}

-- in place of what was taken out stands what was put in, with more behind it
pub sorted_in : {A : Type 0} (at : Bool) (new old between items before more own : List A) → new ≡ (if at then items else between) → between ≡ (if at then [] else old) → items ≡ before ++ more → before ≡ own → new ≡ (if at then own ++ more else old)
sorted_in true new old between items before more own p q r e = p ∙ r ∙ ap (λ b. b ++ more) e
sorted_in false new old between items before more own p q r e = p ∙ q

pub taken_fates : {Z : Type 0} (at : Bool) (new old : Option (Vec (Bor Fate) Z)) → new ≡ cond at None old → fates_or_none new ≡ (if at then [] else fates_or_none old)
taken_fates true new old e = ap fates_or_none e
taken_fates false new old e = ap fates_or_none e

pub put_in : {Z : Type 0} (at : Bool) (fates : Vec (Bor Fate) Z) (new old : Option (Vec (Bor Fate) Z)) → new ≡ cond at (Some fates) old → fates_or_none new ≡ (if at then map (λ fate. fate.now) fates.items else fates_or_none old)
put_in true fates new old e = ap fates_or_none e
put_in false fates new old e = ap fates_or_none e

-- an entry of the connection is one more
fates_more : (done : List Fate) (fate : Fate) (conn : ConnId) → same_conn (conn_of fate) conn ≡ true → fates_on (done ++ fate ∷ []) conn ≡ fates_on done conn ++ fate ∷ []
fates_more [] fate conn h = rw h refl
fates_more (x ∷ done) fate conn h = by (same_conn (conn_of x) conn) refl (fates_more done fate conn h)
  where
    by : (b : Bool) → same_conn (conn_of x) conn ≡ b → fates_on (done ++ fate ∷ []) conn ≡ fates_on done conn ++ fate ∷ [] → fates_on (x ∷ (done ++ fate ∷ [])) conn ≡ fates_on (x ∷ done) conn ++ fate ∷ []
    by true e more = rw e (ap (λ l. x ∷ l) more)
    by false e more = rw e more

-- an entry of another connection is none
fates_same : (done : List Fate) (fate : Fate) (conn : ConnId) → same_conn (conn_of fate) conn ≡ false → fates_on (done ++ fate ∷ []) conn ≡ fates_on done conn
fates_same [] fate conn h = rw h refl
fates_same (x ∷ done) fate conn h = by (same_conn (conn_of x) conn) refl (fates_same done fate conn h)
  where
    by : (b : Bool) → same_conn (conn_of x) conn ≡ b → fates_on (done ++ fate ∷ []) conn ≡ fates_on done conn → fates_on (x ∷ (done ++ fate ∷ [])) conn ≡ fates_on (x ∷ done) conn
    by true e more = rw e (ap (λ l. x ∷ l) more)
    by false e more = rw e more

-- lists that hold the entries so far hold those with one more
pub grouped_more : (done : List Fate) (fate : Fate) (new old : ConnId → List Fate)
    → ((q : ConnId) → new q ≡ (if is_eq (conn_cmp (conn_of fate) q) then old (conn_of fate) ++ fate ∷ [] else old q))
    → ((q : ConnId) → old q ≡ fates_on done q) → (q : ConnId) → new q ≡ fates_on (done ++ fate ∷ []) q
grouped_more done fate new old step is q = by (same_conn (conn_of fate) q) refl
  where
    by : (b : Bool) → same_conn (conn_of fate) q ≡ b → new q ≡ fates_on (done ++ fate ∷ []) q
    by true e =
        let at : is_eq (conn_cmp (conn_of fate) q) ≡ true = ties (conn_of fate) q ∙ e in
        let same = same_is_equal (conn_of fate) q e in
        step q
        ∙ ap (λ b. if b then old (conn_of fate) ++ fate ∷ [] else old q) at
        ∙ ap (λ l. l ++ fate ∷ []) (ap old same ∙ is q)
        ∙ sym (fates_more done fate q e)
    by false e =
        let at : is_eq (conn_cmp (conn_of fate) q) ≡ false = ties (conn_of fate) q ∙ e in
        step q
        ∙ ap (λ b. if b then old (conn_of fate) ++ fate ∷ [] else old q) at
        ∙ is q
        ∙ sym (fates_same done fate q e)
