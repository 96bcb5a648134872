-- What holds of the commands of a script holds of a part of them; no command but `nodes` changes how many nodes there are; a link that
-- is open is one; and each command names nodes that may be there.
use Rattle.std.proofs.Common.{◌≡◌, ◌≤◌, ℕ, Bool, true, false, cond, List, [], ◌∷◌, ◌++◌, nat_eq, refl, sym, ◌∙◌, ap, subst, append_assoc, append-nil, arith}
use Rattle.std.specs.Prelude.{◌&&◌, All}
use Rattle.std.proofs.lemmas.Bool.{eqb-true}
use Rattle.std.proofs.lemmas.List.Elements.{All-head, All-tail}
use Rattle.std.proofs.lemmas.List.Sums.{fold-append}
use Rattle.scp_script.specs.declared.command.Command.{Command}
use Rattle.scp_script.specs.declared.command.Command.TheVariants as script
use Rattle.scp_script.specs.Script.{counted, node_count, opens, closes, is_open, IsLink, Admits, AreAdmitted}
use Rattle.scp_script.specs.Nodes.{NamesNodes}

-- ---- what holds of the commands before

pub admitted_front : (before xs ys : List Command) → AreAdmitted before (xs ++ ys) → AreAdmitted before xs
admitted_front before [] ys all = tt
admitted_front before (x ∷ xs) ys all = (all.0, admitted_front (before ++ x ∷ []) xs ys all.1)

pub admitted_rest : (before xs ys : List Command) → AreAdmitted before (xs ++ ys) → AreAdmitted (before ++ xs) ys
admitted_rest before [] ys all = subst (λ (l : List Command). AreAdmitted l ys) (sym (append-nil before)) all
admitted_rest before (x ∷ xs) ys all = subst (λ (l : List Command). AreAdmitted l ys) (append_assoc before (x ∷ []) xs) (admitted_rest (before ++ x ∷ []) xs ys all.1)

-- ---- how many nodes there are

counts_same : (before : List Command) (command : Command) → Admits before command → 1 ≤ node_count before → counted (node_count before) command ≡ node_count before
counts_same before (script.Caps capacities) a one = refl
counts_same before (script.Nodes count quorum) a one = absurd (omega (arith, a, one))
counts_same before (script.Set at set) a one = refl
counts_same before (script.Open from to) a one = refl
counts_same before (script.Close from to) a one = refl
counts_same before (script.Send from to bytes) a one = refl
counts_same before (script.Propose at slot value) a one = refl
counts_same before (script.Round at slot) a one = refl
counts_same before (script.Timer at slot) a one = refl
counts_same before (script.Tick at) a one = refl
counts_same before (script.Ask from to slot) a one = refl
counts_same before script.Settle a one = refl
counts_same before (script.Wait at things) a one = refl
counts_same before (script.Report at) a one = refl

count_more : (before : List Command) (command : Command) → Admits before command → 1 ≤ node_count before → node_count (before ++ command ∷ []) ≡ node_count before
count_more before command a one = fold-append counted 0 before (command ∷ []) ∙ counts_same before command a one

-- no command behind changes it
pub count_stays : (before commands : List Command) → AreAdmitted before commands → 1 ≤ node_count before → node_count (before ++ commands) ≡ node_count before
count_stays before [] all one = ap (λ (l : List Command). node_count l) (append-nil before)
count_stays before (command ∷ commands) all one =
    let more = count_more before command all.0 one in
    ap (λ (l : List Command). node_count l) (sym (append_assoc before (command ∷ []) commands))
    ∙ count_stays (before ++ command ∷ []) commands all.1 (omega (arith, more, one)) ∙ more

-- ---- a link that is open is one

link_stays : (from to : ℕ) (before : List Command) (command : Command) → Admits before command → IsLink from to before → IsLink from to (before ++ command ∷ [])
link_stays from to before command a l =
    let same : node_count (before ++ command ∷ []) ≡ node_count before = count_more before command a (omega (arith, l.0.0, l.0.1)) in
    ((l.0.0, omega (arith, l.0.1, same)), (l.1.0, omega (arith, l.1.1, same)), l.2)

and_first : (a b : Bool) → (a && b) ≡ true → a ≡ true
and_first true b e = refl
and_first false b e = e

and_second : (a b : Bool) → (a && b) ≡ true → b ≡ true
and_second true b e = e
and_second false true e = refl
and_second false false e = e

opens_link : (from to : ℕ) (before : List Command) (command : Command) → Admits before command → opens from to command ≡ true → IsLink from to before
opens_link from to before (script.Caps capacities) a e = absurd cc
opens_link from to before (script.Nodes count quorum) a e = absurd cc
opens_link from to before (script.Set at set) a e = absurd cc
opens_link from to before (script.Open from2 to2) a e =
    let same_from : from ≡ from2 = eqb-true from from2 (and_first (nat_eq from from2) (nat_eq to to2) e) in
    let same_to : to ≡ to2 = eqb-true to to2 (and_second (nat_eq from from2) (nat_eq to to2) e) in
    subst (λ (n : ℕ). IsLink n to before) (sym same_from) (subst (λ (n : ℕ). IsLink from2 n before) (sym same_to) a.0)
opens_link from to before (script.Close from2 to2) a e = absurd cc
opens_link from to before (script.Send from2 to2 bytes) a e = absurd cc
opens_link from to before (script.Propose at slot value) a e = absurd cc
opens_link from to before (script.Round at slot) a e = absurd cc
opens_link from to before (script.Timer at slot) a e = absurd cc
opens_link from to before (script.Tick at) a e = absurd cc
opens_link from to before (script.Ask from2 to2 slot) a e = absurd cc
opens_link from to before script.Settle a e = absurd cc
opens_link from to before (script.Wait at things) a e = absurd cc
opens_link from to before (script.Report at) a e = absurd cc

either : (o c b : Bool) (P : Type 0) → (o ≡ true → P) → (b ≡ true → P) → cond o true (cond c false b) ≡ true → P
either true c b P f g e = f refl
either false true b P f g e = absurd cc
either false false b P f g e = g e

opened_more : (from to : ℕ) (before : List Command) (command : Command) → Admits before command → (is_open from to before ≡ true → IsLink from to before) → is_open from to (before ++ command ∷ []) ≡ true → IsLink from to (before ++ command ∷ [])
opened_more from to before command a was e =
    either (opens from to command) (closes from to command) (is_open from to before) (IsLink from to (before ++ command ∷ []))
    (λ o. link_stays from to before command a (opens_link from to before command a o))
    (λ b. link_stays from to before command a (was b))
    (sym (fold-append (λ (b : Bool) (c : Command). cond (opens from to c) true (cond (closes from to c) false b)) false before (command ∷ [])) ∙ e)

opened_all : (from to : ℕ) (before commands : List Command) → AreAdmitted before commands → (is_open from to before ≡ true → IsLink from to before) → is_open from to (before ++ commands) ≡ true → IsLink from to (before ++ commands)
opened_all from to before [] all was e =
    subst (λ (l : List Command). IsLink from to l) (sym (append-nil before)) (was (subst (λ (l : List Command). is_open from to l ≡ true) (append-nil before) e))
opened_all from to before (command ∷ commands) all was e =
    let same : (before ++ command ∷ []) ++ commands ≡ before ++ (command ∷ commands) = append_assoc before (command ∷ []) commands in
    subst (λ (l : List Command). IsLink from to l) same
    (opened_all from to (before ++ command ∷ []) commands all.1 (opened_more from to before command all.0 was)
    (subst (λ (l : List Command). is_open from to l ≡ true) (sym same) e))

pub open_is_link : (from to : ℕ) (done : List Command) → AreAdmitted [] done → is_open from to done ≡ true → IsLink from to done
open_is_link from to done all e = opened_all from to [] done all (λ (h : false ≡ true). absurd cc) e

pub names_at : (xs : List Command) (command : Command) (ys : List Command) → All NamesNodes (xs ++ command ∷ ys) → NamesNodes command
names_at [] command ys all = All-head NamesNodes command ys all
names_at (x ∷ xs) command ys all = names_at xs command ys (All-tail NamesNodes x (xs ++ command ∷ ys) all)
