-- The reports that a script asks for.
use Rattle.std.proofs.Common.{◌≡◌, ◌<◌, ◌≤◌, ◌+◌, ◌-◌, ℕ, zero, suc, List, [], ◌∷◌, ◌++◌, Option, Some, None, map, length, drop, get_or, refl, sym, ◌∙◌, ap, subst, append_assoc, append-nil, arith}
use Rattle.std.specs.Prelude.{flat_map, slice_get, option_to_list}
use Rattle.std.proofs.lemmas.List.{at_drop_all, length-map}
use Rattle.std.proofs.lemmas.Option.{slice_get_read, slice_get_past}
use Rattle.scp_script.specs.declared.command.Command.{Command}
use Rattle.scp_script.specs.Nodes.{reports_in}
use Rattle.scp_report.specs.Report.{ReportView}
use Rattle.scp_report.specs.Reports.{record_at}

-- what stands at a place, as it is seen
pub seen_at : {X Y : Type 0} (see : X → Y) (xs : List X) (k : ℕ) (x : X) → slice_get xs k ≡ Some x → slice_get (map see xs) k ≡ Some (see x)
seen_at see [] k x e = absurd cc
seen_at see (y ∷ ys) zero x e = cc
seen_at see (y ∷ ys) (suc k) x e = seen_at see ys k x e

-- the record that is read at its place, and a place behind the last
record_within : {X : Type 0} (see : X → ReportView) (xs : List X) (k number : ℕ) (x : X) → number ≡ k + 1 → k < length xs → x ≡ get_or xs k x → record_at (map see xs) number ≡ see x ∷ []
record_within {X} see xs k number x is within e =
    let place : k ≡ number - 1 = omega (arith, is) in
    let there : slice_get (map see xs) k ≡ Some (see x) = seen_at see xs k x (slice_get_read xs (length xs) k x refl within e) in
    ap (λ (o : Option ReportView). option_to_list o) (subst (λ (i : ℕ). slice_get (map see xs) i ≡ Some (see x)) place there)

record_past : {X : Type 0} (see : X → ReportView) (xs : List X) (k number : ℕ) → number ≡ k + 1 → length xs ≤ k → record_at (map see xs) number ≡ []
record_past {X} see xs k number is past =
    let place : k ≡ number - 1 = omega (arith, is) in
    let long : length (map see xs) ≤ k = omega (arith, length-map xs see, past) in
    ap (λ (o : Option ReportView). option_to_list o) (subst (λ (i : ℕ). slice_get (map see xs) i ≡ None) place (slice_get_past (map see xs) k long))

-- ---- one more

pub flat_map_then : {A B : Type 0} (f : A → List B) (xs ys : List A) → flat_map f (xs ++ ys) ≡ flat_map f xs ++ flat_map f ys
flat_map_then f [] ys = refl
flat_map_then f (x ∷ xs) ys = ap (λ l. f x ++ l) (flat_map_then f xs ys) ∙ sym (append_assoc (f x) (flat_map f xs) (flat_map f ys))

pub map_then : {A B : Type 0} (f : A → B) (xs ys : List A) → map f (xs ++ ys) ≡ map f xs ++ map f ys
map_then f [] ys = refl
map_then f (x ∷ xs) ys = ap (λ l. f x ∷ l) (map_then f xs ys)

-- what is told of lists one after the other, list by list
pub flat_flat : {A B C : Type 0} (f : B → List C) (g : A → List B) (xs : List A) → flat_map f (flat_map g xs) ≡ flat_map (λ x. flat_map f (g x)) xs
flat_flat f g [] = refl
flat_flat f g (x ∷ xs) = flat_map_then f (g x) (flat_map g xs) ∙ ap (λ l. flat_map f (g x) ++ l) (flat_flat f g xs)

pub map_flat : {A B C : Type 0} (f : B → C) (g : A → List B) (xs : List A) → map f (flat_map g xs) ≡ flat_map (λ x. map f (g x)) xs
map_flat f g [] = refl
map_flat f g (x ∷ xs) = map_then f (g x) (flat_map g xs) ∙ ap (λ l. map f (g x) ++ l) (map_flat f g xs)

-- ---- of one node

pub told_within : {X A : Type 0} (f : ReportView → List A) (see : X → ReportView) (xs : List X) (k number : ℕ) (x : X) → number ≡ k + 1 → k < length xs → x ≡ get_or xs k x → flat_map f (record_at (map see xs) number) ≡ f (see x)
told_within f see xs k number x is within e = ap (flat_map f) (record_within see xs k number x is within e) ∙ append-nil (f (see x))

pub shown_within : {X A : Type 0} (f : ReportView → A) (see : X → ReportView) (xs : List X) (k number : ℕ) (x : X) → number ≡ k + 1 → k < length xs → x ≡ get_or xs k x → map f (record_at (map see xs) number) ≡ f (see x) ∷ []
shown_within f see xs k number x is within e = ap (map f) (record_within see xs k number x is within e)

-- where the node isn't there nothing is added
pub told_past : {X A : Type 0} (f : ReportView → List A) (see : X → ReportView) (xs : List X) (k number : ℕ) (out : List A) → number ≡ k + 1 → length xs ≤ k → out ≡ out ++ flat_map f (record_at (map see xs) number)
told_past f see xs k number out is past = sym (ap (λ rs. out ++ flat_map f rs) (record_past see xs k number is past) ∙ append-nil out)

pub shown_past : {X A : Type 0} (f : ReportView → A) (see : X → ReportView) (xs : List X) (k number : ℕ) (out : List A) → number ≡ k + 1 → length xs ≤ k → out ≡ out ++ map f (record_at (map see xs) number)
shown_past f see xs k number out is past = sym (ap (λ rs. out ++ map f rs) (record_past see xs k number is past) ∙ append-nil out)

-- ---- at the end

-- where no command is left, all is told
pub told_end : {B C : Type 0} (f : B → List C) (view : ℕ → List B) (cs : List Command) (i : ℕ) (out : List C) → length cs ≤ i
    → out ++ flat_map (λ number. flat_map f (view number)) (reports_in (drop i cs)) ≡ flat_map (λ number. flat_map f (view number)) (reports_in cs)
    → out ≡ flat_map f (flat_map view (reports_in cs))
told_end f view cs i out past h =
    let none : flat_map (λ number. flat_map f (view number)) (reports_in (drop i cs)) ≡ [] = at_drop_all (λ (others : List Command). flat_map (λ number. flat_map f (view number)) (reports_in others)) cs i past in
    sym (append-nil out) ∙ ap (λ l. out ++ l) (sym none) ∙ h ∙ sym (flat_flat f view (reports_in cs))

pub shown_end : {B C : Type 0} (f : B → C) (view : ℕ → List B) (cs : List Command) (i : ℕ) (out : List C) → length cs ≤ i
    → out ++ flat_map (λ number. map f (view number)) (reports_in (drop i cs)) ≡ flat_map (λ number. map f (view number)) (reports_in cs)
    → out ≡ map f (flat_map view (reports_in cs))
shown_end f view cs i out past h =
    let none : flat_map (λ number. map f (view number)) (reports_in (drop i cs)) ≡ [] = at_drop_all (λ (others : List Command). flat_map (λ number. map f (view number)) (reports_in others)) cs i past in
    sym (append-nil out) ∙ ap (λ l. out ++ l) (sym none) ∙ h ∙ sym (map_flat f view (reports_in cs))
