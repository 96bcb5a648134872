-- Wants under their hashes, and the list of them.
use Rattle.std.proofs.Common.{◌≡◌, ℕ, ◌+◌, ◌<◌, ◌≤◌, Bool, true, false, cond, not, List, [], ◌∷◌, ◌++◌, length, map, refl, sym, ◌∙◌, ap, subst, arith, nat_eq}
use Rattle.std.specs.Prelude.{◌&&◌, ◌||◌, Option, Some, None, IfSome, Result, Ok, Err, OnErr, filter, nat_lt, is_some, if◌then◌else◌}
use Rattle.std.specs.List.{AllByRecursion, IsDistinct, list_any}
use Rattle.std.specs.Option.{option_map_or}
use Rattle.std.specs.Map.{lookup, keys_of, remove_entry, set_value}
use Rattle.std.specs.Map.Calls.{RetainsPairs}
use Rattle.std.specs.Cmp.Lexicographic.{pointwise, same_text}
use Rattle.std.proofs.lemmas.Bool.{ltb-false}
use Rattle.scp_quorum.specs.scp_types.specs.declared.names.ConnId.{ConnId}
use Rattle.scp_quorum.specs.scp_types.specs.declared.names.Hash.{Hash}
use Rattle.scp_fetch.specs.declared.want.Want.{Want}
use Rattle.scp_fetch.specs.declared.want.Miss.{Miss}
use Rattle.scp_fetch.specs.declared.want.Miss.TheVariants.{One, All}
use Rattle.scp_fetch.specs.declared.answers.Missed.TheVariants.{Unwanted, Waiting, GaveUp}
use Rattle.scp_fetch.specs.Hashes.{same_hash}
use Rattle.scp_fetch.specs.Wants.{is_for, is_wanted, is_missed, is_last, count_miss, missed_by, without, gives_up, miss_of, waiting_for}
use Rattle.scp_fetch.specs.inside.Table.{WantEntry, want_in, wants_in, IsUnderHash}

abbrev pub at : Hash → List ℕ → Bool
at hash = pointwise nat_eq hash.0

same_bytes : (a b : List ℕ) → pointwise nat_eq a b ≡ true → a ≡ b
same_bytes a b e = same_text a b (sym e)

-- the key shows the hash
key_is : (hash : Hash) (e : WantEntry) → IsUnderHash e → at hash e.0 ≡ is_for hash e.1
key_is hash e u = ap (pointwise nat_eq hash.0) u

-- ---- lists of which nothing is wanted for the hash

abbrev pub NoneFor : Hash → List Want → Type 0
NoneFor hash ws = AllByRecursion (λ (w : Want). is_for hash w ≡ false) ws

none_any : (P : Want → Bool) (hash : Hash) (ws : List Want) → NoneFor hash ws → list_any (λ w. is_for hash w && P w) ws ≡ false
none_any P hash [] n = refl
none_any P hash (w ∷ ws) n = by_test (is_for hash w) n.0 (none_any P hash ws n.1)
  where
    by_test : (b : Bool) → b ≡ false → list_any (λ w. is_for hash w && P w) ws ≡ false → ((b && P w) || list_any (λ w. is_for hash w && P w) ws) ≡ false
    by_test true e rest = absurd cc
    by_test false e rest = rest

abbrev pub if_for : (Want → Want) → Hash → Want → Want
if_for f hash w = if is_for hash w then f w else w

not_for : (f : Want → Want) (hash : Hash) (w : Want) → is_for hash w ≡ false → w ≡ if_for f hash w
not_for f hash w e = by_test (is_for hash w) e
  where
    by_test : (b : Bool) → b ≡ false → w ≡ (if b then f w else w)
    by_test true e = absurd cc
    by_test false e = refl

is_it : (f : Want → Want) (hash : Hash) (w : Want) → is_for hash w ≡ true → f w ≡ if_for f hash w
is_it f hash w e = by_test (is_for hash w) e
  where
    by_test : (b : Bool) → b ≡ true → f w ≡ (if b then f w else w)
    by_test true e = refl
    by_test false e = absurd cc

two : {X : Type 0} (a b : X) (xs ys : List X) → a ≡ b → xs ≡ ys → a ∷ xs ≡ b ∷ ys
two a b xs ys e f = ap (λ x. x ∷ xs) e ∙ ap (λ zs. b ∷ zs) f

none_changed : (f : Want → Want) (hash : Hash) (ws : List Want) → NoneFor hash ws → ws ≡ map (if_for f hash) ws
none_changed f hash [] n = refl
none_changed f hash (w ∷ ws) n = two w (if_for f hash w) ws (map (if_for f hash) ws) (not_for f hash w n.0) (none_changed f hash ws n.1)

none_without : (hash : Hash) (ws : List Want) → NoneFor hash ws → ws ≡ without hash ws
none_without hash [] n = refl
none_without hash (w ∷ ws) n = by_test (is_for hash w) n.0 (none_without hash ws n.1)
  where
    by_test : (b : Bool) → b ≡ false → ws ≡ without hash ws → w ∷ ws ≡ cond (not b) (w ∷ without hash ws) (without hash ws)
    by_test true e rest = absurd cc
    by_test false e rest = ap (λ vs. w ∷ vs) rest

none_missed : (hash : Hash) (ws : List Want) → NoneFor hash ws → missed_by (One hash) ws ≡ ws
none_missed hash [] n = refl
none_missed hash (w ∷ ws) n = by_test (is_for hash w) n.0 (none_missed hash ws n.1)
  where
    by_test : (b : Bool) → b ≡ false → missed_by (One hash) ws ≡ ws → map (count_miss (One hash)) (cond (not (b && nat_lt 10 w.misses)) (w ∷ filter (λ v. not (is_last (One hash) v)) ws) (filter (λ v. not (is_last (One hash) v)) ws)) ≡ w ∷ ws
    by_test true e rest = absurd cc
    by_test false e rest = two (count_miss (One hash) w) w _ ws (sym (not_for (λ v. record v { misses = v.misses + 1 }) hash w n.0)) rest

pub none_wanted : (hash : Hash) (ws : List Want) → is_wanted hash ws ≡ false → NoneFor hash ws
none_wanted hash [] e = tt
none_wanted hash (w ∷ ws) e = by_test (is_for hash w) refl e (none_wanted hash ws)
  where
    by_test : (b : Bool) → is_for hash w ≡ b → (b || is_wanted hash ws) ≡ false → (is_wanted hash ws ≡ false → NoneFor hash ws) → (is_for hash w ≡ false) × NoneFor hash ws
    by_test true k e rest = absurd cc
    by_test false k e rest = (k, rest e)

-- of a hash that isn't wanted
pub missed_none : (hash : Hash) (ws : List Want) → is_wanted hash ws ≡ false → missed_by (One hash) ws ≡ ws
missed_none hash ws e = none_missed hash ws (none_wanted hash ws e)

-- ---- the one want of a hash, first in a list of which it is the only one

abbrev OnlyHere : Hash → Want → List Want → Type 0
OnlyHere hash w ws = (is_for hash w ≡ true) × NoneFor hash ws

abbrev pub missed_more : Want → Want
missed_more w = record w { misses = w.misses + 1 }

first_last : (hash : Hash) (w : Want) (ws : List Want) → OnlyHere hash w ws → nat_lt 10 w.misses ≡ true → missed_by (One hash) (w ∷ ws) ≡ without hash (w ∷ ws)
first_last hash w ws o last = by_tests (is_for hash w) (nat_lt 10 w.misses) o.0 last
  where
    by_tests : (b l : Bool) → b ≡ true → l ≡ true → map (count_miss (One hash)) (cond (not (b && l)) (w ∷ filter (λ v. not (is_last (One hash) v)) ws) (filter (λ v. not (is_last (One hash) v)) ws)) ≡ cond (not b) (w ∷ without hash ws) (without hash ws)
    by_tests true true e f = none_missed hash ws o.1 ∙ none_without hash ws o.1
    by_tests true false e f = absurd cc
    by_tests false l e f = absurd cc

first_waits : (hash : Hash) (w : Want) (ws : List Want) → OnlyHere hash w ws → nat_lt 10 w.misses ≡ false → missed_by (One hash) (w ∷ ws) ≡ map (if_for missed_more hash) (w ∷ ws)
first_waits hash w ws o few = by_tests (is_for hash w) (nat_lt 10 w.misses) o.0 few
  where
    by_tests : (b l : Bool) → b ≡ true → l ≡ false → map (count_miss (One hash)) (cond (not (b && l)) (w ∷ filter (λ v. not (is_last (One hash) v)) ws) (filter (λ v. not (is_last (One hash) v)) ws)) ≡ map (if_for missed_more hash) (w ∷ ws)
    by_tests true false e f = two _ _ _ _ refl (none_missed hash ws o.1 ∙ none_changed missed_more hash ws o.1)
    by_tests true true e f = absurd cc
    by_tests false l e f = absurd cc

-- ---- in a table

-- after a key that is the hash there is no other want of it
none_behind : (hash : Hash) (key : List ℕ) (es : List WantEntry) → at hash key ≡ true → AllByRecursion IsUnderHash es → AllByRecursion (λ y. pointwise nat_eq key y ≡ false) (keys_of es) → NoneFor hash (wants_in es)
none_behind hash key [] e a d = tt
none_behind hash key (x ∷ es) e a d = (sym (key_is hash x a.0) ∙ ap (λ k. pointwise nat_eq k x.0) (same_bytes hash.0 key e) ∙ d.0, none_behind hash key es e a.1 d.1)

abbrev pub waiting_of : Want → List ConnId
waiting_of w = w.waiting

-- where the one want of the hash is, or that there is none
pub record Stands (hash : Hash) (es : List WantEntry) (r : Option Want) : Type 0 where
  pub wanted : is_some r ≡ is_wanted hash (wants_in es)
  pub listed : waiting_for hash (wants_in es) ≡ option_map_or waiting_of r []
  pub found : (P : Want → Bool) → list_any (λ w. is_for hash w && P w) (wants_in es) ≡ option_map_or P r false
  pub changed : (f : Want → Want) (new : Want) → IfSome r (λ old. new ≡ f old → wants_in (set_value (at hash) es new) ≡ map (if_for f hash) (wants_in es))
  pub under : (new : Want) → IfSome r (λ old. new.hash ≡ old.hash → AllByRecursion IsUnderHash (set_value (at hash) es new))
  pub mine : IfSome r (λ old. is_for hash old ≡ true)
  pub removed : wants_in (remove_entry (at hash) es) ≡ without hash (wants_in es)
  pub removed_under : AllByRecursion IsUnderHash (remove_entry (at hash) es)
  pub last : IfSome r (λ old. nat_lt 10 old.misses ≡ true → missed_by (One hash) (wants_in es) ≡ without hash (wants_in es))
  pub waits : IfSome r (λ old. nat_lt 10 old.misses ≡ false → missed_by (One hash) (wants_in es) ≡ map (if_for missed_more hash) (wants_in es))

or_false : (b : Bool) → (b || false) ≡ b
or_false true = refl
or_false false = refl

some_weaker : {X : Type 0} (P Q : X → Type 0) (r : Option X) → IfSome r P → ((x : X) → P x → Q x) → IfSome r Q
some_weaker P Q None h f = tt
some_weaker P Q (Some x) h f = f x h

here : (hash : Hash) (e : WantEntry) (es : List WantEntry) → at hash e.0 ≡ true → IsUnderHash e → AllByRecursion IsUnderHash es → NoneFor hash (wants_in es) → Stands hash (e ∷ es) (Some e.1)
here hash e es k u a none =
    let mine : is_for hash e.1 ≡ true = sym (key_is hash e u) ∙ k in
    record {
      wanted = rw mine refl;
      listed = rw mine refl;
      found = λ P. rw (mine, none_any P hash (wants_in es) none) (or_false (P e.1));
      changed = λ f new is. rw k (two new (if_for f hash e.1) (wants_in es) (map (if_for f hash) (wants_in es)) (is ∙ is_it f hash e.1 mine) (none_changed f hash (wants_in es) none));
      under = λ new same. rw k (u ∙ ap (λ (h : Hash). h.0) (sym same), a);
      mine = mine;
      removed = rw (k, mine) (none_without hash (wants_in es) none);
      removed_under = rw k a;
      last = λ l. first_last hash e.1 (wants_in es) (mine, none) l;
      waits = λ l. first_waits hash e.1 (wants_in es) (mine, none) l;
    }

missed_other : (hash : Hash) (w : Want) (ws : List Want) → is_for hash w ≡ false → missed_by (One hash) (w ∷ ws) ≡ w ∷ missed_by (One hash) ws
missed_other hash w ws o = by_test (is_for hash w) o
  where
    by_test : (b : Bool) → b ≡ false → map (count_miss (One hash)) (cond (not (b && nat_lt 10 w.misses)) (w ∷ filter (λ v. not (is_last (One hash) v)) ws) (filter (λ v. not (is_last (One hash) v)) ws)) ≡ w ∷ missed_by (One hash) ws
    by_test true e = absurd cc
    by_test false e = ap (λ v. v ∷ missed_by (One hash) ws) (sym (not_for (λ v. record v { misses = v.misses + 1 }) hash w o))

without_other : (hash : Hash) (w : Want) (ws : List Want) → is_for hash w ≡ false → without hash (w ∷ ws) ≡ w ∷ without hash ws
without_other hash w ws o = by_test (is_for hash w) o
  where
    by_test : (b : Bool) → b ≡ false → cond (not b) (w ∷ without hash ws) (without hash ws) ≡ w ∷ without hash ws
    by_test true e = absurd cc
    by_test false e = refl

there : (hash : Hash) (e : WantEntry) (es : List WantEntry) (r : Option Want) → at hash e.0 ≡ false → IsUnderHash e → Stands hash es r → Stands hash (e ∷ es) r
there hash e es r k u s =
    let other : is_for hash e.1 ≡ false = sym (key_is hash e u) ∙ k in
    record {
      wanted = rw other s.wanted;
      listed = rw other s.listed;
      found = λ P. rw other (s.found P);
      changed = λ f new. some_weaker _ _ r (s.changed f new) (λ old h is. rw k (two e.1 (if_for f hash e.1) _ _ (not_for f hash e.1 other) (h is)));
      under = λ new. some_weaker _ _ r (s.under new) (λ old h same. rw k (u, h same));
      mine = s.mine;
      removed = rw k (ap (λ ws. e.1 ∷ ws) s.removed ∙ sym (without_other hash e.1 (wants_in es) other));
      removed_under = rw k (u, s.removed_under);
      last = some_weaker _ _ r s.last (λ old h l. missed_other hash e.1 (wants_in es) other ∙ ap (λ ws. e.1 ∷ ws) (h l) ∙ sym (without_other hash e.1 (wants_in es) other));
      waits = some_weaker _ _ r s.waits (λ old h l. missed_other hash e.1 (wants_in es) other ∙ two e.1 (if_for missed_more hash e.1) _ _ (not_for missed_more hash e.1 other) (h l));
    }

pub stands_of : (hash : Hash) (es : List WantEntry) → AllByRecursion IsUnderHash es → IsDistinct (pointwise nat_eq) (keys_of es) → Stands hash es (lookup (at hash) es)
unfolding IsDistinct
stands_of hash [] a d = record { wanted = refl; listed = refl; found = λ P. refl; changed = λ f new. tt; under = λ new. tt; mine = tt; removed = refl; removed_under = tt; last = tt; waits = tt }
stands_of hash (e ∷ es) a d = by_test (at hash e.0) refl (stands_of hash es a.1 d.1)
  where
    by_test : (b : Bool) → at hash e.0 ≡ b → Stands hash es (lookup (at hash) es) → Stands hash (e ∷ es) (cond b (Some e.1) (lookup (at hash) es))
    by_test true k s = here hash e es k a.0 a.1 (none_behind hash e.0 es k a.1 d.0)
    by_test false k s = there hash e es (lookup (at hash) es) k a.0 s

-- ---- all are walked

module _ {F : Type 0} (T : F → List ℕ → Want → Bool → Want → F → Type 0) (test : Want → Bool) (f : Want → Want) (g : F)
    (says : (k : List ℕ) (v : Want) (b : Bool) (w : Want) (h : F) → T g k v b w h → (b ≡ test v) × (test v ≡ true → w ≡ f v) × (h ≡ g)) where
  pub walked_all : (es kept : List WantEntry) → RetainsPairs T g es kept → wants_in kept ≡ map f (filter test (wants_in es))
  walked_all [] kept h = ap wants_in h
  walked_all (e ∷ es) kept h =
      let s = says e.0 e.1 h.0 h.1 h.2 h.4 in
      let rest : wants_in h.3 ≡ map f (filter test (wants_in es)) = walked_all es h.3 (subst (λ g. RetainsPairs T g es h.3) s.2 h.5) in
      ap wants_in h.6 ∙ ap (λ b. wants_in (cond b ((e.0, h.1) ∷ h.3) h.3)) s.0 ∙ by_test (test e.1) refl s.1 rest
    where
      by_test : (b : Bool) → test e.1 ≡ b → (test e.1 ≡ true → h.1 ≡ f e.1) → wants_in h.3 ≡ map f (filter test (wants_in es)) → wants_in (cond b ((e.0, h.1) ∷ h.3) h.3) ≡ map f (cond b (e.1 ∷ filter test (wants_in es)) (filter test (wants_in es)))
      by_test true k w rest = two h.1 (f e.1) (wants_in h.3) _ (w k) rest
      by_test false k w rest = rest

  pub under_walked : ((w : Want) → (f w).hash ≡ w.hash) → (es kept : List WantEntry) → RetainsPairs T g es kept → AllByRecursion IsUnderHash es → AllByRecursion IsUnderHash kept
  under_walked same [] kept h a = rw h tt
  under_walked same (e ∷ es) kept h a =
      let s = says e.0 e.1 h.0 h.1 h.2 h.4 in
      let rest : AllByRecursion IsUnderHash h.3 = under_walked same es h.3 (subst (λ g. RetainsPairs T g es h.3) s.2 h.5) a.1 in
      subst (AllByRecursion IsUnderHash) (sym (h.6 ∙ ap (λ b. cond b ((e.0, h.1) ∷ h.3) h.3) s.0)) (by_test (test e.1) refl s.1 rest)
    where
      by_test : (b : Bool) → test e.1 ≡ b → (test e.1 ≡ true → h.1 ≡ f e.1) → AllByRecursion IsUnderHash h.3 → AllByRecursion IsUnderHash (cond b ((e.0, h.1) ∷ h.3) h.3)
      by_test true k w rest = (a.0 ∙ ap (λ (h : Hash). h.0) (sym (ap (λ (v : Want). v.hash) (w k) ∙ same e.1)), rest)
      by_test false k w rest = rest

pub kept_all : (ws : List Want) → filter (λ (w : Want). true) ws ≡ ws
kept_all [] = refl
kept_all (w ∷ ws) = ap (λ vs. w ∷ vs) (kept_all ws)

-- what holds holds of a refusal too
pub on_err-of : {A B : Type 0} (r : Result A B) (P : Type 0) → P → OnErr r P
on_err-of (Ok x) P p = tt
on_err-of (Err e) P p = p

-- a want that stays leaves all as it was
pub changed_none : (hash : Hash) (ws : List Want) → map (if_for (λ w. w) hash) ws ≡ ws
changed_none hash [] = refl
changed_none hash (w ∷ ws) = two _ w _ ws (one (is_for hash w)) (changed_none hash ws)
  where
    one : (b : Bool) → (if b then w else w) ≡ w
    one true = refl
    one false = refl

pub under_push : (es : List WantEntry) (e : WantEntry) → AllByRecursion IsUnderHash es → IsUnderHash e → AllByRecursion IsUnderHash (es ++ e ∷ [])
under_push [] e a u = (u, tt)
under_push (x ∷ es) e a u = (a.0, under_push es e a.1 u)

pub wants_push : (es : List WantEntry) (e : WantEntry) → wants_in (es ++ e ∷ []) ≡ wants_in es ++ e.1 ∷ []
wants_push [] e = refl
wants_push (x ∷ es) e = ap (λ ws. x.1 ∷ ws) (wants_push es e)

pub none_of : {X : Type 0} (r : Option X) → is_some r ≡ false → r ≡ None
none_of None e = refl
none_of (Some x) e = absurd cc

-- a hash that isn't wanted: whatever is changed of its want, nothing is
pub unchanged_none : (f : Want → Want) (hash : Hash) (es : List WantEntry) → AllByRecursion IsUnderHash es → IsDistinct (pointwise nat_eq) (keys_of es) → lookup (at hash) es ≡ None → wants_in es ≡ map (if_for f hash) (wants_in es)
unchanged_none f hash es a d e = none_changed f hash (wants_in es) (none_wanted hash (wants_in es) (sym (stands_of hash es a d).wanted ∙ ap is_some e))

some_same : {X : Type 0} (a b : X) → Some a ≡ Some b → a ≡ b
some_same a b e = cc

pub by_some : {X : Type 0} (P : X → Type 0) (r : Option X) (x : X) → Some x ≡ r → IfSome r P → P x
by_some P None x e h = absurd cc
by_some P (Some y) x e h = subst P (sym (some_same x y e)) h

-- the one want of a hash that this miss doesn't give up has fewer than eleven misses
pub few_by : (hash : Hash) (es : List WantEntry) (old : Want) → AllByRecursion IsUnderHash es → IsDistinct (pointwise nat_eq) (keys_of es) → Some old ≡ lookup (at hash) es → gives_up (One hash) (wants_in es) hash ≡ false → nat_lt 10 old.misses ≡ false
few_by hash es old a d there none =
    let s = stands_of hash es a d in
    let mine : is_for hash old ≡ true = by_some (λ w. is_for hash w ≡ true) (lookup (at hash) es) old there s.mine in
    let last : is_last (One hash) old ≡ false = ap (λ r. option_map_or (is_last (One hash)) r false) there ∙ sym (s.found (is_last (One hash))) ∙ none in
    sym (ap (λ b. b && nat_lt 10 old.misses) mine) ∙ last

pub one_more : (w : Want) (n : ℕ) → nat_lt 10 w.misses ≡ false → (w.misses < 255 → n ≡ w.misses + 1) → record w { misses = n } ≡ missed_more w
one_more w n few is = ap (λ (k : ℕ). with_misses k) (is (omega (arith, ltb-false 10 w.misses few)))
  where
    with_misses : ℕ → Want
    with_misses k = record w { misses = k }

pub last_by : (hash : Hash) (es : List WantEntry) → AllByRecursion IsUnderHash es → IsDistinct (pointwise nat_eq) (keys_of es) → gives_up (One hash) (wants_in es) hash ≡ true → missed_by (One hash) (wants_in es) ≡ without hash (wants_in es)
last_by hash es a d up = (let s = stands_of hash es a d in by_found (lookup (at hash) es) s.last s.mine (sym (s.found (is_last (One hash))) ∙ up))
  where
    by_found : (r : Option Want) → IfSome r (λ old. nat_lt 10 old.misses ≡ true → missed_by (One hash) (wants_in es) ≡ without hash (wants_in es)) → IfSome r (λ old. is_for hash old ≡ true) → option_map_or (is_last (One hash)) r false ≡ true → missed_by (One hash) (wants_in es) ≡ without hash (wants_in es)
    by_found None h m e = absurd cc
    by_found (Some old) h m e = h (sym (ap (λ b. b && nat_lt 10 old.misses) m) ∙ e)

pub unwanted_is : (hash : Hash) (ws : List Want) → is_wanted hash ws ≡ false → Unwanted ≡ miss_of hash ws
unwanted_is hash ws e = by_tests (gives_up (One hash) ws hash) (is_wanted hash ws) (none_any (is_last (One hash)) hash ws (none_wanted hash ws e)) e
  where
    by_tests : (g w : Bool) → g ≡ false → w ≡ false → Unwanted ≡ (if g then GaveUp else (if w then Waiting else Unwanted))
    by_tests false false p q = refl
    by_tests true w p q = absurd cc
    by_tests false true p q = absurd cc
