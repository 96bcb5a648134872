-- The wants: what a change keeps of them.
use Rattle.std.proofs.Common.{◌≡◌, ℕ, ◌+◌, ◌<◌, ◌≤◌, Bool, true, false, cond, not, List, [], ◌∷◌, ◌++◌, refl, sym, ◌∙◌, ap, arith, map, inl, inr}
use Rattle.std.specs.Prelude.{◌&&◌, ◌||◌, nat_lt, filter, slice_set}
use Rattle.std.specs.List.{list_any, AllByRecursion}
use Rattle.std.proofs.lemmas.Bool.{ltb-false}
use Rattle.scp_wire.specs.scp_types.specs.declared.names.ConnId.{ConnId}
use Rattle.scp_wire.specs.scp_types.specs.declared.names.Hash.{Hash}
use Rattle.scp_fetch.specs.declared.want.Want.{Want}
use Rattle.scp_fetch.specs.declared.want.Miss.{Miss}
use Rattle.scp_fetch.specs.Hashes.{same_hash}
use Rattle.scp_fetch.specs.Wants.{is_for, is_wanted, joined, ask, new_want, wanted_by, without, is_missed, is_last, count_miss, missed_by, gives_up}
use Rattle.scp_pending.specs.Causes.{plus}
use Rattle.scp_pending.proofs.Basics.{clash, or_none, if_any, or_left, or_right, same_hash-refl, same_hash-true, all_step, all_append, all_filter}

pub wanted-map : (f : Want → Want) → ((w : Want) → (f w).hash ≡ w.hash) → (hash : Hash) (ws : List Want) → is_wanted hash (map f ws) ≡ is_wanted hash ws
wanted-map f same hash [] = refl
wanted-map f same hash (w ∷ ws) = rw (same w, wanted-map f same hash ws) refl

pub ask-hash : (hash : Hash) (link : ℕ) (c : ConnId) (w : Want) → (ask hash link c w).hash ≡ w.hash
ask-hash hash link c w = by_test (is_for hash w)
  where
    by_test : (b : Bool) → (cond b (record w { asked = slice_set w.asked link true; waiting = joined c w.waiting }) w).hash ≡ w.hash
    by_test true = refl
    by_test false = refl

pub ask-misses : (hash : Hash) (link : ℕ) (c : ConnId) (w : Want) → (ask hash link c w).misses ≡ w.misses
ask-misses hash link c w = by_test (is_for hash w)
  where
    by_test : (b : Bool) → (cond b (record w { asked = slice_set w.asked link true; waiting = joined c w.waiting }) w).misses ≡ w.misses
    by_test true = refl
    by_test false = refl

pub count-hash : (miss : Miss) (w : Want) → (count_miss miss w).hash ≡ w.hash
count-hash miss w = by_test (is_missed miss w.hash)
  where
    by_test : (b : Bool) → (cond b (record w { misses = w.misses + 1 }) w).hash ≡ w.hash
    by_test true = refl
    by_test false = refl

pub count-misses : (miss : Miss) (w : Want) → (count_miss miss w).misses ≡ plus w.misses (is_missed miss w.hash)
count-misses miss w = by_test (is_missed miss w.hash)
  where
    by_test : (b : Bool) → (cond b (record w { misses = w.misses + 1 }) w).misses ≡ plus w.misses b
    by_test true = refl
    by_test false = refl

any-push : (hash : Hash) (ws : List Want) (w : Want) → is_wanted hash ws ≡ true → is_wanted hash (ws ++ w ∷ []) ≡ true
any-push hash [] w e = absurd cc
any-push hash (v ∷ vs) w e = elim (if_any (is_for hash v) (is_wanted hash vs) e) as (λ _. (is_for hash v || is_wanted hash (vs ++ w ∷ [])) ≡ true) [ inl l ↦ or_left (is_for hash v) (is_wanted hash (vs ++ w ∷ [])) l | inr r ↦ or_right (is_for hash v) (is_wanted hash (vs ++ w ∷ [])) (any-push hash vs w r) ]

any-last : (hash : Hash) (ws : List Want) (w : Want) → is_for hash w ≡ true → is_wanted hash (ws ++ w ∷ []) ≡ true
any-last hash [] w e = or_left (is_for hash w) false e
any-last hash (v ∷ vs) w e = or_right (is_for hash v) (is_wanted hash (vs ++ w ∷ [])) (any-last hash vs w e)

pub wanted_by-other : (hash other : Hash) (link : ℕ) (c : ConnId) (ws : List Want) → is_wanted hash ws ≡ true → is_wanted hash (wanted_by other link c ws) ≡ true
wanted_by-other hash other link c ws e = by_test (is_wanted other ws)
  where
    by_test : (b : Bool) → is_wanted hash (cond b (map (ask other link c) ws) (ws ++ new_want other link c ∷ [])) ≡ true
    by_test true = wanted-map (ask other link c) (ask-hash other link c) hash ws ∙ e
    by_test false = any-push hash ws (new_want other link c) e

pub wanted_by-own : (hash : Hash) (link : ℕ) (c : ConnId) (ws : List Want) → is_wanted hash (wanted_by hash link c ws) ≡ true
wanted_by-own hash link c ws = by_test (is_wanted hash ws) refl
  where
    by_test : (b : Bool) → is_wanted hash ws ≡ b → is_wanted hash (cond b (map (ask hash link c) ws) (ws ++ new_want hash link c ∷ [])) ≡ true
    by_test true e = wanted-map (ask hash link c) (ask-hash hash link c) hash ws ∙ e
    by_test false e = any-last hash ws (new_want hash link c) (same_hash-refl hash)

-- if all wants of this hash are kept, by what is known of each, it is still wanted
pub wanted-filter_of : (P : Want → Type 0) (keep : Want → Bool) (hash : Hash) (ws : List Want) → ((w : Want) → P w → is_for hash w ≡ true → keep w ≡ true) → AllByRecursion P ws → is_wanted hash ws ≡ true → is_wanted hash (filter keep ws) ≡ true
wanted-filter_of P keep hash [] k a e = e
wanted-filter_of P keep hash (w ∷ ws) k a e = by_test (keep w) refl (wanted-filter_of P keep hash ws k a.1)
  where
    by_test : (b : Bool) → keep w ≡ b → (is_wanted hash ws ≡ true → is_wanted hash (filter keep ws) ≡ true) → is_wanted hash (cond b (w ∷ filter keep ws) (filter keep ws)) ≡ true
    by_test true kept rest = elim (if_any (is_for hash w) (is_wanted hash ws) e) as (λ _. (is_for hash w || is_wanted hash (filter keep ws)) ≡ true) [ inl l ↦ or_left (is_for hash w) (is_wanted hash (filter keep ws)) l | inr r ↦ or_right (is_for hash w) (is_wanted hash (filter keep ws)) (rest r) ]
    by_test false gone rest = elim (if_any (is_for hash w) (is_wanted hash ws) e) as (λ _. is_wanted hash (filter keep ws) ≡ true) [ inl l ↦ clash (keep w) (k w a.0 l) gone | inr r ↦ rest r ]

-- if all wants of this hash are kept, it is still wanted
pub wanted-filter : (keep : Want → Bool) (hash : Hash) (ws : List Want) → ((w : Want) → is_for hash w ≡ true → keep w ≡ true) → is_wanted hash ws ≡ true → is_wanted hash (filter keep ws) ≡ true
wanted-filter keep hash [] k e = e
wanted-filter keep hash (w ∷ ws) k e = by_test (keep w) refl (wanted-filter keep hash ws k)
  where
    by_test : (b : Bool) → keep w ≡ b → (is_wanted hash ws ≡ true → is_wanted hash (filter keep ws) ≡ true) → is_wanted hash (cond b (w ∷ filter keep ws) (filter keep ws)) ≡ true
    by_test true kept rest = elim (if_any (is_for hash w) (is_wanted hash ws) e) as (λ _. (is_for hash w || is_wanted hash (filter keep ws)) ≡ true) [ inl l ↦ or_left (is_for hash w) (is_wanted hash (filter keep ws)) l | inr r ↦ or_right (is_for hash w) (is_wanted hash (filter keep ws)) (rest r) ]
    by_test false gone rest = elim (if_any (is_for hash w) (is_wanted hash ws) e) as (λ _. is_wanted hash (filter keep ws) ≡ true) [ inl l ↦ clash (keep w) (k w l) gone | inr r ↦ rest r ]

pub is_for-true : (hash : Hash) (w : Want) → is_for hash w ≡ true → hash ≡ w.hash
is_for-true hash w e = same_hash-true hash w.hash e

pub wanted-without : (hash gone : Hash) (ws : List Want) → same_hash gone hash ≡ false → is_wanted hash ws ≡ true → is_wanted hash (without gone ws) ≡ true
wanted-without hash gone ws ne e = wanted-filter (λ w. not (is_for gone w)) hash ws (λ w f. kept w (is_for-true hash w f)) e
  where
    kept : (w : Want) → hash ≡ w.hash → not (is_for gone w) ≡ true
    kept w same = rw (← same, ne) refl

and_true : (a b : Bool) → a ≡ true → b ≡ true → (a && b) ≡ true
and_true true b p q = q
and_true false b p q = absurd cc

pub wanted-missed : (miss : Miss) (hash : Hash) (ws : List Want) → gives_up miss ws hash ≡ false → is_wanted hash ws ≡ true → is_wanted hash (missed_by miss ws) ≡ true
wanted-missed miss hash ws none e = wanted-map (count_miss miss) (count-hash miss) hash (filter (λ w. not (is_last miss w)) ws) ∙ kept ws none e
  where
    kept : (vs : List Want) → gives_up miss vs hash ≡ false → is_wanted hash vs ≡ true → is_wanted hash (filter (λ w. not (is_last miss w)) vs) ≡ true
    kept [] n w = w
    kept (v ∷ vs) n w = by_test (is_last miss v) refl (or_none (is_for hash v && is_last miss v) (gives_up miss vs hash) n) (kept vs)
      where
        by_test : (b : Bool) → is_last miss v ≡ b → ((is_for hash v && is_last miss v) ≡ false) × (gives_up miss vs hash ≡ false) → (gives_up miss vs hash ≡ false → is_wanted hash vs ≡ true → is_wanted hash (filter (λ w. not (is_last miss w)) vs) ≡ true) → is_wanted hash (cond (not b) (v ∷ filter (λ w. not (is_last miss w)) vs) (filter (λ w. not (is_last miss w)) vs)) ≡ true
        by_test true last both rest = elim (if_any (is_for hash v) (is_wanted hash vs) w) as (λ _. is_wanted hash (filter (λ w. not (is_last miss w)) vs) ≡ true) [ inl l ↦ clash (is_for hash v && is_last miss v) (and_true (is_for hash v) (is_last miss v) l last) both.0 | inr r ↦ rest both.1 r ]
        by_test false last both rest = elim (if_any (is_for hash v) (is_wanted hash vs) w) as (λ _. (is_for hash v || is_wanted hash (filter (λ w. not (is_last miss w)) vs)) ≡ true) [ inl l ↦ or_left (is_for hash v) (is_wanted hash (filter (λ w. not (is_last miss w)) vs)) l | inr r ↦ or_right (is_for hash v) (is_wanted hash (filter (λ w. not (is_last miss w)) vs)) (rest both.1 r) ]

-- ---- at least so many misses

-- each want of this hash has at least so many
abbrev pub AtLeast : ℕ → Hash → List Want → Type 0
AtLeast n hash wanted = AllByRecursion (λ (want : Want). want.hash ≡ hash → n ≤ want.misses) wanted

pub zero_least : (hash : Hash) (ws : List Want) → AtLeast 0 hash ws
zero_least hash [] = tt
zero_least hash (w ∷ ws) = (λ e. omega arith, zero_least hash ws)

pub least-map : (f : Want → Want) → ((w : Want) → (f w).hash ≡ w.hash) → ((w : Want) → (f w).misses ≡ w.misses) → (n : ℕ) (hash : Hash) (ws : List Want) → AtLeast n hash ws → AtLeast n hash (map f ws)
least-map f same count n hash ws a = all_step _ (λ (w : Want). w.hash ≡ hash → n ≤ w.misses) f ws (λ w h e. rw (count w) (h (sym (same w) ∙ e))) a

pub least-wanted_by : (other : Hash) (link : ℕ) (c : ConnId) (n : ℕ) (hash : Hash) (ws : List Want) → is_wanted hash ws ≡ true → AtLeast n hash ws → AtLeast n hash (wanted_by other link c ws)
least-wanted_by other link c n hash ws is a = by_test (is_wanted other ws) refl
  where
    by_test : (b : Bool) → is_wanted other ws ≡ b → AtLeast n hash (cond b (map (ask other link c) ws) (ws ++ new_want other link c ∷ []))
    by_test true w = least-map (ask other link c) (ask-hash other link c) (ask-misses other link c) n hash ws a
    by_test false w = all_append (λ (want : Want). want.hash ≡ hash → n ≤ want.misses) ws (new_want other link c ∷ []) a (λ e. clash (is_wanted hash ws) is (ap (λ h. is_wanted h ws) (sym e) ∙ w), tt)

plus_le : (a b : ℕ) (c : Bool) → a ≤ b → plus a c ≤ plus b c
plus_le a b true h = omega (arith, h)
plus_le a b false h = h

pub least-missed : (miss : Miss) (n : ℕ) (hash : Hash) (b : Bool) (ws : List Want) → is_missed miss hash ≡ b → AtLeast n hash ws → AtLeast (plus n b) hash (missed_by miss ws)
least-missed miss n hash b ws e a = all_step (λ (w : Want). w.hash ≡ hash → n ≤ w.misses) (λ (w : Want). w.hash ≡ hash → plus n b ≤ w.misses) (count_miss miss) (filter (λ w. not (is_last miss w)) ws) one (all_filter (λ (w : Want). w.hash ≡ hash → n ≤ w.misses) (λ w. not (is_last miss w)) ws a)
  where
    one : (w : Want) → (w.hash ≡ hash → n ≤ w.misses) → (count_miss miss w).hash ≡ hash → plus n b ≤ (count_miss miss w).misses
    one w h q = (let same : w.hash ≡ hash = sym (count-hash miss w) ∙ q in rw (count-misses miss w, same, e) (plus_le n w.misses b (h same)))

pub few_of : (n : ℕ) (hash : Hash) (ws : List Want) → is_wanted hash ws ≡ true → AllByRecursion (λ (w : Want). w.misses < 12) ws → AtLeast n hash ws → n < 12
few_of n hash [] is a l = absurd cc
few_of n hash (w ∷ ws) is a l = elim (if_any (is_for hash w) (is_wanted hash ws) is) as (λ _. n < 12) [ inl q ↦ (let h : n ≤ w.misses = l.0 (sym (is_for-true hash w q)) in let k : w.misses < 12 = a.0 in omega (arith, h, k)) | inr r ↦ few_of n hash ws r a.1 l.1 ]

pub none_wanted : (hash : Hash) (ws : List Want) → is_wanted hash ws ≡ false → AllByRecursion (λ (w : Want). is_for hash w ≡ false) ws
none_wanted hash [] e = tt
none_wanted hash (w ∷ ws) e = let both = or_none (is_for hash w) (is_wanted hash ws) e in (both.0, none_wanted hash ws both.1)

pub few_missed : (n : ℕ) (b last : Bool) → nat_lt 10 n ≡ last → (b && last) ≡ false → n < 12 → plus n b < 12
few_missed n true true e f h = absurd cc
few_missed n true false e f h = omega (arith, ltb-false 10 n e)
few_missed n false last e f h = h

-- one that the test picks
pub one_of : {X : Type 0} (P : X → Type 0) (test : X → Bool) (xs : List X) → AllByRecursion P xs → list_any test xs ≡ true → (x : X) × P x × (test x ≡ true)
one_of P test [] a e = absurd cc
one_of P test (x ∷ xs) a e = elim (if_any (test x) (list_any test xs) e) as (λ _. (y : _) × P y × (test y ≡ true)) [ inl l ↦ (x, a.0, l) | inr r ↦ one_of P test xs a.1 r ]
