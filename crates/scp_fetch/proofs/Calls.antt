-- A link counts as asked by the calls.
use Rattle.std.proofs.Common.{◌≡◌, ℕ, ◌+◌, ◌<◌, Bool, true, false, cond, not, List, [], ◌∷◌, ◌++◌, length, map, refl, sym, ◌∙◌, ap, subst, arith, nat_eq, get_or, set, inl, inr, ◌⊎◌, zero, suc}
use Rattle.std.specs.Prelude.{◌&&◌, ◌||◌, filter, fold, replicate}
use Rattle.std.specs.List.{list_any, AllByRecursion}
use Rattle.std.specs.Cmp.Lexicographic.{same_text}
use Rattle.std.proofs.lemmas.Bool.{eqb-true, eqb-false}
use Rattle.std.proofs.lemmas.Cmp.{nat_list_eq_equiv}
use Rattle.std.proofs.lemmas.Grind.{get_or-set_at}
use Rattle.std.proofs.lemmas.List.{get_or-set_other, length-set, length-replicate}
use Rattle.scp_quorum.specs.scp_types.specs.declared.names.ConnId.{ConnId}
use Rattle.scp_quorum.specs.scp_types.specs.declared.names.Hash.{Hash}
use Rattle.scp_quorum.specs.scp_types.specs.declared.limits.TheConstants.{LINK_LIMIT}
use Rattle.scp_fetch.specs.declared.want.Want.{Want}
use Rattle.scp_fetch.specs.declared.want.Miss.{Miss}
use Rattle.scp_fetch.specs.Hashes.{same_hash}
use Rattle.scp_fetch.specs.Wants.{is_for, is_wanted, is_asked, joined, ask, new_want, wanted_by, unask, unasked, waits_besides, leave, is_missed, is_last, count_miss}
use Rattle.scp_fetch.specs.Calls.{Call, wants, opens, ends, misses, answers, made, wanted_after, StaysWanted, opens_not, WasAsked, AskedByTheCalls}

-- ---- tests and lists

true_isnt : true ≡ false → ⊥
true_isnt e = cc

and_both : (a b : Bool) → (a && b) ≡ true → (a ≡ true) × (b ≡ true)
and_both true true e = (refl, refl)
and_both true false e = absurd cc
and_both false b e = absurd cc

or_either : (a b : Bool) → (a || b) ≡ true → (a ≡ true) ⊎ (b ≡ true)
or_either true b e = inl refl
or_either false b e = inr e

or_left : (a b : Bool) → a ≡ true → (a || b) ≡ true
or_left true b e = refl
or_left false b e = absurd cc

or_right : (a b : Bool) → b ≡ true → (a || b) ≡ true
or_right true b e = refl
or_right false b e = e

same_hash-is : (a b : Hash) → same_hash a b ≡ true → a ≡ b
same_hash-is a b e = ap (λ (bytes : List ℕ). (let x : Hash = record { 0 = bytes } in x)) (same_text a.0 b.0 (sym e))

same_hash-refl : (h : Hash) → same_hash h h ≡ true
same_hash-refl h = nat_list_eq_equiv.refl h.0

-- one of which the test holds, among changed ones: the change of one of which another holds, or a reason
any_map : {X : Type 0} (p q : X → Bool) (A : Type 0) (f : X → X) (xs : List X) → ((x : X) → p (f x) ≡ true → (q x ≡ true) ⊎ A) → list_any p (map f xs) ≡ true → (list_any q xs ≡ true) ⊎ A
any_map p q A f [] h e = absurd (true_isnt (sym e))
any_map p q A f (x ∷ xs) h e = elim (or_either (p (f x)) (list_any p (map f xs)) e) [
  | inl here ↦ elim (h x here) [ inl k ↦ inl (or_left (q x) (list_any q xs) k) | inr a ↦ inr a ]
  | inr later ↦ elim (any_map p q A f xs h later) [ inl k ↦ inl (or_right (q x) (list_any q xs) k) | inr a ↦ inr a ]
]

any_filter : {X : Type 0} (p keep : X → Bool) (xs : List X) → list_any p (filter keep xs) ≡ true → list_any p xs ≡ true
any_filter p keep [] e = e
any_filter p keep (x ∷ xs) e = by_test (keep x) (λ k. any_filter p keep xs k) e
  where
    by_test : (b : Bool) → (list_any p (filter keep xs) ≡ true → list_any p xs ≡ true) → list_any p (cond b (x ∷ filter keep xs) (filter keep xs)) ≡ true → (p x || list_any p xs) ≡ true
    by_test true rest e = elim (or_either (p x) (list_any p (filter keep xs)) e) [ inl here ↦ or_left (p x) (list_any p xs) here | inr later ↦ or_right (p x) (list_any p xs) (rest later) ]
    by_test false rest e = or_right (p x) (list_any p xs) (rest e)

any_append : {X : Type 0} (p : X → Bool) (xs : List X) (y : X) → list_any p (xs ++ y ∷ []) ≡ true → (list_any p xs ≡ true) ⊎ (p y ≡ true)
any_append p [] y e = elim (or_either (p y) false e) [ inl here ↦ inr here | inr never ↦ absurd (true_isnt (sym never)) ]
any_append p (x ∷ xs) y e = elim (or_either (p x) (list_any p (xs ++ y ∷ [])) e) [
  | inl here ↦ inl (or_left (p x) (list_any p xs) here)
  | inr later ↦ elim (any_append p xs y later) [ inl k ↦ inl (or_right (p x) (list_any p xs) k) | inr k ↦ inr k ]
]

any_same : {X : Type 0} (p q : X → Bool) (f : X → X) (xs : List X) → ((x : X) → q x ≡ true → p (f x) ≡ true) → list_any q xs ≡ true → list_any p (map f xs) ≡ true
any_same p q f [] h e = absurd (true_isnt (sym e))
any_same p q f (x ∷ xs) h e = elim (or_either (q x) (list_any q xs) e) [
  | inl here ↦ or_left (p (f x)) (list_any p (map f xs)) (h x here)
  | inr later ↦ or_right (p (f x)) (list_any p (map f xs)) (any_same p q f xs h later)
]

-- ---- a want that is asked

-- the link counts as asked in the want
abbrev bit : ℕ → Want → Bool
bit link want = get_or want.asked link false

abbrev has_bit : Hash → ℕ → Want → Bool
has_bit hash link want = is_for hash want && bit link want

asked_wanted : (hash : Hash) (link : ℕ) (ws : List Want) → is_asked hash link ws ≡ true → is_wanted hash ws ≡ true
asked_wanted hash link [] e = absurd (true_isnt (sym e))
asked_wanted hash link (w ∷ ws) e = elim (or_either (has_bit hash link w) (is_asked hash link ws) e) [
  | inl here ↦ or_left (is_for hash w) (is_wanted hash ws) (and_both (is_for hash w) (bit link w) here).0
  | inr later ↦ or_right (is_for hash w) (is_wanted hash ws) (asked_wanted hash link ws later)
]

-- a place that was set to false is false, whether it is there or not
set_false : (xs : List Bool) (l : ℕ) → get_or (set xs l false) l false ≡ false
set_false [] l = refl
set_false (x ∷ xs) zero = refl
set_false (x ∷ xs) (suc l) = set_false xs l

none_set : (n l : ℕ) → get_or (replicate n false) l false ≡ false
none_set zero l = refl
none_set (suc n) zero = refl
none_set (suc n) (suc l) = none_set n l

-- ---- the last call: where a link counts as asked, it did before, and the call didn't open it; or it was asked now

-- this is the call that asks
abbrev Asks : Hash → ℕ → Call → Type 0
Asks hash link call = (c : ConnId) × (call ≡ wants hash link c)

abbrev Before : Hash → ℕ → List Want → Call → Type 0
Before hash link ws call = (Asks hash link call) ⊎ ((is_asked hash link ws ≡ true) × (opens_not link call ≡ true))

same_call : (hash other : Hash) (link l : ℕ) (c : ConnId) → hash ≡ other → l ≡ link → Asks hash link (wants other l c)
same_call hash other link l c e f = (c, ap (λ (h : Hash). wants h l c) (sym e) ∙ ap (λ (n : ℕ). wants hash n c) f)

asks_one : (hash other : Hash) (link l : ℕ) (c : ConnId) (w : Want) → has_bit hash link (ask other l c w) ≡ true → (has_bit hash link w ≡ true) ⊎ Asks hash link (wants other l c)
asks_one hash other link l c w e = by_test (is_for other w) refl e
  where
    by_link : (t : Bool) → nat_eq link l ≡ t → is_for other w ≡ true → (is_for hash w && get_or (set w.asked l true) link false) ≡ true → (has_bit hash link w ≡ true) ⊎ Asks hash link (wants other l c)
    by_link true k for e = inr (same_call hash other link l c (same_hash-is hash w.hash (and_both (is_for hash w) (get_or (set w.asked l true) link false) e).0 ∙ sym (same_hash-is other w.hash for)) (sym (eqb-true link l k)))
    by_link false k for e = inl (subst (λ (b : Bool). (is_for hash w && b) ≡ true) (get_or-set_other w.asked l link true false (eqb-false link l k)) e)

    by_test : (b : Bool) → is_for other w ≡ b → has_bit hash link (cond b (record w { asked = set w.asked l true; waiting = joined c w.waiting }) w) ≡ true → (has_bit hash link w ≡ true) ⊎ Asks hash link (wants other l c)
    by_test true for e = by_link (nat_eq link l) refl for e
    by_test false for e = inl e

new_one : (hash other : Hash) (link l : ℕ) (c : ConnId) → has_bit hash link (new_want other l c) ≡ true → Asks hash link (wants other l c)
new_one hash other link l c e = by_link (nat_eq link l) refl
  where
    both : (is_for hash (new_want other l c) ≡ true) × (bit link (new_want other l c) ≡ true)
    both = and_both (is_for hash (new_want other l c)) (bit link (new_want other l c)) e

    by_link : (t : Bool) → nat_eq link l ≡ t → Asks hash link (wants other l c)
    by_link true k = same_call hash other link l c (same_hash-is hash other both.0) (sym (eqb-true link l k))
    by_link false k = absurd (true_isnt (sym both.1 ∙ get_or-set_other (replicate LINK_LIMIT false) l link true false (eqb-false link l k) ∙ none_set LINK_LIMIT link))

step_wants : (hash other : Hash) (link l : ℕ) (c : ConnId) (ws : List Want) → is_asked hash link (wanted_by other l c ws) ≡ true → Before hash link ws (wants other l c)
step_wants hash other link l c ws e = by_test (is_wanted other ws) e
  where
    by_test : (b : Bool) → is_asked hash link (cond b (map (ask other l c) ws) (ws ++ new_want other l c ∷ [])) ≡ true → Before hash link ws (wants other l c)
    by_test true e = elim (any_map (has_bit hash link) (has_bit hash link) (Asks hash link (wants other l c)) (ask other l c) ws (λ w k. asks_one hash other link l c w k) e) [ inl k ↦ inr (k, refl) | inr a ↦ inl a ]
    by_test false e = elim (any_append (has_bit hash link) ws (new_want other l c) e) [ inl k ↦ inr (k, refl) | inr k ↦ inl (new_one hash other link l c k) ]

unasks_one : (hash : Hash) (link l : ℕ) (w : Want) → has_bit hash link (unask l w) ≡ true → (has_bit hash link w ≡ true) × (not (nat_eq l link) ≡ true)
unasks_one hash link l w e = by_link (nat_eq l link) refl
  where
    both : (is_for hash w ≡ true) × (get_or (set w.asked l false) link false ≡ true)
    both = and_both (is_for hash w) (get_or (set w.asked l false) link false) e

    by_link : (t : Bool) → nat_eq l link ≡ t → (has_bit hash link w ≡ true) × (not t ≡ true)
    by_link true k = absurd (true_isnt (sym both.1 ∙ subst (λ (n : ℕ). get_or (set w.asked n false) link false ≡ false) (sym (eqb-true l link k)) (set_false w.asked link)))
    by_link false k = (subst (λ (b : Bool). (is_for hash w && b) ≡ true) (get_or-set_other w.asked l link false false (λ same. eqb-false l link k (sym same))) e, refl)

step_opens : (hash : Hash) (link l : ℕ) (ws : List Want) → is_asked hash link (unasked l ws) ≡ true → Before hash link ws (opens l)
step_opens hash link l [] e = absurd (true_isnt (sym e))
step_opens hash link l (w ∷ ws) e = elim (or_either (has_bit hash link (unask l w)) (is_asked hash link (unasked l ws)) e) [
  | inl here ↦ (let k = unasks_one hash link l w here in inr (or_left (has_bit hash link w) (is_asked hash link ws) k.0, k.1))
  | inr later ↦ elim (step_opens hash link l ws later) [ inl a ↦ inl a | inr k ↦ inr (or_right (has_bit hash link w) (is_asked hash link ws) k.0, k.1) ]
]

counts_one : (hash : Hash) (link : ℕ) (miss : Miss) (w : Want) → has_bit hash link (count_miss miss w) ≡ has_bit hash link w
counts_one hash link miss w = by_test (is_missed miss w.hash)
  where
    by_test : (b : Bool) → has_bit hash link (cond b (record w { misses = w.misses + 1 }) w) ≡ has_bit hash link w
    by_test true = refl
    by_test false = refl

step : (hash : Hash) (link : ℕ) (ws : List Want) (call : Call) → is_asked hash link (made ws call) ≡ true → Before hash link ws call
step hash link ws (wants other l c) e = step_wants hash other link l c ws e
step hash link ws (opens l) e = step_opens hash link l ws e
step hash link ws (ends c) e = elim (any_map (has_bit hash link) (has_bit hash link) ⊥ (leave c) (filter (waits_besides c) ws) (λ w k. inl k) e) [ inl k ↦ inr (any_filter (has_bit hash link) (waits_besides c) ws k, refl) | inr never ↦ absurd never ]
step hash link ws (misses miss) e = elim (any_map (has_bit hash link) (has_bit hash link) ⊥ (count_miss miss) (filter (λ want. not (is_last miss want)) ws) (λ w k. inl (sym (counts_one hash link miss w) ∙ k)) e) [ inl k ↦ inr (any_filter (has_bit hash link) (λ want. not (is_last miss want)) ws k, refl) | inr never ↦ absurd never ]
step hash link ws (answers other) e = inr (any_filter (has_bit hash link) (λ want. not (is_for other want)) ws e, refl)

-- ---- along the calls, from the last back

-- it was asked in one of the calls, or before them all, and stayed so
abbrev Since : Hash → ℕ → List Want → List Call → Type 0
Since hash link ws calls = (is_asked hash link ws ≡ true) × (StaysWanted hash ws calls × AllByRecursion (λ call. opens_not link call ≡ true) calls)

later : (hash : Hash) (link : ℕ) (ws : List Want) (call : Call) (calls : List Call) → WasAsked hash link (made ws call) calls → WasAsked hash link ws (call ∷ calls)
later hash link ws call calls w = record { before = call ∷ w.before; conn = w.conn; rest = w.rest; at = ap (λ cs. call ∷ cs) w.at; wanted = w.wanted; shut = w.shut }

since_one : (hash : Hash) (link : ℕ) (ws : List Want) (call : Call) (calls : List Call) → Since hash link (made ws call) calls → WasAsked hash link ws (call ∷ calls) ⊎ Since hash link ws (call ∷ calls)
since_one hash link ws call calls s = elim (step hash link ws call s.0) [
  | inl a ↦ inl (record {
    before = [];
    conn = a.0;
    rest = calls;
    at = ap (λ (k : Call). k ∷ calls) a.1;
    wanted = subst (λ (k : Call). StaysWanted hash (made ws k) calls) a.1 s.1.0;
    shut = s.1.1;
  })
  | inr k ↦ inr (k.0, ((asked_wanted hash link ws k.0, s.1.0), (k.1, s.1.1)))
]

back : (hash : Hash) (link : ℕ) (ws : List Want) (calls : List Call) → is_asked hash link (fold made ws calls) ≡ true → WasAsked hash link ws calls ⊎ Since hash link ws calls
back hash link ws [] e = inr (e, (asked_wanted hash link ws e, tt))
back hash link ws (call ∷ calls) e = elim (back hash link (made ws call) calls e) [
  | inl w ↦ inl (later hash link ws call calls w)
  | inr s ↦ since_one hash link ws call calls s
]

asked_was : (calls : List Call) (hash : Hash) (link : ℕ) → is_asked hash link (wanted_after calls) ≡ true → WasAsked hash link [] calls
asked_was calls hash link e = elim (back hash link [] calls e) [ inl w ↦ w | inr s ↦ absurd (true_isnt (sym s.0)) ]

-- ---- along the calls, from the first on

-- each want has a place for each link
abbrev AreWide : List Want → Type 0
AreWide ws = AllByRecursion (λ (w : Want). length w.asked ≡ LINK_LIMIT) ws

-- each want of the hash has the link asked
abbrev AreAsked : Hash → ℕ → List Want → Type 0
AreAsked hash link ws = AllByRecursion (λ (w : Want). is_for hash w ≡ true → bit link w ≡ true) ws

all_map : {X : Type 0} (P : X → Type 0) (f : X → X) (xs : List X) → ((x : X) → P x → P (f x)) → AllByRecursion P xs → AllByRecursion P (map f xs)
all_map P f [] h a = tt
all_map P f (x ∷ xs) h a = (h x a.0, all_map P f xs h a.1)

all_filter : {X : Type 0} (P : X → Type 0) (keep : X → Bool) (xs : List X) → AllByRecursion P xs → AllByRecursion P (filter keep xs)
all_filter P keep [] a = tt
all_filter P keep (x ∷ xs) a = by_test (keep x) (all_filter P keep xs a.1)
  where
    by_test : (b : Bool) → AllByRecursion P (filter keep xs) → AllByRecursion P (cond b (x ∷ filter keep xs) (filter keep xs))
    by_test true rest = (a.0, rest)
    by_test false rest = rest

all_push : {X : Type 0} (P : X → Type 0) (xs : List X) (y : X) → AllByRecursion P xs → P y → AllByRecursion P (xs ++ y ∷ [])
all_push P [] y a k = (k, tt)
all_push P (x ∷ xs) y a k = (a.0, all_push P xs y a.1 k)

wide_ask : (other : Hash) (l : ℕ) (c : ConnId) (w : Want) → length w.asked ≡ LINK_LIMIT → length (ask other l c w).asked ≡ LINK_LIMIT
wide_ask other l c w e = by_test (is_for other w)
  where
    by_test : (b : Bool) → length (cond b (record w { asked = set w.asked l true; waiting = joined c w.waiting }) w).asked ≡ LINK_LIMIT
    by_test true = length-set w.asked l true ∙ e
    by_test false = e

wide_count : (miss : Miss) (w : Want) → length w.asked ≡ LINK_LIMIT → length (count_miss miss w).asked ≡ LINK_LIMIT
wide_count miss w e = by_test (is_missed miss w.hash)
  where
    by_test : (b : Bool) → length (cond b (record w { misses = w.misses + 1 }) w).asked ≡ LINK_LIMIT
    by_test true = e
    by_test false = e

wide_step : (ws : List Want) (call : Call) → AreWide ws → AreWide (made ws call)
wide_step ws (wants other l c) a = by_test (is_wanted other ws)
  where
    by_test : (b : Bool) → AreWide (cond b (map (ask other l c) ws) (ws ++ new_want other l c ∷ []))
    by_test true = all_map (λ (w : Want). length w.asked ≡ LINK_LIMIT) (ask other l c) ws (λ w e. wide_ask other l c w e) a
    by_test false = all_push (λ (w : Want). length w.asked ≡ LINK_LIMIT) ws (new_want other l c) a (length-set (replicate LINK_LIMIT false) l true ∙ length-replicate {A = Bool} LINK_LIMIT false)
wide_step ws (opens l) a = all_map (λ (w : Want). length w.asked ≡ LINK_LIMIT) (unask l) ws (λ w e. length-set w.asked l false ∙ e) a
wide_step ws (ends c) a = all_map (λ (w : Want). length w.asked ≡ LINK_LIMIT) (leave c) (filter (waits_besides c) ws) (λ w e. e) (all_filter (λ (w : Want). length w.asked ≡ LINK_LIMIT) (waits_besides c) ws a)
wide_step ws (misses miss) a = all_map (λ (w : Want). length w.asked ≡ LINK_LIMIT) (count_miss miss) (filter (λ want. not (is_last miss want)) ws) (λ w e. wide_count miss w e) (all_filter (λ (w : Want). length w.asked ≡ LINK_LIMIT) (λ want. not (is_last miss want)) ws a)
wide_step ws (answers other) a = all_filter (λ (w : Want). length w.asked ≡ LINK_LIMIT) (λ want. not (is_for other want)) ws a

wide_along : (ws : List Want) (calls : List Call) → AreWide ws → AreWide (fold made ws calls)
wide_along ws [] a = a
wide_along ws (call ∷ calls) a = wide_along (made ws call) calls (wide_step ws call a)

-- ---- asked now

ask_sets : (hash : Hash) (link : ℕ) (c : ConnId) (w : Want) → link < LINK_LIMIT → length w.asked ≡ LINK_LIMIT → is_for hash (ask hash link c w) ≡ true → bit link (ask hash link c w) ≡ true
ask_sets hash link c w lt e for = by_test (is_for hash w) refl for
  where
    by_test : (b : Bool) → is_for hash w ≡ b → is_for hash (cond b (record w { asked = set w.asked link true; waiting = joined c w.waiting }) w) ≡ true → bit link (cond b (record w { asked = set w.asked link true; waiting = joined c w.waiting }) w) ≡ true
    by_test true k f = get_or-set_at w.asked link link true false refl (omega (arith, lt, e))
    by_test false k f = absurd (true_isnt (sym f ∙ k))

all_asked : (hash : Hash) (link : ℕ) (c : ConnId) (ws : List Want) → link < LINK_LIMIT → AreWide ws → AreAsked hash link (map (ask hash link c) ws)
all_asked hash link c [] lt a = tt
all_asked hash link c (w ∷ ws) lt a = (λ for. ask_sets hash link c w lt a.0 for, all_asked hash link c ws lt a.1)

none_asked : (hash : Hash) (link : ℕ) (ws : List Want) → is_wanted hash ws ≡ false → AreAsked hash link ws
none_asked hash link [] e = tt
none_asked hash link (w ∷ ws) e = by_test (is_for hash w) refl e (λ k. none_asked hash link ws k)
  where
    by_test : (b : Bool) → is_for hash w ≡ b → (b || is_wanted hash ws) ≡ false → (is_wanted hash ws ≡ false → AreAsked hash link ws) → AreAsked hash link (w ∷ ws)
    by_test true k e rest = absurd (true_isnt e)
    by_test false k e rest = (λ for. absurd (true_isnt (sym for ∙ k)), rest e)

now_asked : (hash : Hash) (link : ℕ) (c : ConnId) (ws : List Want) → link < LINK_LIMIT → AreWide ws → AreAsked hash link (made ws (wants hash link c))
now_asked hash link c ws lt a = by_test (is_wanted hash ws) refl
  where
    by_test : (b : Bool) → is_wanted hash ws ≡ b → AreAsked hash link (cond b (map (ask hash link c) ws) (ws ++ new_want hash link c ∷ []))
    by_test true e = all_asked hash link c ws lt a
    by_test false e = all_push (λ (w : Want). is_for hash w ≡ true → bit link w ≡ true) ws (new_want hash link c) (none_asked hash link ws e) (λ for. get_or-set_at (replicate LINK_LIMIT false) link link true false refl (omega (arith, lt, length-replicate {A = Bool} LINK_LIMIT false)))

-- and later, while the hash stays wanted and the link isn't opened
asks_more : (hash other : Hash) (link l : ℕ) (c : ConnId) (w : Want) → (is_for hash w ≡ true → bit link w ≡ true) → link < LINK_LIMIT → length w.asked ≡ LINK_LIMIT → is_for hash (ask other l c w) ≡ true → bit link (ask other l c w) ≡ true
asks_more hash other link l c w k lt wide for = by_test (is_for other w) for
  where
    by_link : (t : Bool) → nat_eq link l ≡ t → is_for hash w ≡ true → get_or (set w.asked l true) link false ≡ true
    by_link true e f = get_or-set_at w.asked l link true false (eqb-true link l e) (let same = eqb-true link l e in omega (arith, lt, wide, same))
    by_link false e f = get_or-set_other w.asked l link true false (eqb-false link l e) ∙ k f

    by_test : (b : Bool) → is_for hash (cond b (record w { asked = set w.asked l true; waiting = joined c w.waiting }) w) ≡ true → bit link (cond b (record w { asked = set w.asked l true; waiting = joined c w.waiting }) w) ≡ true
    by_test true f = by_link (nat_eq link l) refl f
    by_test false f = k f

more_all : (hash other : Hash) (link l : ℕ) (c : ConnId) (ws : List Want) → link < LINK_LIMIT → AreWide ws → AreAsked hash link ws → AreAsked hash link (map (ask other l c) ws)
more_all hash other link l c [] lt a k = tt
more_all hash other link l c (w ∷ ws) lt a k = (λ for. asks_more hash other link l c w k.0 lt a.0 for, more_all hash other link l c ws lt a.1 k.1)

-- a want of another hash that begins
new_other : (hash other : Hash) (link l : ℕ) (c : ConnId) (ws : List Want) → is_wanted other ws ≡ false → is_wanted hash ws ≡ true → is_for hash (new_want other l c) ≡ true → bit link (new_want other l c) ≡ true
new_other hash other link l c ws un is for = absurd (true_isnt (sym is ∙ ap (λ (h : Hash). is_wanted h ws) (same_hash-is hash other for) ∙ un))

count_keeps : (hash : Hash) (link : ℕ) (miss : Miss) (w : Want) → (is_for hash w ≡ true → bit link w ≡ true) → is_for hash (count_miss miss w) ≡ true → bit link (count_miss miss w) ≡ true
count_keeps hash link miss w k for = by_test (is_missed miss w.hash) for
  where
    by_test : (b : Bool) → is_for hash (cond b (record w { misses = w.misses + 1 }) w) ≡ true → bit link (cond b (record w { misses = w.misses + 1 }) w) ≡ true
    by_test true f = k f
    by_test false f = k f

unask_keeps : (hash : Hash) (link l : ℕ) (w : Want) → not (nat_eq l link) ≡ true → (is_for hash w ≡ true → bit link w ≡ true) → is_for hash (unask l w) ≡ true → bit link (unask l w) ≡ true
unask_keeps hash link l w other k for = by_link (nat_eq l link) refl other
  where
    by_link : (t : Bool) → nat_eq l link ≡ t → not t ≡ true → get_or (set w.asked l false) link false ≡ true
    by_link true e o = absurd (true_isnt (sym o))
    by_link false e o = get_or-set_other w.asked l link false false (λ same. eqb-false l link e (sym same)) ∙ k for

keeps_step : (hash : Hash) (link : ℕ) (ws : List Want) (call : Call) → link < LINK_LIMIT → AreWide ws → is_wanted hash ws ≡ true → opens_not link call ≡ true → AreAsked hash link ws → AreAsked hash link (made ws call)
keeps_step hash link ws (wants other l c) lt wide is not' a = by_test (is_wanted other ws) refl
  where
    by_test : (b : Bool) → is_wanted other ws ≡ b → AreAsked hash link (cond b (map (ask other l c) ws) (ws ++ new_want other l c ∷ []))
    by_test true e = more_all hash other link l c ws lt wide a
    by_test false e = all_push (λ (w : Want). is_for hash w ≡ true → bit link w ≡ true) ws (new_want other l c) a (λ for. new_other hash other link l c ws e is for)
keeps_step hash link ws (opens l) lt wide is not' a = all_map (λ (w : Want). is_for hash w ≡ true → bit link w ≡ true) (unask l) ws (λ w k for. unask_keeps hash link l w not' k for) a
keeps_step hash link ws (ends c) lt wide is not' a = all_map (λ (w : Want). is_for hash w ≡ true → bit link w ≡ true) (leave c) (filter (waits_besides c) ws) (λ w k. k) (all_filter (λ (w : Want). is_for hash w ≡ true → bit link w ≡ true) (waits_besides c) ws a)
keeps_step hash link ws (misses miss) lt wide is not' a = all_map (λ (w : Want). is_for hash w ≡ true → bit link w ≡ true) (count_miss miss) (filter (λ want. not (is_last miss want)) ws) (λ w k for. count_keeps hash link miss w k for) (all_filter (λ (w : Want). is_for hash w ≡ true → bit link w ≡ true) (λ want. not (is_last miss want)) ws a)
keeps_step hash link ws (answers other) lt wide is not' a = all_filter (λ (w : Want). is_for hash w ≡ true → bit link w ≡ true) (λ want. not (is_for other want)) ws a

some_asked : (hash : Hash) (link : ℕ) (ws : List Want) → AreAsked hash link ws → is_wanted hash ws ≡ true → is_asked hash link ws ≡ true
some_asked hash link [] a e = absurd (true_isnt (sym e))
some_asked hash link (w ∷ ws) a e = elim (or_either (is_for hash w) (is_wanted hash ws) e) [
  | inl here ↦ or_left (has_bit hash link w) (is_asked hash link ws) (both_of (is_for hash w) (bit link w) here (a.0 here))
  | inr later ↦ or_right (has_bit hash link w) (is_asked hash link ws) (some_asked hash link ws a.1 later)
]
  where
    both_of : (x y : Bool) → x ≡ true → y ≡ true → (x && y) ≡ true
    both_of true y p q = q
    both_of false y p q = absurd cc

still_asked : (hash : Hash) (link : ℕ) (ws : List Want) (calls : List Call) → link < LINK_LIMIT → AreWide ws → AreAsked hash link ws → StaysWanted hash ws calls → AllByRecursion (λ call. opens_not link call ≡ true) calls → is_asked hash link (fold made ws calls) ≡ true
still_asked hash link ws [] lt wide a s shut = some_asked hash link ws a s
still_asked hash link ws (call ∷ calls) lt wide a s shut = still_asked hash link (made ws call) calls lt (wide_step ws call wide) (keeps_step hash link ws call lt wide s.0 shut.0 a) s.1 shut.1

fold-append : {A B : Type 0} (f : B → A → B) (a : B) (xs ys : List A) → fold f a (xs ++ ys) ≡ fold f (fold f a xs) ys
fold-append f a [] ys = refl
fold-append f a (x ∷ xs) ys = fold-append f (f a x) xs ys

was_asked : (calls : List Call) (hash : Hash) (link : ℕ) → link < LINK_LIMIT → WasAsked hash link [] calls → is_asked hash link (wanted_after calls) ≡ true
was_asked calls hash link lt w =
    let ws = fold made [] w.before in
    let wide : AreWide ws = wide_along [] w.before tt in
    ap (λ (cs : List Call). is_asked hash link (fold made [] cs)) w.at
    ∙ ap (λ (vs : List Want). is_asked hash link vs) (fold-append made [] w.before (wants hash link w.conn ∷ w.rest))
    ∙ still_asked hash link (made ws (wants hash link w.conn)) w.rest lt (wide_step ws (wants hash link w.conn) wide) (now_asked hash link w.conn ws lt wide) w.wanted w.shut

pub asked_by_the_calls : AskedByTheCalls
asked_by_the_calls = λ calls hash link lt. (λ e. asked_was calls hash link e, λ w. was_asked calls hash link lt w)
