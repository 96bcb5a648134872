-- The first of each connection, and the connections that wait for a hash.
use Rattle.std.proofs.Common.{◌≡◌, Bool, true, false, cond, not, List, [], ◌∷◌, ◌++◌, refl, sym, ◌∙◌, ap, subst, map}
use Rattle.std.specs.Prelude.{◌&&◌, ◌||◌, filter}
use Rattle.std.specs.List.{list_any}
use Rattle.scp_wire.specs.scp_types.specs.declared.names.ConnId.{ConnId}
use Rattle.scp_wire.specs.scp_types.specs.declared.names.Hash.{Hash}
use Rattle.scp_wire.specs.declared.carried.Carried.{Carried}
use Rattle.scp_wire.specs.Connections.{same_conn}
use Rattle.scp_fetch.specs.declared.want.Want.{Want}
use Rattle.scp_fetch.specs.declared.want.Miss.{Miss}
use Rattle.scp_fetch.specs.Hashes.{same_hash}
use Rattle.scp_fetch.specs.Wants.{is_for, is_wanted, has_conn, joined, waiting_for, waits_besides, leave, left_by, ask, new_want, wanted_by, unasked, is_last, count_miss, missed_by, without, gives_up}
use Rattle.scp_pending.specs.Waiters.{once}
use Rattle.scp_pending.proofs.Basics.{clash, or_none, append_nil, same_hash-refl, same_conn-true}
use Rattle.scp_pending.proofs.Wanting.{wanted-map, ask-hash, count-hash, is_for-true}
use Rattle.scp_pending.proofs.Listing.{and_all, conn_sym, has-left, AreApart, unwanted-filter, count-waiting}

-- ---- lists

pub filter_as : {X : Type 0} (f g : X → Bool) → ((x : X) → f x ≡ g x) → (xs : List X) → filter f xs ≡ filter g xs
filter_as f g e [] = refl
filter_as f g e (x ∷ xs) = rw (e x, filter_as f g e xs) refl

pub filter_all : {X : Type 0} (xs : List X) → filter (λ x. true) xs ≡ xs
filter_all [] = refl
filter_all (x ∷ xs) = ap (λ ys. x ∷ ys) (filter_all xs)

pub filter_none : {X : Type 0} (xs : List X) → filter (λ x. false) xs ≡ []
filter_none [] = refl
filter_none (x ∷ xs) = filter_none xs

pub filter_append : {X : Type 0} (f : X → Bool) (xs ys : List X) → filter f (xs ++ ys) ≡ filter f xs ++ filter f ys
filter_append f [] ys = refl
filter_append f (x ∷ xs) ys = by_test (f x) (filter_append f xs ys)
  where
    by_test : (b : Bool) → filter f (xs ++ ys) ≡ filter f xs ++ filter f ys → cond b (x ∷ filter f (xs ++ ys)) (filter f (xs ++ ys)) ≡ cond b (x ∷ filter f xs) (filter f xs) ++ filter f ys
    by_test true e = ap (λ zs. x ∷ zs) e
    by_test false e = e

filter_swap : {X : Type 0} (f g : X → Bool) (xs : List X) → filter f (filter g xs) ≡ filter g (filter f xs)
filter_swap f g [] = refl
filter_swap f g (x ∷ xs) = by_tests (f x) (g x) refl refl (filter_swap f g xs)
  where
    by_tests : (a b : Bool) → f x ≡ a → g x ≡ b → filter f (filter g xs) ≡ filter g (filter f xs) → filter f (cond b (x ∷ filter g xs) (filter g xs)) ≡ filter g (cond a (x ∷ filter f xs) (filter f xs))
    by_tests true true p q e = rw (p, q) (ap (λ ys. x ∷ ys) e)
    by_tests true false p q e = rw q e
    by_tests false true p q e = rw p e
    by_tests false false p q e = e

filter_no : {X : Type 0} (f : X → Bool) (xs : List X) → list_any f xs ≡ false → filter f xs ≡ []
filter_no f [] e = refl
filter_no f (x ∷ xs) e = (let both = or_none (f x) (list_any f xs) e in rw both.0 (filter_no f xs both.1))

-- ended by this test, or kept
pub kept_by : {X : Type 0} (g : Bool) (xs : List X) → cond g [] xs ≡ filter (λ x. not g) xs
kept_by true xs = sym (filter_none xs)
kept_by false xs = sym (filter_all xs)

-- ---- the first of each connection

pub once_kept : (k : ConnId → Bool) (cs : List ConnId) → once (filter k cs) ≡ filter k (once cs)
once_kept k [] = refl
once_kept k (c ∷ cs) = by_test (k c) refl (once_kept k cs)
  where
    gone : k c ≡ false → (ds : List ConnId) → filter k (filter (λ d. not (same_conn c d)) ds) ≡ filter k ds
    gone n [] = refl
    gone n (d ∷ ds) = by_same (same_conn c d) refl (gone n ds)
      where
        by_same : (b : Bool) → same_conn c d ≡ b → filter k (filter (λ d. not (same_conn c d)) ds) ≡ filter k ds → filter k (cond (not b) (d ∷ filter (λ d. not (same_conn c d)) ds) (filter (λ d. not (same_conn c d)) ds)) ≡ cond (k d) (d ∷ filter k ds) (filter k ds)
        by_same true e r = (let none : k d ≡ false = subst (λ (x : ConnId). k x ≡ false) (same_conn-true c d e) n in rw none r)
        by_same false e r = rw r refl

    by_test : (b : Bool) → k c ≡ b → once (filter k cs) ≡ filter k (once cs) → once (cond b (c ∷ filter k cs) (filter k cs)) ≡ cond b (c ∷ filter k (filter (λ d. not (same_conn c d)) (once cs))) (filter k (filter (λ d. not (same_conn c d)) (once cs)))
    by_test true e r = ap (λ zs. c ∷ filter (λ d. not (same_conn c d)) zs) r ∙ ap (λ zs. c ∷ zs) (filter_swap (λ d. not (same_conn c d)) k (once cs))
    by_test false e r = r ∙ sym (gone e (once cs))

pub once_push : (cs : List ConnId) (c : ConnId) → once (cs ++ c ∷ []) ≡ joined c (once cs)
once_push [] c = refl
once_push (d ∷ ds) c = ap (λ zs. d ∷ filter (λ e. not (same_conn d e)) zs) (once_push ds c) ∙ by_tests (has_conn c (once ds)) (same_conn d c) refl refl
  where
    rest : List ConnId
    rest = filter (λ e. not (same_conn d e)) (once ds)

    has_it : (b k : Bool) → has_conn c (once ds) ≡ b → same_conn d c ≡ k → has_conn c (d ∷ rest) ≡ (k || b)
    has_it b true h e = (let same : same_conn c d ≡ true = conn_sym c d ∙ e in rw same refl)
    has_it b false h e = (let same : same_conn c d ≡ false = conn_sym c d ∙ e in rw (same, has-left c d (once ds), h, e) (and_all b))

    by_tests : (b k : Bool) → has_conn c (once ds) ≡ b → same_conn d c ≡ k → d ∷ filter (λ e. not (same_conn d e)) (cond b (once ds) (once ds ++ c ∷ [])) ≡ cond (has_conn c (d ∷ rest)) (d ∷ rest) (d ∷ (rest ++ c ∷ []))
    by_tests true true h e = ap (λ b. cond b (d ∷ rest) (d ∷ (rest ++ c ∷ []))) (sym (has_it true true h e))
    by_tests true false h e = ap (λ b. cond b (d ∷ rest) (d ∷ (rest ++ c ∷ []))) (sym (has_it true false h e))
    by_tests false true h e = ap (λ zs. d ∷ zs) (filter_append (λ e. not (same_conn d e)) (once ds) (c ∷ []) ∙ ap (λ b. rest ++ cond (not b) (c ∷ []) []) e ∙ append_nil rest) ∙ ap (λ b. cond b (d ∷ rest) (d ∷ (rest ++ c ∷ []))) (sym (has_it false true h e))
    by_tests false false h e = ap (λ zs. d ∷ zs) (filter_append (λ e. not (same_conn d e)) (once ds) (c ∷ []) ∙ ap (λ b. rest ++ cond (not b) (c ∷ []) []) e) ∙ ap (λ b. cond b (d ∷ rest) (d ∷ (rest ++ c ∷ []))) (sym (has_it false false h e))

-- ---- of some messages the connections

abbrev pub conns_of : List Carried → List ConnId
conns_of xs = map (λ x. x.conn) xs

pub conns-two : (k : ConnId → Bool) (w : Carried → Bool) (xs : List Carried) → conns_of (filter (λ x. w x && k x.conn) xs) ≡ filter k (conns_of (filter w xs))
conns-two k w [] = refl
conns-two k w (x ∷ xs) = by_tests (w x) (k x.conn) refl (conns-two k w xs)
  where
    both : List Carried
    both = filter (λ x. w x && k x.conn) xs

    by_tests : (a b : Bool) → k x.conn ≡ b → conns_of both ≡ filter k (conns_of (filter w xs)) → conns_of (cond (a && b) (x ∷ both) both) ≡ filter k (conns_of (cond a (x ∷ filter w xs) (filter w xs)))
    by_tests true true e r = rw e (ap (λ zs. x.conn ∷ zs) r)
    by_tests true false e r = rw e r
    by_tests false b e r = r

pub conns-push : (xs : List Carried) (x : Carried) → conns_of (xs ++ x ∷ []) ≡ conns_of xs ++ x.conn ∷ []
conns-push [] x = refl
conns-push (y ∷ ys) x = ap (λ zs. y.conn ∷ zs) (conns-push ys x)

-- ---- the list of a hash

waiting-none : (hash : Hash) (ws : List Want) → is_wanted hash ws ≡ false → waiting_for hash ws ≡ []
waiting-none hash [] e = refl
waiting-none hash (w ∷ ws) e = (let both = or_none (is_for hash w) (is_wanted hash ws) e in rw both.0 (waiting-none hash ws both.1))

waiting-append : (hash : Hash) (ws vs : List Want) → is_wanted hash ws ≡ false → waiting_for hash (ws ++ vs) ≡ waiting_for hash vs
waiting-append hash [] vs e = refl
waiting-append hash (w ∷ ws) vs e = (let both = or_none (is_for hash w) (is_wanted hash ws) e in rw both.0 (waiting-append hash ws vs both.1))

waiting-push : (hash : Hash) (ws : List Want) (v : Want) → is_for hash v ≡ false → waiting_for hash (ws ++ v ∷ []) ≡ waiting_for hash ws
waiting-push hash [] v e = rw e refl
waiting-push hash (w ∷ ws) v e = ap (λ zs. cond (is_for hash w) w.waiting zs) (waiting-push hash ws v e)

pub waiting-unasked : (hash : Hash) (link : _) (ws : List Want) → waiting_for hash (unasked link ws) ≡ waiting_for hash ws
waiting-unasked hash link [] = refl
waiting-unasked hash link (w ∷ ws) = ap (λ zs. cond (is_for hash w) w.waiting zs) (waiting-unasked hash link ws)

pub waiting-left : (hash : Hash) (d : ConnId) (ws : List Want) → AreApart ws → waiting_for hash (left_by d ws) ≡ filter (λ e. not (same_conn d e)) (waiting_for hash ws)
waiting-left hash d [] a = refl
waiting-left hash d (w ∷ ws) a = by_tests (waits_besides d w) (is_for hash w) refl refl (waiting-left hash d ws a.1)
  where
    ended : is_for hash w ≡ true → is_wanted hash (left_by d ws) ≡ false
    ended f = wanted-map (leave d) (λ w. refl) hash (filter (waits_besides d) ws) ∙ unwanted-filter (waits_besides d) hash ws (subst (λ (h : Hash). is_wanted h ws ≡ false) (sym (is_for-true hash w f)) a.0)

    by_tests : (b f : Bool) → waits_besides d w ≡ b → is_for hash w ≡ f → waiting_for hash (left_by d ws) ≡ filter (λ e. not (same_conn d e)) (waiting_for hash ws) → waiting_for hash (map (leave d) (cond b (w ∷ filter (waits_besides d) ws) (filter (waits_besides d) ws))) ≡ filter (λ e. not (same_conn d e)) (cond f w.waiting (waiting_for hash ws))
    by_tests true true b f r = rw f refl
    by_tests true false b f r = rw f r
    by_tests false true b f r = waiting-none hash (left_by d ws) (ended f) ∙ sym (filter_no (λ e. not (same_conn d e)) w.waiting b)
    by_tests false false b f r = r

pub waiting-asked : (hash : Hash) (link : _) (d : ConnId) (ws : List Want) → waiting_for hash (wanted_by hash link d ws) ≡ joined d (waiting_for hash ws)
waiting-asked hash link d ws = by_wanted (is_wanted hash ws) refl
  where
    asked : (vs : List Want) → is_wanted hash vs ≡ true → waiting_for hash (map (ask hash link d) vs) ≡ joined d (waiting_for hash vs)
    asked [] e = absurd cc
    asked (v ∷ vs) e = by_test (is_for hash v) refl e (asked vs)
      where
        by_test : (b : Bool) → is_for hash v ≡ b → (b || is_wanted hash vs) ≡ true → (is_wanted hash vs ≡ true → waiting_for hash (map (ask hash link d) vs) ≡ joined d (waiting_for hash vs)) → cond (is_for hash (ask hash link d v)) (ask hash link d v).waiting (waiting_for hash (map (ask hash link d) vs)) ≡ joined d (cond b v.waiting (waiting_for hash vs))
        by_test true f e r = rw (ask-hash hash link d v, f) refl
        by_test false f e r = rw (ask-hash hash link d v, f) (r e)

    by_wanted : (b : Bool) → is_wanted hash ws ≡ b → waiting_for hash (cond b (map (ask hash link d) ws) (ws ++ new_want hash link d ∷ [])) ≡ joined d (waiting_for hash ws)
    by_wanted true e = asked ws e
    by_wanted false e = waiting-append hash ws (new_want hash link d ∷ []) e ∙ rw (same_hash-refl hash, waiting-none hash ws e) refl

pub waiting-asked_other : (hash other : Hash) (link : _) (d : ConnId) (ws : List Want) → same_hash hash other ≡ false → waiting_for hash (wanted_by other link d ws) ≡ waiting_for hash ws
waiting-asked_other hash other link d ws o = by_wanted (is_wanted other ws)
  where
    asked : (vs : List Want) → waiting_for hash (map (ask other link d) vs) ≡ waiting_for hash vs
    asked [] = refl
    asked (v ∷ vs) = by_tests (is_for hash v) (is_for other v) refl refl (asked vs)
      where
        by_tests : (a b : Bool) → is_for hash v ≡ a → is_for other v ≡ b → waiting_for hash (map (ask other link d) vs) ≡ waiting_for hash vs → cond (is_for hash (ask other link d v)) (ask other link d v).waiting (waiting_for hash (map (ask other link d) vs)) ≡ cond a v.waiting (waiting_for hash vs)
        by_tests true true p q r = clash (same_hash hash other) (subst (λ (h : Hash). same_hash h other ≡ true) (sym (is_for-true hash v p)) (subst (λ (h : Hash). same_hash v.hash h ≡ true) (sym (is_for-true other v q)) (same_hash-refl v.hash))) o
        by_tests true false p q r = rw (ask-hash other link d v, p, q) refl
        by_tests false b p q r = rw (ask-hash other link d v, p) r

    by_wanted : (b : Bool) → waiting_for hash (cond b (map (ask other link d) ws) (ws ++ new_want other link d ∷ [])) ≡ waiting_for hash ws
    by_wanted true = asked ws
    by_wanted false = waiting-push hash ws (new_want other link d) o

pub waiting-without : (hash gone : Hash) (ws : List Want) → waiting_for hash (without gone ws) ≡ cond (same_hash gone hash) [] (waiting_for hash ws)
waiting-without hash gone [] = by_test (same_hash gone hash)
  where
    none : List ConnId
    none = []

    by_test : (b : Bool) → none ≡ cond b none none
    by_test true = refl
    by_test false = refl
waiting-without hash gone (w ∷ ws) = by_tests (is_for gone w) (is_for hash w) refl refl (waiting-without hash gone ws)
  where
    as_for : (b : Bool) → is_for hash w ≡ true → is_for gone w ≡ b → same_hash gone hash ≡ b
    as_for b p q = subst (λ (h : Hash). same_hash gone h ≡ b) (sym (is_for-true hash w p)) q

    by_tests : (a b : Bool) → is_for gone w ≡ a → is_for hash w ≡ b → waiting_for hash (without gone ws) ≡ cond (same_hash gone hash) [] (waiting_for hash ws) → waiting_for hash (cond (not a) (w ∷ without gone ws) (without gone ws)) ≡ cond (same_hash gone hash) [] (cond b w.waiting (waiting_for hash ws))
    by_tests true true p q r = r ∙ ap (λ b. cond b [] (waiting_for hash ws)) (as_for true q p) ∙ sym (ap (λ b. cond b [] w.waiting) (as_for true q p))
    by_tests true false p q r = r
    by_tests false true p q r = rw (q, as_for false q p) refl
    by_tests false false p q r = rw q r

pub waiting-missed : (miss : Miss) (hash : Hash) (ws : List Want) → AreApart ws → waiting_for hash (missed_by miss ws) ≡ cond (gives_up miss ws hash) [] (waiting_for hash ws)
waiting-missed miss hash [] a = refl
waiting-missed miss hash (w ∷ ws) a = by_tests (is_for hash w) (is_last miss w) refl refl (waiting-missed miss hash ws a.1)
  where
    others : is_for hash w ≡ true → is_wanted hash ws ≡ false
    others f = subst (λ (h : Hash). is_wanted h ws ≡ false) (sym (is_for-true hash w f)) a.0

    ended : is_for hash w ≡ true → waiting_for hash (missed_by miss ws) ≡ []
    ended f = waiting-none hash (missed_by miss ws) (wanted-map (count_miss miss) (count-hash miss) hash (filter (λ w. not (is_last miss w)) ws) ∙ unwanted-filter (λ w. not (is_last miss w)) hash ws (others f))

    none_up : (vs : List Want) → is_wanted hash vs ≡ false → gives_up miss vs hash ≡ false
    none_up [] e = refl
    none_up (v ∷ vs) e = (let both = or_none (is_for hash v) (is_wanted hash vs) e in rw both.0 (none_up vs both.1))

    by_tests : (f l : Bool) → is_for hash w ≡ f → is_last miss w ≡ l → waiting_for hash (missed_by miss ws) ≡ cond (gives_up miss ws hash) [] (waiting_for hash ws) → waiting_for hash (map (count_miss miss) (cond (not l) (w ∷ filter (λ w. not (is_last miss w)) ws) (filter (λ w. not (is_last miss w)) ws))) ≡ cond ((f && l) || gives_up miss ws hash) [] (cond f w.waiting (waiting_for hash ws))
    by_tests true true f l r = ended f
    by_tests true false f l r = rw (count-hash miss w, f, none_up ws (others f)) (count-waiting miss w)
    by_tests false true f l r = r
    by_tests false false f l r = rw (count-hash miss w, f) r
