-- What an item adds to a connection's line, and whether the connection is open after it.
use Rattle.std.proofs.Common.{◌≡◌, ℕ, ◌≤◌, Bool, true, false, cond, not, List, [], ◌∷◌, ◌++◌, refl, sym, ◌∙◌, ap, subst, arith, map}
use Rattle.std.specs.Prelude.{◌&&◌, ◌||◌, Option, Some, None}
use Rattle.std.specs.List.{list_any, AllByRecursion}
use Rattle.scp_wire.specs.scp_types.specs.declared.names.ConnId.{ConnId}
use Rattle.scp_wire.specs.scp_types.specs.declared.names.Hash.{Hash}
use Rattle.scp_wire.specs.scp_quorum.specs.QuorumTree.{QuorumTree}
use Rattle.scp_wire.specs.declared.carried.Carried.{Carried}
use Rattle.scp_wire.specs.declared.side.SideMessage.{SideMessage}
use Rattle.scp_wire.specs.declared.side.SideMessage.TheVariants.{GetSet, Set, NoSet}
use Rattle.scp_wire.specs.declared.link.Cause.TheVariants.{ParkedFull}
use Rattle.scp_wire.specs.declared.link.Command.TheVariants.{Tick, Propose, Round, Timer, Ask}
use Rattle.scp_wire.specs.declared.link.Inbound.{Inbound}
use Rattle.scp_wire.specs.declared.link.Inbound.TheVariants as inbound
use Rattle.scp_wire.specs.Connections.{same_conn}
use Rattle.scp_wire.specs.Marks.{Mark, number, ended, one_if}
use Rattle.scp_wire.specs.Lanes.{slot_of, in_lane, HasSlot}
use Rattle.scp_fetch.specs.declared.want.Miss.TheVariants.{One}
use Rattle.scp_pending.specs.declared.parked.Parked.{Parked}
use Rattle.scp_pending.specs.declared.parked.Parked.TheVariants.{Waits, Free, Lost}
use Rattle.scp_pending.specs.declared.ready.DropCause.{DropCause}
use Rattle.scp_pending.specs.declared.ready.DropCause.TheVariants.{BadSet, GaveUp, Closed as ByClose, ParkedFull as ByFull}
use Rattle.scp_pending.specs.declared.ready.Ready.{Ready}
use Rattle.scp_pending.specs.declared.ready.Ready.TheVariants.{Dropped, Closed}
use Rattle.scp_pending.specs.Sanity.{is_sane}
use Rattle.scp_fetch.specs.Wants.{missed_by, last_missed, gives_up}
use Rattle.scp_fetch.specs.Store.{lookup}
use Rattle.scp_pending.specs.Queues.{QueueView, is_of, is_open, parked_of, others, parked_in, lane_of, is_at, waits, is_held, fate, served, leaving_of, in_order_of, seq_of, named, is_hash, hash_of, resolved_one, resolved_in, resolved, with_set, lost_by, dropped}
use Rattle.scp_pending.specs.Rules.{Settled, rules, releases, opens, opened, closed_off, entering_by, entering, found, overflows, goes_through, parks, by_answer, answered, is_answer, is_given_up, gives_up_one, hears, heard_out}
use Rattle.scp_pending.specs.Line.{marks_of, parked_mark, marks_parked}
use Rattle.std.proofs.lemmas.Bool.{eqb-true}
use Rattle.scp_pending.proofs.Basics.{append_nil, or_none, map-append, same_conn-true, same_conn-refl, all_step}
use Rattle.scp_pending.proofs.Laning.{HasLane, in_lane-append, mark_in, marks-one, marks-fate, marks-fate_other}
use Rattle.scp_pending.proofs.Serving.{how_many, AreSingle, how_many-map, how_many-served, how_many-parked_in, how_many-others_mine, how_many-others_other, shut_none, open_as, parked-opened, parked-others_mine, parked-others_other, parked_in-mine, parked_in-other, parked-resolved, parked-served, IsParkedOf, AreMine, marks-leaving, marks_of-append, all_in_order, how_many-in_order, parked-in_order, single-in_order}

-- ---- a close

drops_mine : (c : ConnId) (cause : DropCause) (ps : List Parked) → marks_of c (map (dropped c cause) ps) ≡ map parked_mark ps
drops_mine c cause [] = refl
drops_mine c cause (p ∷ ps) = rw (same_conn-refl c) (ap (λ ms. parked_mark p ∷ ms) (drops_mine c cause ps))

drops_other : (c d : ConnId) (cause : DropCause) (ps : List Parked) → same_conn c d ≡ false → marks_of d (map (dropped c cause) ps) ≡ []
drops_other c d cause [] o = refl
drops_other c d cause (p ∷ ps) o = rw o (drops_other c d cause ps o)

closing : (c d : ConnId) (cause : DropCause) (end : List Ready) (s : Settled) (mine : Bool) → same_conn c d ≡ mine → AreSingle s.queues → (mine ≡ false → marks_of d end ≡ []) → marks_of d (map (dropped c cause) (parked_of c s.queues) ++ end) ++ marks_parked d (others c s.queues) ≡ marks_parked d s.queues ++ marks_of d end
closing c d cause end s true e single o =
    let same : c ≡ d = same_conn-true c d e in
    let P : ConnId → Type 0 = λ b. marks_of b (map (dropped c cause) (parked_of c s.queues) ++ end) ++ marks_parked b (others c s.queues) ≡ marks_parked b s.queues ++ marks_of b end in
    subst P same (ap (λ ps. marks_of c (map (dropped c cause) (parked_of c s.queues) ++ end) ++ map parked_mark ps) (parked-others_mine c s.queues (single c)) ∙ append_nil _ ∙ marks_of-append c (map (dropped c cause) (parked_of c s.queues)) end ∙ ap (λ ms. ms ++ marks_of c end) (drops_mine c cause (parked_of c s.queues)))
closing c d cause end s false e single o =
    ap (λ ms. ms ++ marks_parked d (others c s.queues)) (marks_of-append d (map (dropped c cause) (parked_of c s.queues)) end ∙ ap (λ ms. ms ++ marks_of d end) (drops_other c d cause (parked_of c s.queues) e) ∙ o refl)
    ∙ ap (map parked_mark) (parked-others_other c d s.queues e) ∙ sym (append_nil (marks_parked d s.queues)) ∙ ap (λ ms. marks_parked d s.queues ++ ms) (sym (o refl))

-- ---- what is resolved and served

resolved_mark : (test : Option Hash → Bool) (f : Carried → Parked) → ((x : Carried) → parked_mark (f x) ≡ number x.seq.0) → (ps : List Parked) → map parked_mark (map (resolved_one test f) ps) ≡ map parked_mark ps
resolved_mark test f same [] = refl
resolved_mark test f same (Waits x ∷ ps) = by_test (test (named x.message)) (resolved_mark test f same ps)
  where
    by_test : (b : Bool) → map parked_mark (map (resolved_one test f) ps) ≡ map parked_mark ps → parked_mark (cond b (f x) (Waits x)) ∷ map parked_mark (map (resolved_one test f) ps) ≡ number x.seq.0 ∷ map parked_mark ps
    by_test true e = rw (same x, e) refl
    by_test false e = rw e refl
resolved_mark test f same (Free d ∷ ps) = ap (λ ms. number d.seq.0 ∷ ms) (resolved_mark test f same ps)
resolved_mark test f same (Lost x cause ∷ ps) = ap (λ ms. number x.seq.0 ∷ ms) (resolved_mark test f same ps)

pub resolved_mine : (test : Option Hash → Bool) (f : Carried → Parked) → ((c : ConnId) (x : Carried) → x.conn ≡ c → IsParkedOf c (f x)) → (q : QueueView) → AreMine q → AreMine (resolved_in test f q)
resolved_mine test f mine q a = all_step (IsParkedOf q.conn) (IsParkedOf q.conn) (resolved_one test f) q.parked one a
  where
    one : (p : Parked) → IsParkedOf q.conn p → IsParkedOf q.conn (resolved_one test f p)
    one (Waits x) h = by_test (test (named x.message))
      where
        by_test : (b : Bool) → IsParkedOf q.conn (cond b (f x) (Waits x))
        by_test true = mine q.conn x h
        by_test false = h
    one (Free d) h = h
    one (Lost x cause) h = h

-- what is resolved keeps its lane
resolved_lane : (slots : ℕ → ℕ) (test : Option Hash → Bool) (f : Carried → Parked) → ((x : Carried) → slots x.seq.0 ≡ slot_of x.message → HasLane slots (f x)) → (ps : List Parked) → AllByRecursion (HasLane slots) ps → AllByRecursion (HasLane slots) (map (resolved_one test f) ps)
resolved_lane slots test f same ps a = all_step (HasLane slots) (HasLane slots) (resolved_one test f) ps one a
  where
    one : (p : Parked) → HasLane slots p → HasLane slots (resolved_one test f p)
    one (Waits x) h = by_test (test (named x.message))
      where
        by_test : (b : Bool) → HasLane slots (cond b (f x) (Waits x))
        by_test true = same x h
        by_test false = h
    one (Free d) h = h
    one (Lost x cause) h = h

serving : (slots : ℕ → ℕ) (n : ℕ) (d : ConnId) (test : Option Hash → Bool) (f : Carried → Parked) (qs : List QueueView) → ((x : Carried) → parked_mark (f x) ≡ number x.seq.0) → ((c : ConnId) (x : Carried) → x.conn ≡ c → IsParkedOf c (f x)) → ((x : Carried) → slots x.seq.0 ≡ slot_of x.message → HasLane slots (f x)) → AreSingle qs → AllByRecursion AreMine qs → AllByRecursion (HasLane slots) (parked_of d qs) → in_lane slots n (marks_of d (leaving_of (resolved test f qs)) ++ marks_parked d (served (resolved test f qs))) ≡ in_lane slots n (marks_parked d qs ++ [])
serving slots n d test f qs same mine lane single a l =
    let few : how_many d (resolved test f qs) ≤ 1 = subst (λ (n : ℕ). n ≤ 1) (sym (how_many-map d (resolved_in test f) (λ q. refl) qs)) (single d) in
    let lanes : AllByRecursion (HasLane slots) (parked_of d (resolved test f qs)) = subst (AllByRecursion (HasLane slots)) (sym (parked-resolved d test f qs)) (resolved_lane slots test f lane (parked_of d qs) l) in
    in_lane-append slots n (marks_of d (leaving_of (resolved test f qs))) (marks_parked d (served (resolved test f qs)))
    ∙ ap (λ ps. in_lane slots n (marks_of d (leaving_of (resolved test f qs))) ++ in_lane slots n (map parked_mark ps)) (parked-served d (resolved test f qs))
    ∙ marks-leaving slots n d (resolved test f qs) few (all_step AreMine AreMine (resolved_in test f) qs (resolved_mine test f mine) a) lanes
    ∙ ap (in_lane slots n) (ap (map parked_mark) (parked-resolved d test f qs) ∙ resolved_mark test f same (parked_of d qs) ∙ sym (append_nil (marks_parked d qs)))

-- ---- what an item adds

abbrev pub added : ConnId → Settled → Inbound → List Mark
added c s (inbound.Opened d) = []
added c s (inbound.Carried x) = cond (is_open x.conn s.queues) (one_if (same_conn x.conn c) (number x.seq.0) ++ cond (overflows x.conn (entering s.store x) s.queues) (one_if (same_conn x.conn c) (ended ParkedFull)) []) []
added c s (inbound.Side d message) = []
added c s (inbound.Closed d cause) = cond (is_open d s.queues) (one_if (same_conn d c) (ended cause)) []
added c s (inbound.Local command) = []

pub entering_seq : (s : Settled) (x : Carried) → (seq_of (entering s.store x)).0 ≡ x.seq.0
entering_seq s x = by_name (named x.message)
  where
    by_lookup : (o : Option QuorumTree) → (seq_of (found x o)).0 ≡ x.seq.0
    by_lookup None = refl
    by_lookup (Some set) = refl

    by_name : (o : Option Hash) → (seq_of (entering_by o s.store x)).0 ≡ x.seq.0
    by_name None = refl
    by_name (Some hash) = by_lookup (lookup hash s.store)

pub entering_mine : (s : Settled) (x : Carried) → IsParkedOf x.conn (entering s.store x)
entering_mine s x = by_name (named x.message)
  where
    by_lookup : (o : Option QuorumTree) → IsParkedOf x.conn (found x o)
    by_lookup None = refl
    by_lookup (Some set) = refl

    by_name : (o : Option Hash) → IsParkedOf x.conn (entering_by o s.store x)
    by_name None = refl
    by_name (Some hash) = by_lookup (lookup hash s.store)

pub entering_lane : (slots : ℕ → ℕ) (s : Settled) (x : Carried) → slots x.seq.0 ≡ slot_of x.message → HasLane slots (entering s.store x)
entering_lane slots s x e = by_name (named x.message)
  where
    by_lookup : (o : Option QuorumTree) → HasLane slots (found x o)
    by_lookup None = e
    by_lookup (Some set) = e

    by_name : (o : Option Hash) → HasLane slots (entering_by o s.store x)
    by_name None = e
    by_name (Some hash) = by_lookup (lookup hash s.store)

-- one that goes through
through : (c d : ConnId) (p : Parked) → waits p ≡ false → IsParkedOf c p → marks_of d (fate c p) ≡ one_if (same_conn c d) (parked_mark p)
through c d p w m = by_test (same_conn c d) refl
  where
    by_test : (b : Bool) → same_conn c d ≡ b → marks_of d (fate c p) ≡ one_if b (parked_mark p)
    by_test true e = subst (λ (k : ConnId). marks_of k (fate c p) ≡ parked_mark p ∷ []) (same_conn-true c d e) (marks-fate c p w m)
    by_test false e = marks-fate_other c d p e m

-- nothing of a lane of which nothing is parked
none_in : (slots : ℕ → ℕ) (c : ConnId) (n : ℕ) (ps : List Parked) → AllByRecursion (HasLane slots) ps → list_any (is_at n) ps ≡ false → in_lane slots n (map parked_mark ps) ≡ []
none_in slots c n [] l e = refl
none_in slots c n (p ∷ ps) l e = (let both = or_none (is_at n p) (list_any (is_at n) ps) e in marks-one slots c n p ps false l.0 both.0 ∙ none_in slots c n ps l.1 both.1)

-- in its lane it comes after what is parked there, which is nothing
passes_others : (slots : ℕ → ℕ) (c : ConnId) (n : ℕ) (p : Parked) (ps : List Parked) → HasLane slots p → AllByRecursion (HasLane slots) ps → list_any (is_at (lane_of p)) ps ≡ false → in_lane slots n (parked_mark p ∷ map parked_mark ps) ≡ in_lane slots n (map parked_mark ps ++ parked_mark p ∷ [])
passes_others slots c n p ps l a none = by_test (is_at n p) refl
  where
    L : List Mark
    L = in_lane slots n (map parked_mark ps)

    by_test : (b : Bool) → is_at n p ≡ b → in_lane slots n (parked_mark p ∷ map parked_mark ps) ≡ in_lane slots n (map parked_mark ps ++ parked_mark p ∷ [])
    by_test true k =
        let gone : L ≡ [] = none_in slots c n ps a (subst (λ (m : ℕ). list_any (is_at m) ps ≡ false) (eqb-true (lane_of p) n k) none) in
        marks-one slots c n p ps true l k ∙ ap (λ zs. parked_mark p ∷ zs) gone ∙ sym (in_lane-append slots n (map parked_mark ps) (parked_mark p ∷ []) ∙ ap (λ zs. zs ++ in_lane slots n (parked_mark p ∷ [])) gone ∙ mark_in slots c n p true l k)
    by_test false k = marks-one slots c n p ps false l k ∙ sym (in_lane-append slots n (map parked_mark ps) (parked_mark p ∷ []) ∙ ap (λ zs. L ++ zs) (mark_in slots c n p false l k) ∙ append_nil L)

parking : (c d : ConnId) (p : Parked) (s : Settled) → is_open c s.queues ≡ true → AreSingle s.queues → marks_parked d (parked_in c p s.queues) ≡ marks_parked d s.queues ++ one_if (same_conn c d) (parked_mark p)
parking c d p s live single = by_test (same_conn c d) refl
  where
    by_test : (b : Bool) → same_conn c d ≡ b → marks_parked d (parked_in c p s.queues) ≡ marks_parked d s.queues ++ one_if b (parked_mark p)
    by_test true e = subst (λ (k : ConnId). marks_parked k (parked_in c p s.queues) ≡ marks_parked k s.queues ++ parked_mark p ∷ []) (same_conn-true c d e) (ap (map parked_mark) (parked_in-mine c p s.queues live (single c)) ∙ map-append parked_mark (parked_of c s.queues) (p ∷ []))
    by_test false e = ap (map parked_mark) (parked_in-other c d p s.queues e) ∙ sym (append_nil (marks_parked d s.queues))

pub line_step : (slots : ℕ → ℕ) (n : ℕ) (d : ConnId) (s : Settled) (item : Inbound) → AreSingle s.queues → AllByRecursion AreMine s.queues → AllByRecursion (HasLane slots) (parked_of d s.queues) → HasSlot d slots item → in_lane slots n (marks_of d (releases s item) ++ marks_parked d (rules s item).queues) ≡ in_lane slots n (marks_parked d s.queues ++ added d s item)
line_step slots n d s (inbound.Opened c) single a l h = ap (in_lane slots n) (by_test (opens c s))
  where
    by_test : (b : Bool) → marks_parked d (cond b (opened c s) s).queues ≡ marks_parked d s.queues ++ []
    by_test true = ap (map parked_mark) (parked-opened d c s.queues) ∙ sym (append_nil _)
    by_test false = sym (append_nil _)
line_step slots n d s (inbound.Carried x) single a l h = by_tests (is_open x.conn s.queues) (overflows x.conn p s.queues) (goes_through x.conn p s.queues) refl refl
  where
    p : Parked
    p = entering s.store x

    mark : parked_mark p ≡ number x.seq.0
    mark = ap number (entering_seq s x)

    none_of : (mine : Bool) → mine ≡ false → one_if mine (number x.seq.0) ++ (one_if mine (ended ParkedFull) ++ []) ≡ []
    none_of true e = absurd cc
    none_of false e = refl

    by_tests : (o f g : Bool) → is_open x.conn s.queues ≡ o → goes_through x.conn p s.queues ≡ g → in_lane slots n (marks_of d (cond o (cond f (map (dropped x.conn ByFull) (parked_of x.conn s.queues) ++ Dropped x.conn x.seq ByFull ∷ Closed x.conn ParkedFull ∷ []) (cond g (fate x.conn p) [])) []) ++ marks_parked d (cond o (cond f (closed_off x.conn s) (cond g s (parks x p s))) s).queues) ≡ in_lane slots n (marks_parked d s.queues ++ cond o (one_if (same_conn x.conn d) (number x.seq.0) ++ cond f (one_if (same_conn x.conn d) (ended ParkedFull)) []) [])
    by_tests false f g o t = ap (in_lane slots n) (sym (append_nil _))
    by_tests true true g o t = ap (in_lane slots n) (closing x.conn d ByFull (Dropped x.conn x.seq ByFull ∷ Closed x.conn ParkedFull ∷ []) s (same_conn x.conn d) refl single (none_of (same_conn x.conn d)) ∙ ap (λ ms. marks_parked d s.queues ++ (one_if (same_conn x.conn d) (number x.seq.0) ++ ms)) (append_nil (one_if (same_conn x.conn d) (ended ParkedFull))))
    by_tests true false true o t =
        let free = or_none (waits p) (list_any (is_at (lane_of p)) (parked_of x.conn s.queues)) (not_true (is_held (parked_of x.conn s.queues) p) t) in
        ap (λ ms. in_lane slots n (ms ++ marks_parked d s.queues)) (through x.conn d p free.0 (entering_mine s x))
        ∙ alone (same_conn x.conn d) refl free.1
      where
        not_true : (b : Bool) → not b ≡ true → b ≡ false
        not_true true e = absurd cc
        not_true false e = refl

        alone : (b : Bool) → same_conn x.conn d ≡ b → list_any (is_at (lane_of p)) (parked_of x.conn s.queues) ≡ false → in_lane slots n (one_if b (parked_mark p) ++ marks_parked d s.queues) ≡ in_lane slots n (marks_parked d s.queues ++ (one_if b (number x.seq.0) ++ []))
        alone true k e = (let none : list_any (is_at (lane_of p)) (parked_of d s.queues) ≡ false = subst (λ (c : ConnId). list_any (is_at (lane_of p)) (parked_of c s.queues) ≡ false) (same_conn-true x.conn d k) e in passes_others slots d n p (parked_of d s.queues) (entering_lane slots s x (h k)) l none ∙ ap (λ m. in_lane slots n (marks_parked d s.queues ++ m ∷ [])) mark)
        alone false k e = ap (in_lane slots n) (sym (append_nil _))
    by_tests true false false o t = ap (in_lane slots n) (parking x.conn d p s o single ∙ ap (λ m. marks_parked d s.queues ++ one_if (same_conn x.conn d) m) mark ∙ ap (λ ms. marks_parked d s.queues ++ ms) (sym (append_nil (one_if (same_conn x.conn d) (number x.seq.0)))))
line_step slots n d s (inbound.Side c m) single a l h = by_open (is_open c s.queues) m
  where
    quiet : in_lane slots n (marks_parked d s.queues) ≡ in_lane slots n (marks_parked d s.queues ++ [])
    quiet = ap (in_lane slots n) (sym (append_nil _))

    by_answer_seq : (set : QuorumTree) (b : Bool) (x : Carried) → parked_mark ((cond b (with_set (Some set)) (lost_by BadSet)) x) ≡ number x.seq.0
    by_answer_seq set true x = refl
    by_answer_seq set false x = refl

    by_answer_mine : (set : QuorumTree) (b : Bool) (k : ConnId) (x : Carried) → x.conn ≡ k → IsParkedOf k ((cond b (with_set (Some set)) (lost_by BadSet)) x)
    by_answer_mine set true k x e = e
    by_answer_mine set false k x e = e

    by_answer_lane : (set : QuorumTree) (b : Bool) (x : Carried) → slots x.seq.0 ≡ slot_of x.message → HasLane slots ((cond b (with_set (Some set)) (lost_by BadSet)) x)
    by_answer_lane set true x e = e
    by_answer_lane set false x e = e

    by_set : (set : QuorumTree) (b : Bool) → in_lane slots n (marks_of d (cond b (leaving_of (resolved (is_hash (hash_of set)) (by_answer set) s.queues)) []) ++ marks_parked d (cond b (answered set s) s).queues) ≡ in_lane slots n (marks_parked d s.queues ++ [])
    by_set set true = serving slots n d (is_hash (hash_of set)) (by_answer set) s.queues (by_answer_seq set (is_sane set)) (by_answer_mine set (is_sane set)) (by_answer_lane set (is_sane set)) single a l
    by_set set false = quiet

    by_miss : (hash : Hash) (b : Bool) → in_lane slots n (marks_of d (cond b (leaving_of (resolved (is_hash hash) (lost_by GaveUp) s.queues)) []) ++ marks_parked d (cond b (gives_up_one hash (record s { wanted = missed_by (One hash) s.wanted })) (record s { wanted = missed_by (One hash) s.wanted })).queues) ≡ in_lane slots n (marks_parked d s.queues ++ [])
    by_miss hash true = serving slots n d (is_hash hash) (lost_by GaveUp) s.queues (λ x. refl) (λ k x e. e) (λ x e. e) single a l
    by_miss hash false = quiet

    by_message : (m : SideMessage) → in_lane slots n (marks_of d (heard_out m s) ++ marks_parked d (hears m s).queues) ≡ in_lane slots n (marks_parked d s.queues ++ [])
    by_message (GetSet hash) = quiet
    by_message (Set set) = by_set set (is_answer set s)
    by_message (NoSet hash) = by_miss hash (gives_up (One hash) s.wanted hash)

    by_open : (b : Bool) (m : SideMessage) → in_lane slots n (marks_of d (cond b (heard_out m s) []) ++ marks_parked d (cond b (hears m s) s).queues) ≡ in_lane slots n (marks_parked d s.queues ++ [])
    by_open true m = by_message m
    by_open false m = quiet
line_step slots n d s (inbound.Closed c cause) single a l h = ap (in_lane slots n) (by_open (is_open c s.queues))
  where
    none_of : (mine : Bool) → mine ≡ false → one_if mine (ended cause) ++ [] ≡ []
    none_of true e = absurd cc
    none_of false e = refl

    by_open : (b : Bool) → marks_of d (cond b (map (dropped c ByClose) (parked_of c s.queues) ++ Closed c cause ∷ []) []) ++ marks_parked d (cond b (closed_off c s) s).queues ≡ marks_parked d s.queues ++ cond b (one_if (same_conn c d) (ended cause)) []
    by_open false = sym (append_nil _)
    by_open true = closing c d ByClose (Closed c cause ∷ []) s (same_conn c d) refl single (none_of (same_conn c d)) ∙ ap (λ ms. marks_parked d s.queues ++ ms) (append_nil (one_if (same_conn c d) (ended cause)))
line_step slots n d s (inbound.Local Tick) single a l h =
    let hashes = last_missed s.wanted in
    let same : parked_of d (in_order_of hashes s.queues) ≡ parked_of d s.queues = parked-in_order d hashes s.queues (single d) in
    serving slots n d (is_given_up s.wanted) (lost_by GaveUp) (in_order_of hashes s.queues) (λ x. refl) (λ k x e. e) (λ x e. e) (single-in_order hashes s.queues single) (all_in_order AreMine hashes s.queues a) (subst (AllByRecursion (HasLane slots)) (sym same) l) ∙ ap (λ ps. in_lane slots n (map parked_mark ps ++ [])) same
line_step slots n d s (inbound.Local (Propose slot value)) single a l h = ap (in_lane slots n) (sym (append_nil (marks_parked d s.queues)))
line_step slots n d s (inbound.Local (Round slot)) single a l h = ap (in_lane slots n) (sym (append_nil (marks_parked d s.queues)))
line_step slots n d s (inbound.Local (Timer slot)) single a l h = ap (in_lane slots n) (sym (append_nil (marks_parked d s.queues)))
line_step slots n d s (inbound.Local (Ask link slot)) single a l h = ap (in_lane slots n) (sym (append_nil (marks_parked d s.queues)))

-- ---- whether it is open

abbrev pub open_after : ConnId → Settled → Inbound → Bool
open_after c s (inbound.Opened d) = cond (opens d s) (is_open c s.queues || same_conn d c) (is_open c s.queues)
open_after c s (inbound.Carried x) = cond (is_open x.conn s.queues && overflows x.conn (entering s.store x) s.queues) (is_open c s.queues && not (same_conn x.conn c)) (is_open c s.queues)
open_after c s (inbound.Side d message) = is_open c s.queues
open_after c s (inbound.Closed d cause) = cond (is_open d s.queues) (is_open c s.queues && not (same_conn d c)) (is_open c s.queues)
open_after c s (inbound.Local command) = is_open c s.queues

open-append : (c d : ConnId) (qs : List QueueView) → is_open c (qs ++ record { conn = d; parked = [] } ∷ []) ≡ (is_open c qs || same_conn d c)
open-append c d [] = by_test (same_conn d c)
  where
    by_test : (b : Bool) → (b || false) ≡ b
    by_test true = refl
    by_test false = refl
open-append c d (q ∷ qs) = ap (λ b. is_of c q || b) (open-append c d qs) ∙ three (is_of c q) (is_open c qs) (same_conn d c)
  where
    three : (x y z : Bool) → (x || (y || z)) ≡ ((x || y) || z)
    three true y z = refl
    three false y z = refl

open-others : (c d : ConnId) (qs : List QueueView) → AreSingle qs → is_open d qs ≡ true → is_open c (others d qs) ≡ (is_open c qs && not (same_conn d c))
open-others c d qs single live = by_test (same_conn d c) refl
  where
    and_false : (b : Bool) → false ≡ (b && false)
    and_false true = refl
    and_false false = refl

    and_true : (b : Bool) → b ≡ (b && true)
    and_true true = refl
    and_true false = refl

    by_test : (b : Bool) → same_conn d c ≡ b → is_open c (others d qs) ≡ (is_open c qs && not b)
    by_test true e = subst (λ (k : ConnId). is_open k (others d qs) ≡ false) (same_conn-true d c e) (shut_none d (others d qs) (omega (arith, how_many-others_mine d qs live, single d))) ∙ and_false (is_open c qs)
    by_test false e = open_as c (others d qs) qs (how_many-others_other d c qs e) ∙ and_true (is_open c qs)

open-served : (c : ConnId) (test : Option Hash → Bool) (f : Carried → Parked) (qs : List QueueView) → is_open c (served (resolved test f qs)) ≡ is_open c qs
open-served c test f qs = open_as c (served (resolved test f qs)) qs (how_many-served c (resolved test f qs) ∙ how_many-map c (resolved_in test f) (λ q. refl) qs)

pub open_step : (c : ConnId) (s : Settled) (item : Inbound) → AreSingle s.queues → is_open c (rules s item).queues ≡ open_after c s item
open_step c s (inbound.Opened d) single = by_test (opens d s)
  where
    by_test : (b : Bool) → is_open c (cond b (opened d s) s).queues ≡ cond b (is_open c s.queues || same_conn d c) (is_open c s.queues)
    by_test true = open-append c d s.queues
    by_test false = refl
open_step c s (inbound.Carried x) single = by_tests (is_open x.conn s.queues) (overflows x.conn (entering s.store x) s.queues) (goes_through x.conn (entering s.store x) s.queues) refl
  where
    by_tests : (o f g : Bool) → is_open x.conn s.queues ≡ o → is_open c (cond o (cond f (closed_off x.conn s) (cond g s (parks x (entering s.store x) s))) s).queues ≡ cond (o && f) (is_open c s.queues && not (same_conn x.conn c)) (is_open c s.queues)
    by_tests true true g o = open-others c x.conn s.queues single o
    by_tests true false true o = refl
    by_tests true false false o = open_as c (parked_in x.conn (entering s.store x) s.queues) s.queues (how_many-parked_in x.conn c (entering s.store x) s.queues o)
    by_tests false f g o = refl
open_step c s (inbound.Side d m) single = by_open (is_open d s.queues) m
  where
    by_set : (set : QuorumTree) (b : Bool) → is_open c (cond b (answered set s) s).queues ≡ is_open c s.queues
    by_set set true = open-served c (is_hash (hash_of set)) (by_answer set) s.queues
    by_set set false = refl

    by_miss : (hash : Hash) (b : Bool) → is_open c (cond b (gives_up_one hash (record s { wanted = missed_by (One hash) s.wanted })) (record s { wanted = missed_by (One hash) s.wanted })).queues ≡ is_open c s.queues
    by_miss hash true = open-served c (is_hash hash) (lost_by GaveUp) s.queues
    by_miss hash false = refl

    by_message : (m : SideMessage) → is_open c (hears m s).queues ≡ is_open c s.queues
    by_message (GetSet hash) = refl
    by_message (Set set) = by_set set (is_answer set s)
    by_message (NoSet hash) = by_miss hash (gives_up (One hash) s.wanted hash)

    by_open : (b : Bool) (m : SideMessage) → is_open c (cond b (hears m s) s).queues ≡ is_open c s.queues
    by_open true m = by_message m
    by_open false m = refl
open_step c s (inbound.Closed d cause) single = by_open (is_open d s.queues) refl
  where
    by_open : (b : Bool) → is_open d s.queues ≡ b → is_open c (cond b (closed_off d s) s).queues ≡ cond b (is_open c s.queues && not (same_conn d c)) (is_open c s.queues)
    by_open true e = open-others c d s.queues single e
    by_open false e = refl
open_step c s (inbound.Local Tick) single = open-served c (is_given_up s.wanted) (lost_by GaveUp) (in_order_of (last_missed s.wanted) s.queues) ∙ open_as c (in_order_of (last_missed s.wanted) s.queues) s.queues (how_many-in_order c (last_missed s.wanted) s.queues)
open_step c s (inbound.Local (Propose slot value)) single = refl
open_step c s (inbound.Local (Round slot)) single = refl
open_step c s (inbound.Local (Timer slot)) single = refl
open_step c s (inbound.Local (Ask link slot)) single = refl
