-- What is parked of a connection has ascending numbers.
use Rattle.std.proofs.Common.{◌≡◌, ℕ, ◌+◌, ◌≤◌, Bool, true, false, cond, List, [], ◌∷◌, ◌++◌, refl, sym, ◌∙◌, ap, subst, arith, map, inl, inr, ◌⊎◌}
use Rattle.std.specs.Prelude.{Option, Some, None}
use Rattle.scp_wire.specs.scp_types.specs.declared.names.ConnId.{ConnId}
use Rattle.scp_wire.specs.scp_types.specs.declared.names.Hash.{Hash}
use Rattle.scp_wire.specs.scp_types.specs.declared.names.Seq.{Seq}
use Rattle.scp_wire.specs.scp_quorum.specs.QuorumTree.{QuorumTree}
use Rattle.scp_wire.specs.declared.carried.Carried.{Carried}
use Rattle.scp_wire.specs.declared.side.SideMessage.{SideMessage}
use Rattle.scp_wire.specs.declared.side.SideMessage.TheVariants.{GetSet, Set, NoSet}
use Rattle.scp_wire.specs.declared.link.Command.TheVariants.{Tick, Propose, Round, Timer, Ask}
use Rattle.scp_wire.specs.declared.link.Inbound.{Inbound}
use Rattle.scp_wire.specs.declared.link.Inbound.TheVariants as inbound
use Rattle.scp_wire.specs.Connections.{same_conn}
use Rattle.scp_fetch.specs.declared.want.Miss.TheVariants.{One}
use Rattle.scp_fetch.specs.Wants.{gives_up, last_missed, missed_by}
use Rattle.scp_fetch.specs.Store.{lookup}
use Rattle.scp_pending.specs.declared.parked.Parked.{Parked}
use Rattle.scp_pending.specs.declared.parked.Parked.TheVariants.{Waits, Free, Lost}
use Rattle.scp_pending.specs.declared.ready.DropCause.TheVariants.{BadSet, GaveUp}
use Rattle.scp_pending.specs.Sanity.{is_sane}
use Rattle.scp_pending.specs.Queues.{QueueView, is_open, parked_of, others, parked_in, is_held, stays_behind, served, in_order_of, seq_of, named, is_hash, hash_of, resolved_one, resolved, with_set, lost_by}
use Rattle.scp_pending.specs.Rules.{Settled, rules, opens, opened, closed_off, entering_by, entering, found, overflows, goes_through, parks, by_answer, answered, is_answer, is_given_up, gives_up_one, hears}
use Rattle.scp_pending.specs.Endings.{Ascend}
use Rattle.scp_pending.proofs.Basics.{map-append, same_conn-true}
use Rattle.scp_pending.proofs.Serving.{AreSingle, parked-opened, parked-others_mine, parked-others_other, parked_in-mine, parked_in-other, parked-resolved, parked-served, parked-in_order}

abbrev pub seqs_of : ConnId → List QueueView → List Seq
seqs_of c qs = map seq_of (parked_of c qs)

-- the numbers ascend, from n on and below m
abbrev pub Rises : ℕ → ℕ → List Seq → Type 0
Rises n m [] = n ≤ m
Rises n m (seq ∷ seqs) = (n ≤ seq.0) × Rises (seq.0 + 1) m seqs

pub rises_within : (n m : ℕ) (seqs : List Seq) → Rises n m seqs → n ≤ m
rises_within n m [] r = r
rises_within n m (seq ∷ seqs) r = (let rest = rises_within (seq.0 + 1) m seqs r.1 in omega (arith, r.0, rest))

pub rises_from : (n k m : ℕ) (seqs : List Seq) → k ≤ n → Rises n m seqs → Rises k m seqs
rises_from n k m [] le r = omega (arith, le, r)
rises_from n k m (seq ∷ seqs) le r = (omega (arith, le, r.0), r.1)

pub rises_to : (n m k : ℕ) (seqs : List Seq) → m ≤ k → Rises n m seqs → Rises n k seqs
rises_to n m k [] le r = omega (arith, le, r)
rises_to n m k (seq ∷ seqs) le r = (r.0, rises_to (seq.0 + 1) m k seqs le r.1)

pub rises_push : (n m : ℕ) (seqs : List Seq) (seq : Seq) → seq.0 ≡ m → Rises n m seqs → Rises n (m + 1) (seqs ++ seq ∷ [])
rises_push n m [] seq e r = (omega (arith, e, r), omega (arith, e))
rises_push n m (s ∷ seqs) seq e r = (r.0, rises_push (s.0 + 1) m seqs seq e r.1)

pub rises_ascend : (n m : ℕ) (seqs : List Seq) → Rises n m seqs → Ascend n seqs
rises_ascend n m [] r = tt
rises_ascend n m (seq ∷ seqs) r = (r.0, rises_ascend (seq.0 + 1) m seqs r.1)

-- whatever bounds the numbers of the second list bounds those of the first
abbrev pub IsPart : List Seq → List Seq → Type 0
IsPart xs ys = (n m : ℕ) → Rises n m ys → Rises n m xs

stays_part : (kept ps : List Parked) → IsPart (map seq_of (stays_behind kept ps)) (map seq_of ps)
stays_part kept [] n m r = r
stays_part kept (p ∷ ps) n m r = by_test (is_held kept p) (stays_part (kept ++ p ∷ []) ps ((seq_of p).0 + 1) m r.1) (stays_part kept ps ((seq_of p).0 + 1) m r.1)
  where
    by_test : (b : Bool) → Rises ((seq_of p).0 + 1) m (map seq_of (stays_behind (kept ++ p ∷ []) ps)) → Rises ((seq_of p).0 + 1) m (map seq_of (stays_behind kept ps)) → Rises n m (map seq_of (cond b (p ∷ stays_behind (kept ++ p ∷ []) ps) (stays_behind kept ps)))
    by_test true stay go = (r.0, stay)
    by_test false stay go = rises_from ((seq_of p).0 + 1) n m (map seq_of (stays_behind kept ps)) (omega (arith, r.0)) go

resolved_seqs : (test : Option Hash → Bool) (f : Carried → Parked) → ((x : Carried) → seq_of (f x) ≡ x.seq) → (ps : List Parked) → map seq_of (map (resolved_one test f) ps) ≡ map seq_of ps
resolved_seqs test f same [] = refl
resolved_seqs test f same (Waits x ∷ ps) = by_test (test (named x.message)) (resolved_seqs test f same ps)
  where
    by_test : (b : Bool) → map seq_of (map (resolved_one test f) ps) ≡ map seq_of ps → seq_of (cond b (f x) (Waits x)) ∷ map seq_of (map (resolved_one test f) ps) ≡ x.seq ∷ map seq_of ps
    by_test true e = rw (same x, e) refl
    by_test false e = rw e refl
resolved_seqs test f same (Free d ∷ ps) = ap (λ zs. d.seq ∷ zs) (resolved_seqs test f same ps)
resolved_seqs test f same (Lost x cause ∷ ps) = ap (λ zs. x.seq ∷ zs) (resolved_seqs test f same ps)

served_part : (c : ConnId) (test : Option Hash → Bool) (f : Carried → Parked) → ((x : Carried) → seq_of (f x) ≡ x.seq) → (qs : List QueueView) → IsPart (seqs_of c (served (resolved test f qs))) (seqs_of c qs)
served_part c test f same qs n m r = subst (λ (ps : List Parked). Rises n m (map seq_of ps)) (sym (parked-served c (resolved test f qs))) (stays_part [] (parked_of c (resolved test f qs)) n m (subst (λ (seqs : List Seq). Rises n m seqs) (sym (ap (map seq_of) (parked-resolved c test f qs) ∙ resolved_seqs test f same (parked_of c qs))) r))

others_part : (c d : ConnId) (qs : List QueueView) → AreSingle qs → IsPart (seqs_of c (others d qs)) (seqs_of c qs)
others_part c d qs single n m r = by_test (same_conn d c) refl
  where
    by_test : (b : Bool) → same_conn d c ≡ b → Rises n m (seqs_of c (others d qs))
    by_test true e = subst (λ (ps : List Parked). Rises n m (map seq_of ps)) (sym (subst (λ (k : ConnId). parked_of k (others d qs) ≡ []) (same_conn-true d c e) (parked-others_mine d qs (single d)))) (rises_within n m (seqs_of c qs) r)
    by_test false e = subst (λ (ps : List Parked). Rises n m (map seq_of ps)) (sym (parked-others_other d c qs e)) r

pub entering_as : (s : Settled) (x : Carried) → seq_of (entering s.store x) ≡ x.seq
entering_as s x = by_name (named x.message)
  where
    by_lookup : (o : Option QuorumTree) → seq_of (found x o) ≡ x.seq
    by_lookup None = refl
    by_lookup (Some set) = refl

    by_name : (o : Option Hash) → seq_of (entering_by o s.store x) ≡ x.seq
    by_name None = refl
    by_name (Some hash) = by_lookup (lookup hash s.store)

answer_seq : (set : QuorumTree) (x : Carried) → seq_of (by_answer set x) ≡ x.seq
answer_seq set x = by_test (is_sane set)
  where
    by_test : (b : Bool) → seq_of ((cond b (with_set (Some set)) (lost_by BadSet)) x) ≡ x.seq
    by_test true = refl
    by_test false = refl

-- a message of the connection that is parked
pub record IsAdded (c : ConnId) (item : Inbound) (old new : List Seq) : Type 0 where
  pub x : Carried
  pub is : item ≡ inbound.Carried x
  pub mine : x.conn ≡ c
  pub seqs : new ≡ old ++ x.seq ∷ []

pub seqs_step : (c : ConnId) (s : Settled) (item : Inbound) → AreSingle s.queues → IsPart (seqs_of c (rules s item).queues) (seqs_of c s.queues) ⊎ IsAdded c item (seqs_of c s.queues) (seqs_of c (rules s item).queues)
seqs_step c s (inbound.Opened d) single = inl (by_test (opens d s))
  where
    by_test : (b : Bool) → IsPart (seqs_of c (cond b (opened d s) s).queues) (seqs_of c s.queues)
    by_test true = λ n m r. subst (λ (ps : List Parked). Rises n m (map seq_of ps)) (sym (parked-opened c d s.queues)) r
    by_test false = λ n m r. r
seqs_step c s (inbound.Carried x) single = by_tests (is_open x.conn s.queues) (overflows x.conn (entering s.store x) s.queues) (goes_through x.conn (entering s.store x) s.queues) refl
  where
    p : Parked
    p = entering s.store x

    parked' : (b : Bool) → is_open x.conn s.queues ≡ true → same_conn x.conn c ≡ b → IsPart (seqs_of c (parked_in x.conn p s.queues)) (seqs_of c s.queues) ⊎ IsAdded c (inbound.Carried x) (seqs_of c s.queues) (seqs_of c (parked_in x.conn p s.queues))
    parked' true live e = inr (record { x = x; is = refl; mine = same_conn-true x.conn c e; seqs = subst (λ (k : ConnId). seqs_of k (parked_in x.conn p s.queues) ≡ seqs_of k s.queues ++ x.seq ∷ []) (same_conn-true x.conn c e) (ap (map seq_of) (parked_in-mine x.conn p s.queues live (single x.conn)) ∙ map-append seq_of (parked_of x.conn s.queues) (p ∷ []) ∙ ap (λ (q : Seq). seqs_of x.conn s.queues ++ q ∷ []) (entering_as s x)) })
    parked' false live e = inl (λ n m r. subst (λ (ps : List Parked). Rises n m (map seq_of ps)) (sym (parked_in-other x.conn c p s.queues e)) r)

    by_tests : (o f g : Bool) → is_open x.conn s.queues ≡ o → IsPart (seqs_of c (cond o (cond f (closed_off x.conn s) (cond g s (parks x p s))) s).queues) (seqs_of c s.queues) ⊎ IsAdded c (inbound.Carried x) (seqs_of c s.queues) (seqs_of c (cond o (cond f (closed_off x.conn s) (cond g s (parks x p s))) s).queues)
    by_tests true true g o = inl (others_part c x.conn s.queues single)
    by_tests true false true o = inl (λ n m r. r)
    by_tests true false false o = parked' (same_conn x.conn c) o refl
    by_tests false f g o = inl (λ n m r. r)
seqs_step c s (inbound.Side d m) single = inl (by_open (is_open d s.queues) m)
  where
    by_set : (set : QuorumTree) (b : Bool) → IsPart (seqs_of c (cond b (answered set s) s).queues) (seqs_of c s.queues)
    by_set set true = served_part c (is_hash (hash_of set)) (by_answer set) (answer_seq set) s.queues
    by_set set false = λ n m r. r

    by_miss : (hash : Hash) (b : Bool) → IsPart (seqs_of c (cond b (gives_up_one hash (record s { wanted = missed_by (One hash) s.wanted })) (record s { wanted = missed_by (One hash) s.wanted })).queues) (seqs_of c s.queues)
    by_miss hash true = served_part c (is_hash hash) (lost_by GaveUp) (λ x. refl) s.queues
    by_miss hash false = λ n m r. r

    by_message : (m : SideMessage) → IsPart (seqs_of c (hears m s).queues) (seqs_of c s.queues)
    by_message (GetSet hash) = λ n m r. r
    by_message (Set set) = by_set set (is_answer set s)
    by_message (NoSet hash) = by_miss hash (gives_up (One hash) s.wanted hash)

    by_open : (b : Bool) (m : SideMessage) → IsPart (seqs_of c (cond b (hears m s) s).queues) (seqs_of c s.queues)
    by_open true m = by_message m
    by_open false m = λ n m r. r
seqs_step c s (inbound.Closed d cause) single = inl (by_open (is_open d s.queues))
  where
    by_open : (b : Bool) → IsPart (seqs_of c (cond b (closed_off d s) s).queues) (seqs_of c s.queues)
    by_open true = others_part c d s.queues single
    by_open false = λ n m r. r
seqs_step c s (inbound.Local Tick) single = inl (λ n m r. served_part c (is_given_up s.wanted) (lost_by GaveUp) (λ x. refl) (in_order_of (last_missed s.wanted) s.queues) n m (subst (λ (ps : List Parked). Rises n m (map seq_of ps)) (sym (parked-in_order c (last_missed s.wanted) s.queues (single c))) r))
seqs_step c s (inbound.Local (Propose slot value)) single = inl (λ n m r. r)
seqs_step c s (inbound.Local (Round slot)) single = inl (λ n m r. r)
seqs_step c s (inbound.Local (Timer slot)) single = inl (λ n m r. r)
seqs_step c s (inbound.Local (Ask link slot)) single = inl (λ n m r. r)
