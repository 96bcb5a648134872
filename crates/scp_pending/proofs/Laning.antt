-- What leaves a queue and what stays, lane by lane.
use Rattle.std.proofs.Common.{◌≡◌, ℕ, ◌≤◌, Bool, true, false, cond, List, [], ◌∷◌, ◌++◌, length, refl, sym, ◌∙◌, ap, subst, arith, append_assoc, nat_eq, map}
use Rattle.std.specs.Prelude.{◌||◌, filter}
use Rattle.std.specs.List.{list_any, AllByRecursion}
use Rattle.std.proofs.lemmas.Bool.{eqb-true}
use Rattle.scp_wire.specs.scp_types.specs.declared.names.ConnId.{ConnId}
use Rattle.scp_wire.specs.Connections.{same_conn}
use Rattle.scp_wire.specs.Marks.{Mark, one_if}
use Rattle.scp_wire.specs.Lanes.{is_in_lane, in_lane}
use Rattle.scp_pending.specs.declared.parked.Parked.{Parked}
use Rattle.scp_pending.specs.declared.parked.Parked.TheVariants.{Waits, Free, Lost}
use Rattle.scp_pending.specs.declared.ready.Ready.{Ready}
use Rattle.scp_pending.specs.Queues.{lane_of, is_at, at_slot, waits, is_held, fate, leaves_behind, stays_behind, seq_of}
pub use Rattle.scp_pending.specs.Linked.{IsParkedOf}
use Rattle.scp_pending.specs.Line.{ready_mark, marks_of, parked_mark}
pub use Rattle.scp_pending.specs.inside.Kept.{AreHeld}
use Rattle.scp_pending.proofs.Basics.{append_nil, clash, or_none, or_right, or_left, flat-append, same_conn-refl, all_append}

-- ---- lists

pub any-append : {X : Type 0} (test : X → Bool) (xs ys : List X) → list_any test (xs ++ ys) ≡ (list_any test xs || list_any test ys)
any-append test [] ys = refl
any-append test (x ∷ xs) ys = ap (λ b. test x || b) (any-append test xs ys) ∙ three (test x) (list_any test xs) (list_any test ys)
  where
    three : (a b c : Bool) → (a || (b || c)) ≡ ((a || b) || c)
    three true b c = refl
    three false b c = refl

pub filter-append : {X : Type 0} (f : X → Bool) (xs ys : List X) → filter f (xs ++ ys) ≡ filter f xs ++ filter f ys
filter-append f [] ys = refl
filter-append f (x ∷ xs) ys = by_test (f x) (filter-append f xs ys)
  where
    by_test : (b : Bool) → filter f (xs ++ ys) ≡ filter f xs ++ filter f ys → cond b (x ∷ filter f (xs ++ ys)) (filter f (xs ++ ys)) ≡ cond b (x ∷ filter f xs) (filter f xs) ++ filter f ys
    by_test true e = ap (λ zs. x ∷ zs) e
    by_test false e = e

pub in_lane-append : (slots : ℕ → ℕ) (s : ℕ) (xs ys : List Mark) → in_lane slots s (xs ++ ys) ≡ in_lane slots s xs ++ in_lane slots s ys
in_lane-append slots s xs ys = filter-append (is_in_lane slots s) xs ys

-- ---- one that is parked

-- its number is of its lane
abbrev pub HasLane : (ℕ → ℕ) → Parked → Type 0
HasLane slots p = slots (seq_of p).0 ≡ lane_of p

pub marks-fate : (c : ConnId) (p : Parked) → waits p ≡ false → IsParkedOf c p → marks_of c (fate c p) ≡ parked_mark p ∷ []
marks-fate c (Waits x) w m = absurd cc
marks-fate c (Free d) w m = rw (ap (λ (k : ConnId). same_conn k c) m ∙ same_conn-refl c) refl
marks-fate c (Lost x cause) w m = rw (same_conn-refl c) refl

pub marks-fate_other : (c d : ConnId) (p : Parked) → same_conn c d ≡ false → IsParkedOf c p → marks_of d (fate c p) ≡ []
marks-fate_other c d (Waits x) o m = refl
marks-fate_other c d (Free y) o m = rw (ap (λ (k : ConnId). same_conn k d) m ∙ o) refl
marks-fate_other c d (Lost x cause) o m = rw o refl

-- one more of its lane, or of another
abbrev has : ℕ → List Parked → Bool
has s ps = list_any (is_at s) ps

has-push : (s : ℕ) (kept : List Parked) (p : Parked) → has s (kept ++ p ∷ []) ≡ (has s kept || (is_at s p || false))
has-push s kept p = any-append (is_at s) kept (p ∷ [])

more : (s : ℕ) (kept : List Parked) (p : Parked) → has s kept ≡ true → has s (kept ++ p ∷ []) ≡ true
more s kept p h = has-push s kept p ∙ or_left (has s kept) (is_at s p || false) h

mine_too : (s : ℕ) (kept : List Parked) (p : Parked) → is_at s p ≡ true → has s (kept ++ p ∷ []) ≡ true
mine_too s kept p h = has-push s kept p ∙ or_right (has s kept) (is_at s p || false) (or_left (is_at s p) false h)

none_too : (s : ℕ) (kept : List Parked) (p : Parked) → has s kept ≡ false → is_at s p ≡ false → has s (kept ++ p ∷ []) ≡ false
none_too s kept p h o = has-push s kept p ∙ rw (h, o) refl

free_of : (kept : List Parked) (p : Parked) → is_held kept p ≡ false → (waits p ≡ false) × (has (lane_of p) kept ≡ false)
free_of kept p e = or_none (waits p) (has (lane_of p) kept) e

-- one that leaves isn't of a lane in which something stays
not_there : (s : ℕ) (kept : List Parked) (p : Parked) → is_held kept p ≡ false → has s kept ≡ true → is_at s p ≡ false
not_there s kept p e h = by_test (is_at s p) refl
  where
    by_test : (b : Bool) → is_at s p ≡ b → b ≡ false
    by_test false k = refl
    by_test true k = clash (has s kept) h (subst (λ (n : ℕ). has n kept ≡ false) (eqb-true (lane_of p) s k) (free_of kept p e).1)

-- ---- marks, lane by lane

module _ (slots : ℕ → ℕ) (c : ConnId) (s : ℕ) where
  pub mark_in : (p : Parked) (b : Bool) → HasLane slots p → is_at s p ≡ b → in_lane slots s (parked_mark p ∷ []) ≡ one_if b (parked_mark p)
  mark_in p b l k = rw (ap (λ n. nat_eq n s) l ∙ k) (by_test b)
    where
      by_test : (b : Bool) → cond b (parked_mark p ∷ []) [] ≡ one_if b (parked_mark p)
      by_test true = refl
      by_test false = refl

  pub marks-one : (p : Parked) (ps : List Parked) (b : Bool) → HasLane slots p → is_at s p ≡ b → in_lane slots s (map parked_mark (p ∷ ps)) ≡ one_if b (parked_mark p) ++ in_lane slots s (map parked_mark ps)
  marks-one p ps b l k = in_lane-append slots s (parked_mark p ∷ []) (map parked_mark ps) ∙ ap (λ zs. zs ++ in_lane slots s (map parked_mark ps)) (mark_in p b l k)

  marks-gone : (p : Parked) (rs : List Ready) (b : Bool) → waits p ≡ false → IsParkedOf c p → HasLane slots p → is_at s p ≡ b → in_lane slots s (marks_of c (fate c p ++ rs)) ≡ one_if b (parked_mark p) ++ in_lane slots s (marks_of c rs)
  marks-gone p rs b w m l k = ap (in_lane slots s) (flat-append (ready_mark c) (fate c p) rs ∙ ap (λ zs. zs ++ marks_of c rs) (marks-fate c p w m)) ∙ in_lane-append slots s (parked_mark p ∷ []) (marks_of c rs) ∙ ap (λ zs. zs ++ in_lane slots s (marks_of c rs)) (mark_in p b l k)

  -- of a lane in which something stays nothing leaves
  pub stuck_leaves : (kept ps : List Parked) → has s kept ≡ true → AllByRecursion (IsParkedOf c) ps → AllByRecursion (HasLane slots) ps → in_lane slots s (marks_of c (leaves_behind c kept ps)) ≡ []
  stuck_leaves kept [] h a l = refl
  stuck_leaves kept (p ∷ ps) h a l = by_test (is_held kept p) refl (stuck_leaves (kept ++ p ∷ []) ps (more s kept p h) a.1 l.1) (stuck_leaves kept ps h a.1 l.1)
    where
      by_test : (b : Bool) → is_held kept p ≡ b → in_lane slots s (marks_of c (leaves_behind c (kept ++ p ∷ []) ps)) ≡ [] → in_lane slots s (marks_of c (leaves_behind c kept ps)) ≡ [] → in_lane slots s (marks_of c (cond b (leaves_behind c (kept ++ p ∷ []) ps) (fate c p ++ leaves_behind c kept ps))) ≡ []
      by_test true e stay go = stay
      by_test false e stay go = marks-gone p (leaves_behind c kept ps) false (free_of kept p e).0 a.0 l.0 (not_there s kept p e h) ∙ go

  pub stuck_stays : (kept ps : List Parked) → has s kept ≡ true → AllByRecursion (HasLane slots) ps → in_lane slots s (map parked_mark (stays_behind kept ps)) ≡ in_lane slots s (map parked_mark ps)
  stuck_stays kept [] h l = refl
  stuck_stays kept (p ∷ ps) h l = by_test (is_held kept p) refl (stuck_stays (kept ++ p ∷ []) ps (more s kept p h) l.1) (stuck_stays kept ps h l.1)
    where
      by_test : (b : Bool) → is_held kept p ≡ b → in_lane slots s (map parked_mark (stays_behind (kept ++ p ∷ []) ps)) ≡ in_lane slots s (map parked_mark ps) → in_lane slots s (map parked_mark (stays_behind kept ps)) ≡ in_lane slots s (map parked_mark ps) → in_lane slots s (map parked_mark (cond b (p ∷ stays_behind (kept ++ p ∷ []) ps) (stays_behind kept ps))) ≡ in_lane slots s (map parked_mark (p ∷ ps))
      by_test true e stay go = marks-one p (stays_behind (kept ++ p ∷ []) ps) (is_at s p) l.0 refl ∙ ap (λ zs. one_if (is_at s p) (parked_mark p) ++ zs) stay ∙ sym (marks-one p ps (is_at s p) l.0 refl)
      by_test false e stay go = go ∙ sym (marks-one p ps false l.0 (not_there s kept p e h))

  -- what leaves of a lane, and then what stays of it, is what was parked of it
  pub lane_apart : (kept ps : List Parked) → has s kept ≡ false → AllByRecursion (IsParkedOf c) ps → AllByRecursion (HasLane slots) ps → in_lane slots s (marks_of c (leaves_behind c kept ps)) ++ in_lane slots s (map parked_mark (stays_behind kept ps)) ≡ in_lane slots s (map parked_mark ps)
  lane_apart kept [] h a l = refl
  lane_apart kept (p ∷ ps) h a l = by_tests (is_held kept p) (is_at s p) refl refl (λ n. lane_apart (kept ++ p ∷ []) ps n a.1 l.1) (lane_apart kept ps h a.1 l.1)
    where
      by_tests : (b k : Bool) → is_held kept p ≡ b → is_at s p ≡ k → (has s (kept ++ p ∷ []) ≡ false → in_lane slots s (marks_of c (leaves_behind c (kept ++ p ∷ []) ps)) ++ in_lane slots s (map parked_mark (stays_behind (kept ++ p ∷ []) ps)) ≡ in_lane slots s (map parked_mark ps)) → in_lane slots s (marks_of c (leaves_behind c kept ps)) ++ in_lane slots s (map parked_mark (stays_behind kept ps)) ≡ in_lane slots s (map parked_mark ps) → in_lane slots s (marks_of c (cond b (leaves_behind c (kept ++ p ∷ []) ps) (fate c p ++ leaves_behind c kept ps))) ++ in_lane slots s (map parked_mark (cond b (p ∷ stays_behind (kept ++ p ∷ []) ps) (stays_behind kept ps))) ≡ in_lane slots s (map parked_mark (p ∷ ps))
      by_tests true true e k stay go = ap (λ zs. zs ++ in_lane slots s (map parked_mark (p ∷ stays_behind (kept ++ p ∷ []) ps))) (stuck_leaves (kept ++ p ∷ []) ps (mine_too s kept p k) a.1 l.1) ∙ marks-one p (stays_behind (kept ++ p ∷ []) ps) true l.0 k ∙ ap (λ zs. parked_mark p ∷ zs) (stuck_stays (kept ++ p ∷ []) ps (mine_too s kept p k) l.1) ∙ sym (marks-one p ps true l.0 k)
      by_tests true false e k stay go = ap (λ zs. in_lane slots s (marks_of c (leaves_behind c (kept ++ p ∷ []) ps)) ++ zs) (marks-one p (stays_behind (kept ++ p ∷ []) ps) false l.0 k) ∙ stay (none_too s kept p h k) ∙ sym (marks-one p ps false l.0 k)
      by_tests false true e k stay go = ap (λ zs. zs ++ in_lane slots s (map parked_mark (stays_behind kept ps))) (marks-gone p (leaves_behind c kept ps) true (free_of kept p e).0 a.0 l.0 k) ∙ ap (λ zs. parked_mark p ∷ zs) go ∙ sym (marks-one p ps true l.0 k)
      by_tests false false e k stay go = ap (λ zs. zs ++ in_lane slots s (map parked_mark (stays_behind kept ps))) (marks-gone p (leaves_behind c kept ps) false (free_of kept p e).0 a.0 l.0 k) ∙ go ∙ sym (marks-one p ps false l.0 k)

-- of another connection nothing leaves
pub leaves-other : (c d : ConnId) (kept ps : List Parked) → same_conn c d ≡ false → AllByRecursion (IsParkedOf c) ps → marks_of d (leaves_behind c kept ps) ≡ []
leaves-other c d kept [] o a = refl
leaves-other c d kept (p ∷ ps) o a = by_test (is_held kept p) (leaves-other c d (kept ++ p ∷ []) ps o a.1) (leaves-other c d kept ps o a.1)
  where
    by_test : (b : Bool) → marks_of d (leaves_behind c (kept ++ p ∷ []) ps) ≡ [] → marks_of d (leaves_behind c kept ps) ≡ [] → marks_of d (cond b (leaves_behind c (kept ++ p ∷ []) ps) (fate c p ++ leaves_behind c kept ps)) ≡ []
    by_test true stay go = stay
    by_test false stay go = flat-append (ready_mark d) (fate c p) (leaves_behind c kept ps) ∙ ap (λ zs. zs ++ marks_of d (leaves_behind c kept ps)) (marks-fate_other c d p o a.0) ∙ go

-- ---- at rest

pub stays_held : (kept ps : List Parked) → AreHeld kept (stays_behind kept ps)
stays_held kept [] = tt
stays_held kept (p ∷ ps) = by_test (is_held kept p) refl (stays_held (kept ++ p ∷ []) ps) (stays_held kept ps)
  where
    by_test : (b : Bool) → is_held kept p ≡ b → AreHeld (kept ++ p ∷ []) (stays_behind (kept ++ p ∷ []) ps) → AreHeld kept (stays_behind kept ps) → AreHeld kept (cond b (p ∷ stays_behind (kept ++ p ∷ []) ps) (stays_behind kept ps))
    by_test true e stay go = (e, stay)
    by_test false e stay go = go

pub held-push : (kept ps : List Parked) (p : Parked) → AreHeld kept ps → is_held (kept ++ ps) p ≡ true → AreHeld kept (ps ++ p ∷ [])
held-push kept [] p a e = (subst (λ (qs : List Parked). is_held qs p ≡ true) (append_nil kept) e, tt)
held-push kept (q ∷ qs) p a e = (a.0, held-push (kept ++ q ∷ []) qs p a.1 (subst (λ (rs : List Parked). is_held rs p ≡ true) (sym (append_assoc kept (q ∷ []) qs)) e))

-- the first of a lane waits
abbrev pub FirstIs : (Parked → Type 0) → List Parked → Type 0
FirstIs P [] = Unit {0}
FirstIs P (p ∷ ps) = P p

pub first_waits : (P : Parked → Type 0) (s : ℕ) (kept ps : List Parked) → AreHeld kept ps → has s kept ≡ false → AllByRecursion P ps → FirstIs (λ p. P p × (waits p ≡ true)) (at_slot s ps)
first_waits P s kept [] h n a = tt
first_waits P s kept (p ∷ ps) h n a = by_test (is_at s p) refl (λ m. first_waits P s (kept ++ p ∷ []) ps h.1 m a.1)
  where
    it_waits : (w : Bool) → waits p ≡ w → is_at s p ≡ true → (w || has (lane_of p) kept) ≡ true → w ≡ true
    it_waits true e k o = refl
    it_waits false e k o = clash (has (lane_of p) kept) o (subst (λ (m : ℕ). has m kept ≡ false) (sym (eqb-true (lane_of p) s k)) n)

    by_test : (b : Bool) → is_at s p ≡ b → (has s (kept ++ p ∷ []) ≡ false → FirstIs (λ p. P p × (waits p ≡ true)) (at_slot s ps)) → FirstIs (λ p. P p × (waits p ≡ true)) (cond b (p ∷ at_slot s ps) (at_slot s ps))
    by_test true k rest = (a.0, it_waits (waits p) refl k h.0)
    by_test false k rest = rest (none_too s kept p n k)

-- ---- of all that is parked

pub stays_all : (P : Parked → Type 0) (kept ps : List Parked) → AllByRecursion P ps → AllByRecursion P (stays_behind kept ps)
stays_all P kept [] a = tt
stays_all P kept (p ∷ ps) a = by_test (is_held kept p) (stays_all P (kept ++ p ∷ []) ps a.1) (stays_all P kept ps a.1)
  where
    by_test : (b : Bool) → AllByRecursion P (stays_behind (kept ++ p ∷ []) ps) → AllByRecursion P (stays_behind kept ps) → AllByRecursion P (cond b (p ∷ stays_behind (kept ++ p ∷ []) ps) (stays_behind kept ps))
    by_test true stay go = (a.0, stay)
    by_test false stay go = go

pub stays_few : (kept ps : List Parked) → length (stays_behind kept ps) ≤ length ps
stays_few kept [] = omega arith
stays_few kept (p ∷ ps) = by_test (is_held kept p) (stays_few (kept ++ p ∷ []) ps) (stays_few kept ps)
  where
    by_test : (b : Bool) → length (stays_behind (kept ++ p ∷ []) ps) ≤ length ps → length (stays_behind kept ps) ≤ length ps → length (cond b (p ∷ stays_behind (kept ++ p ∷ []) ps) (stays_behind kept ps)) ≤ length (p ∷ ps)
    by_test true stay go = omega (arith, stay)
    by_test false stay go = omega (arith, go)

pub leaves_all : (P : Parked → Type 0) (Q : Ready → Type 0) (c : ConnId) (kept ps : List Parked) → ((p : Parked) → P p → AllByRecursion Q (fate c p)) → AllByRecursion P ps → AllByRecursion Q (leaves_behind c kept ps)
leaves_all P Q c kept [] f a = tt
leaves_all P Q c kept (p ∷ ps) f a = by_test (is_held kept p) (leaves_all P Q c (kept ++ p ∷ []) ps f a.1) (leaves_all P Q c kept ps f a.1)
  where
    by_test : (b : Bool) → AllByRecursion Q (leaves_behind c (kept ++ p ∷ []) ps) → AllByRecursion Q (leaves_behind c kept ps) → AllByRecursion Q (cond b (leaves_behind c (kept ++ p ∷ []) ps) (fate c p ++ leaves_behind c kept ps))
    by_test true stay go = stay
    by_test false stay go = all_append Q (fate c p) (leaves_behind c kept ps) (f p a.0) go
