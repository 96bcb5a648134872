-- One decision more is applied, or is buffered.
use Rattle.std.proofs.Common.{◌≡◌, ◌≢◌, ℕ, ◌+◌, ◌<◌, ◌≤◌, Bool, true, false, cond, List, [], ◌∷◌, ◌++◌, inl, inr, length, get_or, refl, sym, ◌∙◌, ap, subst, arith, length-append, append_assoc, eq-eqb, All}
use Rattle.std.specs.Prelude.{fold, position, nat_lt, Some, None}
use Rattle.std.specs.List.{remove, position_or_len}
use Rattle.std.specs.List.Sorted.{IsPermutation}
use Rattle.std.proofs.lemmas.Bool.{ltb-false, eqb-false, eqb-true, cases_lt}
use Rattle.std.proofs.lemmas.List.{map_push, append-nil}
use Rattle.std.proofs.lemmas.List.Elements.{All-from_get_or, All-push}
use Rattle.std.proofs.lemmas.List.Edits.{length-remove, get_or-remove_below, get_or-remove_above}
use Rattle.std.proofs.lemmas.List.Folds.{list_any_at}
use Rattle.std.proofs.lemmas.List.Quantifiers.{all_pairs_remove, all_pairs_push}
use Rattle.std.proofs.lemmas.List.Sorted.{IsPermutation-more, IsPermutation-refl}
use Rattle.std.proofs.lemmas.List.Sums.{fails_before_first}
use Rattle.scp_ledger.specs.scp_types.specs.declared.limits.TheConstants.{WINDOW}
use Rattle.scp_ledger.specs.declared.journal.Decision.{Decision}
use Rattle.scp_ledger.specs.Decisions.{is_at, is_decided, OnePerSlot}
use Rattle.scp_apply.specs.declared.slots.Slots.{Slots}
use Rattle.scp_apply.specs.Applied.{AreInOrder, values_of, made_of}
use Rattle.scp_apply.specs.Applier.{IsInWindow}
use Rattle.scp_apply.specs.inside.Slots.{slots_view, next_in, IsApplied, IsSound, IsMade, AppliesOne, Advances}

fold-push : {A B : Type 0} (f : B → A → B) (a : B) (xs : List A) (x : A) → fold f a (xs ++ x ∷ []) ≡ f (fold f a xs) x
fold-push f a [] x = refl
fold-push f a (y ∷ ys) x = fold-push f (f a y) ys x

AreInOrder-push : (slot : ℕ) (ds : List Decision) (d : Decision) → d.slot.0 ≡ length ds + slot → AreInOrder slot ds → AreInOrder slot (ds ++ d ∷ [])
AreInOrder-push slot [] d e h = (omega arith, tt)
AreInOrder-push slot (x ∷ xs) d e h = (h.0, AreInOrder-push (slot + 1) xs d (omega arith) h.1)

made-push : {S : Type 0} (first : S) (after' : S → List ℕ → S) (more : List Decision) (d : Decision) → made_of first after' (more ++ d ∷ []) ≡ after' (made_of first after' more) d.value
made-push first after' more d = ap (λ (values : List (List ℕ)). fold after' first values) (map_push (λ (x : Decision). x.value) more d) ∙ fold-push after' first (values_of more) d.value

-- what makes a state goes on from one that others made
pub made-append : {S : Type 0} (first : S) (after' : S → List ℕ → S) (applied more : List Decision) → made_of first after' (applied ++ more) ≡ made_of (made_of first after' applied) after' more
made-append first after' [] more = refl
made-append first after' (d ∷ ds) more = made-append (after' first d.value) after' ds more

-- what applied nothing has the state that its bytes say
pub made_none : {S : Type 0} (said : List ℕ → S) (after' : S → List ℕ → S) (s : Slots) (bytes : List ℕ) (state : S) → s.base.items ≡ bytes → s.applied.items ≡ [] → state ≡ said bytes → IsMade (said s.base.items) after' s state
made_none said after' s bytes state base none e = e ∙ ap said (sym base) ∙ ap (λ (ds : List Decision). made_of (said s.base.items) after' ds) (sym none)

-- ---- one is taken out of the buffer

-- what holds of each but that one holds of the others
all_but : (P : Decision → Type 0) (ds : List Decision) (place : ℕ) (d : Decision) → place < length ds → ((k : ℕ) → k < length ds → k ≢ place → P (get_or ds k d)) → All P (remove ds place)
all_but P ds place d within h =
    All-from_get_or P (remove ds place) d (λ k lt.
    let shorter = length-remove ds place within in
    elim (cases_lt k place) [
      | inl below ↦ subst P (sym (get_or-remove_below ds place d k below within)) (h k (omega (arith, below, within)) (λ e. omega (arith, below, e)))
      | inr above ↦ subst P (sym (get_or-remove_above ds place d k above within)) (h (k + 1) (omega (arith, lt, shorter, within)) (λ e. omega (arith, above, e)))
    ])

-- no other is of its slot
apart : (ds : List Decision) (place k : ℕ) (d : Decision) → OnePerSlot ds → place < length ds → k < length ds → k ≢ place → (get_or ds k d).slot.0 ≢ (get_or ds place d).slot.0
apart ds place k d one within lt ne = elim (cases_lt k place) [
  | inl below ↦ one k place d below within
  | inr above ↦ (λ e. one place k d (omega (arith, above, ne)) lt (sym e))
]

-- how far a loop of the applier is: what it began with, and what it has now
pub record IsAdvancing {S : Type 0} (after' : S → List ℕ → S) (start : Slots) (before : S) (now : Slots) (state : S) : Type 0 where
  pub is_applied : IsApplied now
  pub same_start : now.before ≡ start.before
  pub same_base : now.base.items ≡ start.base.items
  pub shared_out : IsPermutation (start.applied.items ++ start.buffer.items) (now.applied.items ++ now.buffer.items)
  pub more : List Decision
  pub grows : now.applied.items ≡ start.applied.items ++ more
  pub state_is : state ≡ made_of before after' more

pub begins : {S : Type 0} (after' : S → List ℕ → S) (start : Slots) (before : S) → IsApplied start → IsAdvancing after' start before start before
begins after' start before h = record { is_applied = h; same_start = refl; same_base = refl; shared_out = IsPermutation-refl (start.applied.items ++ start.buffer.items); more = []; grows = sym (append-nil start.applied.items); state_is = refl }

pub goes_on : {S : Type 0} (after' : S → List ℕ → S) (start : Slots) (before : S) (now : Slots) (state : S) (place : ℕ) (next : Slots) (then' : S) → place < length now.buffer.items → ((d : Decision) → is_at (next_in now) (get_or now.buffer.items place d) ≡ true) → AppliesOne after' now state place next then' → next.before ≡ now.before → next.base.items ≡ now.base.items → IsAdvancing after' start before now state → IsAdvancing after' start before next then'
goes_on after' start before now state place next then' within at one same bytes h =
    let d = one.decision in
    let applied = now.applied.items in
    let buffer = now.buffer.items in
    let slot : d.slot.0 ≡ next_in now = eqb-true _ _ (subst (λ (x : Decision). is_at (next_in now) x ≡ true) one.is (at d)) in
    let longer : length next.applied.items ≡ length applied + 1 = ap length one.applied ∙ length-append applied (d ∷ []) in
    let further : next_in next ≡ next_in now + 1 = omega (arith, same, longer) in
    let moved : IsPermutation (start.applied.items ++ start.buffer.items) ((applied ++ d ∷ []) ++ remove buffer place) = IsPermutation-more (start.applied.items ++ start.buffer.items) applied buffer place d within (sym one.is) h.shared_out in
    let other : (k : ℕ) → k < length buffer → k ≢ place → (get_or buffer k d).slot.0 ≢ next_in now = λ k lt ne e. apart buffer place k d h.is_applied.one within lt ne (e ∙ sym slot ∙ ap (λ (x : Decision). x.slot.0) (sym one.is)) in
    record {
      is_applied = record {
        in_order = rw (same, one.applied) (AreInOrder-push (now.before + 1) applied d (omega (arith, slot)) h.is_applied.in_order);
        above = subst (λ (n : ℕ). All (λ (x : Decision). n ≤ x.slot.0) next.buffer.items) (sym further) (rw one.buffer (all_but (λ (x : Decision). next_in now + 1 ≤ x.slot.0) buffer place d within (λ k lt ne. let here = h.is_applied.above k d lt in let far = other k lt ne in omega (arith, here, far))));
        near = subst (λ (n : ℕ). All (λ (x : Decision). x.slot.0 < n + WINDOW) next.buffer.items) (sym further) (rw one.buffer (all_but (λ (x : Decision). x.slot.0 < next_in now + 1 + WINDOW) buffer place d within (λ k lt ne. let here = h.is_applied.near k d lt in omega (arith, here))));
        one = rw one.buffer (all_pairs_remove (λ (x y : Decision). x.slot.0 ≢ y.slot.0) buffer place within h.is_applied.one);
      };
      same_start = same ∙ h.same_start;
      same_base = bytes ∙ h.same_base;
      shared_out = rw (one.applied, one.buffer) moved;
      more = h.more ++ d ∷ [];
      grows = one.applied ∙ ap (λ (ds : List Decision). ds ++ d ∷ []) h.grows ∙ append_assoc start.applied.items h.more (d ∷ []);
      state_is = one.state_is ∙ ap (λ (m : _). after' m d.value) h.state_is ∙ sym (made-push before after' h.more d);
    }

-- ---- nothing is next

position_none : {X : Type 0} (p : X → Bool) (xs : List X) → position p xs ≡ None → length xs ≤ position_or_len p xs
position_none p xs e = ltb-false _ _ (none_if (nat_lt (position_or_len p xs) (length xs)) (position_or_len p xs) e)
  where
    none_if : (b : Bool) (n : ℕ) → cond b (Some n) None ≡ None → b ≡ false
    none_if true n e = cc
    none_if false n e = refl

none_next : (n : ℕ) (ds : List Decision) → position (is_at n) ds ≡ None → All (λ d. d.slot.0 ≢ n) ds
none_next n [] e = λ k d lt. absurd (omega arith)
none_next n (x ∷ xs) e =
    let le = position_none (is_at n) (x ∷ xs) e in
    All-from_get_or (λ (d : Decision). d.slot.0 ≢ n) (x ∷ xs) x (λ k lt. eqb-false _ _ (fails_before_first (is_at n) (x ∷ xs) k x (omega arith)))

pub ends : {S : Type 0} (after' : S → List ℕ → S) (start : Slots) (before : S) (now : Slots) (state : S) → position (is_at (next_in now)) now.buffer.items ≡ None → IsAdvancing after' start before now state → Advances after' start before now state
ends after' start before now state none h = record {
  sound = record { is_applied = h.is_applied; next_missing = none_next (next_in now) now.buffer.items none };
  shared_out = h.shared_out;
  more = h.more;
  grows = h.grows;
  state_is = h.state_is;
}

-- ---- a decision is buffered

pub not_there : (slot : ℕ) (ds : List Decision) (k : ℕ) (d : Decision) → is_decided slot ds ≡ false → k < length ds → (get_or ds k d).slot.0 ≢ slot
not_there slot ds k d none lt e = two (list_any_at (is_at slot) ds k d lt (eq-eqb _ _ e)) none
  where
    two : is_decided slot ds ≡ true → is_decided slot ds ≡ false → ⊥
    two p q = let r : true ≡ false = sym p ∙ q in cc

pub buffered : (old new : Slots) (d : Decision) → IsSound old → IsInWindow (slots_view false old) d.slot.0 → new.before ≡ old.before → new.applied ≡ old.applied → new.buffer.items ≡ old.buffer.items ++ d ∷ [] → IsApplied new
buffered old new d h w before applied buffer = record {
  in_order = rw (before, applied) h.is_applied.in_order;
  above = rw (before, applied, buffer) (All-push (λ (x : Decision). next_in old ≤ x.slot.0) old.buffer.items d h.is_applied.above w.from);
  near = rw (before, applied, buffer) (All-push (λ (x : Decision). x.slot.0 < next_in old + WINDOW) old.buffer.items d h.is_applied.near w.near);
  one = rw buffer (all_pairs_push (λ (x y : Decision). x.slot.0 ≢ y.slot.0) old.buffer.items d h.is_applied.one (λ k x lt. not_there d.slot.0 old.buffer.items k x w.fresh lt));
}
