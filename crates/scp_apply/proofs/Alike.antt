-- Two appliers that show the same and take the same show the same then.
use Rattle.std.proofs.Common.{◌≡◌, ◌≢◌, ℕ, ◌+◌, ◌<◌, ◌≤◌, List, [], ◌∷◌, ◌++◌, inl, inr, length, get_or, refl, sym, ◌∙◌, ap, subst, arith, length-append}
use Rattle.std.specs.Prelude.{Contains, option_map}
use Rattle.std.proofs.lemmas.Bool.{cases_lt}
use Rattle.std.proofs.lemmas.List.{get_or_default}
use Rattle.std.proofs.lemmas.List.Elements.{All-nil, All-cons, All-contains, Contains-push, Contains-append_left, Contains-append_right, Contains-append_cases}
use Rattle.std.proofs.lemmas.List.Quantifiers.{all_pairs_push}
use Rattle.std.proofs.lemmas.List.Sorted.{Contains-permutation, IsPermutation-sym}
use Rattle.scp_ledger.specs.scp_wire.specs.declared.message.Message.TheVariants.{Record}
use Rattle.scp_ledger.specs.declared.journal.Decision.{Decision}
use Rattle.scp_ledger.specs.declared.took.Onward.TheVariants.{Decided, Asked}
use Rattle.scp_ledger.specs.Decisions.{OnePerSlot}
use Rattle.scp_apply.specs.Applied.{AreInOrder, value_of}
use Rattle.scp_apply.specs.Applier.{ApplierView, next_of, IsApplier, IsRunning, IsLater, IsInWindow, Applies}
use Rattle.scp_apply.specs.Laws.{ShowTheSame, ApplyingIsAFunction}
use Rattle.scp_apply.proofs.Applying.{not_there}

-- ---- plain lists

none : (d : Decision) → Contains [] d → ⊥
none d h = All-contains (λ (e : Decision). ⊥) [] d (All-nil (λ (e : Decision). ⊥)) h

only : (d e : Decision) → Contains (d ∷ []) e → e ≡ d
only d e h = All-contains (λ (x : Decision). x ≡ d) (d ∷ []) e (All-cons (λ (x : Decision). x ≡ d) d [] refl (All-nil (λ (x : Decision). x ≡ d))) h

head_in : (d : Decision) (ds : List Decision) → Contains (d ∷ ds) d
head_in d ds = Contains-append_left (d ∷ []) ds d (Contains-push [] d)

-- the slots of a list that is in order
bounds : (k : ℕ) (ds : List Decision) (e : Decision) → AreInOrder k ds → Contains ds e → (k ≤ e.slot.0) × (e.slot.0 < k + length ds)
bounds k [] e h is = absurd (none e is)
bounds k (d ∷ ds) e h is = elim (Contains-append_cases (d ∷ []) ds e is) [
  | inl here ↦ (let same : e.slot.0 ≡ k = ap (λ (x : Decision). x.slot.0) (only d e here) ∙ h.0 in (omega (arith, same), omega (arith, same)))
  | inr later ↦ (let b = bounds (k + 1) ds e h.1 later in let from = b.0 in let below = b.1 in (omega (arith, from), omega (arith, below)))
]

behind : (k : ℕ) (ds es : List Decision) → AreInOrder k (ds ++ es) → AreInOrder (k + length ds) es
behind k [] es h = subst (λ (n : ℕ). AreInOrder n es) (omega arith) h
behind k (d ∷ ds) es h = subst (λ (n : ℕ). AreInOrder n es) (omega arith) (behind (k + 1) ds es h.1)

-- of decisions that have a slot each, two of one slot are one
one_of : (ds : List Decision) (e f : Decision) → OnePerSlot ds → Contains ds e → Contains ds f → e.slot.0 ≡ f.slot.0 → e ≡ f
one_of ds e f one (i, in', is) (j, jn, js) same =
    let fe : get_or ds j e ≡ f = get_or_default ds j e f jn ∙ js in
    elim (cases_lt i j) [
      | inl lt ↦ absurd (one i j e lt jn (ap (λ (x : Decision). x.slot.0) is ∙ same ∙ sym (ap (λ (x : Decision). x.slot.0) fe)))
      | inr le ↦ elim (cases_lt j i) [
        | inl lt ↦ absurd (one j i e lt in' (ap (λ (x : Decision). x.slot.0) fe ∙ sym same ∙ sym (ap (λ (x : Decision). x.slot.0) is)))
        | inr ge ↦ (let at : i ≡ j = omega (arith, le, ge) in sym is ∙ ap (λ (n : ℕ). get_or ds n e) at ∙ fe)
      ]
    ]

-- Two lists in order from one slot on are the same, if their decisions are among those with a
-- slot each, and none of those has the slot after either list.
module _ (Among : Decision → Type 0) (one : (e f : Decision) → Among e → Among f → e.slot.0 ≡ f.slot.0 → e ≡ f) where
  same_more : (k : ℕ) (ds es : List Decision) → AreInOrder k ds → AreInOrder k es → ((e : Decision) → Contains ds e → Among e) → ((e : Decision) → Contains es e → Among e) → ((e : Decision) → Among e → e.slot.0 ≢ k + length ds) → ((e : Decision) → Among e → e.slot.0 ≢ k + length es) → ds ≡ es
  same_more k [] [] h g are ares ends ended = refl
  same_more k [] (e ∷ es) h g are ares ends ended = absurd (ends e (ares e (head_in e es)) (let at = g.0 in omega (arith, at)))
  same_more k (d ∷ ds) [] h g are ares ends ended = absurd (ended d (are d (head_in d ds)) (let at = h.0 in omega (arith, at)))
  same_more k (d ∷ ds) (e ∷ es) h g are ares ends ended =
      let same : d ≡ e = one d e (are d (head_in d ds)) (ares e (head_in e es)) (h.0 ∙ sym g.0) in
      let rest : ds ≡ es = same_more (k + 1) ds es h.1 g.1 (λ x is. are x (Contains-append_right (d ∷ []) ds x is)) (λ x is. ares x (Contains-append_right (e ∷ []) es x is))
      (λ x is at. ends x is (omega (arith, at))) (λ x is at. ended x is (omega (arith, at))) in
      ap (λ (x : Decision). x ∷ ds) same ∙ ap (λ (xs : List Decision). e ∷ xs) rest

-- ---- what was taken

-- what is buffered, and the decision
abbrev Held : ApplierView → Decision → List Decision
Held v d = v.buffer ++ d ∷ []

module _ (v : ApplierView) (d : Decision) (v' : ApplierView) (known : IsApplier v) (takes : Applies v d v') (known' : IsApplier v') (running' : IsRunning v') where
  -- what is applied then is in order from the same first slot on
  still_in_order : AreInOrder v.first v'.applied
  still_in_order = subst (λ (n : ℕ). AreInOrder n v'.applied) takes.first known'.in_order

  more_in_order : AreInOrder (next_of v) takes.more
  more_in_order = behind v.first v.applied takes.more (subst (AreInOrder v.first) takes.grows still_in_order)

  -- what comes to be applied was held
  was_held : (e : Decision) → Contains takes.more e → Contains (Held v d) e
  was_held e is =
      let above = (bounds (next_of v) takes.more e more_in_order is).0 in
      let there : Contains v'.applied e = subst (λ (xs : List Decision). Contains xs e) (sym takes.grows) (Contains-append_right v.applied takes.more e is) in
      let before : Contains (v.applied ++ Held v d) e = Contains-permutation (v'.applied ++ v'.buffer) (v.applied ++ Held v d) e (IsPermutation-sym (v.applied ++ Held v d) (v'.applied ++ v'.buffer) takes.shared_out) (Contains-append_left v'.applied v'.buffer e there) in
      elim (Contains-append_cases v.applied (Held v d) e before) [
        | inl applied ↦ absurd (let below = (bounds v.first v.applied e known.in_order applied).1 in omega (arith, above, below))
        | inr held ↦ held
      ]

  -- what was held isn't of the slot after what is applied then
  not_next : (e : Decision) → Contains (Held v d) e → e.slot.0 ≢ next_of v + length takes.more
  not_next e held at =
      let long : length v'.applied ≡ length v.applied + length takes.more = ap length takes.grows ∙ length-append v.applied takes.more in
      let there : Contains (v'.applied ++ v'.buffer) e = Contains-permutation (v.applied ++ Held v d) (v'.applied ++ v'.buffer) e takes.shared_out (Contains-append_right v.applied (Held v d) e held) in
      elim (Contains-append_cases v'.applied v'.buffer e there) [
        | inl applied ↦ (let below = (bounds v.first v'.applied e still_in_order applied).1 in omega (arith, below, at, long))
        | inr buffered ↦ (let later = (All-contains (λ (x : Decision). IsLater (next_of v') x.slot.0) v'.buffer e running'.in_window buffered).later in let first = takes.first in omega (arith, later, at, long, first))
      ]

  -- what is buffered then was held
  still_held : (e : Decision) → Contains v'.buffer e → Contains (Held v d) e
  still_held e is =
      let long : length v'.applied ≡ length v.applied + length takes.more = ap length takes.grows ∙ length-append v.applied takes.more in
      let later = (All-contains (λ (x : Decision). IsLater (next_of v') x.slot.0) v'.buffer e running'.in_window is).later in
      let first = takes.first in
      let before : Contains (v.applied ++ Held v d) e = Contains-permutation (v'.applied ++ v'.buffer) (v.applied ++ Held v d) e (IsPermutation-sym (v.applied ++ Held v d) (v'.applied ++ v'.buffer) takes.shared_out) (Contains-append_right v'.applied v'.buffer e is) in
      elim (Contains-append_cases v.applied (Held v d) e before) [
        | inl applied ↦ absurd (let below = (bounds v.first v.applied e known.in_order applied).1 in omega (arith, later, below, long, first))
        | inr held ↦ held
      ]

  -- what was held and is of a slot above what is applied then is buffered
  stays_held : (e : Decision) → Contains (Held v d) e → next_of v' ≤ e.slot.0 → Contains v'.buffer e
  stays_held e held above =
      let there : Contains (v'.applied ++ v'.buffer) e = Contains-permutation (v.applied ++ Held v d) (v'.applied ++ v'.buffer) e takes.shared_out (Contains-append_right v.applied (Held v d) e held) in
      elim (Contains-append_cases v'.applied v'.buffer e there) [
        | inl applied ↦ absurd (let below = (bounds v'.first v'.applied e known'.in_order applied).1 in omega (arith, below, above))
        | inr buffered ↦ buffered
      ]

  above_applied : (e : Decision) → Contains v'.buffer e → next_of v' ≤ e.slot.0
  above_applied e is = let later = (All-contains (λ (x : Decision). IsLater (next_of v') x.slot.0) v'.buffer e running'.in_window is).later in omega (arith, later)

-- ---- two of them

held_alike : (v w : ApplierView) (d : Decision) → ((e : Decision) → Contains v.buffer e → Contains w.buffer e) → (e : Decision) → Contains (Held v d) e → Contains (Held w d) e
held_alike v w d alike e is = elim (Contains-append_cases v.buffer (d ∷ []) e is) [
  | inl buffered ↦ Contains-append_left w.buffer (d ∷ []) e (alike e buffered)
  | inr it ↦ Contains-append_right w.buffer (d ∷ []) e it
]

decided_alike : (v w : ApplierView) (d : Decision) (v' w' : ApplierView) → ShowTheSame v w → IsApplier v → IsRunning v → IsInWindow v d.slot.0 → Applies v d v' → Applies w d w' → IsApplier v' → IsRunning v' → IsApplier w' → IsRunning w' → ShowTheSame v' w'
decided_alike v w d v' w' same known running can takes taken then_v going_v then_w going_w =
    let known_w : IsApplier w = record { in_order = subst (λ (n : ℕ). AreInOrder n w.applied) (sym same.first) (subst (AreInOrder v.first) (sym same.applied) known.in_order) } in
    let one : (e f : Decision) → Contains (Held v d) e → Contains (Held v d) f → e.slot.0 ≡ f.slot.0 → e ≡ f =
    λ e f is it at. one_of (Held v d) e f (all_pairs_push (λ (x y : Decision). x.slot.0 ≢ y.slot.0) v.buffer d running.one (λ k x lt. not_there d.slot.0 v.buffer k x can.fresh lt)) is it at in
    let to_v : (e : Decision) → Contains (Held w d) e → Contains (Held v d) e = held_alike w v d (λ e. (same.buffer e).0) in
    let to_w : (e : Decision) → Contains (Held v d) e → Contains (Held w d) e = held_alike v w d (λ e. (same.buffer e).1) in
    let long : length w.applied ≡ length v.applied = ap length same.applied in
    let first = same.first in
    let next : next_of w ≡ next_of v = omega (arith, first, long) in
    let order_v : AreInOrder (next_of v) takes.more = more_in_order v d v' known takes then_v going_v in
    let order_w : AreInOrder (next_of v) taken.more = subst (λ (n : ℕ). AreInOrder n taken.more) next (more_in_order w d w' known_w taken then_w going_w) in
    let more : takes.more ≡ taken.more =
    same_more (Contains (Held v d)) one (next_of v) takes.more taken.more order_v order_w
    (was_held v d v' known takes then_v going_v) (λ e is. to_v e (was_held w d w' known_w taken then_w going_w e is))
    (not_next v d v' known takes then_v going_v) (λ e is at. not_next w d w' known_w taken then_w going_w e (to_w e is) (omega (arith, at, next))) in
    let applied : w'.applied ≡ v'.applied = taken.grows ∙ ap (λ (xs : List Decision). xs ++ taken.more) same.applied ∙ ap (λ (xs : List Decision). v.applied ++ xs) (sym more) ∙ sym takes.grows in
    let begun : w'.first ≡ v'.first = taken.first ∙ same.first ∙ sym takes.first in
    let longer : length w'.applied ≡ length v'.applied = ap length applied in
    record {
      first = begun;
      base = taken.base ∙ same.base ∙ sym takes.base;
      failed = taken.runs ∙ sym takes.runs;
      applied = applied;
      buffer = λ e. (
        (λ is. stays_held v d v' known takes then_v going_v e (to_v e (still_held w d w' known_w taken then_w going_w e is)) (let above = above_applied w d w' known_w taken then_w going_w e is in omega (arith, above, longer, begun))),
        (λ is. stays_held w d w' known_w taken then_w going_w e (to_w e (still_held v d v' known takes then_v going_v e is)) (let above = above_applied v d v' known takes then_v going_v e is in omega (arith, above, longer, begun))),
      );
    }

unchanged : (v w v' w' : ApplierView) → v' ≡ v → w' ≡ w → ShowTheSame v w → ShowTheSame v' w'
unchanged v w v' w' a b same = subst (λ (x : ApplierView). ShowTheSame x w') (sym a) (subst (λ (x : ApplierView). ShowTheSame v x) (sym b) same)

pub applying_is_a_function : ApplyingIsAFunction
applying_is_a_function v w (Decided d) a b v' w' same known running can takes taken then_v going_v then_w going_w = (takes.0 ∙ sym taken.0, decided_alike v w d v' w' same known running can takes.1 taken.1 then_v going_v then_w going_w)
applying_is_a_function v w (Asked link slot) a b v' w' same known running can takes taken then_v going_v then_w going_w = (
  takes.0 ∙ sym (taken.0 ∙ ap (λ (xs : List Decision). option_map (λ value. (link, Record slot value)) (value_of slot.0 xs)) same.applied),
  unchanged v w v' w' takes.1 taken.1 same,
)
