-- How a run of calls of the disk goes on.
use Rattle.std.proofs.Common.{◌≡◌, ◌≤◌, inl, inr, ⊎_elim, ℕ, min, List, [], ◌++◌, length, take, drop, sym, ◌∙◌, ap, subst, refl, arith, append_assoc, take-append-drop}
use Rattle.std.proofs.lemmas.List.{take_at, take-append-le, append-nil, drop_all, length-take}
use Rattle.std.proofs.lemmas.Bool.{cases_order}
use Rattle.scp_live_log.specs.Disk.{Elapses, LeavesOnly, StartsWith, Torn, Cut, Follows}

module _ {D C : Type 0} (moment : D → ℕ) (left_since : D → ℕ → C → Type 0) where
  -- before the first call
  pub started : (old : D) (P : C → Type 0) → ((c : C) → left_since old (moment old) c → P c) → LeavesOnly moment left_since old old P
  started old P here = record { later = omega arith; each = here; before = λ t c le left. inl left }

  -- one call more, after which a crash leaves what has P
  pub goes_on : (old mid new : D) (P may_leave : C → Type 0) → LeavesOnly moment left_since old mid P → Elapses (moment mid) (moment new) (left_since mid) (left_since new) may_leave
      → ((c : C) → may_leave c → P c) → LeavesOnly moment left_since old new P
  goes_on old mid new P may_leave so_far time here = record {
    later = omega (arith, so_far.later, time.later);
    each = λ c left. ⊎_elim (so_far.each c) (here c) (time.nothing_else (moment old) c so_far.later left);
    before = λ t c le left. ⊎_elim (so_far.before t c le) (λ now. inr (here c now)) (time.nothing_else t c (omega (arith, le, so_far.later)) left);
  }

  -- one run after another
  pub joins : (old mid new : D) (P : C → Type 0) → LeavesOnly moment left_since old mid P → LeavesOnly moment left_since mid new P → LeavesOnly moment left_since old new P
  joins old mid new P first second = record {
    later = omega (arith, first.later, second.later);
    each = λ c left. ⊎_elim (first.each c) (λ now. now) (second.before (moment old) c first.later left);
    before = λ t c le left. ⊎_elim (first.before t c le) (λ now. inr now) (second.before t c (omega (arith, le, first.later)) left);
  }

-- what begins with a text, and more behind it, still does
pub starts_more : (front c more : List ℕ) → StartsWith front c → StartsWith front (c ++ more)
starts_more front c more s = (s.0 ++ more, ap (λ (l : List ℕ). l ++ more) s.1 ∙ append_assoc front s.0 more)

-- an append leaves what was there in front
pub torn_starts : (front : List ℕ) (n : ℕ) (old new : List ℕ → Type 0) → ((c : List ℕ) → old c → StartsWith front c) → Follows (Torn n) old new → (c : List ℕ) → new c → StartsWith front c
torn_starts front n old new starts follows c left =
    let from = follows c left in
    let s = starts from.0 from.1 in
    subst (StartsWith front) (sym from.2.all) (starts_more front from.0 from.2.behind s)

-- a cut behind a text leaves it
pub cut_starts : (front : List ℕ) (n : ℕ) (old new : List ℕ → Type 0) → length front ≤ n → ((c : List ℕ) → old c → StartsWith front c) → Follows (Cut n) old new → (c : List ℕ) → new c → StartsWith front c
cut_starts front n old new few starts follows c left =
    let from = follows c left in
    let s = starts from.0 from.1 in
    let cut = from.2 in
    ⊎_elim
    (λ (enough : n ≤ length c).
    let fits : length front ≤ length c = omega (arith, few, enough) in
    let same : front ≡ take (length front) c = sym (take_at front s.0 (length front) refl) ∙ ap (take (length front)) (sym s.1 ∙ cut.all) ∙ take-append-le (length front) c cut.behind fits in
    (drop (length front) c, sym (take-append-drop (length front) c) ∙ ap (λ (l : List ℕ). l ++ drop (length front) c) (sym same)))
    (λ (whole : cut.behind ≡ []).
    let same : from.0 ≡ c = cut.all ∙ ap (λ (l : List ℕ). c ++ l) whole ∙ append-nil c in
    subst (StartsWith front) same s)
    cut.enough

-- a cut that is done at once
pub cut_at_once : (bytes new : List ℕ) (n end : ℕ) → end ≡ min n (length bytes) → new ≡ take end bytes → Cut n bytes new
cut_at_once bytes new n end is same = record {
  behind = drop end bytes;
  all = sym (ap (λ (l : List ℕ). l ++ drop end bytes) same ∙ take-append-drop end bytes);
  enough = elim (cases_order n (length bytes)) [
    | inl e ↦ inl (omega (arith, ap length same, length-take end bytes, is, e))
    | inr apart ↦ elim apart [
      | inl lt ↦ inl (omega (arith, ap length same, length-take end bytes, is, lt))
      | inr gt ↦ inr (drop_all end bytes (omega (arith, is, gt)))
    ]
  ];
}
