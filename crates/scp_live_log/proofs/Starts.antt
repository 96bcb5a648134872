-- Whether a text begins with another.
use Rattle.std.proofs.Common.{◌≡◌, ◌≤◌, Bool, true, false, ℕ, List, ◌++◌, length, take, drop, refl, sym, ◌∙◌, ap, take-append-drop}
use Rattle.std.specs.Bool.{OnTrue, OnFalse}
use Rattle.std.specs.Str.{bytes_eq}
use Rattle.std.proofs.lemmas.List.{take_at}
use Rattle.std.proofs.lemmas.Slice.Eq.{bytes_eq-Decides}
use Rattle.scp_live_log.specs.Disk.{StartsWith}

module _ (bytes front : List ℕ) (fits : length front ≤ length bytes) where
  pub starts_some : (t : Bool) → t ≡ bytes_eq (take (length front) bytes) front → OnTrue t ((length front ≤ length bytes) × (bytes ≡ front ++ drop (length front) bytes))
  starts_some true is =
      let same : take (length front) bytes ≡ front = (bytes_eq-Decides (take (length front) bytes) front).0 (sym is) in
      (fits, sym (take-append-drop (length front) bytes) ∙ ap (λ (l : List ℕ). l ++ drop (length front) bytes) same)
  starts_some false is = tt

  pub starts_none : (t : Bool) → t ≡ bytes_eq (take (length front) bytes) front → OnFalse t (¬ (StartsWith front bytes))
  starts_none true is = tt
  starts_none false is = λ s.
      let same : take (length front) bytes ≡ front = ap (take (length front)) s.1 ∙ take_at front s.0 (length front) refl in
      let both : false ≡ true = is ∙ (bytes_eq-Decides (take (length front) bytes) front).1 same in
      cc
