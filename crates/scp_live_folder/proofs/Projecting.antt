-- What holds of a folder holds of its `now`.
use Rattle.std.proofs.Common.{◌≡◌, ◌⊎◌, inl, inr, ⊎_elim, ℕ, ◌≤◌, List, refl, sym, ◌∙◌, ap, subst}
use Rattle.scp_live_log.specs.Disk.{Only, LeavesOnly, Follows, Elapses, IsEither}
use Rattle.scp_live_folder.specs.Folder.{FolderView, Keeps}
use Rattle.scp_live_folder.specs.declared.epochs.Epochs.{Epochs}
use Rattle.scp_live_folder.specs.Epochs.{switched, IsStill, IsLeftOf}
use Rattle.scp_live_folder.proofs.Outcomes.{Outcomes}

-- a `now` that is one of these folders'
abbrev pub NowOf : Outcomes → List ℕ → Type 0
NowOf outcomes c = (v : FolderView) × outcomes v × (v.now ≡ c)

-- the same folders may be left
pub fewer_now : (old new : Outcomes) → ((v : FolderView) → new v → old v) → (c : List ℕ) → NowOf new c → NowOf old c
fewer_now old new were c left = (left.0, were left.0 left.1, left.2)

pub follows_now : (step : List ℕ → List ℕ → Type 0) (old new : Outcomes) → Follows (Keeps step) old new → Follows step (NowOf old) (NowOf new)
follows_now step old new follows c left =
    let from = follows left.0 left.1 in
    (from.0.now, (from.0, from.1, refl), subst (step from.0.now) left.2 from.2.now)

pub elapses_now : (before now : ℕ) (past since : ℕ → Outcomes) (may_leave : Outcomes) → Elapses before now past since may_leave → Elapses before now (λ t. NowOf (past t)) (λ t. NowOf (since t)) (NowOf may_leave)
elapses_now before now past since may_leave time = record {
  later = time.later;
  nothing_else = λ t c le left. ⊎_elim (λ was. inl (left.0, was, left.2)) (λ here. inr (left.0, here, left.2)) (time.nothing_else t left.0 le left.1);
  keeps = λ t c le left. (left.0, time.keeps t left.0 le left.1, left.2);
}

-- the one folder has the one `now`
pub only_now : (v : FolderView) (c : List ℕ) (outcomes : Outcomes) → v.now ≡ c → Only v outcomes → Only c (NowOf outcomes)
only_now v c outcomes is only d left = sym left.2 ∙ ap (λ (w : FolderView). w.now) (only left.0 left.1) ∙ is

module _ {D : Type 0} (moment : D → ℕ) (left_since : D → ℕ → Outcomes) (may_leave : D → Outcomes) (epoch : ℕ) (bytes : List ℕ) (v : FolderView) (file : List ℕ) (old new : Epochs D) where
  abbrev moment_of : Epochs D → ℕ
  moment_of e = moment e.folder

  abbrev left_of : Epochs D → ℕ → List ℕ → Type 0
  left_of e t = NowOf (left_since e.folder t)

  either : v.now ≡ file → Only file (NowOf (may_leave old.folder)) → (left : FolderView) → IsLeftOf epoch bytes v (may_leave old.folder) left → IsEither file bytes left.now
  either is only left (inl from) = inl (from.2.now ∙ only from.0.now (from.0, from.1, refl))
  either is only left (inr (inl s)) = inl (s.now ∙ is)
  either is only left (inr (inr whole)) = inr (ap (λ (w : FolderView). w.now) whole)

  pub leaves_now : v.now ≡ file → Only file (NowOf (may_leave old.folder)) → LeavesOnly moment left_since old.folder new.folder (IsLeftOf epoch bytes v (may_leave old.folder)) → LeavesOnly moment_of left_of old new (IsEither file bytes)
  leaves_now is only leaves = record {
    later = leaves.later;
    each = λ c left. subst (IsEither file bytes) left.2 (either is only left.0 (leaves.each left.0 left.1));
    before = λ t c le left. ⊎_elim (λ was. inl (left.0, was, left.2)) (λ now. inr (subst (IsEither file bytes) left.2 (either is only left.0 now))) (leaves.before t left.0 le left.1);
  }
