-- What a folder in memory has held, and one content more.
use Rattle.std.proofs.Common.{◌≡◌, ◌⊎◌, inl, inr, ⊎_elim, ℕ, zero, suc, ◌≤◌, List, [], ◌∷◌, ◌++◌, length, take, drop, min, refl, sym, ◌∙◌, ap, subst, arith, length-append, take-append-drop}
use Rattle.std.proofs.lemmas.List.{drop_all, length-take}
use Rattle.std.proofs.lemmas.Bool.{cases_order}
use Rattle.scp_live_head.specs.scp_live_log.specs.Disk.{Elapses, Follows, Cut}
use Rattle.scp_live_folder.specs.Folder.{FolderView, Keeps, with_now}
use Rattle.scp_test_folder.specs.Past.{HadBeen, HasBeenSince}

keeps : (past : List FolderView) (v left : FolderView) → HadBeen past left → HadBeen (past ++ v ∷ []) left
keeps [] v left had = absurd had
keeps (p ∷ past) v left (inl here) = inl here
keeps (p ∷ past) v left (inr there) = inr (keeps past v left there)

adds : (past : List FolderView) (v left : FolderView) → HadBeen (past ++ v ∷ []) left → HadBeen past left ⊎ (left ≡ v)
adds [] v left (inl here) = inr here
adds [] v left (inr none) = absurd none
adds (p ∷ past) v left (inl here) = inl (inl here)
adds (p ∷ past) v left (inr there) = ⊎_elim (λ had. inl (inr had)) (λ new. inr new) (adds past v left there)

newest : (past : List FolderView) (v left : FolderView) → left ≡ v → HadBeen (past ++ v ∷ []) left
newest [] v left is = inl is
newest (p ∷ past) v left is = inr (newest past v left is)

drop_push : (t : ℕ) (past : List FolderView) (v : FolderView) → t ≤ length past → drop t (past ++ v ∷ []) ≡ drop t past ++ v ∷ []
drop_push zero past v le = refl
drop_push (suc t) [] v le = absurd (omega arith)
drop_push (suc t) (p ∷ past) v le = drop_push t past v (omega arith)

elapses_push : (past : List FolderView) (old new : FolderView) → Elapses (length past) (length (past ++ old ∷ [])) (HasBeenSince past old) (HasBeenSince (past ++ old ∷ []) new) (λ left. left ≡ new)
elapses_push past old new = record {
  later = omega (arith, length-append past (old ∷ []));
  nothing_else = λ t left le since. ⊎_elim (λ now. inr now) (λ had. inl (was t left (adds (drop t past) old left (subst (λ (l : List FolderView). HadBeen l left) (drop_push t past old le) had)))) since;
  keeps = λ t left le since. inr (subst (λ (l : List FolderView). HadBeen l left) (sym (drop_push t past old le)) (⊎_elim (λ now. newest (drop t past) old left now) (keeps (drop t past) old left) since));
}
  where
    was : (t : ℕ) (left : FolderView) → HadBeen (drop t past) left ⊎ (left ≡ old) → HasBeenSince past old t left
    was t left (inl had) = inr had
    was t left (inr new) = inl new

-- another content was put in the place of this one
pub elapses_to : (past later : List FolderView) (old was new : FolderView) → was ≡ old → later ≡ past ++ was ∷ [] → Elapses (length past) (length later) (HasBeenSince past old) (HasBeenSince later new) (λ left. left ≡ new)
elapses_to past later old was new is same =
    subst (λ (l : List FolderView). Elapses (length past) (length l) (HasBeenSince past old) (HasBeenSince l new) (λ left. left ≡ new)) (sym (same ∙ ap (λ (v : FolderView). past ++ v ∷ []) is)) (elapses_push past old new)

cut_whole : (n end : ℕ) (old new : List ℕ) → end ≡ min n (length old) → new ≡ take end old → Cut n old new
cut_whole n end old new is same = record {
  behind = drop end old;
  all = sym (ap (λ (l : List ℕ). l ++ drop end old) same ∙ take-append-drop end old);
  enough = elim (cases_order n (length old)) [
    | inl e ↦ inl (omega (arith, ap length same, length-take end old, is, e))
    | inr apart ↦ elim apart [
      | inl lt ↦ inl (omega (arith, ap length same, length-take end old, is, lt))
      | inr gt ↦ inr (drop_all end old (omega (arith, is, gt)))
    ]
  ];
}

-- a cut that takes effect at once is one that a crash may cut short
pub cut_at_once : (n end : ℕ) (bytes : List ℕ) (old new : FolderView) → end ≡ min n (length old.now) → bytes ≡ take end old.now → new ≡ with_now bytes old → Follows (Keeps (Cut n)) (λ left. left ≡ old) (λ left. left ≡ new)
cut_at_once n end bytes old new is same made =
    λ left now. (old, refl, subst (Keeps (Cut n) old) (sym (now ∙ made)) (record { now = cut_whole n end old.now bytes is same; second = refl; past = refl }))
