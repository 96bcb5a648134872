-- One more content joins those that a log in memory has had.
use Rattle.std.proofs.Common.{◌≡◌, ◌⊎◌, inl, inr, ⊎_elim, ℕ, zero, suc, ◌≤◌, List, [], ◌∷◌, ◌++◌, length, drop, Vec, refl, sym, ◌∙◌, ap, subst, arith, length-append}
use Rattle.std.specs.declared.alloc.Global.{Global}
use Rattle.scp_live_log.specs.declared.memory.MemoryLog.{MemoryLog}
use Rattle.scp_live_log.specs.Disk.{Elapses, LeavesOnly, IsEither}
use Rattle.scp_live_log.specs.Past.{HadBeen, only_bytes}
use Rattle.scp_live_log.proofs.Moments.{started, goes_on}

abbrev Contents : Type 0
Contents = List (Vec ℕ Global)

keeps : (past : Contents) (v : Vec ℕ Global) (c : List ℕ) → HadBeen past c → HadBeen (past ++ v ∷ []) c
keeps [] v c had = absurd had
keeps (p ∷ past) v c (inl here) = inl here
keeps (p ∷ past) v c (inr there) = inr (keeps past v c there)

adds : (past : Contents) (v : Vec ℕ Global) (c : List ℕ) → HadBeen (past ++ v ∷ []) c → HadBeen past c ⊎ (c ≡ v.items)
adds [] v c (inl here) = inr here
adds [] v c (inr none) = absurd none
adds (p ∷ past) v c (inl here) = inl (inl here)
adds (p ∷ past) v c (inr there) = ⊎_elim (λ had. inl (inr had)) (λ new. inr new) (adds past v c there)

newest : (past : Contents) (v : Vec ℕ Global) (c : List ℕ) → c ≡ v.items → HadBeen (past ++ v ∷ []) c
newest [] v c is = inl is
newest (p ∷ past) v c is = inr (newest past v c is)

drop_push : (t : ℕ) (past : Contents) (v : Vec ℕ Global) → t ≤ length past → drop t (past ++ v ∷ []) ≡ drop t past ++ v ∷ []
drop_push zero past v le = refl
drop_push (suc t) [] v le = absurd (omega arith)
drop_push (suc t) (p ∷ past) v le = drop_push t past v (omega arith)

-- what a crash since t might have left
abbrev Since : Contents → List ℕ → ℕ → List ℕ → Type 0
Since past bytes t c = (c ≡ bytes) ⊎ HadBeen (drop t past) c

pub elapses_same : (past : Contents) (bytes : List ℕ) → Elapses (length past) (length past) (Since past bytes) (Since past bytes) (λ c. c ≡ bytes)
elapses_same past bytes = record { later = omega arith; nothing_else = λ t c le left. inl left; keeps = λ t c le left. left }

elapses_push : (past : Contents) (v : Vec ℕ Global) (old new : List ℕ) → v.items ≡ old → Elapses (length past) (length (past ++ v ∷ [])) (Since past old) (Since (past ++ v ∷ []) new) (λ c. c ≡ new)
elapses_push past v old new is = record {
  later = omega (arith, length-append past (v ∷ []));
  nothing_else = λ t c le left. ⊎_elim (λ now. inr now) (λ had. inl (was t c (adds (drop t past) v c (subst (λ (l : Contents). HadBeen l c) (drop_push t past v le) had)))) left;
  keeps = λ t c le left. inr (subst (λ (l : Contents). HadBeen l c) (sym (drop_push t past v le)) (⊎_elim (λ now. newest (drop t past) v c (now ∙ sym is)) (keeps (drop t past) v c) left));
}
  where
    was : (t : ℕ) (c : List ℕ) → HadBeen (drop t past) c ⊎ (c ≡ v.items) → Since past old t c
    was t c (inl had) = inr had
    was t c (inr new) = inl (new ∙ is)

pub elapses_to : (past later : Contents) (v : Vec ℕ Global) (old new : List ℕ) → v.items ≡ old → later ≡ past ++ v ∷ [] → Elapses (length past) (length later) (Since past old) (Since later new) (λ c. c ≡ new)
elapses_to past later v old new is same =
    subst (λ (l : Contents). Elapses (length past) (length l) (Since past old) (Since l new) (λ c. c ≡ new)) (sym same) (elapses_push past v old new is)

abbrev moment_of : MemoryLog → ℕ
moment_of m = length m.past.items

abbrev left_of : MemoryLog → ℕ → List ℕ → Type 0
left_of m = Since m.past.items m.bytes.items

module _ (file bytes : List ℕ) (old new : MemoryLog) (holds : old.bytes.items ≡ file) where
  before : LeavesOnly moment_of left_of old old (IsEither file bytes)
  before = started moment_of left_of old (IsEither file bytes) (λ c left. inl (only_bytes old.past.items old.bytes.items c left ∙ holds))

  -- other bytes were put in the place of all
  pub leaves_either : (v : Vec ℕ Global) → v.items ≡ old.bytes.items → new.past.items ≡ old.past.items ++ v ∷ [] → new.bytes.items ≡ bytes → LeavesOnly moment_of left_of old new (IsEither file bytes)
  leaves_either v is past now =
      goes_on moment_of left_of old old new (IsEither file bytes) (λ c. c ≡ new.bytes.items) before (elapses_to old.past.items new.past.items v old.bytes.items new.bytes.items is past) (λ c left. inr (left ∙ now))

  -- nothing was put
  pub leaves_it : new.past.items ≡ old.past.items → new.bytes.items ≡ old.bytes.items → LeavesOnly moment_of left_of old new (IsEither file bytes)
  leaves_it past now = record {
    later = omega (arith, ap length past);
    each = λ c left. inl (only_bytes old.past.items old.bytes.items c (back (moment_of old) c left) ∙ holds);
    before = λ t c le left. inl (back t c left);
  }
    where
      back : (t : ℕ) (c : List ℕ) → left_of new t c → left_of old t c
      back t c left = subst (λ (l : Contents). Since l old.bytes.items t c) past (subst (λ (b : List ℕ). Since new.past.items b t c) now left)
