-- The two halves of a switch, and what a start finds of it.
use Rattle.std.proofs.Common.{◌≡◌, ◌⊎◌, inl, inr, ⊎_elim, ℕ, List, [], ◌∷◌, ◌++◌, map, refl, sym, ◌∙◌, ap, subst}
use Rattle.scp_live_log.specs.Disk.{Only, LeavesOnly}
use Rattle.std.proofs.lemmas.Cmp.{nat_eq_equiv}
use Rattle.scp_live_log.proofs.Moments.{joins}
use Rattle.scp_live_folder.specs.Folder.{FolderView, MayBe, renamed, without, unlinked, with_next}
use Rattle.scp_live_folder.specs.Epochs.{switched, settled, IsStill, IsLeftOf, FindsOneEpoch}
use Rattle.scp_live_folder.specs.inside.Halves.{prepared}
use Rattle.scp_live_folder.proofs.Outcomes.{From, still}

module _ {D C : Type 0} (moment : D → ℕ) (left_since : D → ℕ → C → Type 0) (old new : D) where
  -- what has P has Q
  pub weaker : (P Q : C → Type 0) → ((c : C) → P c → Q c) → LeavesOnly moment left_since old new P → LeavesOnly moment left_since old new Q
  weaker P Q also leaves = record {
    later = leaves.later;
    each = λ c left. also c (leaves.each c left);
    before = λ t c le left. ⊎_elim (λ was. inl was) (λ now. inr (also c now)) (leaves.before t c le left);
  }

-- behind the first half the logs are still there
pub prepared_still : (epoch : ℕ) (bytes : List ℕ) (v : FolderView) → IsStill epoch v (prepared epoch bytes v)
prepared_still epoch bytes v = record { now = refl; past = refl; second = inr refl }

-- and behind the second one it is the whole
pub turned_of : (epoch : ℕ) (bytes : List ℕ) (v left : FolderView) (mid : FolderView → Type 0) → Only (prepared epoch bytes v) mid → From mid (MayBe renamed) left → IsStill epoch v left ⊎ (left ≡ switched epoch bytes v)
turned_of epoch bytes v left mid only from =
    let is : from.0 ≡ prepared epoch bytes v = only from.0 from.1 in
    ⊎_elim
    (λ (same : left ≡ from.0). inl (subst (IsStill epoch v) (sym (same ∙ is)) (prepared_still epoch bytes v)))
    (λ (new : left ≡ renamed from.0). inr (new ∙ ap renamed is))
    from.2

module _ {D : Type 0} (moment : D → ℕ) (left_since : D → ℕ → FolderView → Type 0) (may_leave : D → FolderView → Type 0) (epoch : ℕ) (bytes : List ℕ) (v : FolderView) (old mid new : D) where
  -- the first half alone
  pub first_half : LeavesOnly moment left_since old mid (From (may_leave old) (IsStill epoch)) → LeavesOnly moment left_since old mid (IsLeftOf epoch bytes v (may_leave old))
  first_half first = weaker moment left_since old mid (From (may_leave old) (IsStill epoch)) (IsLeftOf epoch bytes v (may_leave old)) (λ c from. inl from) first

  -- both
  pub both_halves : LeavesOnly moment left_since old mid (From (may_leave old) (IsStill epoch)) → Only (prepared epoch bytes v) (may_leave mid) → LeavesOnly moment left_since mid new (From (may_leave mid) (MayBe renamed))
      → LeavesOnly moment left_since old new (IsLeftOf epoch bytes v (may_leave old))
  both_halves first only second =
      joins moment left_since old mid new (IsLeftOf epoch bytes v (may_leave old)) (first_half first)
      (weaker moment left_since mid new (From (may_leave mid) (MayBe renamed)) (IsLeftOf epoch bytes v (may_leave old)) (λ c from. inr (turned_of epoch bytes v c (may_leave mid) only from)) second)

  -- where all was on the disk
  pub of_one : Only v (may_leave old) → LeavesOnly moment left_since old new (IsLeftOf epoch bytes v (may_leave old)) → LeavesOnly moment left_since old new (λ left. IsStill epoch v left ⊎ (left ≡ switched epoch bytes v))
  of_one only leaves =
      weaker moment left_since old new (IsLeftOf epoch bytes v (may_leave old)) (λ left. IsStill epoch v left ⊎ (left ≡ switched epoch bytes v))
      (λ c left. ⊎_elim (λ (from : From (may_leave old) (IsStill epoch) c). inl (subst (λ (u : FolderView). IsStill epoch u c) (only from.0 from.1) from.2)) (λ later. later) left)
      leaves

-- a folder by its parts
same_folder : (a b : FolderView) → a.now ≡ b.now → a.next ≡ b.next → a.second ≡ b.second → a.past ≡ b.past → a ≡ b
same_folder a b n x s p =
    ap (λ (l : List ℕ). let r : FolderView = record { now = l; next = a.next; second = a.second; past = a.past } in r) n
    ∙ ap (λ (l : List ℕ). let r : FolderView = record { now = b.now; next = l; second = a.second; past = a.past } in r) x
    ∙ ap (λ (l : List ℕ). let r : FolderView = record { now = b.now; next = b.next; second = l; past = a.past } in r) s
    ∙ ap (λ (l : List (ℕ × List ℕ)). let r : FolderView = record { now = b.now; next = b.next; second = b.second; past = l } in r) p

without_itself : (n : ℕ) → without n (n ∷ []) ≡ []
without_itself n = rw (nat_eq_equiv.refl n) refl

pub finds_one_epoch : FindsOneEpoch
finds_one_epoch epoch next bytes old left no_next no_second (inl s) =
    inl (s.now, same_folder (settled epoch left) old s.now (sym no_next) (gone s.second) s.past)
  where
    gone : (left.second ≡ old.second) ⊎ (left.second ≡ epoch ∷ old.second) → without epoch left.second ≡ old.second
    gone (inl same) = ap (without epoch) (same ∙ no_second) ∙ sym no_second
    gone (inr more) = ap (without epoch) (more ∙ ap (λ (l : List ℕ). epoch ∷ l) no_second) ∙ without_itself epoch ∙ sym no_second
finds_one_epoch epoch next bytes old left no_next no_second (inr is) =
    inr (ap (λ (w : FolderView). w.now) is, ap (settled next) is)
