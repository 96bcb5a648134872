-- What a crash may leave behind each step of a switch.
use Rattle.std.proofs.Common.{◌≡◌, ◌⊎◌, inl, inr, ⊎_elim, ℕ, List, [], ◌∷◌, refl, sym, ◌∙◌, ap, subst}
use Rattle.scp_live_log.specs.Disk.{Only, LeavesOnly, Follows}
use Rattle.scp_live_folder.specs.Folder.{FolderView, Same, Keeps, MayBe, with_now, with_next, linked, unlinked, renamed}
use Rattle.scp_live_folder.specs.Epochs.{switched, settled, IsStill, IsLeftOf, HasSameLogs}
use Rattle.scp_live_folder.specs.inside.Halves.{prepared}

abbrev pub Outcomes : Type 1
Outcomes = FolderView → Type 0

-- some outcome before, of which this is made
abbrev pub From : Outcomes → (FolderView → FolderView → Type 0) → Outcomes
From before step left = (u : FolderView) × before u × step u left

pub still : (epoch : ℕ) (u : FolderView) → IsStill epoch u u
still epoch u = record { now = refl; past = refl; second = inl refl }

pub keeps_still : (epoch : ℕ) (u left : FolderView) → Keeps Same u left → IsStill epoch u left
keeps_still epoch u left k = record { now = k.now; past = k.past; second = inl k.second }

linked_still : (epoch : ℕ) (u mid left : FolderView) → Keeps Same u mid → MayBe (linked epoch) mid left → IsStill epoch u left
linked_still epoch u mid left k step =
    ⊎_elim
    (λ (same : left ≡ mid). subst (IsStill epoch u) (sym same) (keeps_still epoch u mid k))
    (λ (new : left ≡ linked epoch mid). subst (IsStill epoch u) (sym new) (record { now = k.now; past = k.past; second = inr (ap (λ (l : List ℕ). epoch ∷ l) k.second) }))
    step

-- `next` was written
pub written_from : (epoch : ℕ) (old mid : Outcomes) → Follows (Keeps Same) old mid → (left : FolderView) → mid left → From old (IsStill epoch) left
written_from epoch old mid follows left now =
    let from = follows left now in
    (from.0, from.1, keeps_still epoch from.0 left from.2)

-- and then `now` was given the name of an ended epoch too
pub linked_from : (epoch : ℕ) (old mid new : Outcomes) → Follows (Keeps Same) old mid → Follows (MayBe (linked epoch)) mid new → (left : FolderView) → new left → From old (IsStill epoch) left
linked_from epoch old mid new first second left now =
    let link = second left now in
    let write = first link.0 link.1 in
    (write.0, write.1, linked_still epoch write.0 link.0 left write.2 link.2)

pub same_logs : (u : FolderView) → HasSameLogs u u
same_logs u = record { now = refl; past = refl }

unlinked_same : (epoch : ℕ) (u mid left : FolderView) → Keeps Same u mid → MayBe (unlinked epoch) mid left → HasSameLogs u left
unlinked_same epoch u mid left k step =
    ⊎_elim
    (λ (same : left ≡ mid). subst (HasSameLogs u) (sym same) (record { now = k.now; past = k.past }))
    (λ (new : left ≡ unlinked epoch mid). subst (HasSameLogs u) (sym new) (record { now = k.now; past = k.past }))
    step

-- `next` was removed
pub removed_from : (old mid : Outcomes) → Follows (Keeps Same) old mid → (left : FolderView) → mid left → From old HasSameLogs left
removed_from old mid follows left now =
    let from = follows left now in
    (from.0, from.1, record { now = from.2.now; past = from.2.past })

-- and then the name of an ended epoch
pub unlinked_from : (epoch : ℕ) (old mid new : Outcomes) → Follows (Keeps Same) old mid → Follows (MayBe (unlinked epoch)) mid new → (left : FolderView) → new left → From old HasSameLogs left
unlinked_from epoch old mid new first second left now =
    let unlink = second left now in
    let remove = first unlink.0 unlink.1 in
    (remove.0, remove.1, unlinked_same epoch remove.0 unlink.0 left remove.2 unlink.2)
