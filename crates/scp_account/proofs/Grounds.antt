-- The entries on which certificates rest.
use Rattle.std.proofs.Common.{◌≡◌, ◌<◌, ℕ, suc, Bool, false, List, [], ◌∷◌, ◌++◌, length, Option, Some, None, Result, Ok, Err, sym, ◌∙◌, ap, arith}
use Rattle.std.specs.Prelude.{All, OnOk, filter, fold, if◌then◌else◌}
use Rattle.serde_json.specs.Data.{Data}
use Rattle.scp_line.specs.scp_types.specs.declared.names.NodeId.{NodeId}
use Rattle.scp_line.specs.scp_types.specs.Same.{same_node}
use Rattle.scp_line.specs.scp_ledger.specs.declared.journal.Fate.{Fate}
use Rattle.scp_line.specs.scp_ledger.specs.Journal.{fresh_heard}
use Rattle.scp_account.specs.Decisions.{ground, ground_of}
use Rattle.scp_account.specs.Fits.{FitsEntry}
use Rattle.scp_account.specs.Spoken.{counting, last_of}
use Rattle.scp_account.specs.inside.Spoken.{is_its, spoken, FitsIf}
use Rattle.scp_account.proofs.Speaking.{last_counts}

-- what is so of an answer, where something follows of it
pub on_ok : {A E P Q : Type 0} (r : Result A E) → (P → Q) → OnOk r P → OnOk r Q
on_ok (Ok a) f p = f p
on_ok (Err e) f p = p

-- the last of entries that break no limit breaks none
pub fits_last : (entries : List Fate) (last : Option Fate) → All FitsEntry entries → FitsIf last → FitsIf (fold (λ earlier entry. Some entry) last entries)
fits_last [] last all is = is
fits_last (entry ∷ entries) last all is = fits_last entries (Some entry) (λ k d lt. all (suc k) d (omega (arith, lt))) (all 0 entry (omega arith))

-- what is added of a member is its ground
pub member_added : (me member : NodeId) (entries : List Fate) (found : Option Fate) (news olds : List Data) → same_node member me ≡ false → found ≡ last_of (filter (λ fate. is_its member (fresh_heard fate)) entries) → news ≡ olds ++ ground member found
    → (journal : List Fate) (slot : ℕ) → entries ≡ spoken journal slot → news ≡ olds ++ ground_of me journal slot member
member_added me member entries found news olds apart is added journal slot spoke =
    added
    ∙ ap (λ (o : Option Fate). olds ++ ground member o) (is ∙ last_counts slot member journal entries spoke)
    ∙ sym (ap (λ (b : Bool). olds ++ (if b then [] else ground member (counting journal slot member))) apart)
