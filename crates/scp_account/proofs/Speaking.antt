-- The ballot statements of slots in a map.
use Rattle.std.proofs.Common.{◌≡◌, ℕ, Bool, true, false, cond, List, [], ◌∷◌, ◌++◌, map, Option, Some, None, Bor, Vec, refl, sym, ◌∙◌, ap}
use Rattle.std.specs.Prelude.{filter, fold, nat_eq, All, if◌then◌else◌}
use Rattle.std.specs.BTreeMap.{is_at}
use Rattle.scp_line.specs.scp_types.specs.declared.names.NodeId.{NodeId}
use Rattle.scp_line.specs.scp_quorum.specs.NodeSet.{node_cmp}
use Rattle.scp_line.specs.scp_vote.specs.Board.{kind_of_pledges}
use Rattle.scp_line.specs.scp_vote.specs.declared.claim.StatementKind.TheVariants.{Balloting}
use Rattle.scp_line.specs.scp_ledger.specs.declared.journal.Fate.{Fate}
use Rattle.scp_line.specs.scp_ledger.specs.Journal.{Heard, fresh_heard, same_kind}
use Rattle.scp_account.specs.Fits.{FitsEntry}
use Rattle.scp_account.specs.Spoken.{is_ballot_in, last_of, counting}
use Rattle.scp_account.specs.inside.Spoken.{entries_or_none, is_in_slot, is_its, spoken, FitsIf}

-- what was taken out, and what was put in
pub taken_out : {Z : Type 0} (at : Bool) (new old : Option (Vec (Bor Fate) Z)) → new ≡ cond at None old → entries_or_none new ≡ (if at then [] else entries_or_none old)
taken_out true new old e = ap entries_or_none e
taken_out false new old e = ap entries_or_none e

pub put_in : {Z : Type 0} (at : Bool) (entries : Vec (Bor Fate) Z) (new old : Option (Vec (Bor Fate) Z)) → new ≡ cond at (Some entries) old → entries_or_none new ≡ (if at then map (λ fate. fate.now) entries.items else entries_or_none old)
put_in true entries new old e = ap entries_or_none e
put_in false entries new old e = ap entries_or_none e

-- a list that is kept, with one more at its end
kept_more : {X : Type 0} (keep : X → Bool) (done : List X) (x : X) (b : Bool) → keep x ≡ b → filter keep (done ++ x ∷ []) ≡ (if b then filter keep done ++ x ∷ [] else filter keep done)
kept_more {X} keep [] x true e = rw e refl
kept_more {X} keep [] x false e = rw e refl
kept_more {X} keep (y ∷ done) x b e = by (keep y) refl b (kept_more keep done x b e)
  where
    by : (k : Bool) → keep y ≡ k → (c : Bool) → filter keep (done ++ x ∷ []) ≡ (if c then filter keep done ++ x ∷ [] else filter keep done) → filter keep (y ∷ (done ++ x ∷ [])) ≡ (if c then filter keep (y ∷ done) ++ x ∷ [] else filter keep (y ∷ done))
    by true k true rest = rw k (ap (λ l. y ∷ l) rest)
    by true k false rest = rw k (ap (λ l. y ∷ l) rest)
    by false k true rest = rw k rest
    by false k false rest = rw k rest

pub filter_more : {X : Type 0} (keep : X → Bool) (done : List X) (x : X) → filter keep (done ++ x ∷ []) ≡ (if keep x then filter keep done ++ x ∷ [] else filter keep done)
filter_more {X} keep done x = kept_more keep done x (keep x) refl

-- lists that hold the ballot statements so far hold those with one entry more
pub spoken_more : (done : List Fate) (fate : Fate) (new old : ℕ → List Fate) → ((slot : ℕ) → new slot ≡ (if is_in_slot slot (fresh_heard fate) then old slot ++ fate ∷ [] else old slot)) → ((slot : ℕ) → old slot ≡ spoken done slot)
    → (slot : ℕ) → new slot ≡ spoken (done ++ fate ∷ []) slot
spoken_more done fate new old step is slot =
    step slot ∙ ap (λ (l : List Fate). if is_in_slot slot (fresh_heard fate) then l ++ fate ∷ [] else l) (is slot) ∙ sym (filter_more (λ f. is_in_slot slot (fresh_heard f)) done fate)

-- the last of the kept ones, with one more at the end
last_more : (done : List Fate) (x : Fate) (last : Option Fate) → fold (λ earlier entry. Some entry) last (done ++ x ∷ []) ≡ Some x
last_more [] x last = refl
last_more (y ∷ done) x last = last_more done x (Some y)

pub last_kept : (keep : Fate → Bool) (done : List Fate) (x : Fate) → last_of (filter keep (done ++ x ∷ [])) ≡ (if keep x then Some x else last_of (filter keep done))
last_kept keep done x = ap last_of (filter_more keep done x) ∙ by (keep x)
  where
    by : (b : Bool) → last_of (if b then filter keep done ++ x ∷ [] else filter keep done) ≡ (if b then Some x else last_of (filter keep done))
    by true = last_more (filter keep done) x None
    by false = refl

-- a statement of the slot and the node, and others
abbrev pub AreBoth : ℕ → NodeId → List Fate → Type 0
AreBoth slot node journal = filter (λ fate. is_its node (fresh_heard fate)) (spoken journal slot) ≡ filter (λ fate. is_ballot_in slot node (fresh_heard fate)) journal

both_more : (slot : ℕ) (node : NodeId) (fate : Fate) (journal : List Fate) → filter (λ f. is_its node (fresh_heard f)) (spoken journal slot) ≡ filter (λ f. is_ballot_in slot node (fresh_heard f)) journal → AreBoth slot node (fate ∷ journal)
both_more slot node fate journal rest = by (fresh_heard fate) refl
  where
    bits : (h : Heard) → fresh_heard fate ≡ Some h → (k s n : Bool) → same_kind (kind_of_pledges h.statement.pledges) Balloting ≡ k → nat_eq h.statement.slot.0 slot ≡ s → is_at (node_cmp h.statement.node) node ≡ n → AreBoth slot node (fate ∷ journal)
    bits h e true true true k s n = rw (e, k, s, e, k, n) (ap (λ (l : List Fate). fate ∷ l) rest)
    bits h e true true false k s n = rw (e, k, s, e, k, n) rest
    bits h e true false n k s is = rw (e, k, s) rest
    bits h e false true n k s is = rw (e, k, s) rest
    bits h e false false n k s is = rw (e, k, s) rest

    by : (h : Option Heard) → fresh_heard fate ≡ h → AreBoth slot node (fate ∷ journal)
    by None e = rw e rest
    by (Some h) e = bits h e (same_kind (kind_of_pledges h.statement.pledges) Balloting) (nat_eq h.statement.slot.0 slot) (is_at (node_cmp h.statement.node) node) refl refl refl

-- of a slot's statements those of a node are the slot's and the node's
pub of_both : (slot : ℕ) (node : NodeId) (journal : List Fate) → AreBoth slot node journal
of_both slot node [] = refl
of_both slot node (fate ∷ journal) = both_more slot node fate journal (of_both slot node journal)

-- so the last of them is the one that counts
pub last_counts : (slot : ℕ) (node : NodeId) (journal entries : List Fate) → entries ≡ spoken journal slot → last_of (filter (λ fate. is_its node (fresh_heard fate)) entries) ≡ counting journal slot node
last_counts slot node journal entries is = ap (λ (l : List Fate). last_of (filter (λ fate. is_its node (fresh_heard fate)) l)) is ∙ ap last_of (of_both slot node journal)
