-- The entry that counts has the newest statement.
use Rattle.std.proofs.Common.{◌≡◌, ℕ, Bool, true, false, List, [], ◌∷◌, Option, Some, None, refl}
use Rattle.std.specs.Prelude.{filter, fold, option_to_list}
use Rattle.scp_line.specs.scp_types.specs.declared.names.NodeId.{NodeId}
use Rattle.scp_line.specs.scp_vote.specs.declared.claim.StatementKind.TheVariants.{Balloting}
use Rattle.scp_line.specs.scp_ledger.specs.declared.journal.Fate.{Fate}
use Rattle.scp_line.specs.scp_ledger.specs.Journal.{Heard, fresh_heard, fresh_in, is_of}
use Rattle.scp_account.specs.Spoken.{is_ballot_in}
use Rattle.scp_account.specs.Laws.{heard_by}

-- of these entries the last that counts, behind what counted before, has the last statement that was fresh, behind the one before
abbrev pub CountsSo : ℕ → NodeId → List Fate → Option Fate → Option Heard → Type 0
CountsSo slot node journal last heard = heard_by (fold (λ earlier entry. Some entry) last (filter (λ fate. is_ballot_in slot node (fresh_heard fate)) journal)) ≡ fold (λ earlier h. Some h) heard (filter (is_of slot Balloting node) (fresh_in journal))

counting_more : (slot : ℕ) (node : NodeId) (fate : Fate) (journal : List Fate) → ((last : Option Fate) (heard : Option Heard) → heard_by last ≡ heard → CountsSo slot node journal last heard)
    → (last : Option Fate) (heard : Option Heard) → heard_by last ≡ heard → CountsSo slot node (fate ∷ journal) last heard
counting_more slot node fate journal rest last heard is = by (fresh_heard fate) refl
  where
    by_kind : (h : Heard) (b : Bool) → fresh_heard fate ≡ Some h → is_of slot Balloting node h ≡ b → CountsSo slot node (fate ∷ journal) last heard
    by_kind h true e k = rw (e, k) (rest (Some fate) (Some h) e)
    by_kind h false e k = rw (e, k) (rest last heard is)

    by : (h : Option Heard) → fresh_heard fate ≡ h → CountsSo slot node (fate ∷ journal) last heard
    by None e = rw e (rest last heard is)
    by (Some h) e = by_kind h (is_of slot Balloting node h) e refl

pub counting_so : (slot : ℕ) (node : NodeId) (journal : List Fate) (last : Option Fate) (heard : Option Heard) → heard_by last ≡ heard → CountsSo slot node journal last heard
counting_so slot node [] last heard is = is
counting_so slot node (fate ∷ journal) last heard is = counting_more slot node fate journal (λ l h e. counting_so slot node journal l h e) last heard is
