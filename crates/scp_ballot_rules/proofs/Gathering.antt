-- Going over the board, what its statements name is gathered.
use Rattle.std.proofs.Common.{◌≡◌, ◌≢◌, ◌↔◌, Bool, true, false, cond, List, [], ◌∷◌, Option, Some, None, IsSomeAnd, Contains, refl, sym, ◌∙◌, ap, subst, ◌⊎◌, inl, inr}
use Rattle.std.specs.Map.{lookup}
use Rattle.std.specs.BTreeMap.{is_at}
use Rattle.scp_vote.specs.scp_types.specs.declared.names.NodeId.{NodeId}
use Rattle.scp_vote.specs.scp_types.specs.declared.ballot.Ballot.{Ballot}
use Rattle.scp_vote.specs.scp_quorum.specs.NodeSet.{node_cmp}
use Rattle.scp_vote.specs.scp_envelope.specs.declared.statement.Pledges.{Pledges}
use Rattle.scp_vote.specs.declared.statements.Entry.{Entry}
use Rattle.scp_vote.specs.Board.{Seen}
use Rattle.scp_vote.proofs.Chain.{same_at}
use Rattle.scp_ballot_rules.specs.inside.Finding.{Adds}

abbrev pub Entries : Type 0
Entries = List (NodeId × Entry)

decided : (b : Bool) → (b ≡ true) ⊎ (b ≡ false)
decided true = inl refl
decided false = inr refl

-- what the statements of the nodes that were visited name is there, and nothing else; these entries are left
pub record IsGathering (b : Seen) (Q : Pledges → Ballot → Type 0) (list : List Ballot) (rest : Entries) : Type 0 where
  pub sound : (x : Ballot) → Contains list x → (v : NodeId) × IsSomeAnd (b.statement v) (λ p. Q p x) × (x.counter ≢ 0)
  pub complete : (v : NodeId) (x : Ballot) → lookup (is_at (node_cmp v)) rest ≡ None → IsSomeAnd (b.statement v) (λ p. Q p x) → x.counter ≢ 0 → Contains list x

module _ (b : Seen) (Q : Pledges → Ballot → Type 0) where
  pub gathering_start : (list : List Ballot) (es : Entries) → ((x : Ballot) → Contains list x → ⊥) → ((v : NodeId) → lookup (is_at (node_cmp v)) es ≡ None → b.statement v ≡ None) → IsGathering b Q list es
  gathering_start list es empty absent = record {
    sound = λ x h. absurd (empty x h);
    complete = λ v x none h counted. let P : Option Pledges → Type 0 = λ o. IsSomeAnd o (λ p. Q p x) in absurd (subst P (absent v none) h);
  }

  pub gathering_more : (list more : List Ballot) (v : NodeId) (entry : Entry) (p : Pledges) (rest : Entries) → b.statement v ≡ Some p → Adds (λ x. Q p x) list more
      → IsGathering b Q list ((v, entry) ∷ rest) → IsGathering b Q more rest
  gathering_more list more v entry p rest is adds g = record {
    sound = λ x h. elim ((adds x).0 h) [
      | inl was ↦ g.sound x was
      | inr now ↦ (v, (let P : Option Pledges → Type 0 = λ o. IsSomeAnd o (λ q. Q q x) in subst P (sym is) now.0), now.1)
    ];
    complete = λ w x none h counted. elim (decided (is_at (node_cmp w) v)) [
      | inl here ↦
          let P : Option Pledges → Type 0 = λ o. IsSomeAnd o (λ q. Q q x) in
          let there : IsSomeAnd (b.statement v) (λ q. Q q x) = subst (λ u. P (b.statement u)) (same_at w v here) h in
          (adds x).1 (inr (subst P is there, counted))
      | inr apart ↦ (adds x).1 (inl (g.complete w x (ap (λ t. cond t (Some entry) (lookup (is_at (node_cmp w)) rest)) apart ∙ none) h counted))
    ];
  }

  pub gathering_end : (list : List Ballot) → IsGathering b Q list [] → (x : Ballot) → Contains list x ↔ ((v : NodeId) × IsSomeAnd (b.statement v) (λ p. Q p x) × (x.counter ≢ 0))
  gathering_end list g x = (λ h. g.sound x h, λ h. g.complete h.0 x refl h.1 h.2)
