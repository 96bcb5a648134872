-- A value that is Confirmed stays so once this node's own statement, which accepts it, is on the board.
use Rattle.std.proofs.Common.{◌≡◌, Bool, true, false, cond, ℕ, List, Option, Some, None, IsSomeAnd, refl, sym, ◌∙◌, ap, ◌⊎◌, inl, inr}
use Rattle.std.specs.BTreeMap.{is_at}
use Rattle.std.specs.Option.{option_map}
use Rattle.scp_vote.specs.scp_types.specs.declared.names.NodeId.{NodeId}
use Rattle.scp_vote.specs.scp_quorum.specs.NodeSet.{node_cmp}
use Rattle.scp_vote.specs.scp_quorum.specs.Satisfies.{Satisfies}
use Rattle.scp_vote.specs.scp_envelope.specs.declared.statement.Pledges.{Pledges}
use Rattle.scp_vote.specs.declared.claim.Claim.TheVariants.{Nominated}
use Rattle.scp_vote.specs.declared.claim.Support.TheVariants.{Accepts}
use Rattle.scp_vote.specs.Claims.{Stands}
use Rattle.scp_vote.specs.Board.{Seen, Confirmed, KeepsOwn, Puts}
use Rattle.scp_nominate.proofs.Options.{some_of, some_and, same_some_and}

decided : (b : Bool) → (b ≡ true) ⊎ (b ≡ false)
decided true = inl refl
decided false = inr refl

-- q accepts the end of the range, and it is put in the place of this node's statement
module _ (b new : Seen) (q : Pledges) (v : List ℕ) (keeps : KeepsOwn b) (puts : Puts b new b.me q b.local) (mine : Stands Accepts (Nominated v) q) where
  own_local : (us : NodeId → Bool) → IsSomeAnd (b.counted b.me) (Satisfies us) → Satisfies us b.local
  own_local us h = by_statement (b.statement b.me) (same_some_and (Satisfies us) (b.counted b.me) (option_map (λ _. b.local) (b.statement b.me)) keeps h)
    where
      by_statement : (o : Option Pledges) → IsSomeAnd (option_map (λ _. b.local) o) (Satisfies us) → Satisfies us b.local
      by_statement None k = absurd k
      by_statement (Some p) k = k

  pub confirmed_stays : Confirmed b (Nominated v) → Confirmed new (Nominated v)
  confirmed_stays h = (
    h.0,
    record {
      has = ap h.0 puts.me ∙ h.1.has;
      satisfied = λ w has. elim (decided (is_at (node_cmp b.me) w)) [
        | inl here ↦
            let me_has : IsSomeAnd (b.counted b.me) (Satisfies h.0) = h.1.satisfied b.me h.1.has in
            some_and (Satisfies h.0) (new.counted w) b.local (puts.sets w ∙ ap (λ t. cond t (Some b.local) (b.counted w)) here) (own_local h.0 me_has)
        | inr apart ↦ same_some_and (Satisfies h.0) (b.counted w) (new.counted w) (sym (puts.sets w ∙ ap (λ t. cond t (Some b.local) (b.counted w)) apart)) (h.1.satisfied w has)
      ];
    },
    λ w has. elim (decided (is_at (node_cmp b.me) w)) [
      | inl here ↦ some_and (Stands Accepts (Nominated v)) (new.statement w) q (puts.statements w ∙ ap (λ t. cond t (Some q) (b.statement w)) here) mine
      | inr apart ↦
          let p = some_of (Stands Accepts (Nominated v)) (b.statement w) (h.2 w has) in
          some_and (Stands Accepts (Nominated v)) (new.statement w) p.0 (puts.statements w ∙ ap (λ t. cond t (Some q) (b.statement w)) apart ∙ p.1) p.2
    ],
  )
