-- A quorum among the picked sets is a quorum of the board among the nodes that were picked.
use Rattle.std.proofs.Common.{◌≡◌, Bool, true, false, Option, Some, None, IsSome, IsSomeAnd, IsTrue, ◌↔◌, refl, sym, subst, ◌∙◌}
use Rattle.std.specs.Option.{ForSome, option_map}
use Rattle.scp_quorum.specs.scp_types.specs.declared.names.NodeId.{NodeId}
use Rattle.scp_quorum.specs.QuorumTree.{QuorumTree}
use Rattle.scp_quorum.specs.Satisfies.{Satisfies, Blocks}
use Rattle.scp_quorum.specs.Quorum.{IsQuorum, IsGreatestQuorum, HasNoQuorum}
use Rattle.scp_quorum.proofs.Blocking.{Satisfies-within}
use Rattle.scp_envelope.specs.declared.statement.Pledges.{Pledges}
use Rattle.scp_vote.specs.Board.{Seen, Has, AllHave, HasQuorumOf, IsBlockedBy, IsGreatestWhere, KeepsOwn}
use Rattle.scp_vote.specs.inside.Statements.{PicksNodes, PicksSets}

there : {A : Type 0} (o : Option A) (P : A → Type 0) → IsSomeAnd o P → IsSome o
there None P h = absurd h
there (Some x) P h = refl

some_of : {A : Type 0} (P : A → Type 0) (o : Option A) → IsSomeAnd o P → (x : A) × (o ≡ Some x) × P x
some_of P None h = absurd h
some_of P (Some x) h = (x, refl, h)

module _ (b : Seen) (P : Pledges → Type 0) (nodes : NodeId → Bool) (picked : PicksNodes (Has b P) nodes) where
  module _ (sets : NodeId → Option QuorumTree) (picks : PicksSets b nodes sets) where
    to_quorum : (us : NodeId → Bool) → IsQuorum sets b.me us → IsQuorum b.counted b.me us
    to_quorum us quorum = record {
      has = quorum.has;
      satisfied = λ v has.
          let Q : Option QuorumTree → Type 0 = λ o. IsSomeAnd o (Satisfies us) in
          subst Q (picks.same v (there (sets v) (Satisfies us) (quorum.satisfied v has))) (quorum.satisfied v has);
    }

    from_quorum : (us : NodeId → Bool) → IsQuorum b.counted b.me us → AllHave b P us → IsQuorum sets b.me us
    from_quorum us quorum all = record {
      has = quorum.has;
      satisfied = λ v has.
          let Q : Option QuorumTree → Type 0 = λ o. IsSomeAnd o (Satisfies us) in
          subst Q (sym (picks.complete v ((picked v).1 (all v has)))) (quorum.satisfied v has);
    }

    pub greatest_picked : (us : NodeId → Bool) → IsGreatestQuorum sets b.me us → IsGreatestWhere b P us
    greatest_picked us greatest = record {
      quorum = to_quorum us greatest.quorum;
      all_have = λ v has. (picked v).0 (picks.sound v (there (sets v) (Satisfies us) (greatest.quorum.satisfied v has)));
      others = λ others quorum all. greatest.others others (from_quorum others quorum all);
    }

    pub none_picked : HasNoQuorum sets b.me → HasQuorumOf b P → ⊥
    none_picked none (us, quorum, all) = none us (from_quorum us quorum all)

  -- if the nodes don't satisfy the local set, no quorum at this node is among them
  pub refused : ForSome (b.counted b.me) (λ q. q ≡ b.local) → (Satisfies nodes b.local → ⊥) → HasQuorumOf b P → ⊥
  refused own fails (us, quorum, all) =
      let mine = some_of (Satisfies us) (b.counted b.me) (quorum.satisfied b.me quorum.has) in
      let local : Satisfies us b.local = subst (λ q. Satisfies us q) (own mine.0 mine.1) mine.2 in
      fails (Satisfies-within us nodes (λ v has. (picked v).1 (all v has)) b.local local)

  pub blocked_iff : (t : Bool) → (IsTrue t ↔ Blocks nodes b.local) → IsTrue t ↔ IsBlockedBy b P
  blocked_iff t tests = (
    λ h. (nodes, λ v has. (picked v).0 has, tests.0 h),
    λ h. tests.1 (λ others apart. h.2 others (λ v has. absent (h.0 v) (λ mine. let e : true ≡ false = sym ((picked v).1 (h.1 v mine)) ∙ apart v has in cc))),
  )
    where
      absent : (t : Bool) → (t ≡ true → ⊥) → t ≡ false
      absent true h = absurd (h refl)
      absent false h = refl

pub no_own : (b : Seen) (P : Pledges → Type 0) → (Has b P b.me → ⊥) → HasQuorumOf b P → ⊥
no_own b P fails h = fails (h.2 b.me h.1.has)

of_own : {A B : Type 0} (f : A → B) (o : Option A) (l q : B) → option_map (λ _. l) o ≡ Some q → q ≡ l
of_own f None l q e = cc
of_own f (Some x) l q e = cc

-- the set counted for this node is the local one
pub own_counted : (b : Seen) → KeepsOwn b → ForSome (b.counted b.me) (λ q. q ≡ b.local)
own_counted b keeps q e = of_own (λ (p : Pledges). b.local) (b.statement b.me) b.local q (sym keeps ∙ e)
