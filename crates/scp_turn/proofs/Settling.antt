-- Rounds, one after the other, until the nodes come to rest.
use Rattle.std.proofs.Common.{◌≡◌, ◌⊎◌, ◌<◌, ◌+◌, ℕ, suc, Bool, true, false, List, length, refl, sym, ◌∙◌, subst, arith}
use Rattle.std.specs.Prelude.{◌↔◌}
use Rattle.scp_core.specs.scp_types.specs.declared.limits.TheConstants.{ROUND_LIMIT}
use Rattle.scp_turn.specs.Kv.{Noting}
use Rattle.scp_turn.specs.Heard.{Nodes, Heard, Noted, With}
use Rattle.scp_turn.specs.Rounds.{IsStill, IsRound, AreRounds, AllRun, RestsAs, Breaks, HasFailed}
use Rattle.scp_turn.specs.Network.{Hear}
use Rattle.scp_turn.specs.inside.Carrying.{Acts}
use Rattle.scp_turn.proofs.Hearing.{Did, hear_as, hear_then, hear_nothing, noted_on}

pub none_yet : {W : Type 0} (Note : Noting W) (w : W) (nodes : Nodes) (driven : List Bool) → Hear nodes nodes (With (Noted Note w w) (AreRounds driven (length nodes) 0))
none_yet Note w nodes driven = hear_nothing nodes (With (Noted Note w w) (AreRounds driven (length nodes) 0)) ((refl, refl), (refl, refl))

moving : (moved : Bool) (heard : List Heard) → moved ≡ true → ((moved ≡ false) ↔ IsStill heard) → ¬ (IsStill heard)
moving moved heard is iff = λ still. let e : true ≡ false = sym is ∙ iff.1 still in absurd cc

pub round_more : {W : Type 0} (Note : Noting W) (w v z : W) (old mid new : Nodes) (driven : List Bool) (k : ℕ) (moved : Bool) → moved ≡ true → Hear old mid (With (Noted Note w v) (AreRounds driven (length old) k)) → Acts (Noted Note v z) mid new (IsRound driven (length mid)) moved → Hear old new (With (Noted Note w z) (AreRounds driven (length old) (k + 1)))
round_more Note w v z old mid new driven k moved is h a =
    let e : k + 1 ≡ suc k = omega arith in
    subst (λ (j : ℕ). Hear old new (With (Noted Note w z) (AreRounds driven (length old) j))) (sym e)
    (hear_then old mid new (With (Noted Note w v) (AreRounds driven (length old) k)) (With (Noted Note v z) (Did (IsRound driven (length mid)) moved)) (With (Noted Note w z) (AreRounds driven (length old) (suc k)))
    (λ x y p q. (
      record { mid = mid; first = x; rest = y; split = refl; one = p.0; two = (subst (λ (c : ℕ). IsRound driven c mid y new) h.count q.0.0, moving moved y is q.0.1) },
      noted_on Note w v z old mid new x y p.1 q.1,
    )) h a)

pub breaks : {W : Type 0} (Note : Noting W) (w v z : W) (old mid new : Nodes) (driven : List Bool) (k number : ℕ) (moved : Bool) → k < ROUND_LIMIT → (k ≡ 0) ⊎ AllRun mid → Hear old mid (With (Noted Note w v) (AreRounds driven (length old) k)) → Acts (Noted Note v z) mid new (IsRound driven (length mid)) moved → HasFailed new number → Hear old new (With (Noted Note w z) (Breaks driven (length old) number))
breaks Note w v z old mid new driven k number moved lt run h a f =
    hear_then old mid new (With (Noted Note w v) (AreRounds driven (length old) k)) (With (Noted Note v z) (Did (IsRound driven (length mid)) moved)) (With (Noted Note w z) (Breaks driven (length old) number))
    (λ x y p q. (
      (k, lt, record { mid = mid; first = x; rest = y; split = refl; one = (p.0, run); two = subst (λ (c : ℕ). IsRound driven c mid y new) h.count q.0.0 }, f),
      noted_on Note w v z old mid new x y p.1 q.1,
    )) h a

pub rests_still : {W : Type 0} (Note : Noting W) (w v z : W) (old mid new : Nodes) (driven : List Bool) (k : ℕ) (moved : Bool) → k < ROUND_LIMIT → moved ≡ false → Hear old mid (With (Noted Note w v) (AreRounds driven (length old) k)) → Acts (Noted Note v z) mid new (IsRound driven (length mid)) moved → Hear old new (With (Noted Note w z) (RestsAs driven (length old) true))
rests_still Note w v z old mid new driven k moved lt calm h a =
    hear_then old mid new (With (Noted Note w v) (AreRounds driven (length old) k)) (With (Noted Note v z) (Did (IsRound driven (length mid)) moved)) (With (Noted Note w z) (RestsAs driven (length old) true))
    (λ x y p q. (
      (k, lt, record { mid = mid; first = x; rest = y; split = refl; one = p.0; two = (subst (λ (c : ℕ). IsRound driven c mid y new) h.count q.0.0, q.0.1.0 calm) }),
      noted_on Note w v z old mid new x y p.1 q.1,
    )) h a

pub rests_not : {W : Type 0} (Note : Noting W) (w z : W) (old new : Nodes) (driven : List Bool) (k : ℕ) → k ≡ ROUND_LIMIT → Hear old new (With (Noted Note w z) (AreRounds driven (length old) k)) → Hear old new (With (Noted Note w z) (RestsAs driven (length old) false))
rests_not Note w z old new driven k e h = hear_as old new (With (Noted Note w z) (AreRounds driven (length old) k)) (With (Noted Note w z) (RestsAs driven (length old) false)) (λ heard p. (subst (λ (j : ℕ). AreRounds driven (length old) j old heard new) e p.0, p.1)) h
