-- Two nodes with one past come to rest by the same turns.
use Rattle.std.proofs.Common.{◌≡◌, ◌<◌, ℕ, zero, suc, Bool, true, false, List, [], ◌++◌, refl, sym, ◌∙◌, ap, subst, inl, inr, append_assoc, append-nil, arith}
use Rattle.std.specs.Prelude.{min, length}
use Rattle.std.proofs.lemmas.Bool.{cases_order}
use Rattle.std.proofs.lemmas.List.{map-append}
use Rattle.scp_again.specs.scp_driver.specs.Kv.{kv_says}
use Rattle.scp_again.specs.scp_types.specs.declared.limits.TheConstants.{LINK_LIMIT, ROUND_LIMIT}
use Rattle.scp_again.specs.scp_core.specs.declared.config.Config.{Config}
use Rattle.scp_again.specs.scp_core.specs.History.{Exchange}
use Rattle.scp_again.specs.scp_core.specs.Kv.{NodeView}
use Rattle.scp_turn.specs.Turn.{IsStill, IsTurn, events_of, links_of, stage_events}
use Rattle.scp_turn.specs.Kv.{Does, AreMovingTurns, Rests}
use Rattle.scp_turn.specs.Rest.{IsStillTurn, Then}
use Rattle.scp_live.proofs.Steps.{Laws, Both, Same, both_turned, does_config, does_on, does_run, same_steps}

-- ---- turns are steps

pub moving_does : (n : ℕ) (a b : NodeView) (heard : List Exchange) → AreMovingTurns n a heard b → Does a heard b
moving_does zero a b heard t = subst (λ (h : List Exchange). Does a h b) (sym t.0) t.1
moving_does (suc n) a b heard t = subst (λ (h : List Exchange). Does a h b) (sym t.split) (does_on a t.mid b t.first t.rest (moving_does n a t.mid t.first t.one) t.two.0)

pub rests_does : (calm : Bool) (a b : NodeView) (heard : List Exchange) → Rests calm a heard b → Does a heard b
rests_does true a b heard r = subst (λ (h : List Exchange). Does a h b) (sym r.2.split) (does_on a r.2.mid b r.2.first r.2.rest (moving_does r.0 a r.2.mid r.2.first r.2.one) r.2.two.0)
rests_does false a b heard r = moving_does ROUND_LIMIT a b heard r

-- ---- as many turns have the same events

pub same_links : (v w : NodeView) → v.config ≡ w.config → links_of v ≡ links_of w
same_links v w e = ap (λ (c : Config). min (length c.peers) LINK_LIMIT) e

same_turn : (v w m n : NodeView) (x y : List Exchange) → v.config ≡ w.config → IsTurn v x m → IsTurn w y n → events_of x ≡ events_of y
same_turn v w m n x y e s t = s ∙ ap stage_events (same_links v w e) ∙ sym t

apart : (heard first rest : List Exchange) → heard ≡ first ++ rest → events_of heard ≡ events_of first ++ events_of rest
apart heard first rest is = ap events_of is ∙ map-append (λ (x : Exchange). x.0) first rest

-- one turn more
more_turns : (x y f s g t : List Exchange) (a b m n v w : NodeView) → a.config ≡ b.config → x ≡ f ++ s → y ≡ g ++ t → events_of f ≡ events_of g → Does a f m → Does b g n → IsTurn m s v → IsTurn n t w → events_of x ≡ events_of y
more_turns x y f s g t a b m n v w e xs ys before d c turn other =
    let mid : m.config ≡ n.config = does_config f a m d ∙ e ∙ sym (does_config g b n c) in
    let last : events_of s ≡ events_of t = same_turn m n v w s t mid turn other in
    apart x f s xs ∙ (λ i. before i ++ last i) ∙ sym (apart y g t ys)

moving_events : (k : ℕ) (a b v w : NodeView) (x y : List Exchange) → a.config ≡ b.config → AreMovingTurns k a x v → AreMovingTurns k b y w → events_of x ≡ events_of y
moving_events zero a b v w x y e s t = ap events_of s.0 ∙ sym (ap events_of t.0)
moving_events (suc k) a b v w x y e s t =
    more_turns x y s.first s.rest t.first t.rest a b s.mid t.mid v w e s.split t.split (moving_events k a b s.mid t.mid s.first t.first e s.one t.one)
    (moving_does k a s.mid s.first s.one) (moving_does k b t.mid t.first t.one) s.two.1 t.two.1

-- ---- and there are as many

-- the first turns of more
begun : (m n : ℕ) (a b : NodeView) (heard : List Exchange) → n < m → AreMovingTurns m a heard b → Then (AreMovingTurns (suc n)) Does a heard b
begun zero n a b heard lt t = absurd (omega arith)
begun (suc m) n a b heard lt t = elim (cases_order n m) [
  | inl e ↦ record { mid = b; first = heard; rest = []; split = sym (append-nil heard); one = subst (λ (k : ℕ). AreMovingTurns (suc k) a heard b) (sym e) t; two = refl }
  | inr o ↦ elim o [
    | inl less ↦ (
        let more = begun m n a t.mid t.first less t.one in record {
          mid = more.mid;
          first = more.first;
          rest = more.rest ++ t.rest;
          split = t.split ∙ ap (λ (h : List Exchange). h ++ t.rest) more.split ∙ append_assoc more.first more.rest t.rest;
          one = more.one;
          two = does_on more.mid t.mid b more.rest t.rest more.two t.two.0;
        })
    | inr above ↦ absurd (omega arith)
  ]
]

-- where one came to rest the other doesn't go on
goes_no_further : Laws → (m n : ℕ) (p f l y : List Exchange) (a b mid v w : NodeView) → n < m → Both p a b → AreMovingTurns n a f mid → IsStillTurn kv_says mid l v → AreMovingTurns m b y w → v.failed ≡ false → w.failed ≡ false → ⊥
goes_no_further law m n p f l y a b mid v w lt both turns still others run runs =
    let start = begun m n b w y lt others in
    let t = start.one in
    let there : start.mid.failed ≡ false = (does_run start.rest start.mid w start.two runs).0 in
    let before : t.mid.failed ≡ false = (does_run t.rest t.mid start.mid t.two.0 there).0 in
    let here : mid.failed ≡ false = (does_run l mid v still.0 run).0 in
    let first = same_steps law p f t.first a b mid t.mid both (moving_events n a b mid t.mid f t.first both.config turns t.one) (moving_does n a mid f turns) (moving_does n b t.mid t.first t.one) here before in
    let last = same_steps law (p ++ f) l t.rest mid t.mid v start.mid first.both (same_turn mid t.mid v start.mid l t.rest first.both.config still.1 t.two.1) still.0 t.two.0 run there in
    t.two.2 (subst (λ (h : List Exchange). IsStill h) last.same still.2)

-- both came to rest behind so many turns
rest_events : (k : ℕ) (a b v w : NodeView) (x y : List Exchange) → a.config ≡ b.config → Then (AreMovingTurns k) (IsStillTurn kv_says) a x v → Then (AreMovingTurns k) (IsStillTurn kv_says) b y w → events_of x ≡ events_of y
rest_events k a b v w x y e s t =
    more_turns x y s.first s.rest t.first t.rest a b s.mid t.mid v w e s.split t.split (moving_events k a b s.mid t.mid s.first t.first e s.one t.one)
    (moving_does k a s.mid s.first s.one) (moving_does k b t.mid t.first t.one) s.two.1 t.two.1

-- the node behind the turns that move something runs, where that at rest does
ran_before : (k : ℕ) (a v : NodeView) (x : List Exchange) → (t : Then (AreMovingTurns k) (IsStillTurn kv_says) a x v) → v.failed ≡ false → t.mid.failed ≡ false
ran_before k a v x t run = (does_run t.rest t.mid v t.two.0 run).0

as_many : Laws → (p x y : List Exchange) (a b v w : NodeView) → Both p a b → (r : Rests true a x v) → (s : Rests true b y w) → v.failed ≡ false → w.failed ≡ false → r.0 ≡ s.0
as_many law p x y a b v w both r s run runs = elim (cases_order r.0 s.0) [
  | inl e ↦ e
  | inr o ↦ elim o [
    | inl less ↦ absurd (goes_no_further law s.0 r.0 p r.2.first r.2.rest s.2.first a b r.2.mid v s.2.mid less both r.2.one r.2.two s.2.one run (ran_before s.0 b w y s.2 runs))
    | inr more ↦ absurd (goes_no_further law r.0 s.0 p s.2.first s.2.rest r.2.first b a s.2.mid w r.2.mid more (both_turned p a b both) s.2.one s.2.two r.2.one runs (ran_before r.0 a v x r.2 run))
  ]
]

rests_events : Laws → (calm stopped : Bool) (p x y : List Exchange) (a b v w : NodeView) → Both p a b → Rests calm a x v → Rests stopped b y w → v.failed ≡ false → w.failed ≡ false → events_of x ≡ events_of y
rests_events law true true p x y a b v w both r s run runs =
    let e : r.0 ≡ s.0 = as_many law p x y a b v w both r s run runs in
    rest_events s.0 a b v w x y both.config (subst (λ (k : ℕ). Then (AreMovingTurns k) (IsStillTurn kv_says) a x v) e r.2) s.2
rests_events law true false p x y a b v w both r s run runs = absurd (goes_no_further law ROUND_LIMIT r.0 p r.2.first r.2.rest y a b r.2.mid v w r.1 both r.2.one r.2.two s run runs)
rests_events law false true p x y a b v w both r s run runs = absurd (goes_no_further law ROUND_LIMIT s.0 p s.2.first s.2.rest x b a s.2.mid w v s.1 (both_turned p a b both) s.2.one s.2.two r runs run)
rests_events law false false p x y a b v w both r s run runs = moving_events ROUND_LIMIT a b v w x y both.config r s

-- both come to rest by the same turns
pub same_rest : Laws → (calm stopped : Bool) (p x y : List Exchange) (a b v w : NodeView) → Both p a b → Rests calm a x v → Rests stopped b y w → v.failed ≡ false → w.failed ≡ false → Same p x y v w
same_rest law calm stopped p x y a b v w both r s run runs =
    same_steps law p x y a b v w both (rests_events law calm stopped p x y a b v w both r s run runs) (rests_does calm a v x r) (rests_does stopped b w y s) run runs
