-- What goes over a link.
use Rattle.std.proofs.Common.{inl, inr, ◌≡◌, ◌≢◌, ◌+◌, ◌-◌, ℕ, zero, suc, Bool, true, false, List, [], ◌∷◌, ◌++◌, Option, Some, refl, sym, ◌∙◌, ap, subst, arith}
use Rattle.std.specs.Prelude.{slice_get, slice_set}
use Rattle.scp_core.specs.scp_wire.specs.declared.link.Bytes.{Bytes}
use Rattle.scp_core.specs.declared.event.Event.{Event}
use Rattle.scp_core.specs.declared.event.Event.TheVariants as event
use Rattle.scp_core.specs.declared.event.Reply.{Reply}
use Rattle.scp_core.specs.declared.event.Reply.TheVariants as reply
use Rattle.scp_core.specs.Node.{accepts_at}
use Rattle.scp_core.specs.Kv.{NodeView}
use Rattle.scp_turn.specs.Kv.{Noting}
use Rattle.scp_turn.specs.Turn.{IsStillReply}
use Rattle.scp_turn.specs.Heard.{Nodes, Heard, IsHeard, IsOne, Noted, With}
use Rattle.scp_turn.specs.Rounds.{IsStill, link_of, is_driven, AcceptsNothing, IsShut, drain_of, send_of, Carries}
use Rattle.scp_turn.specs.inside.Carrying.{Acts, AcceptsAt, Transmits}
use Rattle.scp_turn.specs.Network.{IsAnswered}
use Rattle.scp_turn.proofs.Hearing.{Did, hear_as, hear_then, acts_nothing, acts_as, noted_on}
use Rattle.scp_turn.proofs.Transmitting.{drain_still, send_accepted}

-- ---- one node's step

still_one : (old new : Nodes) (h : Heard) (heard : List Heard) → IsOne h old heard new → IsStillReply h.reply → IsStill heard
still_one old new h heard p s = subst (λ (x : List Heard). IsStill x) (sym p.0) (s, tt)

-- ---- what goes over a link

get_other : (xs : Nodes) (k j : ℕ) (y : NodeView) → j ≢ k → slice_get (slice_set xs k y) j ≡ slice_get xs j
get_other [] k j y h = refl
get_other (x ∷ xs) zero zero y h = absurd (h refl)
get_other (x ∷ xs) zero (suc j) y h = refl
get_other (x ∷ xs) (suc k) zero y h = refl
get_other (x ∷ xs) (suc k) (suc j) y h = get_other xs k j y (λ e. h (ap suc e))

-- a step of another node leaves it as it was
pub others_stay : (old new : Nodes) (h : Heard) (j : ℕ) → IsHeard old h new → h.node ≢ j + 1 → slice_get new j ≡ slice_get old j
others_stay old new h j s apart =
    let other : j ≢ s.place = λ e. apart (s.number ∙ ap (λ (k : ℕ). k + 1) (sym e)) in
    ap (λ (xs : Nodes). slice_get xs j) s.is ∙ get_other old s.place j s.after' other

-- nothing was drained
pub dry : {W : Type 0} (Note : Noting W) (w z : W) (old new : Nodes) (from to : ℕ) (r : Reply) → ((bytes : Bytes) → r ≢ reply.Sent bytes) → IsAnswered (Noted Note w z) old from (event.Drain (link_of to from)) r new → Acts (Noted Note w z) old new (Transmits from to) false
dry Note w z old new from to r none a =
    hear_as old new (With (Noted Note w z) (IsOne (drain_of from to r))) (With (Noted Note w z) (Did (Transmits from to) false))
    (λ heard p.
    let still : IsStillReply r = drain_still p.0.1.before p.0.1.after' (link_of to from) r p.0.1.step none in
    ((inl (r, still, p.0), (λ calm. still_one old new (drain_of from to r) heard p.0 still, λ all. refl)), p.1)) a

same_some : (o : Option NodeView) (x y : NodeView) → o ≡ Some x → o ≡ Some y → x ≡ y
same_some o x y a b = cc

accepted : (old mid new : Nodes) (from to : ℕ) (bytes : Bytes) (first : Reply) (r : Reply) (x y : List Heard) → from ≢ to → AcceptsAt old to (link_of (from + 1) (to + 1)) → IsOne (drain_of (from + 1) (to + 1) first) old x mid → IsOne (record { node = to + 1; event = event.Send (link_of (from + 1) (to + 1)) bytes; reply = r }) mid y new → r ≡ reply.Accepted
accepted old mid new from to bytes first r x y apart at f s =
    let link = link_of (from + 1) (to + 1) in
    let sender : from + 1 ≢ to + 1 = λ e. apart (omega (arith, e)) in
    let stays : slice_get mid to ≡ slice_get old to = others_stay old mid (drain_of (from + 1) (to + 1) first) to f.1 sender in
    let place : s.1.place ≡ to = omega (arith, s.1.number) in
    let was : slice_get mid to ≡ Some s.1.before = subst (λ (k : ℕ). slice_get mid k ≡ Some s.1.before) place s.1.was in
    let same : at.0 ≡ s.1.before = same_some (slice_get mid to) at.0 s.1.before (stays ∙ at.1) was in
    let opens : accepts_at s.1.before link ≡ true = subst (λ (v : NodeView). accepts_at v link ≡ true) same at.2 in
    send_accepted s.1.before s.1.after' link bytes r opens s.1.step

-- something was sent
moved_by : (old mid : Nodes) (from to : ℕ) (bytes : Bytes) (x y : List Heard) → IsOne (drain_of from to (reply.Sent bytes)) old x mid → IsStill (x ++ y) → ⊥
moved_by old mid from to bytes x y f all =
    let first : IsStill (drain_of from to (reply.Sent bytes) ∷ y) = subst (λ (l : List Heard). IsStill (l ++ y)) f.0 all in
    first.0

-- what was drained is sent, and accepted
pub sent : {W : Type 0} (Note : Noting W) (w v z : W) (old mid new : Nodes) (from to : ℕ) (bytes : Bytes) (r : Reply) → from ≢ to → AcceptsAt old to (link_of (from + 1) (to + 1)) → IsAnswered (Noted Note w v) old (from + 1) (event.Drain (link_of (to + 1) (from + 1))) (reply.Sent bytes) mid → IsAnswered (Noted Note v z) mid (to + 1) (event.Send (link_of (from + 1) (to + 1)) bytes) r new → Acts (Noted Note w z) old new (Transmits (from + 1) (to + 1)) true
sent Note w v z old mid new from to bytes r apart at a b =
    hear_then old mid new (With (Noted Note w v) (IsOne (drain_of (from + 1) (to + 1) (reply.Sent bytes)))) (With (Noted Note v z) (IsOne (record { node = to + 1; event = event.Send (link_of (from + 1) (to + 1)) bytes; reply = r }))) (With (Noted Note w z) (Did (Transmits (from + 1) (to + 1)) true))
    (λ x y f s.
    let is : r ≡ reply.Accepted = accepted old mid new from to bytes (reply.Sent bytes) r x y apart at f.0 s.0 in
    let taken : IsOne (send_of (from + 1) (to + 1) bytes) mid y new = subst (λ (q : Reply). IsOne (record { node = to + 1; event = event.Send (link_of (from + 1) (to + 1)) bytes; reply = q }) mid y new) is s.0 in (
      (
        inr (bytes, record { mid = mid; first = x; rest = y; split = refl; one = f.0; two = taken }),
        (λ e. absurd cc, λ all. absurd (moved_by old mid (from + 1) (to + 1) bytes x y f.0 all)),
      ),
      noted_on Note w v z old mid new x y f.1 s.1,
    )) a b

-- a link that accepts nothing
pub shut_at : (nodes : Nodes) (to : ℕ) (node : NodeView) (link : ℕ) → slice_get nodes to ≡ Some node → accepts_at node link ≡ false → AcceptsNothing (slice_get nodes ((to + 1) - 1)) link
shut_at nodes to node link is a =
    let e : (to + 1) - 1 ≡ to = omega arith in
    subst (λ (k : ℕ). AcceptsNothing (slice_get nodes k) link) (sym e) (subst (λ (o : Option NodeView). AcceptsNothing o link) (sym is) a)

pub carries_nothing : {W : Type 0} (Note : Noting W) (w : W) (nodes : Nodes) (driven : List Bool) (from to : ℕ) → IsShut driven from to nodes → Acts (Noted Note w w) nodes nodes (Carries driven from to) false
carries_nothing Note w nodes driven from to shut = acts_nothing Note w nodes (Carries driven from to) (inl (shut, (refl, refl)))

pub carries : {W : Type 0} (Note : Noting W) (w z : W) (old new : Nodes) (driven : List Bool) (from to : ℕ) (moved : Bool) → from ≢ to → is_driven driven from to ≡ false → Acts (Noted Note w z) old new (Transmits from to) moved → Acts (Noted Note w z) old new (Carries driven from to) moved
carries Note w z old new driven from to moved apart free t = acts_as (Noted Note w z) old new (Transmits from to) (Carries driven from to) moved (λ heard p. inr (apart, free, p)) t
