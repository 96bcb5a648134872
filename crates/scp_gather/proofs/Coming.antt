-- Whose a thing is that came.
use Rattle.std.proofs.Common.{◌≡◌, ◌≢◌, ℕ, zero, suc, ◌==◌, ◌||◌, Bool, true, false, List, [], ◌∷◌, refl, sym, ◌∙◌, ap, subst}
use Rattle.std.specs.Prelude.{Some, slice_get}
use Rattle.std.specs.Cmp.Lexicographic.{same_text}
use Rattle.std.specs.List.{AllByRecursion}
use Rattle.std.proofs.lemmas.Bool.{eqb-true, eqb-false}
use Rattle.std.proofs.lemmas.Cmp.{nat_list_eq_equiv}
use Rattle.scp_workers.specs.scp_types.specs.declared.names.ConnId.{ConnId}
use Rattle.scp_workers.specs.scp_types.specs.declared.names.NodeId.{NodeId}
use Rattle.scp_workers.specs.scp_wire.specs.declared.link.Inbound.{Inbound}
use Rattle.scp_workers.specs.scp_wire.specs.declared.link.Inbound.TheVariants as inbound
use Rattle.scp_workers.specs.scp_wire.specs.Connections.{conn_at, same_node}
use Rattle.scp_workers.specs.scp_wire.specs.Shape.{Come, comes, MayCome, AreInOrder, is_from}
use Rattle.scp_workers.specs.scp_theorem.specs.Fates.{is_among, IsOfLink}
use Rattle.scp_workers.specs.scp_ends.specs.Commands.{IsCommand}
use Rattle.scp_gather.specs.Gathered.{is_command}

-- ---- of a link, or a command

pub no_command : (peer me : NodeId) (h : Come) (x : Inbound) → MayCome peer me h x → is_command x ≡ false
no_command peer me h (inbound.Opened conn) m = refl
no_command peer me h (inbound.Carried x) m = refl
no_command peer me h (inbound.Side conn message) m = refl
no_command peer me h (inbound.Closed conn cause) m = refl
no_command peer me h (inbound.Local command) m = absurd m

pub from_none : (q : NodeId) (x : Inbound) → IsCommand x → is_from q x ≡ false
from_none q x c = ap (is_from q) c.1

pub told_one : (x : Inbound) → IsCommand x → is_command x ≡ true
told_one x c = ap is_command c.1

pub all_in_order : (peer me : NodeId) (P : Inbound → Type 0) → ((h : Come) (x : Inbound) → MayCome peer me h x → P x) → (h : Come) (xs : List Inbound) → AreInOrder peer me h xs → AllByRecursion P xs
all_in_order peer me P f h [] a = tt
all_in_order peer me P f h (x ∷ xs) a = (f h x a.0, all_in_order peer me P f (comes h x) xs a.1)

-- ---- peers, by their places

same_node-is : (p q : NodeId) → same_node p q ≡ true → p ≡ q
same_node-is p q e = ap (λ (bytes : List ℕ). record { 0 = bytes }) (same_text p.0 q.0 (sym e))

not_same : (p q : NodeId) → p ≢ q → same_node p q ≡ false
not_same p q ne = by_test (same_node p q) refl
  where
    by_test : (b : Bool) → same_node p q ≡ b → b ≡ false
    by_test true e = absurd (ne (same_node-is p q e))
    by_test false e = refl

-- two places of a list whose nodes are apart
pub same_place : (p q : NodeId) (n l : ℕ) → (n ≡ l → p ≡ q) → (p ≡ q → n ≡ l) → same_node p q ≡ (n == l)
same_place p q n l there back = by_test (n == l) refl
  where
    by_test : (b : Bool) → (n == l) ≡ b → same_node p q ≡ b
    by_test true e = ap (λ (r : NodeId). same_node r q) (there (eqb-true n l e)) ∙ nat_list_eq_equiv.refl q.0
    by_test false e = not_same p q (λ s. eqb-false n l e (back s))

or_left : (a b : Bool) → a ≡ true → (a || b) ≡ true
or_left true b e = refl
or_left false b e = absurd cc

or_right : (a b : Bool) → b ≡ true → (a || b) ≡ true
or_right true b e = refl
or_right false b e = e

some_is : {X : Type 0} (x y : X) → Some x ≡ Some y → x ≡ y
some_is x y e = cc

among_at : (peers : List NodeId) (l : ℕ) (peer : NodeId) → slice_get peers l ≡ Some peer → is_among peer peers ≡ true
among_at [] l peer e = absurd cc
among_at (p ∷ ps) zero peer e = or_left (same_node p peer) (is_among peer ps) (ap (λ (q : NodeId). same_node q peer) (some_is p peer e) ∙ nat_list_eq_equiv.refl peer.0)
among_at (p ∷ ps) (suc l) peer e = or_right (same_node p peer) (is_among peer ps) (among_at ps l peer e)

-- ---- whose a connection is

-- a carried message is of a connection of a link
abbrev pub IsCarriedByLink : NodeId → List NodeId → Inbound → Type 0
IsCarriedByLink me peers (inbound.Opened conn) = Unit {0}
IsCarriedByLink me peers (inbound.Carried x) = IsOfLink me peers x.conn
IsCarriedByLink me peers (inbound.Side conn message) = Unit {0}
IsCarriedByLink me peers (inbound.Closed conn cause) = Unit {0}
IsCarriedByLink me peers (inbound.Local command) = Unit {0}

of_link_at : (me peer : NodeId) (peers : List NodeId) (life : ℕ) (conn : ConnId) → is_among peer peers ≡ true → conn ≡ conn_at peer me life → IsOfLink me peers conn
of_link_at me peer peers life conn among e = record { from = ap (λ (c : ConnId). is_among c.from peers) e ∙ among; to = ap (λ (c : ConnId). c.to) e }

pub carried_by_link : (me peer : NodeId) (peers : List NodeId) (l : ℕ) → slice_get peers l ≡ Some peer → (h : Come) (x : Inbound) → MayCome peer me h x → IsCarriedByLink me peers x
carried_by_link me peer peers l at h (inbound.Opened conn) m = tt
carried_by_link me peer peers l at h (inbound.Carried x) m = of_link_at me peer peers h.life x.conn (among_at peers l peer at) m.1
carried_by_link me peer peers l at h (inbound.Side conn message) m = tt
carried_by_link me peer peers l at h (inbound.Closed conn cause) m = tt
carried_by_link me peer peers l at h (inbound.Local command) m = tt

pub told_by_link : (me : NodeId) (peers : List NodeId) (x : Inbound) → IsCommand x → IsCarriedByLink me peers x
told_by_link me peers x c = subst (IsCarriedByLink me peers) (sym c.1) tt
