-- The test of which statement is newer tells it.
use Rattle.std.proofs.Common.{◌≡◌, ◌⊎◌, ◌∙◌, ℕ, Bool, true, false, not, ◌&&◌, ◌||◌, List, [], ◌∷◌, All, Contains, IsTrue, ◌↔◌, refl, sym, ap, inl, inr, Decides, nat_eq}
use Rattle.std.specs.List.{list_any, list_all}
use Rattle.std.specs.Ordering.{is_lt}
use Rattle.std.specs.declared.cmp.Ordering.{Ordering}
use Rattle.std.specs.declared.cmp.Ordering.TheVariants.{Less, Equal, Greater}
use Rattle.std.specs.Cmp.Lexicographic.{pointwise, bytes_decides}
use Rattle.std.proofs.lemmas.Bool.Decides.{Decides-and, Decides-or, Decides-not, Decides-like, Decides-eqb, Decides-by_and, Decides-by_or, same_from_decides}
use Rattle.std.proofs.lemmas.List.Elements.{Decides-contains}
use Rattle.scp_turn.specs.scp_types.specs.declared.names.NodeId.{NodeId}
use Rattle.scp_turn.specs.scp_types.specs.declared.names.Slot.{Slot}
use Rattle.scp_turn.specs.scp_types.specs.Same.{same_node}
use Rattle.scp_turn.specs.scp_envelope.specs.declared.statement.Nominate.{Nominate}
use Rattle.scp_turn.specs.scp_envelope.specs.declared.statement.Pledges.{Pledges}
use Rattle.scp_turn.specs.scp_envelope.specs.declared.statement.Pledges.TheVariants.{Prepare as Preparing, Confirm as Confirming, Externalize as Externalizing, Nominate as Nominating}
use Rattle.scp_turn.specs.scp_envelope.specs.declared.statement.Statement.{Statement}
use Rattle.scp_turn.specs.scp_envelope.specs.Newer.{prepare_cmp, confirm_cmp, ContainsAll, IsNewerNominate, ArePledgesNewer, IsNewer}
use Rattle.scp_facts.specs.Standing.{has_value, has_all, is_newer_nominate, are_pledges_newer, is_newer, NewerIsTold}

-- ---- values

value_tells : (values : List (List ℕ)) (value : List ℕ) → Decides (has_value values value) (Contains values value)
value_tells values value = Decides-contains values value (has_value values value) (Decides-by_or (λ v. pointwise nat_eq v value) (λ v. v ≡ value) (λ vs. list_any (λ v. pointwise nat_eq v value) vs) (λ v. bytes_decides v value) refl (λ _ _. refl) values)

all_tell : (new old : List (List ℕ)) → Decides (has_all new old) (ContainsAll new old)
unfolding ContainsAll
all_tell new old = Decides-by_and (has_value new) (Contains new) (λ vs. list_all (has_value new) vs) (value_tells new) refl (λ _ _. refl) old

-- ---- pledges

less_tells : (o : Ordering) → Decides (is_lt o) (o ≡ Less)
less_tells Less = (λ e. refl, λ e. refl)
less_tells Equal = (λ e. absurd cc, λ e. absurd cc)
less_tells Greater = (λ e. absurd cc, λ e. absurd cc)

-- the parts of a newer NOMINATE
abbrev Parts : Nominate → Nominate → Type 0
Parts old new = (ContainsAll new.votes old.votes × ContainsAll new.accepted old.accepted) × ((¬ (ContainsAll old.votes new.votes)) ⊎ (¬ (ContainsAll old.accepted new.accepted)))

parts_tell : (old new : Nominate) → Decides (is_newer_nominate old new) (Parts old new)
parts_tell old new =
    Decides-and (has_all new.votes old.votes && has_all new.accepted old.accepted) (not (has_all old.votes new.votes) || not (has_all old.accepted new.accepted))
    (Decides-and (has_all new.votes old.votes) (has_all new.accepted old.accepted) (all_tell new.votes old.votes) (all_tell new.accepted old.accepted))
    (Decides-or (not (has_all old.votes new.votes)) (not (has_all old.accepted new.accepted)) (Decides-not (has_all old.votes new.votes) (all_tell old.votes new.votes)) (Decides-not (has_all old.accepted new.accepted) (all_tell old.accepted new.accepted)))

nominate_tells : (old new : Nominate) → Decides (is_newer_nominate old new) (IsNewerNominate old new)
nominate_tells old new =
    Decides-like {P = Parts old new} {Q = IsNewerNominate old new} (is_newer_nominate old new) (λ p. record { votes = p.0.0; accepted = p.0.1; larger = p.1 }) (λ n. ((n.votes, n.accepted), n.larger)) (parts_tell old new)

yes : {P : Type 0} → P → Decides true P
yes {P} p = (λ e. p, λ q. refl)

no : {P : Type 0} → (P → ⊥) → Decides false P
no {P} n = (λ e. absurd cc, λ q. absurd (n q))

pledges_tell : (old new : Pledges) → Decides (are_pledges_newer old new) (ArePledgesNewer old new)
pledges_tell (Preparing old) (Preparing new) = less_tells (prepare_cmp old new)
pledges_tell (Preparing old) (Confirming new) = yes tt
pledges_tell (Preparing old) (Externalizing new) = yes tt
pledges_tell (Preparing old) (Nominating new) = no (λ n. n)
pledges_tell (Confirming old) (Preparing new) = no (λ n. n)
pledges_tell (Confirming old) (Confirming new) = less_tells (confirm_cmp old new)
pledges_tell (Confirming old) (Externalizing new) = yes tt
pledges_tell (Confirming old) (Nominating new) = no (λ n. n)
pledges_tell (Externalizing old) (Preparing new) = no (λ n. n)
pledges_tell (Externalizing old) (Confirming new) = no (λ n. n)
pledges_tell (Externalizing old) (Externalizing new) = no (λ n. n)
pledges_tell (Externalizing old) (Nominating new) = no (λ n. n)
pledges_tell (Nominating old) (Preparing new) = no (λ n. n)
pledges_tell (Nominating old) (Confirming new) = no (λ n. n)
pledges_tell (Nominating old) (Externalizing new) = no (λ n. n)
pledges_tell (Nominating old) (Nominating new) = nominate_tells old new

-- ---- statements

node_tells : (a b : NodeId) → Decides (same_node a b) (a ≡ b)
node_tells a b = Decides-like {P = a.0 ≡ b.0} {Q = a ≡ b} (same_node a b) (ap (λ (l : List ℕ). let n : NodeId = record { 0 = l } in n)) (ap (λ (n : NodeId). n.0)) (bytes_decides a.0 b.0)

slot_tells : (a b : Slot) → Decides (nat_eq a.0 b.0) (a ≡ b)
slot_tells a b = Decides-like {P = a.0 ≡ b.0} {Q = a ≡ b} (nat_eq a.0 b.0) (ap (λ (k : ℕ). let s : Slot = record { 0 = k } in s)) (ap (λ (s : Slot). s.0)) (Decides-eqb a.0 b.0)

pub newer_is_told : NewerIsTold
newer_is_told old new =
    Decides-like {P = ((old.node ≡ new.node) × (old.slot ≡ new.slot)) × ArePledgesNewer old.pledges new.pledges} {Q = IsNewer old new} (is_newer old new)
    (λ p. record { same_node = p.0.0; same_slot = p.0.1; newer = p.1 })
    (λ n. ((n.same_node, n.same_slot), n.newer))
    (Decides-and (same_node old.node new.node && nat_eq old.slot.0 new.slot.0) (are_pledges_newer old.pledges new.pledges) (Decides-and (same_node old.node new.node) (nat_eq old.slot.0 new.slot.0) (node_tells old.node new.node) (slot_tells old.slot new.slot)) (pledges_tell old.pledges new.pledges))

-- another test of it has the same answer
pub newer_by : (b : Bool) (old new : Statement) → (IsTrue b ↔ IsNewer old new) → b ≡ is_newer old new
newer_by b old new h = same_from_decides b (is_newer old new) (h.0, h.1) (newer_is_told old new)
