-- The own statements of a board follow each other as they are put on it.
use Rattle.std.proofs.Common.{◌≡◌, Bool, true, false, cond, List, [], ◌∷◌, ◌++◌, Option, Some, refl, sym, ◌∙◌, ap, subst}
use Rattle.std.specs.Option.{option_map}
use Rattle.std.specs.Ordering.{is_eq}
use Rattle.std.specs.declared.cmp.Ordering.{Ordering}
use Rattle.std.specs.declared.cmp.Ordering.TheVariants.{Less, Equal, Greater}
use Rattle.std.specs.BTreeMap.{is_at}
use Rattle.std.proofs.lemmas.Cmp.{nat_list_cmp_total, tied_itself}
use Rattle.std.proofs.lemmas.Map.Lookups.{exact_bytes}
use Rattle.scp_quorum.specs.scp_types.specs.declared.names.NodeId.{NodeId}
use Rattle.scp_quorum.specs.NodeSet.{node_cmp}
use Rattle.scp_envelope.specs.declared.statement.Pledges.{Pledges}
use Rattle.scp_vote.specs.Board.{Seen, Puts, KeepsOwn}
use Rattle.scp_vote.specs.Licence.{with_own, Follows, MayFollow, Leads, Licensed}
use Rattle.scp_vote.specs.inside.Chain.{IsChain}
use Rattle.scp_vote.proofs.Same.{same_sym, follows_same}

is_eq-true : (o : Ordering) → is_eq o ≡ true → o ≡ Equal
is_eq-true Less e = cc
is_eq-true Equal e = refl
is_eq-true Greater e = cc

pub same_at : (v w : NodeId) → is_at (node_cmp v) w ≡ true → v ≡ w
same_at v w e = ap (λ bytes. let n : NodeId = record { 0 = bytes } in n) (exact_bytes v.0 w.0 (is_eq-true (node_cmp v w) e))

pub at_itself : (v : NodeId) → is_at (node_cmp v) v ≡ true
at_itself v = ap is_eq (tied_itself nat_list_cmp_total v.0)

leads_more : (others : Seen) (p : Option Pledges) (qs : List Pledges) (last : Option Pledges) (q : Pledges) → Leads others p qs last → MayFollow others last q → Leads others p (qs ++ q ∷ []) (Some q)
leads_more others p [] last q e follows = (let P : Option Pledges → Type 0 = λ o. MayFollow others o q in subst P (sym e) follows, refl)
leads_more others p (r ∷ rs) last q h follows = (h.0, leads_more others (Some r) rs last q h.1 follows)

itself : {A : Type 0} (t : Bool) (x y : A) → (t ≡ true → y ≡ x) → y ≡ cond t x y
itself true x y h = h refl
itself false x y h = refl

twice : {A : Type 0} (t : Bool) (x y z : A) → cond t x (cond t y z) ≡ cond t x z
twice true x y z = refl
twice false x y z = refl

pub chain_start : (b : Seen) → KeepsOwn b → IsChain b (b.statement b.me) b
chain_start b keeps = record {
  board = record {
    me = refl;
    local = refl;
    statement = λ v. itself (is_at (node_cmp b.me) v) (b.statement b.me) (b.statement v) (λ e. ap b.statement (sym (same_at b.me v e)));
    counted = λ v. itself (is_at (node_cmp b.me) v) (option_map (λ _. b.local) (b.statement b.me)) (b.counted v) (λ e. ap b.counted (sym (same_at b.me v e)) ∙ keeps);
  };
  keeps = keeps;
  licensed = ([], refl);
}

module _ (others : Seen) (first : Option Pledges) (now new : Seen) (q : Pledges) (s : IsChain others first now) (puts : Puts now new now.me q now.local) where
  pub own_new : new.statement new.me ≡ Some q
  own_new = ap new.statement puts.me ∙ puts.statements now.me ∙ ap (λ t. cond t (Some q) (now.statement now.me)) (at_itself now.me)

  set_new : new.counted new.me ≡ Some now.local
  set_new = ap new.counted puts.me ∙ puts.sets now.me ∙ ap (λ t. cond t (Some now.local) (now.counted now.me)) (at_itself now.me)

  pub chain_more : Follows now (now.statement now.me) q → IsChain others first new
  chain_more follows = record {
    board = record {
      me = puts.me ∙ s.board.me;
      local = puts.local ∙ s.board.local;
      statement = λ v.
          puts.statements v
          ∙ ap (λ w. cond (is_at (node_cmp w) v) (Some q) (now.statement v)) s.board.me
          ∙ ap (λ o. cond (is_at (node_cmp others.me) v) (Some q) o) (s.board.statement v)
          ∙ twice (is_at (node_cmp others.me) v) (Some q) (now.statement now.me) (others.statement v)
          ∙ ap (λ o. cond (is_at (node_cmp others.me) v) o (others.statement v)) (sym own_new);
      counted = λ v.
          puts.sets v
          ∙ ap (λ w. cond (is_at (node_cmp w) v) (Some now.local) (now.counted v)) s.board.me
          ∙ ap (λ o. cond (is_at (node_cmp others.me) v) (Some now.local) o) (s.board.counted v)
          ∙ twice (is_at (node_cmp others.me) v) (Some now.local) (option_map (λ _. others.local) (now.statement now.me)) (others.counted v)
          ∙ ap (λ o. cond (is_at (node_cmp others.me) v) o (others.counted v)) (ap Some s.board.local ∙ sym (ap (option_map (λ _. others.local)) own_new));
    };
    keeps = set_new ∙ ap Some (sym puts.local) ∙ sym (ap (option_map (λ _. new.local)) own_new);
    licensed =
        let link : MayFollow others (now.statement now.me) q = follows_same now (with_own others (now.statement now.me)) (same_sym (with_own others (now.statement now.me)) now s.board) (now.statement now.me) q follows in
        let P : Option Pledges → Type 0 = λ o. Licensed others first o in
        subst P (sym own_new) (s.licensed.0 ++ q ∷ [], leads_more others first s.licensed.0 (now.statement now.me) q s.licensed.1 link);
  }
