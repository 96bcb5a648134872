-- What a watch noted of the commands that one of several nodes took.
use Rattle.std.proofs.Common.{◌≡◌, ◌+◌, ℕ, zero, suc, Bool, true, false, List, [], ◌∷◌, ◌++◌, Some, map, nat_eq, refl, sym, ◌∙◌, ap, subst, arith, append_assoc, append-nil}
use Rattle.std.specs.Prelude.{slice_get, slice_set, if◌then◌else◌}
use Rattle.std.proofs.lemmas.Bool.{eqb-true, eqb-false}
use Rattle.std.proofs.lemmas.List.{map-append}
use Rattle.std.proofs.lemmas.Option.{same_Some}
use Rattle.scp_turn.specs.scp_core.specs.declared.event.Event.{Event}
use Rattle.scp_turn.specs.scp_core.specs.declared.event.Reply.{Reply}
use Rattle.scp_turn.specs.Commands.{TakenCommand, taken_by}
use Rattle.scp_turn.specs.scp_core.specs.History.{Exchange}
use Rattle.scp_turn.specs.scp_core.specs.Kv.{NodeView, Step}
use Rattle.scp_turn.specs.Kv.{Noting, Does, taken_over}
use Rattle.scp_turn.specs.Heard.{Nodes, Heard, IsHeard, past_at, Noted}
use Rattle.scp_turn.proofs.Acting.{others_stay}

-- One node did these steps, and what was noted of the commands that it took, one after another, is behind what was noted before.
pub record Went {X : Type 0} (f : TakenCommand → X) (place : ℕ) (new : Nodes) (old : NodeView) (heard : List Exchange) (before noted : List X) : Type 0 where
  pub node : NodeView
  pub there : slice_get new place ≡ Some node
  pub does : Does old heard node
  pub adds : noted ≡ before ++ map f (taken_over old heard node does)

-- what one step of the node of a number adds to what is noted of the node at a place
abbrev pub step_adds : {X : Type 0} → (TakenCommand → X) → ℕ → ℕ → Event → Reply → NodeView → NodeView → List X
step_adds f place number event reply before after' = if nat_eq number (place + 1) then map f (taken_by event reply before after') else []

-- a watch notes so of each step
abbrev pub NotesTaken : {W X : Type 0} → Noting W → (W → List X) → (TakenCommand → X) → ℕ → Type 0
NotesTaken {W} Note notes f place = (w v : W) (number : ℕ) (event : Event) (reply : Reply) (before after' : NodeView) → Step before event reply after' → Note w number event reply before after' v → notes v ≡ notes w ++ step_adds f place number event reply before after'

set_there : (xs : Nodes) (k : ℕ) (x y : NodeView) → slice_get xs k ≡ Some x → slice_get (slice_set xs k y) k ≡ Some y
set_there [] k x y e = absurd cc
set_there (z ∷ xs) zero x y e = refl
set_there (z ∷ xs) (suc k) x y e = set_there xs k x y e

-- nothing more
went_nowhere : {X : Type 0} (f : TakenCommand → X) (place : ℕ) (new : Nodes) (node : NodeView) (before noted : List X) → slice_get new place ≡ Some node → noted ≡ before → Went f place new node [] before noted
went_nowhere f place new node before noted there same = record { node = node; there = there; does = refl; adds = same ∙ sym (append-nil before) }

-- a step of the node, and then the others
went_on : {X : Type 0} (f : TakenCommand → X) (place : ℕ) (new : Nodes) (old mid : NodeView) (event : Event) (reply : Reply) (heard : List Exchange) (before between noted : List X) → Step old event reply mid → between ≡ before ++ map f (taken_by event reply old mid) → Went f place new mid heard between noted → Went f place new old ((event, reply) ∷ heard) before noted
went_on f place new old mid event reply heard before between noted step here rest =
    let now = taken_by event reply old mid in
    let later = taken_over mid heard rest.node rest.does in
    record {
      node = rest.node;
      there = rest.there;
      does = (mid, step, rest.does);
      adds =
          rest.adds
          ∙ ap (λ l. l ++ map f later) here
          ∙ append_assoc before (map f now) (map f later)
          ∙ ap (λ l. before ++ l) (sym (map-append f now later));
    }

-- a step of another node
went_by : {X : Type 0} (f : TakenCommand → X) (place : ℕ) (new : Nodes) (old : NodeView) (heard : List Exchange) (before between noted : List X) → between ≡ before ++ [] → Went f place new old heard between noted → Went f place new old heard before noted
went_by f place new old heard before between noted here rest = record {
  node = rest.node;
  there = rest.there;
  does = rest.does;
  adds = rest.adds ∙ ap (λ l. l ++ map f (taken_over old heard rest.node rest.does)) (here ∙ append-nil before);
}

module _ {W X : Type 0} (Note : Noting W) (notes : W → List X) (f : TakenCommand → X) (place : ℕ) (one : NotesTaken Note notes f place) where
  -- one step of any node
  went_more : (w v z : W) (old mid new : Nodes) (h : Heard) (heard : List Heard) (node : NodeView) → slice_get old place ≡ Some node → (s : IsHeard old h mid) → Note w h.node h.event h.reply s.before s.after' v
      → ((next : NodeView) → slice_get mid place ≡ Some next → Went f place new next (past_at (place + 1) heard) (notes v) (notes z)) → Went f place new node (past_at (place + 1) (h ∷ heard)) (notes w) (notes z)
  went_more w v z old mid new h heard node there s noted rest = by_test (nat_eq h.node (place + 1)) refl
    where
      adds : (b : Bool) → nat_eq h.node (place + 1) ≡ b → notes v ≡ notes w ++ (if b then map f (taken_by h.event h.reply s.before s.after') else [])
      adds b is = one w v h.node h.event h.reply s.before s.after' s.step noted ∙ ap (λ (t : Bool). notes w ++ (if t then map f (taken_by h.event h.reply s.before s.after') else [])) is

      by_test : (b : Bool) → nat_eq h.node (place + 1) ≡ b → Went f place new node ((if b then (h.event, h.reply) ∷ [] else []) ++ past_at (place + 1) heard) (notes w) (notes z)
      by_test true is =
          let same : s.place ≡ place = omega (arith, s.number, eqb-true h.node (place + 1) is) in
          let was : slice_get old place ≡ Some s.before = subst (λ (k : ℕ). slice_get old k ≡ Some s.before) same s.was in
          let begins : s.before ≡ node = same_Some s.before node (sym was ∙ there) in
          let set : slice_get (slice_set old s.place s.after') place ≡ Some s.after' = subst (λ (k : ℕ). slice_get (slice_set old s.place s.after') k ≡ Some s.after') same (set_there old s.place s.before s.after' s.was) in
          let at : slice_get mid place ≡ Some s.after' = subst (λ (n : Nodes). slice_get n place ≡ Some s.after') (sym s.is) set in
          subst (λ (u : NodeView). Went f place new u ((h.event, h.reply) ∷ past_at (place + 1) heard) (notes w) (notes z)) begins
          (went_on f place new s.before s.after' h.event h.reply (past_at (place + 1) heard) (notes w) (notes v) (notes z) s.step (adds true is) (rest s.after' at))
      by_test false is =
          let at : slice_get mid place ≡ Some node = others_stay old mid h place s (eqb-false h.node (place + 1) is) ∙ there in
          went_by f place new node (past_at (place + 1) heard) (notes w) (notes v) (notes z) (adds false is) (rest node at)

  -- the node at the place, over all steps that were noted
  pub went : (w z : W) (old new : Nodes) (heard : List Heard) (node : NodeView) → slice_get old place ≡ Some node → Noted Note w z old heard new → Went f place new node (past_at (place + 1) heard) (notes w) (notes z)
  went w z old new [] node there noted = went_nowhere f place new node (notes w) (notes z) (subst (λ (n : Nodes). slice_get n place ≡ Some node) (sym noted.0) there) (ap notes noted.1)
  went w z old new (h ∷ heard) node there noted = went_more w noted.1 z old noted.0 new h heard node there noted.2 noted.3 (λ next at. went noted.1 z noted.0 new heard next at noted.4)
