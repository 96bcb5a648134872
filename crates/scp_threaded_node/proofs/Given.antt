-- What a node was given stays, whatever is done on its links.
use Rattle.std.proofs.Common.{◌≡◌, ◌∙◌, ℕ, zero, suc, Bool, refl, sym, ap, subst, List, [], ◌∷◌, Option, Some}
use Rattle.std.specs.Prelude.{map, slice_get, slice_set}
use Rattle.std.proofs.lemmas.Option.{same_Some}
use Rattle.scp_gather.specs.scp_shared_outbox.specs.Ends.{TakerView}
use Rattle.scp_threaded_node.specs.declared.acting.Act.{Act}
use Rattle.scp_threaded_node.specs.declared.node.Node.{Node}
use Rattle.scp_threaded_node.specs.declared.node.Running.{Running}
use Rattle.scp_threaded_node.specs.declared.node.Tail.{Tail}
use Rattle.scp_threaded_node.specs.declared.node.Tail.TheVariants.{Host, Courier}
use Rattle.scp_threaded_node.specs.Acting.{acted, ActsAt, IsUnchanged}
use Rattle.scp_threaded_node.specs.Outlets.{GivenEnds, given_to, taker_of, taker_in, keeps_in}

-- of a list one element changes, and nothing that is seen of it
pub map_set : {X Y : Type 0} (f : X → Y) (xs : List X) (i : ℕ) (x y : X) → slice_get xs i ≡ Some x → f y ≡ f x → map f (slice_set xs i y) ≡ map f xs
map_set f [] i x y at e = refl
map_set f (z ∷ xs) zero x y at e = ap (λ w. w ∷ map f xs) (e ∙ ap f (sym (same_Some z x at)))
map_set f (z ∷ xs) (suc i) x y at e = ap (λ ws. f z ∷ ws) (map_set f xs i x y at e)

acted_taker : (act : Act) (tail : Tail) → taker_of (acted act tail) ≡ taker_of tail
acted_taker act (Host k) = refl
acted_taker act (Courier thread) = refl

-- what a node was given, but for its links
abbrev with_links : {A S : Type 0} → Node A S → List (Option TakerView) → List Bool → GivenEnds
with_links x takers keeps = record { replies = x.pend.promise.0.value.outlets; said = x.slot.promise.0.value.outlets; answers = x.apply.promise.0.value.outlets; takers = takers; keeps = keeps }

-- the same threads, with these links
pub lanes_given : {A S : Type 0} (x : Node A S) (lanes : List Running) → map taker_in lanes ≡ map taker_in x.lanes.items → map keeps_in lanes ≡ map keeps_in x.lanes.items
    → (let g : GivenEnds = record { replies = x.pend.promise.0.value.outlets; said = x.slot.promise.0.value.outlets; answers = x.apply.promise.0.value.outlets; takers = map taker_in lanes; keeps = map keeps_in lanes } in g) ≡ given_to x
lanes_given x lanes same kept =
    ap (λ (takers : List (Option TakerView)). with_links x takers (map keeps_in lanes)) same
    ∙ ap (λ (keeps : List Bool). with_links x (map taker_in x.lanes.items) keeps) kept

-- what is done on a link leaves it its courier
pub acted_in : (act : Act) (lane after : Running) → after ≡ record lane { tail = acted act lane.tail } → taker_in after ≡ taker_in lane
acted_in act lane after done = ap taker_in done ∙ acted_taker act lane.tail

-- and its reader
pub acted_keeps : (act : Act) (lane after : Running) → after ≡ record lane { tail = acted act lane.tail } → keeps_in after ≡ keeps_in lane
acted_keeps act lane after done = ap keeps_in done

-- the same threads, and of each link the same courier, and the same reader
same_given : {A S : Type 0} (x y : Node A S) → y ≡ record x { lanes = y.lanes } → map taker_in y.lanes.items ≡ map taker_in x.lanes.items → map keeps_in y.lanes.items ≡ map keeps_in x.lanes.items → given_to y ≡ given_to x
same_given x y same lanes kept =
    ap given_to same
    ∙ ap (λ (takers : List (Option TakerView)). with_links x takers (map keeps_in y.lanes.items)) lanes
    ∙ ap (λ (keeps : List Bool). with_links x (map taker_in x.lanes.items) keeps) kept

pub acts_given : {A S : Type 0} (act : Act) (place : ℕ) (x y : Node A S) → ActsAt act place x y → given_to y ≡ given_to x
acts_given act place x y acts = same_given x y acts.same
    (ap (λ (lanes : List Running). map taker_in lanes) acts.is
    ∙ map_set taker_in x.lanes.items place acts.lane (record acts.lane { tail = acted act acts.lane.tail }) acts.was (acted_taker act acts.lane.tail))
    (ap (λ (lanes : List Running). map keeps_in lanes) acts.is
    ∙ map_set keeps_in x.lanes.items place acts.lane (record acts.lane { tail = acted act acts.lane.tail }) acts.was refl)

pub unchanged_given : {A S : Type 0} (x y : Node A S) → IsUnchanged x y → given_to y ≡ given_to x
unchanged_given x y u = same_given x y u.same (ap (λ (lanes : List Running). map taker_in lanes) u.lanes) (ap (λ (lanes : List Running). map keeps_in lanes) u.lanes)
