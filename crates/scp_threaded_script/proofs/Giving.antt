-- What nodes were given stays, whatever lines do.
use Rattle.std.proofs.Common.{◌≡◌, ◌∙◌, ℕ, zero, suc, ◌-◌, ◌<◌, ap, sym, refl, subst, List, [], ◌∷◌, length, Result, Ok, Err, Some, arith}
use Rattle.std.specs.Prelude.{OnOk, OnErr, map, slice_get, slice_set}
use Rattle.std.proofs.lemmas.Option.{same_Some}
use Rattle.scp_threaded_node.specs.scp_wire.specs.declared.link.Inbound.{Inbound}
use Rattle.scp_threaded_node.specs.declared.acting.Act.{Act}
use Rattle.scp_threaded_node.specs.Kv.{Node}
use Rattle.scp_threaded_node.specs.Acting.{with_command, ActsAt, IsUnchanged}
use Rattle.scp_threaded_node.specs.Outlets.{GivenEnds, given_to}
use Rattle.scp_threaded_node.proofs.Given.{map_set, acts_given, unchanged_given}
use Rattle.scp_threaded_script.specs.Lines.{link_of}
use Rattle.scp_threaded_script.specs.inside.Outlets.{all_given}
use Rattle.scp_threaded_script.specs.inside.Played.{ActsOn, AreUnchanged, TellsAt}

-- of two lists all that is seen is the same, where at each place it is
same_map : {X Y : Type 0} (f : X → Y) (old new : List X) → length new ≡ length old → ((i : ℕ) (y : X) → slice_get new i ≡ Some y → (x : X) × (slice_get old i ≡ Some x) × (f y ≡ f x)) → map f new ≡ map f old
same_map f [] [] count each = refl
same_map f (x ∷ xs) [] count each = absurd (omega (arith, count))
same_map f [] (y ∷ ys) count each = absurd (omega (arith, count))
same_map f (x ∷ xs) (y ∷ ys) count each =
    let here = each 0 y refl in
    ap (λ z. z ∷ map f ys) (here.2 ∙ ap f (sym (same_Some x here.0 here.1)))
    ∙ ap (λ zs. f x ∷ zs) (same_map f xs ys (omega (arith, count)) (λ i z at. each (suc i) z at))

pub unchanged_all_given : (old new : List Node) → AreUnchanged old new → all_given new ≡ all_given old
unchanged_all_given old new u = same_map given_to old new u.count (λ i y at. (let h = u.each i y at in (h.0, h.1, unchanged_given h.0 y h.2)))

acts_on_given : (old new : List Node) (from to : ℕ) (a : Act) → ActsOn old from to a new → all_given new ≡ all_given old
acts_on_given old new from to a acts =
    ap (λ (nodes : List Node). all_given nodes) acts.is
    ∙ map_set given_to old (to - 1) acts.node acts.after acts.was (acts_given a (link_of from to) acts.node acts.after acts.acts)

tells_given : (old new : List Node) (number : ℕ) (x : Inbound) → TellsAt old number x new → all_given new ≡ all_given old
tells_given old new number x t =
    ap (λ (nodes : List Node). all_given nodes) t.is
    ∙ map_set given_to old (number - 1) t.node (with_command t.node x) t.was refl

module _ {E : Type 0} where
  pub acts_all_given : (old new : List Node) (from to : ℕ) (a : Act) (r : Result (Unit {0}) E) → OnOk r (ActsOn old from to a new) → OnErr r (AreUnchanged old new) → all_given new ≡ all_given old
  acts_all_given old new from to a (Ok x) acts same = acts_on_given old new from to a acts
  acts_all_given old new from to a (Err e) acts same = unchanged_all_given old new same

  pub tells_all_given : (old new : List Node) (number : ℕ) (x : Inbound) (r : Result (Unit {0}) E) → OnOk r (TellsAt old number x new) → OnErr r (new ≡ old) → all_given new ≡ all_given old
  tells_all_given old new number x (Ok y) told same = tells_given old new number x told
  tells_all_given old new number x (Err e) told same = ap (λ (nodes : List Node). all_given nodes) same
