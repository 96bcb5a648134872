use Rattle.std.proofs.Common.{◌≡◌, ◌<◌, ◌∷◌, [], ◌++◌, List, Some, length, set, Vec, arith, refl, sym, ◌∙◌, ap, subst}
use Rattle.std.specs.Global.{Global}
use Rattle.std.proofs.lemmas.List.{set-get_or}
use Rattle.std.proofs.lemmas.Bool.{OnTrue_at}
use Rattle.std.specs.List.{All}
use Rattle.scp_xdr.specs.scp_types.specs.declared.names.NodeId.{NodeId}
use Rattle.scp_quorum.specs.declared.quorum.groups.Group.{Group}
use Rattle.scp_quorum.specs.QuorumTree.{QuorumTree}
use Rattle.scp_quorum.specs.inside.Groups.{HasOneSet, IsGrouped}
use Rattle.scp_quorum.proofs.Joining.{joins_one_set, joins, joins_others, begins_one_set, begins, begins_others}
use Rattle.scp_quorum.proofs.quorum.groups.join_group.Goals as goal
use Rattle.scp_quorum.proofs.quorum.groups.join_group.Goals.{in_default-via-in-None-1, in_default-via-in-Some+else-is_same_set}

pub returns-clause-one_set : goal.returns-clause-one_set
returns-clause-one_set c =
    let g = c.in-Some.group.now in
    let grown : Group = record { set = g.set; members = c.push.new.self } in
    let here : c.or_insert-place.result.now < length c.args.groups.now.items = omega (arith, c.in-Some.ensures.variant.0 refl) in
    let same : g.set.now ≡ c.args.set.now = OnTrue_at c.if-is_same_set.true c.is_same_set.ensures in
    λ sets its one. joins_one_set c.args.groups.now.items c.or_insert-place.result.now g grown c.args.node here c.in-Some.ensures.value refl c.in_ok-push.ensures.items sets (its ∙ ap (λ (q : QuorumTree). Some q) (sym same)) one

pub returns-clause-joined : goal.returns-clause-joined
returns-clause-joined c =
    let g = c.in-Some.group.now in
    let grown : Group = record { set = g.set; members = c.push.new.self } in
    let here : c.or_insert-place.result.now < length c.args.groups.now.items = omega (arith, c.in-Some.ensures.variant.0 refl) in
    joins c.args.groups.now.items c.or_insert-place.result.now g grown c.args.node here c.in-Some.ensures.value refl c.in_ok-push.ensures.items

pub returns-clause-others : goal.returns-clause-others
returns-clause-others c =
    let g = c.in-Some.group.now in
    let grown : Group = record { set = g.set; members = c.push.new.self } in
    let here : c.or_insert-place.result.now < length c.args.groups.now.items = omega (arith, c.in-Some.ensures.variant.0 refl) in
    joins_others c.args.groups.now.items c.or_insert-place.result.now g grown c.args.node here c.in-Some.ensures.value refl c.in_ok-push.ensures.items

-- a group that was looked at and left is as it was
as_before : (c : goal.In_ok-push-3) → c.in_default.groups.items ≡ c.args.groups.now.items
as_before c =
    let groups = c.args.groups.now.items in
    elim c.in_default.branch [
      | in_default-via-in-None-1 w ↦ ap (λ (v : Vec Group Global). v.items) w.groups-is
      | in_default-via-in-Some+else-is_same_set w ↦
          ap (λ (v : Vec Group Global). v.items) w.groups-is ∙ ap (λ (g : Group). set groups c.or_insert-place.result.now g) w.in-Some.ensures.value ∙ set-get_or groups c.or_insert-place.result.now w.in-Some.group.now
    ]

alone : (c : goal.In_ok-push-3) → c.push-2.new.self.items ≡ c.args.node ∷ []
alone c = c.in_ok-push-2.ensures.items ∙ ap (λ (vs : List NodeId). vs ++ c.args.node ∷ []) c.in_ok-members.ensures.items

grown : (c : goal.In_ok-push-3) → c.push-3.new.self.items ≡ c.args.groups.now.items ++ record { set = c.args.set; members = c.push-2.new.self } ∷ []
grown c = c.in_ok-push-3.ensures.items ∙ ap (λ (gs : List Group). gs ++ record { set = c.args.set; members = c.push-2.new.self } ∷ []) (as_before c)

pub returns-2-clause-one_set : goal.returns-2-clause-one_set
returns-2-clause-one_set c sets its one =
    let new : Group = record { set = c.args.set; members = c.push-2.new.self } in
    let P : List Group → Type 0 = λ gs. All (HasOneSet sets) gs in
    subst P (sym (grown c)) (begins_one_set c.args.groups.now.items new c.args.node (alone c) sets its one)

pub returns-2-clause-joined : goal.returns-2-clause-joined
returns-2-clause-joined c =
    let new : Group = record { set = c.args.set; members = c.push-2.new.self } in
    let P : List Group → Type 0 = λ gs. IsGrouped gs c.args.node in
    subst P (sym (grown c)) (begins c.args.groups.now.items new c.args.node (alone c))

pub returns-2-clause-others : goal.returns-2-clause-others
returns-2-clause-others c v found =
    let new : Group = record { set = c.args.set; members = c.push-2.new.self } in
    let P : List Group → Type 0 = λ gs. IsGrouped gs v in
    subst P (sym (grown c)) (begins_others c.args.groups.now.items new c.args.node (alone c) v found)
