use Rattle.std.proofs.Common.{◌≡◌, ◌∷◌, [], List, Bool, true, false, sym, ◌∙◌, ap, subst}
use Rattle.std.specs.Prelude.{nat_eq}
use Rattle.std.specs.Cmp.Lexicographic.{pointwise}
use Rattle.std.specs.List.{All, Any, list_any}
use Rattle.std.proofs.lemmas.Bool.{OnTrue_at, OnFalse_at}
use Rattle.scp_quorum_search.specs.scp_types.specs.declared.names.NodeId.{NodeId}
use Rattle.scp_quorum_files.specs.declared.network.Named.{Named}
use Rattle.scp_quorum_files.specs.inside.Agreeing.{Agrees, AddAll}
use Rattle.scp_quorum_files.proofs.Agreed.{disagrees, known_already, added_last, id_there, id_absent}
use Rattle.scp_quorum_files.proofs.configs.add_name.Goals as goal

pub returns-then-not-all_agree : goal.returns-then-not-all_agree
returns-then-not-all_agree c =
    let A : List Named → Type 0 = λ ns. Any (λ n. Agrees n c.args.identity.now → ⊥) ns in
    disagrees c.args.nodes.now.items c.args.identity.now (subst A c.deref.ensures.value (OnFalse_at c.if-not-all_agree.true c.all_agree.ensures.not_all))

pub returns-then-has_id : goal.returns-then-has_id
returns-then-has_id c =
    let old = c.args.nodes.now.items in
    let i = c.args.identity.now in
    let A : List Named → Type 0 = λ ns. All (λ n. Agrees n c.args.identity.now) ns in
    let L : List Named → NodeId → Bool = λ ns v. list_any (λ n. pointwise nat_eq n.id.0 v.0) ns in
    let there : L old i.id ≡ true = ap (λ ns. L ns i.id) (sym c.deref-2.ensures.value) ∙ ap (λ v. L c.deref-2.result.now v) (sym c.id-id.ensures) ∙ sym c.has_id.ensures ∙ c.if-has_id.true in
    known_already old i (subst A c.deref.ensures.value (OnTrue_at c.if-not-all_agree.false c.all_agree.ensures.all)) (id_there old i.id there)

pub returns : goal.returns
returns c =
    let old = c.args.nodes.now.items in
    let i = c.args.identity.now in
    let A : List Named → Type 0 = λ ns. All (λ n. Agrees n c.args.identity.now) ns in
    let L : List Named → NodeId → Bool = λ ns v. list_any (λ n. pointwise nat_eq n.id.0 v.0) ns in
    let absent : L old i.id ≡ false = ap (λ ns. L ns i.id) (sym c.deref-2.ensures.value) ∙ ap (λ v. L c.deref-2.result.now v) (sym c.id-id.ensures) ∙ sym c.has_id.ensures ∙ c.if-has_id.false in
    let node : Named = record { name = c.in_ok-name.name; id = c.id-id.result } in
    let P : List Named → Type 0 = λ l. AddAll c.args.nodes.now.items (c.args.identity.now ∷ []) l in
    subst P (sym c.in_ok-push.ensures.items)
    (added_last old i node (c.in_ok-name.ensures.ok ∙ c.name.ensures, c.id-id.ensures) (subst A c.deref.ensures.value (OnTrue_at c.if-not-all_agree.false c.all_agree.ensures.all)) (id_absent old i.id absent))
