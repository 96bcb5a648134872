use Rattle.std.proofs.Common.{◌≡◌, ◌∷◌, [], List, Bool, take, subst}
use Rattle.scp_live_config.specs.Names.{Identity}
use Rattle.scp_quorum_files.specs.inside.Agreeing.{AddAll, AddsNames}
use Rattle.scp_quorum_files.proofs.Agreed.{adds_more, cannot_add, taken_more, any_taken}
use Rattle.scp_quorum_files.proofs.configs.add_names.Goals as goal

pub returns-then-not-branch : goal.returns-then-not-branch
returns-then-not-branch c =
    let all = c.args.identities.now in
    let i = c.loop-identity.identity-index in
    let x = c.identity-item.result in
    let A : Bool → Type 0 = λ b. AddsNames c.loop-identity.nodes.items (x ∷ []) c.add_name.new.nodes.items b in
    cannot_add c.args.nodes.now.items c.loop-identity.nodes.items (take i all) all x c.loop-identity.invariant (λ j any. any_taken (λ y. y ≡ j) all i x c.loop-identity-test.true c.identity-item.is any) (subst A c.if-not-branch.true c.in_ok-add_name.ensures)

pub loop-identity-preserved : goal.loop-identity-preserved
loop-identity-preserved c =
    let all = c.args.identities.now in
    let i = c.loop-identity.identity-index in
    let x = c.identity-item.result in
    let A : Bool → Type 0 = λ b. AddsNames c.loop-identity.nodes.items (x ∷ []) c.add_name.new.nodes.items b in
    let P : List Identity → Type 0 = λ l. AddAll c.args.nodes.now.items l c.add_name.new.nodes.items in
    subst P (taken_more all i x c.loop-identity-test.true c.identity-item.is) (adds_more c.args.nodes.now.items c.loop-identity.nodes.items c.add_name.new.nodes.items (take i all) x c.loop-identity.invariant (subst A c.if-not-branch.false c.in_ok-add_name.ensures))
