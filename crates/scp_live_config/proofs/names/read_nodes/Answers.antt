use Rattle.std.proofs.Common.{◌≡◌, ◌∷◌, ◌++◌, [], ℕ, length, List, Some, ap, sym, ◌∙◌, refl, string_bytes}
use Rattle.toml.specs.Data.{Data}
use Rattle.toml.specs.View.{view, table_view, members_view}
use Rattle.scp_live_config.specs.Names.{Identity, identity_said, pairs_of}
use Rattle.scp_live_config.proofs.Lists.{no_two_nil}
use Rattle.scp_live_config.proofs.Views.{Entry, pair_at, pair_more}
use Rattle.scp_live_config.proofs.Telling.{name_apart, name_more, id_twice, pair_wrong, same_id_wrong}
use Rattle.scp_live_config.proofs.names.read_nodes.Goals as goal

pub loop-name-init : goal.loop-name-init
loop-name-init c =
    rw c.new-names.ensures.items ([], ap (λ (es : List Entry). pairs_of (members_view es)) (sym c.into_iter-name-iterator.ensures.into_iter_gives.0), refl, no_two_nil (λ (identity : Identity). identity.id))

pub loop-name-preserved : goal.loop-name-preserved
loop-name-preserved c =
    let i = c.loop-name.invariant in
    let names = c.loop-name.names.items in
    let pair : List ℕ × Data = (string_bytes c.in-Some.name.now, view c.in-Some.value.now) in
    let said : identity_said pair ≡ Some c.in-Ok.identity = rw c.as_str.ensures.value at c.in-Ok.ensures.read in
    let found = rw (c.in_default.is, c.deref.ensures.value) at c.with_id.ensures in
    rw c.in_ok-push.ensures.items (
      i.0 ++ pair ∷ [],
      pair_more (pairs_of (table_view c.args.nodes.now)) i.0 c.loop-name.name-iterator c.next.new.self c.in-Some.name.now c.in-Some.value.now i.1 c.in-Some.ensures.steps,
      name_more i.0 pair names c.in-Ok.identity i.2 said,
      name_apart names c.in-Ok.identity i.3 (sym found),
    )

pub returns-in-Err-clause-wrong : goal.returns-in-Err-clause-wrong
returns-in-Err-clause-wrong c =
    let i = c.loop-name.invariant in
    let key = string_bytes c.in-Some.name.now in
    let told = rw c.as_str.ensures.value at c.in-Err.ensures.wrong in
    pair_wrong (table_view c.args.nodes.now) (length i.0) key (view c.in-Some.value.now) c.in-Err.fault
    (pair_at (pairs_of (table_view c.args.nodes.now)) i.0 c.loop-name.name-iterator c.next.new.self c.in-Some.name.now c.in-Some.value.now i.1 c.in-Some.ensures.steps) told

pub returns-in-Some-with_id-clause-wrong : goal.returns-in-Some-with_id-clause-wrong
returns-in-Some-with_id-clause-wrong c =
    let i = c.loop-name.invariant in
    let nodes = table_view c.args.nodes.now in
    let names = c.loop-name.names.items in
    let pair : List ℕ × Data = (string_bytes c.in-Some.name.now, view c.in-Some.value.now) in
    let rest = pairs_of (members_view c.next.new.self) in
    let whole : pairs_of nodes ≡ i.0 ++ pair ∷ rest = i.1 ∙ ap (λ (es : List Entry). i.0 ++ pairs_of (members_view es)) c.in-Some.ensures.steps in
    let said : identity_said pair ≡ Some c.in-Ok.identity = rw c.as_str.ensures.value at c.in-Ok.ensures.read in
    let found = rw (c.in-Some-with_id.is, c.deref.ensures.value) at c.with_id.ensures in
    same_id_wrong nodes c.in-Ok.identity.name c.in-Some-with_id.other.now.name c.in_ok-wrong.wrong
    (id_twice nodes i.0 rest pair names c.in-Ok.identity c.in-Some-with_id.other.now whole i.2 said (sym found)) c.in_ok-wrong.ensures.told
