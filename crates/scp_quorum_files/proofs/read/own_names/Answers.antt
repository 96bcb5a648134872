use Rattle.std.proofs.Common.{◌≡◌, ◌<◌, ◌∷◌, ◌++◌, [], List, ℕ, suc, true, false, None, Some, map, take, drop, length, option_and_then, string_bytes, arith, sym, ◌∙◌, ap}
use Rattle.std.specs.List.{list_any}
use Rattle.std.specs.Str.{bytes_eq}
use Rattle.std.proofs.lemmas.List.{map_push}
use Rattle.serde_json.specs.Find.{get_member, as_str}
use Rattle.serde_json.specs.View.{view}
use Rattle.scp_quorum_files.specs.Networks.{node_name, members_in, each_once}
use Rattle.scp_quorum_files.proofs.Looked.{values_more}
use Rattle.scp_quorum_files.proofs.Parts.{given_more}
use Rattle.scp_quorum_files.proofs.Entries.{value_seam}
use Rattle.scp_quorum_files.proofs.Once.{once_push}
use Rattle.scp_quorum_files.proofs.Said.{nameless, named_twice}
use Rattle.scp_quorum_files.proofs.read.own_names.Goals as goal

pub returns-in_default-clause-wrong : goal.returns-in_default-clause-wrong
returns-in_default-clause-wrong c =
    let form = c.args.form in
    let vs = c.args.nodes.now in
    let i = c.loop-place.place in
    let v = c.index-nodes-place.result in
    let within : i < length vs = omega arith in
    let none : node_name form (view v) ≡ None =
    ap (λ k. option_and_then as_str (get_member k (members_in (view v)))) (sym c.name_key.ensures) ∙ sym (rw c.in_default.is at c.text_at.ensures) in
    nameless form (map view vs) (map view (take i vs)) (map view (drop (suc i) vs)) (view v) i (value_seam vs i v within c.index-nodes-place.is) none

pub returns-then-is_one_of-clause-wrong : goal.returns-then-is_one_of-clause-wrong
returns-then-is_one_of-clause-wrong c =
    let form = c.args.form in
    let vs = c.args.nodes.now in
    let i = c.loop-place.place in
    let v = c.index-nodes-place.result in
    let within : i < length vs = omega arith in
    let name = c.in-Some.name.now in
    let here : node_name form (view v) ≡ Some name =
    ap (λ k. option_and_then as_str (get_member k (members_in (view v)))) (sym c.name_key.ensures) ∙ sym (rw c.in-Some.is at c.text_at.ensures) in
    let there : list_any (bytes_eq name) (map string_bytes c.loop-place.own.items) ≡ true =
    ap (λ l. list_any (bytes_eq name) (map string_bytes l)) (sym c.deref.ensures.value) ∙ sym c.is_one_of.ensures ∙ c.if-is_one_of.true in
    named_twice form (map view vs) (map view (take i vs)) (map view (drop (suc i) vs)) (view v) (map string_bytes c.loop-place.own.items) name i (value_seam vs i v within c.index-nodes-place.is) c.loop-place.invariant.given here there

pub loop-place-preserved : goal.loop-place-preserved
loop-place-preserved c =
    let form = c.args.form in
    let vs = c.args.nodes.now in
    let i = c.loop-place.place in
    let v = c.index-nodes-place.result in
    let within : i < length vs = omega arith in
    let name = c.in-Some.name.now in
    let so_far : List (List ℕ) = map string_bytes c.loop-place.own.items in
    let here : node_name form (view v) ≡ Some name =
    ap (λ k. option_and_then as_str (get_member k (members_in (view v)))) (sym c.name_key.ensures) ∙ sym (rw c.in-Some.is at c.text_at.ensures) in
    let new : list_any (bytes_eq name) so_far ≡ false =
    ap (λ l. list_any (bytes_eq name) (map string_bytes l)) (sym c.deref.ensures.value) ∙ sym c.is_one_of.ensures ∙ c.if-is_one_of.false in
    let names : map string_bytes c.push.new.self.items ≡ so_far ++ name ∷ [] =
    ap (map string_bytes) c.in_ok-push.ensures.items ∙ map_push string_bytes c.loop-place.own.items c.in_ok-from_str.field-0 ∙ ap (λ t. so_far ++ t ∷ []) c.in_ok-from_str.ensures.ok in
    record {
      given = ap (map (node_name form)) (values_more vs i v within c.index-nodes-place.is) ∙ given_more (node_name form) (map view (take i vs)) (view v) so_far name c.loop-place.invariant.given here ∙ ap (map Some) (sym names);
      once = ap each_once names ∙ once_push so_far name c.loop-place.invariant.once new ∙ sym names;
    }
