use Rattle.std.proofs.Common.{◌≡◌, ◌<◌, ◌++◌, [], ◌∙◌, arith, ap, sym, append_assoc, append-nil, map, drop, true, string_bytes}
use Rattle.std.specs.Prelude.{codes}
use Rattle.std.specs.Fmt.{decimal}
use Rattle.std.proofs.Math.ListN.{drop_of_length-le}
use Rattle.scp_text.specs.Pieces.{listed}
use Rattle.scp_slot.specs.scp_xdr.specs.inside.TreeModel.{tree_count}
use Rattle.scp_slot.specs.scp_quorum.proofs.Smaller.{inner_is_smaller}
use Rattle.scp_text.proofs.Rows.{is_nil, empty_is}
use Rattle.scp_stand_slot.specs.Names.{node_name, set_named}
use Rattle.scp_stand_slot.proofs.Entries.{set_added}
use Rattle.scp_stand_slot.proofs.sets.+write_set.Goals as goal

pub write_set-requires : goal.write_set-requires
write_set-requires t c =
    let smaller : tree_count c.inner-item.result < tree_count c.args.set.now =
    inner_is_smaller c.args.set.now c.inner_sets-inner-items.result.now c.loop-inner.inner-index c.inner-item.result c.loop-inner-test.true c.loop-inner.invariant.row c.inner-item.is
    in
    (omega (arith, smaller, c.decreases), tt)

pub returns-clause-added : goal.returns-clause-added
returns-clause-added t c =
    let set = c.args.set.now in
    let name = node_name c.args.names.now in
    let text = set_named c.args.names.now in
    let qs = c.inner_sets-inner-items.result.now in
    let old = string_bytes c.args.out.now in
    let front = (old ++ decimal set.head.threshold) ++ codes "of(" in
    let s2 : string_bytes c.write_threshold.new.out ≡ front = c.in_ok-write_threshold.ensures.added ∙ ap (λ n. old ++ (decimal n ++ codes "of(")) c.threshold.ensures ∙ sym (append_assoc old (decimal set.head.threshold) (codes "of(")) in
    let s3 : string_bytes c.write_each_node.new.out ≡ front ++ listed 44 true (map name set.head.validators) = c.in_ok-write_each_node.ensures.added ∙ ap (λ vs. string_bytes c.write_threshold.new.out ++ listed 44 true (map name vs)) c.validators.ensures ∙ ap (λ l. l ++ listed 44 true (map name set.head.validators)) s2 in
    let none : drop c.loop-inner.inner-index qs ≡ [] = drop_of_length-le qs (omega arith) in
    let s4 : string_bytes c.loop-inner.out ≡ string_bytes c.write_each_node.new.out ++ listed 44 c.is_empty-first.result (map text qs) = sym (append-nil (string_bytes c.loop-inner.out)) ∙ sym (ap (λ l. string_bytes c.loop-inner.out ++ listed 44 c.loop-inner.first (map text l)) none) ∙ c.loop-inner.invariant.text in
    let empty : c.is_empty-first.result ≡ is_nil set.head.validators = c.is_empty-first.ensures ∙ empty_is c.validators-2.result.now ∙ ap is_nil c.validators-2.ensures in
    let s5 : string_bytes c.loop-inner.out ≡ (front ++ listed 44 true (map name set.head.validators)) ++ listed 44 (is_nil set.head.validators) (map text qs) = s4 ∙ ap (λ b. string_bytes c.write_each_node.new.out ++ listed 44 b (map text qs)) empty ∙ ap (λ l. l ++ listed 44 (is_nil set.head.validators) (map text qs)) s3 in
    c.in_ok-push_str-2.ensures.bytes ∙ set_added c.args.names.now set qs old (string_bytes c.loop-inner.out) c.loop-inner.invariant.row s5
