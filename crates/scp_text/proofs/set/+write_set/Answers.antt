use Rattle.std.proofs.Common.{◌≡◌, ◌<◌, ◌++◌, [], ◌∙◌, arith, ap, sym, append-nil, map, drop, true, string_bytes}
use Rattle.std.specs.Prelude.{codes}
use Rattle.std.specs.Fmt.{decimal}
use Rattle.std.proofs.Math.ListN.{drop_of_length-le}
use Rattle.scp_text.specs.Pieces.{listed}
use Rattle.scp_text.specs.Sets.{node_text, set_text}
use Rattle.scp_kv.specs.scp_xdr.specs.inside.TreeModel.{tree_count}
use Rattle.scp_wire.specs.scp_quorum.proofs.Smaller.{inner_is_smaller}
use Rattle.scp_text.proofs.Rows.{set_added, is_nil, empty_is}
use Rattle.scp_text.proofs.set.+write_set.Goals as goal

pub write_set-requires : goal.write_set-requires
write_set-requires t c =
    let smaller : tree_count c.inner-item.result < tree_count c.args.set.now =
    inner_is_smaller c.args.set.now c.inner_sets-inner-items.result.now c.loop-inner.inner-index c.inner-item.result c.loop-inner-test.true c.loop-inner.invariant.row c.inner-item.is
    in
    (omega (arith, smaller, c.decreases), tt)

pub returns-clause-added : goal.returns-clause-added
returns-clause-added t c =
    let set = c.args.set.now in
    let qs = c.inner_sets-inner-items.result.now in
    let old = string_bytes c.args.out.now in
    let front = (old ++ decimal set.head.threshold) ++ codes "of(" in
    let number : c.from.result ≡ set.head.threshold = c.from.ensures ∙ c.threshold.ensures in
    let s1 : string_bytes c.write_number.new.out ≡ old ++ decimal set.head.threshold = c.in_ok-write_number.ensures ∙ ap (λ n. old ++ decimal n) number in
    let s2 : string_bytes c.push_str.new.self ≡ front = c.in_ok-push_str.ensures.bytes ∙ ap (λ l. l ++ codes "of(") s1 in
    let s3 : string_bytes c.write_all.new.out ≡ front ++ listed 44 true (map node_text set.head.validators) = c.in_ok-write_all.ensures.added ∙ ap (λ vs. string_bytes c.push_str.new.self ++ listed 44 true (map node_text vs)) c.validators.ensures ∙ ap (λ l. l ++ listed 44 true (map node_text set.head.validators)) s2 in
    let none : drop c.loop-inner.inner-index qs ≡ [] = drop_of_length-le qs (omega arith) in
    let s4 : string_bytes c.loop-inner.out ≡ string_bytes c.write_all.new.out ++ listed 44 c.is_empty-first.result (map set_text qs) = sym (append-nil (string_bytes c.loop-inner.out)) ∙ sym (ap (λ l. string_bytes c.loop-inner.out ++ listed 44 c.loop-inner.first (map set_text l)) none) ∙ c.loop-inner.invariant.text in
    let empty : c.is_empty-first.result ≡ is_nil set.head.validators = c.is_empty-first.ensures ∙ empty_is c.validators-2.result.now ∙ ap is_nil c.validators-2.ensures in
    let s5 : string_bytes c.loop-inner.out ≡ (front ++ listed 44 true (map node_text set.head.validators)) ++ listed 44 (is_nil set.head.validators) (map set_text qs) = s4 ∙ ap (λ b. string_bytes c.write_all.new.out ++ listed 44 b (map set_text qs)) empty ∙ ap (λ l. l ++ listed 44 (is_nil set.head.validators) (map set_text qs)) s3 in
    c.in_ok-push_str-3.ensures.bytes ∙ set_added set qs old (string_bytes c.loop-inner.out) c.loop-inner.invariant.row s5
