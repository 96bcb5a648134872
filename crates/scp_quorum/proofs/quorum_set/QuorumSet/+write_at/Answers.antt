use Rattle.std.proofs.Common.{◌≡◌, ◌≤◌, ◌-◌, ◌++◌, ℕ, List, take, length, sym, ◌∙◌, subst, ap, arith}
use Rattle.std.specs.Prelude.{map}
use Rattle.std.specs.List.{All, flat_map}
use Rattle.std.proofs.lemmas.Result.{err_from_is_err_and}
use Rattle.std.proofs.lemmas.Grind.{common_steps}
use Rattle.std.proofs.lemmas.List.{append-nil}
use Rattle.std.proofs.lemmas.List.Elements.{All-from_recursion}
use Rattle.scp_xdr.specs.scp_types.specs.declared.names.NodeId.{NodeId}
use Rattle.scp_xdr.specs.Tree.{in_a_row}
use Rattle.scp_xdr.specs.Kind.{array, word, spelling}
use Rattle.scp_xdr.specs.Shared.{node_kind, node_value}
use Rattle.scp_quorum.specs.QuorumTree.{QuorumTree}
use Rattle.scp_quorum.specs.QuorumKind.{set_spelling}
use Rattle.scp_quorum.proofs.Whole.{made, FitsAt, made_few, made_each, made_text, limit_le, put_behind, put_two}
use Rattle.scp_quorum.proofs.quorum_set.QuorumSet.+write_at.Goals as goal

abbrev nodes_text : List NodeId → List ℕ
nodes_text vs = spelling (array 1000 node_kind) (map node_value vs)

pub returns-in_err-count : goal.returns-in_err-count
returns-in_err-count t c =
    let p = err_from_is_err_and c.from_residual-in_err-count.result c.from_residual-in_err-count.ensures.1 in
    let vs = c.self.inside.validators.items in
    let qs = c.self.inside.inner_sets.items in
    let fits : FitsAt c.args.levels (made c.self.inside.threshold vs qs) = subst (FitsAt c.args.levels) (sym c.self.view_is) c.requires in
    let few : c.len.result ≤ 1000 = omega (arith, c.len.ensures, made_few c.args.levels c.self.inside.threshold vs qs fits, limit_le c.args.levels) in
    let same = c.in_err-count.ensures.within few in
    rw (p.1, p.2)
    (same.0, (word c.self.inside.threshold ++ nodes_text c.deref.result.now, same.1 ∙ put_two c.args.writer.now c.u32.new.self c.write_array.new.writer (word c.self.inside.threshold) (nodes_text c.deref.result.now) c.in_ok-u32.ensures c.in_ok-write_array.ensures))

pub returns-in_err-write_at : goal.returns-in_err-write_at
returns-in_err-write_at t c =
    let p = err_from_is_err_and c.from_residual-in_err-write_at.result c.from_residual-in_err-write_at.ensures.1 in
    let vs = c.self.inside.validators.items in
    let qs = c.self.inside.inner_sets.items in
    let fits : FitsAt c.args.levels (made c.self.inside.threshold vs qs) = subst (FitsAt c.args.levels) (sym c.self.view_is) c.requires in
    let few : c.len.result ≤ 1000 = omega (arith, c.len.ensures, made_few c.args.levels c.self.inside.threshold vs qs fits, limit_le c.args.levels) in
    let part = c.in_err-write_at.ensures in
    let so_far = flat_map set_spelling (take c.loop-inner.inner-index c.deref-inner-items.result.now) in
    let behind : c.write_at.new.writer ≡ c.count.new.self ++ (so_far ++ part.1.0) = put_two c.count.new.self c.loop-inner.writer c.write_at.new.writer so_far part.1.0 c.loop-inner.invariant.so_far part.1.1 in
    rw (p.1, p.2)
    (part.0, ((word c.self.inside.threshold ++ nodes_text c.deref.result.now) ++ (word c.len.result ++ (so_far ++ part.1.0)), put_behind c.args.writer.now c.u32.new.self c.write_array.new.writer c.count.new.self c.write_at.new.writer (word c.self.inside.threshold) (nodes_text c.deref.result.now) (word c.len.result) (so_far ++ part.1.0) c.in_ok-u32.ensures c.in_ok-write_array.ensures (c.in_ok-count.ensures.within few) behind))

pub loop-inner-init : goal.loop-inner-init
loop-inner-init t c =
    let vs = c.self.inside.validators.items in
    let qs = c.self.inside.inner_sets.items in
    let fits : FitsAt c.args.levels (made c.self.inside.threshold vs qs) = subst (FitsAt c.args.levels) (sym c.self.view_is) c.requires in
    let P : List QuorumTree → Type 0 = λ xs. All (FitsAt (c.args.levels - 1)) xs in
    let each : All (FitsAt (c.args.levels - 1)) qs = All-from_recursion (FitsAt (c.args.levels - 1)) qs (made_each c.args.levels c.self.inside.threshold vs qs fits) in
    record {
      so_far = sym (append-nil c.count.new.self);
      fit = subst P (sym c.deref-inner-items.ensures.value) each;
      all = ap in_a_row c.deref-inner-items.ensures.value ∙ ap (λ (q : QuorumTree). q.inner) c.self.view_is;
    }

pub returns : goal.returns
returns t c =
    let vs = c.self.inside.validators.items in
    let qs = c.self.inside.inner_sets.items in
    let fits : FitsAt c.args.levels (made c.self.inside.threshold vs qs) = subst (FitsAt c.args.levels) (sym c.self.view_is) c.requires in
    let few : c.len.result ≤ 1000 = omega (arith, c.len.ensures, made_few c.args.levels c.self.inside.threshold vs qs fits, limit_le c.args.levels) in
    let all : take c.loop-inner.inner-index c.deref-inner-items.result.now ≡ qs = grind (arith, common_steps) in
    let count : c.len.result ≡ length qs = omega (arith, c.len.ensures) in
    let last : c.loop-inner.writer ≡ c.count.new.self ++ flat_map set_spelling qs = c.loop-inner.invariant.so_far ∙ ap (λ (xs : List QuorumTree). c.count.new.self ++ flat_map set_spelling xs) all in
    let nodes : c.write_array.new.writer ≡ c.u32.new.self ++ nodes_text vs = c.in_ok-write_array.ensures ∙ ap (λ (ws : List NodeId). c.u32.new.self ++ nodes_text ws) c.deref.ensures.value in
    let third : c.count.new.self ≡ c.write_array.new.writer ++ word (length qs) = c.in_ok-count.ensures.within few ∙ ap (λ (n : ℕ). c.write_array.new.writer ++ word n) count in
    rw (← c.self.view_is)
    (put_behind c.args.writer.now c.u32.new.self c.write_array.new.writer c.count.new.self c.loop-inner.writer (word c.self.inside.threshold) (nodes_text vs) (word (length qs)) (flat_map set_spelling qs) c.in_ok-u32.ensures nodes third last
    ∙ ap (λ (bytes : List ℕ). c.args.writer.now ++ bytes) (sym (made_text c.self.inside.threshold vs qs)))
