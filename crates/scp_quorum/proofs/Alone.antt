-- 1 of one node is sane.
use Rattle.std.proofs.Common.{◌≡◌, ℕ, [], ◌∷◌, length, arith, sym, subst, refl}
use Rattle.std.specs.List.{IsDistinct}
use Rattle.std.proofs.lemmas.List.Sums.{sum_by-cons}
use Rattle.scp_xdr.specs.scp_types.specs.declared.names.NodeId.{NodeId}
use Rattle.scp_xdr.specs.Tree.{no_trees}
use Rattle.scp_xdr.specs.Kind.{Values, Fits}
use Rattle.scp_xdr.specs.Length.{padded_len, spelled_len}
use Rattle.scp_xdr.specs.Shared.{node_kind, node_value}
use Rattle.scp_xdr.proofs.Lengths.{length_is}
use Rattle.scp_quorum.specs.QuorumTree.{QuorumTree}
use Rattle.scp_quorum.specs.QuorumKind.{set_kind, set_value}
use Rattle.scp_quorum.specs.Sane.{IsSane}

abbrev pub one : NodeId → QuorumTree
one node = record { head = record { threshold = 1; validators = node ∷ [] }; inner = no_trees }

no_padding : (n : ℕ) → n ≡ 32 → padded_len n ≡ 32
unfolding padded_len
no_padding n e = rw e refl

one_fits : (node : NodeId) → length node.0 ≡ 32 → Fits set_kind (set_value (one node))
one_fits node full = ((omega arith, (omega arith, omega arith, ((omega arith, full), tt))), omega arith, omega arith, tt)

one_is_sane : (node : NodeId) → length node.0 ≡ 32 → IsSane (one node)
unfolding IsDistinct
one_is_sane node full = record {
  in_range = (omega arith, omega arith, tt);
  distinct = (tt, tt);
  few_nodes = omega arith;
  shallow = omega arith;
  fits = one_fits node full;
  short = omega (arith, length_is set_kind (set_value (one node)), no_padding (length node.0) full, sum_by-cons (λ (v : Values node_kind). spelled_len node_kind v) (node_value node) []);
}

pub alone_is_sane : (q : QuorumTree) (node : NodeId) → length node.0 ≡ 32 → q ≡ one node → IsSane q
alone_is_sane q node full is = subst IsSane (sym is) (one_is_sane node full)
