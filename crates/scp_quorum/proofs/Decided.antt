-- What is left of sanity once the parts are tested: the length of the encoding.
use Rattle.std.proofs.Common.{◌≡◌, ℕ, ◌≤◌, Bool, true, false, Option, Some, None, length, is_some, sym, ◌∙◌, arith}
use Rattle.std.specs.Prelude.{IsTrue, ◌↔◌}
use Rattle.std.specs.List.{IsDistinct}
use Rattle.std.specs.Ordering.{eq_by_cmp}
use Rattle.scp_xdr.specs.Kind.{Fits}
use Rattle.scp_xdr.specs.Length.{spelled_len}
use Rattle.scp_xdr.specs.Words.{Leaves}
use Rattle.scp_xdr.proofs.Lengths.{length_is}
use Rattle.scp_quorum.specs.NodeSet.{node_cmp}
use Rattle.scp_quorum.specs.QuorumTree.{QuorumTree}
use Rattle.scp_quorum.specs.QuorumKind.{set_kind, set_value}
use Rattle.scp_quorum.proofs.Levels.{few_levels}
use Rattle.scp_quorum.specs.Sane.{IsSane, IsInRange, all_nodes}

pub sane_decided : (q : QuorumTree) (b : Bool) (left : Option ℕ) → Fits set_kind (set_value q) → IsInRange q → (length (all_nodes q) ≤ 1000) × IsDistinct (eq_by_cmp node_cmp) (all_nodes q)
    → Leaves 65532 left (spelled_len set_kind (set_value q)) → b ≡ is_some left → IsTrue b ↔ IsSane q
sane_decided q b (Some n) fits range nodes leaves e = (
  λ t. record {
    in_range = range;
    distinct = nodes.1;
    few_nodes = nodes.0;
    shallow = few_levels q fits;
    fits = fits;
    short = omega (arith, leaves, length_is set_kind (set_value q));
  },
  λ s. e,
)
sane_decided q b None fits range nodes leaves e = (λ t. absurd (let f : false ≡ true = sym e ∙ t in cc), λ s. absurd (omega (arith, s.short, leaves, length_is set_kind (set_value q))))
