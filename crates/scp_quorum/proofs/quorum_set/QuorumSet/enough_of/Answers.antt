use Rattle.std.proofs.Common.{◌≡◌, ◌-◌, ◌+◌, count_by, take, arith, sym, ◌∙◌}
use Rattle.scp_quorum.proofs.Missing.{one_less, as_before}
use Rattle.scp_quorum.proofs.quorum_set.QuorumSet.enough_of.Goals as goal
use Rattle.scp_quorum.proofs.quorum_set.QuorumSet.enough_of.Goals.{then-has+else-wanted-eq0, else-has}

pub loop-i-preserved : goal.loop-i-preserved
loop-i-preserved g c =
    elim c.if-has.branch [
      | then-has+else-wanted-eq0 w ↦
          one_less (g.N.Nodes.members c.args.nodes.now) c.as_slice-validators.result.now _ _ _ 0 _ _
          c.loop-i-test.true
          (sym c.has.ensures ∙ w.if-has.true)
          c.loop-i.invariant
          (w.wanted-is ∙ w.saturating_sub-wanted.ensures)
      | else-has w ↦
          as_before (g.N.Nodes.members c.args.nodes.now) c.as_slice-validators.result.now _ _ _ 0 _ _
          c.loop-i-test.true
          (sym c.has.ensures ∙ w.if-has.false)
          c.loop-i.invariant
          w.wanted-is
    ]

pub returns-then-wanted-eq0-clause-enough : goal.returns-then-wanted-eq0-clause-enough
returns-then-wanted-eq0-clause-enough g c =
    let left : c.saturating_sub-wanted.result ≡ c.args.self.now.head.threshold - (0 + count_by (g.N.Nodes.members c.args.nodes.now) (take (c.loop-i.i + 1) c.as_slice-validators.result.now)) =
    one_less (g.N.Nodes.members c.args.nodes.now) c.as_slice-validators.result.now _ _ _ 0 _ _ c.loop-i-test.true (sym c.has.ensures ∙ c.if-has.true) c.loop-i.invariant c.saturating_sub-wanted.ensures
    in
    omega (arith, left, c.if-wanted-eq0.true)
