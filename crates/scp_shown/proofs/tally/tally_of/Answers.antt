use Rattle.std.proofs.Common.{List, map, subst}
use Rattle.scp_history.specs.scp_types.specs.declared.names.NodeId.{NodeId}
use Rattle.scp_history.specs.scp_judged.specs.Verdicts.{heard_of, heard_by}
use Rattle.scp_history.specs.declared.line.StatementWord.TheVariants.{Externalize}
use Rattle.scp_shown.specs.Listed.{Picks}
use Rattle.scp_shown.specs.Spoken.{AreSayers}
use Rattle.scp_shown.specs.ValueLines.{IsCertified, IsNotCertified}
use Rattle.scp_shown.proofs.tally.tally_of.Goals as goal

pub returns-clause-tally : goal.returns-clause-tally
returns-clause-tally c =
    let hs = map heard_of c.args.joined.now in
    let x = c.args.value.now in
    let certified = c.in_ok-certified.certified in
    record {
      externalize = c.in_ok-externalize.ensures.those;
      confirm = c.in_ok-confirm.ensures.those;
      prepare = c.in_ok-prepare.ensures.those;
      certified = subst (λ (l : List NodeId). Picks (IsCertified (heard_by hs)) l certified.holds.items) c.as_slice.ensures.value c.in_ok-certified.ensures.holds;
      uncertified = subst (λ (l : List NodeId). Picks (IsNotCertified (heard_by hs)) l certified.fails.items) c.as_slice.ensures.value c.in_ok-certified.ensures.fails;
      backed = c.in_ok-backed.ensures.holds;
      others = c.in_ok-backed.ensures.fails;
      unbacked = subst (λ (l : List NodeId). AreSayers hs Externalize x l c.in_ok-unbacked.unbacked.items) c.as_slice-others.ensures.value c.in_ok-unbacked.ensures.those;
    }
