use Rattle.std.proofs.Common.{◌≡◌, ◌∙◌, [], List, flat_map, map, sym, subst}
use Rattle.std.specs.List.{AllByRecursion}
use Rattle.scp_history.specs.scp_types.specs.declared.names.NodeId.{NodeId}
use Rattle.scp_history.specs.scp_judged.specs.Verdicts.{heard_of}
use Rattle.scp_history.specs.scp_judged.specs.Certified.{IsSaneHeard}
use Rattle.scp_history.specs.scp_judged.specs.declared.verdict.Said.{Said}
use Rattle.scp_shown.specs.Parts.{entry_of, all_counting}
use Rattle.scp_shown.specs.Joined.{Joins}
use Rattle.scp_shown.specs.Spoken.{nodes_heard}
use Rattle.scp_shown.specs.Silent.{AreSilentLines}
use Rattle.scp_shown.specs.LedgerLines.{entry_lines, AreHeardLines}
use Rattle.scp_shown.proofs.Gathering.{added_four}
use Rattle.scp_shown.proofs.lines.ledger_lines.Goals as goal

pub add_heard_lines-requires : goal.add_heard_lines-requires
add_heard_lines-requires c = subst (λ (l : List Said). AllByRecursion IsSaneHeard (map heard_of l)) (sym c.as_slice-heard.ensures.value) c.in_ok-joined.ensures.sane

pub returns-clause-lines : goal.returns-clause-lines
returns-clause-lines c =
    let entries = map entry_of c.args.parts.now in
    let hs = map heard_of c.as_slice-heard.result.now in
    let ledger = c.args.ledger in
    let nodes : c.as_slice-nodes.result.now ≡ nodes_heard hs = c.as_slice-nodes.ensures.value ∙ c.in_ok-list.ensures.nodes in
    let heard = c.in_ok-add_heard_lines.ensures.added in
    let silent = c.in_ok-add_silent_lines.ensures.added in
    let pairs = c.in_ok-add_contradict_lines.ensures.added in
    record {
      heard = hs;
      of_heard = heard.0;
      of_silent = silent.0;
      of_pairs = pairs.0;
      joined = subst (λ (l : List Said). Joins [] (all_counting entries) (map heard_of l)) (sym c.as_slice-heard.ensures.value) c.in_ok-joined.ensures.joins;
      shown = subst (λ (l : List NodeId). AreHeardLines ledger hs l heard.0) nodes heard.1;
      silent = subst (λ (l : List NodeId). AreSilentLines ledger hs l silent.0) nodes silent.1;
      contradictions = pairs.1;
      all = added_four c.new-lines.result.items c.add_heard_lines.new.lines.items c.add_entry_lines.new.lines.items c.add_silent_lines.new.lines.items c.add_contradict_lines.new.lines.items heard.0 (flat_map entry_lines entries) silent.0 pairs.0 c.new-lines.ensures.items heard.2 c.in_ok-add_entry_lines.ensures silent.2 pairs.2;
    }
