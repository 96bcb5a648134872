use Rattle.std.proofs.Common.{◌≡◌, ◌∙◌, List, map, refl, subst}
use Rattle.scp_history.specs.scp_types.specs.declared.names.NodeId.{NodeId}
use Rattle.scp_history.specs.scp_judged.specs.Verdicts.{heard_of}
use Rattle.scp_history.specs.declared.line.Line.TheVariants.{Silent}
use Rattle.scp_shown.specs.Listed.{Picks}
use Rattle.scp_shown.specs.ValueLines.{if_any}
use Rattle.scp_shown.specs.Silent.{nodes_named, IsSilent}
use Rattle.scp_shown.proofs.silent.add_silent_lines.Goals as goal

pub returns-clause-added : goal.returns-clause-added
returns-clause-added c =
    let hs = map heard_of c.args.joined.now in
    let silent = c.in_ok-silent.silent.items in
    let named : c.as_slice.result.now ≡ nodes_named hs c.args.nodes.now = c.as_slice.ensures.value ∙ c.in_ok-named-2.ensures ∙ c.in_ok-named.ensures.named in (
      if_any (λ vs. Silent c.args.ledger vs) silent,
      record { silent = silent; are_silent = subst (λ (l : List NodeId). Picks (IsSilent hs) l silent) named c.in_ok-silent.ensures; all = refl },
      c.in_ok-add_line.ensures,
    )
