use Rattle.std.proofs.Common.{◌∙◌, List, map, ap, sym}
use Rattle.std.specs.Prelude.{option_copied, slice_get}
use Rattle.scp_history.specs.scp_judged.specs.Verdicts.{heard_of}
use Rattle.scp_history.specs.declared.side.Side.{Side}
use Rattle.scp_shown.specs.inside.Siding.{has_two}
use Rattle.scp_shown.proofs.Siding.{added_split, added_none, added_against}
use Rattle.scp_shown.proofs.sides.add_side_lines.Goals as goal

pub returns-then-are_several-clause-added : goal.returns-then-are_several-clause-added
returns-then-are_several-clause-added c =
    added_split c.args.ledger (map heard_of c.args.joined.now) c.args.nodes.now c.args.sides.items c.new-sides.result c.are_several.result c.args.lines.now.items c.push.new.self.items (c.are_several.ensures ∙ ap (λ (l : List Side). has_two l) c.as_slice.ensures.value) c.if-are_several.true c.new-sides.ensures c.in_ok-push.ensures.items

pub returns-in-None-clause-added : goal.returns-in-None-clause-added
returns-in-None-clause-added c =
    added_none c.args.ledger (map heard_of c.args.joined.now) c.args.nodes.now c.args.sides.items c.args.lines.now.items (sym (ap option_copied c.in-None.is) ∙ c.first.ensures.value ∙ ap (λ (l : List Side). slice_get l 0) c.as_slice-2.ensures.value)

pub returns-clause-added : goal.returns-clause-added
returns-clause-added c =
    added_against c.add_all_against.result c.args.ledger (map heard_of c.args.joined.now) c.args.nodes.now c.args.sides.items c.in-Some.side.now c.get.result.now c.are_several.result c.args.lines.now.items c.add_all_against.new.lines.items
    (c.are_several.ensures ∙ ap (λ (l : List Side). has_two l) c.as_slice.ensures.value) c.if-are_several.false
    (sym (ap option_copied c.in-Some.is) ∙ c.first.ensures.value ∙ ap (λ (l : List Side). slice_get l 0) c.as_slice-2.ensures.value)
    c.get.ensures c.add_all_against.ensures.added
