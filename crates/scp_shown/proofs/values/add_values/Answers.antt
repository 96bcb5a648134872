use Rattle.std.proofs.Common.{ℕ, List, map, sym, subst}
use Rattle.std.specs.BTreeSet.{keys}
use Rattle.scp_history.specs.scp_judged.specs.Verdicts.{heard_of}
use Rattle.scp_shown.specs.ValueLines.{AreValueLines}
use Rattle.scp_shown.specs.Sides.{IsSide}
use Rattle.scp_shown.proofs.Listing.{Leads, leads_first, leads_more, leads_last}
use Rattle.scp_shown.proofs.values.add_values.Goals as goal

pub loop-value-init : goal.loop-value-init
loop-value-init c =
    let all = keys c.args.values.now in
    let lines = AreValueLines c.args.ledger (map heard_of c.args.joined.now) c.args.nodes.now in
    let sides = IsSide (map heard_of c.args.joined.now) c.args.nodes.now in
    subst (λ (left : List (List ℕ)). Leads lines left c.args.lines.now.items all c.args.lines.now.items × Leads sides left c.args.sides.now.items all c.args.sides.now.items) (sym c.into_iter-value-iterator.ensures.into_iter_gives.0)
    (leads_first lines all c.args.lines.now.items, leads_first sides all c.args.sides.now.items)

pub loop-value-preserved : goal.loop-value-preserved
loop-value-preserved c =
    let all = keys c.args.values.now in
    let lines = AreValueLines c.args.ledger (map heard_of c.args.joined.now) c.args.nodes.now in
    let sides = IsSide (map heard_of c.args.joined.now) c.args.nodes.now in (
      leads_more lines c.in-Some.value.now _ all c.loop-value.lines.items c.add_value.new.lines.items c.args.lines.now.items c.in_ok-add_value.ensures.lines
          (subst (λ (left : List (List ℕ)). Leads lines left c.loop-value.lines.items all c.args.lines.now.items) c.in-Some.ensures.steps c.loop-value.invariant.0),
      leads_more sides c.in-Some.value.now _ all c.loop-value.sides.items c.add_value.new.sides.items c.args.sides.now.items c.in_ok-add_value.ensures.sides
          (subst (λ (left : List (List ℕ)). Leads sides left c.loop-value.sides.items all c.args.sides.now.items) c.in-Some.ensures.steps c.loop-value.invariant.1),
    )

pub returns-clause-lines : goal.returns-clause-lines
returns-clause-lines c =
    let all = keys c.args.values.now in
    let lines = AreValueLines c.args.ledger (map heard_of c.args.joined.now) c.args.nodes.now in
    leads_last lines all c.loop-value.lines.items c.args.lines.now.items (subst (λ (left : List (List ℕ)). Leads lines left c.loop-value.lines.items all c.args.lines.now.items) c.in-None.ensures.steps.0 c.loop-value.invariant.0)

pub returns-clause-sides : goal.returns-clause-sides
returns-clause-sides c =
    let all = keys c.args.values.now in
    let sides = IsSide (map heard_of c.args.joined.now) c.args.nodes.now in
    leads_last sides all c.loop-value.sides.items c.args.sides.now.items (subst (λ (left : List (List ℕ)). Leads sides left c.loop-value.sides.items all c.args.sides.now.items) c.in-None.ensures.steps.0 c.loop-value.invariant.1)
