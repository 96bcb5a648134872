use Rattle.std.proofs.Common.{◌≡◌, ◌∙◌, ℕ, List, ◌++◌, map, ap, subst}
use Rattle.scp_history.specs.scp_types.specs.declared.names.NodeId.{NodeId}
use Rattle.scp_history.specs.scp_judged.specs.Verdicts.{heard_of}
use Rattle.scp_history.specs.declared.line.Counts.{Counts}
use Rattle.scp_history.specs.declared.line.Line.{Line}
use Rattle.scp_history.specs.declared.line.Line.TheVariants.{Value, Uncertified, Unbacked}
use Rattle.scp_shown.specs.ValueLines.{if_any}
use Rattle.scp_shown.specs.inside.Tallying.{IsTally, counted}
use Rattle.scp_shown.proofs.Telling.{lines_in, tally_lines, tally_certified, added_thrice}
use Rattle.scp_shown.proofs.value_lines.add_value_lines.Goals as goal

pub returns-clause-added : goal.returns-clause-added
returns-clause-added c =
    let ledger = c.args.ledger in
    let x = c.args.value.now in
    let t = c.in_ok-tally.tally in
    let one = c.push.new.self.items in
    let two = c.add_uncertified.new.lines.items in
    let three = c.add_unbacked.new.lines.items in
    let us : two ≡ one ++ if_any (λ vs. Uncertified ledger vs) t.certified.fails.items = c.in_ok-add_uncertified.ensures ∙ ap (λ (l : List NodeId). one ++ if_any (λ vs. Uncertified ledger vs) l) c.nodes_by-certified.ensures.uncertified in
    let bs : three ≡ two ++ if_any (λ vs. Unbacked ledger vs) t.unbacked.items = c.in_ok-add_unbacked.ensures ∙ ap (λ (l : List NodeId). two ++ if_any (λ vs. Unbacked ledger vs) l) c.nodes_by-certified.ensures.unbacked in
    let line : Value ledger c.in_ok-value.value c.counts_by-counts.result ≡ Value ledger x (counted t) = ap (λ (y : List ℕ). Value ledger y c.counts_by-counts.result) c.in_ok-value.ensures.same ∙ ap (λ (n : Counts). Value ledger x n) c.counts_by-counts.ensures in (
      lines_in ledger x t,
      tally_lines ledger (map heard_of c.args.joined.now) c.args.nodes.now x t (subst (λ (y : List ℕ). IsTally (map heard_of c.args.joined.now) c.args.nodes.now y t) c.get.ensures c.in_ok-tally.ensures.tally),
      added_thrice c.args.lines.now.items one two three (if_any (λ vs. Uncertified ledger vs) t.certified.fails.items) (if_any (λ vs. Unbacked ledger vs) t.unbacked.items) _ (Value ledger x (counted t)) line c.in_ok-push.ensures.items us bs,
    )

pub returns-clause-certified : goal.returns-clause-certified
returns-clause-certified c = tally_certified (map heard_of c.args.joined.now) c.args.nodes.now c.args.value.now c.in_ok-tally.tally _ c.nodes_by-certified.ensures.certified (subst (λ (y : List ℕ). IsTally (map heard_of c.args.joined.now) c.args.nodes.now y c.in_ok-tally.tally) c.get.ensures c.in_ok-tally.ensures.tally)
