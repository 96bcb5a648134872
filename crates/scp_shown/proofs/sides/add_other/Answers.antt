use Rattle.std.proofs.Common.{◌≡◌, ◌∙◌, ◌++◌, ◌∷◌, [], ℕ, List, ap}
use Rattle.std.specs.Prelude.{bytes_eq}
use Rattle.scp_history.specs.declared.line.Line.{Line}
use Rattle.scp_history.specs.declared.line.Line.TheVariants.{Against}
use Rattle.scp_shown.proofs.Listing.{unless_same, unless_other}
use Rattle.scp_shown.proofs.sides.add_other.Goals as goal

pub returns-then-eq-clause-added : goal.returns-then-eq-clause-added
returns-then-eq-clause-added c =
    let x = c.args.certified.now in
    let y = c.args.value.now in
    unless_same c.args.lines.now.items (Against c.args.ledger c.args.node c.args.statement y ∷ []) c.eq.result (bytes_eq x y) (c.eq.ensures ∙ ap (λ (v : List ℕ). bytes_eq x v) c.get.ensures) c.if-eq.true

pub returns-clause-added : goal.returns-clause-added
returns-clause-added c =
    let x = c.args.certified.now in
    let y = c.args.value.now in
    let old = c.args.lines.now.items in
    let line : List ℕ → Line = λ v. Against c.args.ledger c.args.node c.args.statement v in
    unless_other old (line y ∷ []) c.push.new.self.items c.eq.result (bytes_eq x y) (c.eq.ensures ∙ ap (λ (v : List ℕ). bytes_eq x v) c.get.ensures) c.if-eq.false
    (c.in_ok-push.ensures.items ∙ ap (λ (v : List ℕ). old ++ line v ∷ []) c.in_ok-value.ensures.same)
