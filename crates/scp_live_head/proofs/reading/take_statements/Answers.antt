use Rattle.std.proofs.Common.{◌∷◌, ◌++◌, [], ℕ, List, Vec, map, sym, ◌∙◌, ap, subst, rules}
use Rattle.std.specs.declared.alloc.Global.{Global}
use Rattle.std.proofs.lemmas.List.{map-append}
use Rattle.scp_live_head.specs.Head.{said_lines}
use Rattle.scp_live_head.proofs.Heads.{NoSaid}
use Rattle.scp_live_head.proofs.Statements.{IsReading, reading_more, read_so_far}
use Rattle.scp_live_head.proofs.reading.take_statements.Goals as goal

abbrev items_of : Vec ℕ Global → List ℕ
items_of b = b.items

pub loop-statements-preserved : goal.loop-statements-preserved
loop-statements-preserved c =
    let found = rw c.in-Some.is at c.in_ok-said.ensures.some in
    subst (λ (l : List (List ℕ)). IsReading c.args.bytes.now l c.behind-rest.result.now)
    (sym (ap (map items_of) c.in_ok-push.ensures.items ∙ map-append items_of c.loop-statements.statements.items (c.in-Some.said ∷ [])))
    (reading_more c.args.bytes.now (map items_of c.loop-statements.statements.items) c.loop-statements.rest.now c.in-Some.said.items c.behind-rest.result.now _ found.0 found.3 c.behind-rest.ensures c.loop-statements.invariant)

pub returns-clause-split : goal.returns-clause-split
returns-clause-split c =
    let so_far = read_so_far c.args.bytes.now (map items_of c.loop-statements.statements.items) c.loop-statements.rest.now _ (search rules) c.loop-statements.invariant in
    c.loop-statements.invariant.splits ∙ ap (λ (l : List ℕ). said_lines (map items_of c.loop-statements.statements.items) ++ l) (sym so_far.1)

pub returns-clause-no_more : goal.returns-clause-no_more
returns-clause-no_more c =
    let none : NoSaid c.loop-statements.rest.now = rw c.in_default.is at c.in_ok-said.ensures.none in
    let so_far = read_so_far c.args.bytes.now (map items_of c.loop-statements.statements.items) c.loop-statements.rest.now _ (search rules) c.loop-statements.invariant in
    subst NoSaid (sym so_far.1) none
