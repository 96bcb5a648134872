use Rattle.std.proofs.Common.{sym, ap, ◌∙◌, is_some, arith}
use Rattle.std.proofs.lemmas.Bool.{lt-leb}
use Rattle.scp_kv.proofs.Lists.{lists_decided, spells_same, ops_in-long}
use Rattle.scp_kv.proofs.ops.is_list.Goals as goal

pub returns-then-bytes-le-LIST_LIMIT-clause-same : goal.returns-then-bytes-le-LIST_LIMIT-clause-same
returns-then-bytes-le-LIST_LIMIT-clause-same c =
    spells_same c.args.bytes.now c.is_spelling.result (λ i. omega (arith, c.type_inv.bytes i)) (omega arith) c.is_spelling.ensures

pub returns-then-bytes-le-LIST_LIMIT-clause-lists : goal.returns-then-bytes-le-LIST_LIMIT-clause-lists
returns-then-bytes-le-LIST_LIMIT-clause-lists c =
    lists_decided c.args.bytes.now c.is_spelling.result (λ i. omega (arith, c.type_inv.bytes i))
    (spells_same c.args.bytes.now c.is_spelling.result (λ i. omega (arith, c.type_inv.bytes i)) (omega arith) c.is_spelling.ensures)

pub returns-else-bytes-le-LIST_LIMIT-clause-same : goal.returns-else-bytes-le-LIST_LIMIT-clause-same
returns-else-bytes-le-LIST_LIMIT-clause-same c = lt-leb _ _ (omega arith) ∙ ap is_some (sym (ops_in-long c.args.bytes.now (omega arith)))
