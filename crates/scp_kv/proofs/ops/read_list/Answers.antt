use Rattle.std.proofs.Common.{◌≡◌, sym, ap, ◌∙◌, None, arith}
use Rattle.std.specs.Result.{result_ok}
use Rattle.scp_kv.specs.Op.{ops_in}
use Rattle.scp_kv.proofs.Lists.{ops_in-short, ops_in-long, none_of}
use Rattle.scp_kv.proofs.ops.read_list.Goals as goal

pub returns-then-bytes-gt-LIST_LIMIT-clause-same : goal.returns-then-bytes-gt-LIST_LIMIT-clause-same
returns-then-bytes-gt-LIST_LIMIT-clause-same c = sym (ops_in-long c.args.bytes.now (omega arith))

pub returns-in-Ok-clause-same : goal.returns-in-Ok-clause-same
returns-in-Ok-clause-same c = sym (ops_in-short c.args.bytes.now (omega arith) ∙ ap result_ok c.in-Ok.ensures.exact)

pub returns-in-Ok-clause-found : goal.returns-in-Ok-clause-found
returns-in-Ok-clause-found c = record { within = omega arith; spells = c.in-Ok.ensures.found }

pub returns-in_default : goal.returns-in_default
returns-in_default c =
    let none : ops_in c.args.bytes.now ≡ None = ops_in-short c.args.bytes.now (omega arith) ∙ ap result_ok (c.in-Err.ensures.exact c.in_default.not-NoMemory) in
    record { same = sym none; found = tt; none = λ is. none_of c.args.bytes.now none; only_memory = tt; memory_last = λ is. absurd cc }
