use Rattle.std.proofs.Common.{◌≡◌, ◌++◌, ℕ, List, subst, string_bytes}
use Rattle.std.specs.Prelude.{OnOk}
use Rattle.scp_trace.proofs.Reading.{told_as_read}
use Rattle.scp_trace.proofs.lines.write_send.Goals as goal

pub returns-in-Ok-clause-added : goal.returns-in-Ok-clause-added
returns-in-Ok-clause-added c =
    subst (λ (said : List ℕ). OnOk c.write_sending.result (string_bytes c.write_sending.new.out ≡ string_bytes c.args.out.now ++ said)) (told_as_read c.args.names.now c.args.from c.args.to c.args.bytes.now c.in-Ok.message c.in-Ok.ensures.exact c.in-Ok.ensures.reading) c.write_sending.ensures.added
