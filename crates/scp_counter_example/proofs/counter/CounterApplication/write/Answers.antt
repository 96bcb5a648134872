use Rattle.std.proofs.Common.{◌∙◌, ◌<◌, ◌^◌, ap}
use Rattle.scp_counter_example.specs.inside.Counter.{count_in}
use Rattle.scp_counter_example.proofs.Bytes.{back}
use Rattle.scp_counter_example.proofs.counter.CounterApplication.write.Goals as goal

pub returns-clause-read_back : goal.returns-clause-read_back
returns-clause-read_back c =
    let lt : c.args.count.now < 2 ^ 64 = search in
    ap count_in (c.in_ok-from_slice.ensures.items ∙ c.to_be_bytes.ensures) ∙ back c.args.count.now lt
