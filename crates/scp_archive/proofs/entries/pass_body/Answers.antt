use Rattle.std.proofs.Common.{◌≡◌, ◌∙◌, ◌+◌, ◌-◌, ◌≤◌, length, take, rules, arith}
use Rattle.std.proofs.lemmas.List.{length-take}
use Rattle.scp_archive.proofs.Taking.{passed_more}
use Rattle.scp_archive.proofs.entries.pass_body.Goals as goal

pub loop-missing-preserved : goal.loop-missing-preserved
loop-missing-preserved g c =
    let left = g.R.ScriptIn.left in
    let count = c.in_ok-count.count in
    let buffer = c.read_some.new.buffer in
    let long : c.min-room.result ≤ length c.loop-missing.buffer = search rules in
    let kept : length buffer ≡ length c.loop-missing.buffer = c.read_some.auto.buffer in
    let few : count ≤ c.min-room.result = c.in_ok-count.ensures.count in
    let less : c.min-room.result ≤ c.loop-missing.missing = first_of (omega arith, search rules) in
    let len : length (take count buffer) ≡ count = omega (arith, length-take count buffer, long, kept, few) in
    let left_over : (c.loop-missing.missing - count) + count ≡ c.loop-missing.missing = omega (arith, few, less) in
    record {
      passed = passed_more (left c.args.reader.now) (left c.loop-missing.reader) (left c.read_some.new.reader) c.args.len c.loop-missing.missing (c.loop-missing.missing - count) count (take count buffer) c.loop-missing.invariant.passed len left_over c.in_ok-count.ensures.bytes;
      failures = c.in_ok-count.ensures.kept ∙ c.loop-missing.invariant.failures;
    }
