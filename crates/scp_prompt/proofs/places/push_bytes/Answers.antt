use Rattle.std.proofs.Common.{string_bytes, arith}
use Rattle.scp_prompt.specs.Places.{shown_byte}
use Rattle.scp_prompt.proofs.Written.{bytes_more, bytes_end}
use Rattle.scp_prompt.proofs.places.push_bytes.Goals as goal

pub loop-byte-preserved : goal.loop-byte-preserved
loop-byte-preserved c =
    bytes_more shown_byte (string_bytes c.loop-byte.out) _ _ c.args.bytes.now c.loop-byte.byte-index _ (omega arith) c.in_ok-push_byte.ensures c.loop-byte.invariant

pub returns : goal.returns
returns c = bytes_end shown_byte (string_bytes c.loop-byte.out) _ c.args.bytes.now c.loop-byte.byte-index c.loop-byte-test.false c.loop-byte.invariant
