use Rattle.scp_live_log.proofs.Digests.{read_digest, told_by_digits, never_refused}
use Rattle.scp_live_log.proofs.reading.read_digest.Goals as goal

pub returns-in-Ok-clause-size : goal.returns-in-Ok-clause-size
returns-in-Ok-clause-size c = read_digest c.args.digits.now c.decode_to_slice.new.out c.decode_to_slice.result c.in-Ok.is c.decode_to_slice.ensures.value

pub returns-in-Ok-clause-found : goal.returns-in-Ok-clause-found
returns-in-Ok-clause-found c hash d is = (told_by_digits c.args.digits.now hash c.decode_to_slice.new.out c.decode_to_slice.result d is c.decode_to_slice.ensures.value).1

pub returns-in-Err-clause-found : goal.returns-in-Err-clause-found
returns-in-Err-clause-found c hash d is = never_refused c.args.digits.now hash c.decode_to_slice.new.out c.decode_to_slice.result c.in-Err.field-0 d is c.decode_to_slice.ensures.value c.in-Err.is
