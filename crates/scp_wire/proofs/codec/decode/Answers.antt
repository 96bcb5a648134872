use Rattle.scp_wire.proofs.Readings.{gives_within, gives_reading, gives_none, longer_has_none}
use Rattle.scp_wire.proofs.Fits.{decoded_fits}
use Rattle.scp_wire.proofs.codec.decode.Goals as goal

pub returns-then-bytes-gt-MESSAGE_LIMIT-clause-none : goal.returns-then-bytes-gt-MESSAGE_LIMIT-clause-none
returns-then-bytes-gt-MESSAGE_LIMIT-clause-none c = λ _. longer_has_none c.args.bytes.now c.if-bytes-gt-MESSAGE_LIMIT.true

pub returns-clause-reading : goal.returns-clause-reading
returns-clause-reading c =
    gives_reading c.args.bytes.now c.decode.result (gives_within c.args.bytes.now c.decode.result c.if-bytes-gt-MESSAGE_LIMIT.false c.decode.ensures.exact)

pub returns-clause-none : goal.returns-clause-none
returns-clause-none c =
    gives_none c.args.bytes.now c.decode.result (gives_within c.args.bytes.now c.decode.result c.if-bytes-gt-MESSAGE_LIMIT.false c.decode.ensures.exact)

pub returns-clause-fits : goal.returns-clause-fits
returns-clause-fits c = decoded_fits c.args.bytes.now c.decode.result c.if-bytes-gt-MESSAGE_LIMIT.false c.decode.ensures.found
