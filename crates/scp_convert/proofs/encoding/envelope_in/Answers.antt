use Rattle.scp_convert.proofs.encoding.envelope_in.Goals as goal

pub returns-clause-refused : goal.returns-clause-refused
returns-clause-refused c = c.of_envelope.ensures c.args.text.now c.in-Err.ensures.refused
