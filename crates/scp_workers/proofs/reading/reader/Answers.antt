use Rattle.std.proofs.Common.{inl}
use Rattle.scp_workers.proofs.reading.reader.Goals as goal

pub new-requires-3-clause-fits : goal.new-requires-3-clause-fits
new-requires-3-clause-fits c = inl c.requires.one
