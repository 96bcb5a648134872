use Rattle.std.proofs.Common.{inl}
use Rattle.scp_workers.proofs.slot.slots.Goals as goal

pub new-requires-3-clause-fits : goal.new-requires-3-clause-fits
new-requires-3-clause-fits g c = inl c.requires.one
