-- What contracts see of an envelope in a box.
use Rattle.scp_envelope.specs.declared.statement.Envelope.{Envelope}

-- the envelope, and not where it is
pub record Boxed : Type 0 where
  pub value : Envelope
