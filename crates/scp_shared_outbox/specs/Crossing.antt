-- What crosses threads.
use denote.Param.Send.{IsSend}
use Rattle.scp_shared_outbox.specs.contracts.ends.Putter as putter
use Rattle.scp_shared_outbox.specs.contracts.ends.Marker as marker
use Rattle.scp_shared_outbox.specs.contracts.ends.Taker as taker

-- each end of an outbox may be moved to another thread
pub record EndsCross : Type 0 where
  pub putter : IsSend putter.the_row
  pub marker : IsSend marker.the_row
  pub taker : IsSend taker.the_row
