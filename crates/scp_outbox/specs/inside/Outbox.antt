-- What is inside an outbox.
-- No public clause reaches this: nothing here need be believed.
use Rattle.std.specs.Prelude.{◌≡◌}
use Rattle.scp_outbox.specs.Outbox.{OutboxView, IsOutbox}
use Rattle.scp_outbox.specs.declared.outbox.Outbox.TheInside as outbox

abbrev pub outbox_view : outbox.Inside → OutboxView
outbox_view a = record { live = a.live; marks = a.marks.items; ring = a.ring.items; statements = a.statements.items; overwritten = a.overwritten }

pub record IsSound (a : outbox.Inside) : Type 0 where
  pub marks : a.marks.capacity ≡ 16
  pub ring : a.ring.capacity ≡ 64
  pub statements : a.statements.capacity ≡ 64
  pub known : IsOutbox (outbox_view a)
