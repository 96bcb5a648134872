-- What the readers of a node's links kept.
-- No public clause reaches these definitions: nothing here need be believed.
use Rattle.std.specs.Prelude.{Option}
use Rattle.std.specs.Global.{Vec}
use Rattle.scp_workers.specs.scp_wire.specs.declared.link.LinkItem.{LinkItem}
use Rattle.scp_workers.specs.Reading.{ReaderEnd}

-- what the link's reader kept of what it received
abbrev pub kept_by : ReaderEnd → Option (Vec LinkItem)
kept_by r = r.stage.kept
