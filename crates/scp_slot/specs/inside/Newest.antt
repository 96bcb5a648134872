-- The newest fresh statement of each other node and kind, with its quorum set.
-- No public clause reaches this definition: nothing here need be believed.
use Rattle.scp_slot.specs.declared.newest.Heard.{Heard}
use Rattle.scp_slot.specs.declared.newest.Newest.{Newest}
use Rattle.scp_slot.specs.Newest.{newest_of, Puts}

abbrev pub Enters : Newest → Newest → Heard → Type 0
Enters old new h = Puts (newest_of old) (newest_of new) h
