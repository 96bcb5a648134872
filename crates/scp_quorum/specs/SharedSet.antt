-- A sane quorum set that several holders share.
use Rattle.std.specs.declared.sync.Arc.{Arc}
use Rattle.std.specs.Global.{Global}
use Rattle.scp_quorum.specs.declared.sane_set.SaneSet.{SaneSet}

-- a shared sane quorum set; its field `value` is the set
abbrev pub SharedSet : Type 0
SharedSet = Arc SaneSet Global
