-- Why a message names no sane quorum set.
use Rattle.std.specs.Prelude.{◌≡◌, Option, None, IsSomeAnd}
use Rattle.scp_ledger.specs.scp_quorum.specs.QuorumTree.{QuorumTree}
use Rattle.scp_ledger.specs.scp_quorum.specs.Sane.{IsSane}
use Rattle.scp_judged.specs.declared.verdict.Verdict.{Verdict}
use Rattle.scp_judged.specs.declared.verdict.Verdict.TheVariants.{Counts, OtherSlot, Insane, MissingSet, BadSet, NotNewer}

-- the set that it names is missing, or it isn't sane
abbrev pub LacksSet : Option QuorumTree → Verdict → Type 0
LacksSet set Counts = ⊥
LacksSet set OtherSlot = ⊥
LacksSet set Insane = ⊥
LacksSet set MissingSet = set ≡ None
LacksSet set BadSet = IsSomeAnd set (λ q. ¬ IsSane q)
LacksSet set NotNewer = ⊥
