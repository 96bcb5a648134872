use Rattle.std.proofs.Common.{[], map, take}
use Rattle.scp_history.specs.scp_judged.specs.Verdicts.{heard_of}
use Rattle.scp_shown.specs.Parts.{entry_of, all_counting}
use Rattle.scp_shown.specs.Joined.{Joins}
use Rattle.scp_shown.proofs.joined.joined_of.Given as goal

-- by the entries so far
abbrev pub invariant-loop-part : goal.invariant-loop-part
invariant-loop-part l = Joins [] (all_counting (map entry_of (take l.part-index l.parts))) (map heard_of l.joined.items)
