use Rattle.std.proofs.Common.{◌≡◌, drop}
use Rattle.std.specs.List.{list_any}
use Rattle.scp_stand_node.specs.Slots.{is_judged}
use Rattle.scp_stand_node.proofs.slots.has_judgement.Given as goal

-- what is left tells it
abbrev pub invariant-loop-fate : goal.invariant-loop-fate
invariant-loop-fate l = list_any (is_judged l.slot) (drop l.fate-index l.journal) ≡ list_any (is_judged l.slot) l.journal
