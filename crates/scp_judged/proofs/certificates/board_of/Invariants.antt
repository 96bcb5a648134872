use Rattle.std.proofs.Common.{map, take}
use Rattle.scp_ledger.specs.scp_vote.specs.Seen.{seen}
use Rattle.scp_ledger.specs.scp_vote.specs.declared.claim.StatementKind.TheVariants.{Balloting}
use Rattle.scp_judged.specs.Verdicts.{heard_of}
use Rattle.scp_judged.specs.inside.Boards.{IsBoardOf}
use Rattle.scp_judged.proofs.certificates.board_of.Given as goal

abbrev pub invariant-loop-said : goal.invariant-loop-said
invariant-loop-said l = IsBoardOf l.fn.node l.fn.local.value (map heard_of (take l.said-index l.counting)) (seen Balloting l.board)
