use Rattle.std.proofs.Common.{◌≡◌, map, take}
use Rattle.std.specs.Option.{option_map}
use Rattle.scp_judged.specs.Verdicts.{heard_of, heard_by}
use Rattle.scp_judged.proofs.certificates.last_ballot.Given as goal

abbrev pub invariant-loop-said : goal.invariant-loop-said
invariant-loop-said l = option_map (λ said. heard_of said.now) l.last ≡ heard_by (map heard_of (take l.said-index l.counting)) l.node
