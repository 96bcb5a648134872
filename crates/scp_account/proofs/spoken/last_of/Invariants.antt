use Rattle.std.proofs.Common.{◌≡◌, map, take}
use Rattle.std.specs.Prelude.{filter, option_map}
use Rattle.scp_line.specs.scp_ledger.specs.Journal.{fresh_heard}
use Rattle.scp_account.specs.Spoken.{last_of}
use Rattle.scp_account.specs.inside.Spoken.{is_its}
use Rattle.scp_account.proofs.spoken.last_of.Given as goal

-- the last of those so far
abbrev pub invariant-loop-entry : goal.invariant-loop-entry
invariant-loop-entry l = option_map (λ fate. fate.now) l.last ≡ last_of (filter (λ fate. is_its l.node (fresh_heard fate)) (map (λ fate. fate.now) (take l.entry-index l.entries)))
