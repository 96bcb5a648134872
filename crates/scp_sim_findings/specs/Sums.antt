-- Sums over many runs, and their lines (this project's profile).
use Rattle.std.specs.Prelude.{ℕ, ◌+◌, ◌-◌, ◌^◌, List, [], ◌++◌, Option, Some, None, codes, min}
use Rattle.std.specs.Fmt.{decimal}
use Rattle.scp_sim_findings.specs.declared.outcome.Finding.{Finding}
use Rattle.scp_sim_findings.specs.declared.outcome.Finding.TheVariants.{Split, Stuck, Cut}
use Rattle.scp_sim_findings.specs.declared.running.Told.{Told}
use Rattle.scp_sim_findings.specs.declared.table.Table.{Table}

-- The sum of two numbers, at most 2^64 - 1.
abbrev pub plus : ℕ → ℕ → ℕ
plus a b = min (a + b) (2 ^ 64 - 1)

-- The sums with one more run of this finding, or of none.
abbrev pub with_finding : Option Finding → Table → Table
with_finding None table = record table { whole = plus table.whole 1 }
with_finding (Some Split) table = record table { split = plus table.split 1 }
with_finding (Some Stuck) table = record table { stuck = plus table.stuck 1 }
with_finding (Some Cut) table = record table { cut = plus table.cut 1 }

-- The sums with the counts of one more run.
abbrev pub with_counts : Table → Told → Table
with_counts table told = record table {
  runs = plus table.runs 1;
  closed = plus table.closed told.closed;
  time = plus table.time told.time;
  sent = plus table.sent told.counts.sent;
  lost = plus table.lost told.counts.lost;
  rounds = plus table.rounds told.counts.rounds;
  ballots = plus table.ballots told.counts.ballots;
  asked = plus table.asked told.counts.asked;
}

-- The sums with one more run.
abbrev pub with_run : Table → Told → Table
with_run table told = with_counts (with_finding told.finding table) told

-- The sums over no runs.
abbrev pub no_runs : Table
no_runs = record { runs = 0; whole = 0; split = 0; stuck = 0; cut = 0; closed = 0; time = 0; sent = 0; lost = 0; rounds = 0; ballots = 0; asked = 0 }

-- The word for a finding.
abbrev pub word_of : Finding → List ℕ
word_of Split = codes "split"
word_of Stuck = codes "stuck"
word_of Cut = codes "cut"

-- The line of a run with a finding: its seed, the finding, and how many slots were closed of how many. A run without a finding has none.
abbrev pub row_of : Option Finding → ℕ → ℕ → ℕ → List ℕ
row_of (Some finding) seed closed slots = codes "seed " ++ decimal seed ++ codes " " ++ word_of finding ++ codes " closed " ++ decimal closed ++ codes " of " ++ decimal slots ++ codes "\n"
row_of None seed closed slots = []

-- The line of how many runs have no finding, and how many have each finding.
abbrev pub findings_line : Table → List ℕ
findings_line t = codes "whole " ++ decimal t.whole ++ codes " split " ++ decimal t.split ++ codes " stuck " ++ decimal t.stuck ++ codes " cut " ++ decimal t.cut ++ codes "\n"

-- The lines of the sums.
abbrev pub table_text : Table → List ℕ
table_text t =
    codes "runs " ++ decimal t.runs ++ codes "\n"
    ++ findings_line t
    ++ (codes "slots " ++ decimal t.closed ++ codes " in " ++ decimal t.time ++ codes " ms\n")
    ++ (codes "messages " ++ decimal t.sent ++ codes " lost " ++ decimal t.lost ++ codes "\n")
    ++ (codes "timers rounds " ++ decimal t.rounds ++ codes " ballots " ++ decimal t.ballots ++ codes "\n")
    ++ (codes "asked " ++ decimal t.asked ++ codes "\n")
