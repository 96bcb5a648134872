use Rattle.std.proofs.Common.{◌≡◌, ◌++◌, map, drop}
use Rattle.serde_json.specs.View.{view}
use Rattle.scp_line.specs.scp_report.specs.Report.{view_of}
use Rattle.scp_account.specs.Account.{account_json}
use Rattle.scp_account.proofs.document.accounts.Given as goal

-- with what is left it is all
abbrev pub invariant-loop-report : goal.invariant-loop-report
invariant-loop-report l = map view l.values.items ++ map (account_json l.mode l.kept) (map view_of (drop l.report-index l.reports)) ≡ map (account_json l.mode l.kept) (map view_of l.reports)
