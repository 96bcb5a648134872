use Rattle.std.proofs.Common.{◌≡◌, ◌++◌, drop, string_bytes}
use Rattle.std.specs.List.{flat_map}
use Rattle.scp_quorum_files.specs.Report.{organisation_line}
use Rattle.scp_quorum_files.proofs.report.write_organisations.Given as goal

-- with what is left it is all
abbrev pub invariant-loop-organisation : goal.invariant-loop-organisation
invariant-loop-organisation l = string_bytes l.out ++ flat_map (organisation_line l.all) (drop l.organisation-index l.organisations) ≡ string_bytes l.initial.out ++ flat_map (organisation_line l.all) l.organisations
