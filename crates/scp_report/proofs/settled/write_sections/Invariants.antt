use Rattle.std.proofs.Common.{◌≡◌, ◌++◌, string_bytes, flat_map, map}
use Rattle.scp_report.specs.Settled.{section_of}
use Rattle.scp_report.proofs.settled.write_sections.Given as goal

abbrev pub invariant-loop-conn : goal.invariant-loop-conn
invariant-loop-conn l = string_bytes l.text ≡ string_bytes l.initial.text ++ flat_map (section_of l.journal l.parked) (map (λ c. c.now) l.yielded)
