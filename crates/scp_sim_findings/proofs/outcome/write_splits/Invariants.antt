use Rattle.std.proofs.Common.{◌≡◌, ◌++◌, drop, filter, string_bytes}
use Rattle.scp_notices.specs.Texts.{notices_text}
use Rattle.scp_sim_findings.specs.Outcome.{is_split}
use Rattle.scp_sim_findings.proofs.outcome.write_splits.Given as goal

-- with what is left it is all
abbrev pub invariant-loop-notice : goal.invariant-loop-notice
invariant-loop-notice l =
    string_bytes l.text ++ notices_text (filter (is_split l.marks) (drop l.notice-index l.notices)) ≡ string_bytes l.fn.text ++ notices_text (filter (is_split l.marks) l.notices)
