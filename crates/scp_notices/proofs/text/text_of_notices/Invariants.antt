use Rattle.std.proofs.Common.{◌≡◌, ◌++◌, drop, string_bytes, flat_map}
use Rattle.scp_notices.specs.Texts.{notice_text}
use Rattle.scp_notices.proofs.text.text_of_notices.Given as goal

-- with what is left it is all
abbrev pub invariant-loop-notice : goal.invariant-loop-notice
invariant-loop-notice l = string_bytes l.text ++ flat_map notice_text (drop l.notice-index l.notices) ≡ flat_map notice_text l.notices
