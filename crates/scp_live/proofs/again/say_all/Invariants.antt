use Rattle.std.specs.Prelude.{take, string_bytes}
use Rattle.scp_live.specs.Again.{SaysAgain}
use Rattle.scp_live.proofs.again.say_all.Given as goal

-- what the messages so far say
abbrev pub invariant-loop-message : goal.invariant-loop-message
invariant-loop-message l = SaysAgain l.name (take l.message-index l.messages) (string_bytes l.fn.text) (string_bytes l.text)
