use Rattle.std.proofs.Common.{string_bytes, arith}
use Rattle.scp_live.proofs.Adding.{says_none, says_more, says_all}
use Rattle.scp_live.proofs.again.say_all.Goals as goal

pub loop-message-init : goal.loop-message-init
loop-message-init c = says_none c.args.name.now (string_bytes c.args.text.now)

pub loop-message-preserved : goal.loop-message-preserved
loop-message-preserved c =
    says_more c.args.name.now (string_bytes c.args.text.now) (string_bytes c.loop-message.text) (string_bytes c.say.new.text) c.args.messages.now c.loop-message.message-index c.message-item.result (omega arith) c.message-item.is c.loop-message.invariant
    c.in_ok-say.ensures.said

pub returns-clause-said : goal.returns-clause-said
returns-clause-said c = says_all c.args.name.now (string_bytes c.args.text.now) (string_bytes c.loop-message.text) c.args.messages.now c.loop-message.message-index (omega arith) c.loop-message.invariant
