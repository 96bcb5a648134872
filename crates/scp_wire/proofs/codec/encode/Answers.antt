use Rattle.scp_wire.specs.Message.{message_value}
use Rattle.scp_wire.proofs.Limits.{spells_within, over_breaks, breaks_over, over_is}
use Rattle.scp_wire.proofs.codec.encode.Goals as goal

pub returns-clause-spells : goal.returns-clause-spells
returns-clause-spells c =
    spells_within (λ bytes. bytes.items) (message_value c.args.message.now) c.encode_within.result c.encode_within.ensures.spells c.encode_within.ensures.within

pub returns-clause-too_long : goal.returns-clause-too_long
returns-clause-too_long c =
    (λ refused. over_breaks (message_value c.args.message.now) (c.encode_within.ensures.too_long.0 refused), λ breaks. c.encode_within.ensures.too_long.1 (breaks_over (message_value c.args.message.now) breaks))

pub returns-clause-limits : goal.returns-clause-limits
returns-clause-limits c =
    let over = over_is c.args.message.now c.see_ranges.ensures in
    (λ refused. over.0 (c.encode_within.ensures.too_long.0 refused), λ breaks. c.encode_within.ensures.too_long.1 (over.1 breaks))
