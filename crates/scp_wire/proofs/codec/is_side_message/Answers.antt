use Rattle.std.proofs.Common.{sym, ◌∙◌}
use Rattle.scp_wire.proofs.Sides.{other_word, side_where_spelt, longer_is_none}
use Rattle.scp_wire.proofs.codec.is_side_message.Goals as goal

pub returns-then-bytes-gt-MESSAGE_LIMIT : goal.returns-then-bytes-gt-MESSAGE_LIMIT
returns-then-bytes-gt-MESSAGE_LIMIT c = longer_is_none c.args.bytes.now c.if-bytes-gt-MESSAGE_LIMIT.true

pub returns-then-not-is_of_side_kind : goal.returns-then-not-is_of_side_kind
returns-then-not-is_of_side_kind c = other_word c.args.bytes.now c.if-bytes-gt-MESSAGE_LIMIT.false (sym c.is_of_side_kind.ensures ∙ c.if-not-is_of_side_kind.true)

pub returns : goal.returns
returns c =
    c.is_ok.ensures.value ∙ side_where_spelt c.args.bytes.now c.check.result c.if-bytes-gt-MESSAGE_LIMIT.false (sym c.is_of_side_kind.ensures ∙ c.if-not-is_of_side_kind.false) c.check.ensures.exact
