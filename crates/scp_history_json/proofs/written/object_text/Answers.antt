use Rattle.std.proofs.Common.{string_bytes}
use Rattle.serde_json.specs.View.{view}
use Rattle.scp_history_json.proofs.Floats.{text_is}
use Rattle.scp_history_json.proofs.written.object_text.Goals as goal

pub returns : goal.returns
returns c = text_is c.args.by_number c.args.line.now (view c.in_ok-object.object) (string_bytes c.in_ok-text.text) c.in_ok-object.ensures c.in_ok-text.ensures.text
